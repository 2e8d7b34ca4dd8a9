-- What a sequential object is, to a proof, and the laws that each keeps.
use Rattle.std.specs.Prelude.{◌≡◌, ◌≢◌, ◌↔◌, ℕ, Bool, List, [], ◌∷◌, ◌++◌, length, Option, Some}

-- an object with rows `O`, calls `C` and replies `R`
pub record Meaning (O C R : Type 0) : Type 1 where
  -- the words of a row
  pub words : O → List ℕ
  -- which rows an object may begin with
  pub IsOpening : O → Type 0
  -- the row after these calls, from an opening row
  pub row_after : O → List C → O
  -- the reply to a further call
  pub reply_after : O → List C → C → R
  -- the number that a reply answers, if it answers one
  pub number : R → Option ℕ
  -- which calls the owner makes, who is caller 0
  pub owner_may : C → Bool
  -- which calls a caller makes whose number was answered to the first call
  pub made_may : C → C → Bool
  -- which calls are the last of their caller
  pub is_last : C → Bool

module _ {O C R : Type 0} (m : Meaning O C R) where
  -- words tell rows apart, where there are sixteen
  abbrev pub AreToldApart : Type 0
  AreToldApart = (a b : O) → length (m.words a) ≡ 16 → m.words a ≡ m.words b → a ≡ b

  -- no calls leave the opening row
  abbrev pub BeginsAtOpening : Type 0
  BeginsAtOpening = (opening : O) → m.IsOpening opening → m.row_after opening [] ≡ opening

  -- a number that is answered is not 0, and was answered by no earlier call
  abbrev pub NumbersAreNew : Type 0
  NumbersAreNew = (opening : O) (calls : List C) (call : C) (n : ℕ) → m.IsOpening opening → m.number (m.reply_after opening calls call) ≡ Some n
      → (n ≢ 0) × ((before after : List C) (earlier : C) → before ++ earlier ∷ after ≡ calls → m.number (m.reply_after opening before earlier) ≢ Some n)

  -- a step to the next row and its reply: from whatever calls the row comes, they are the row and the reply of one call more
  abbrev pub StepsTo : O → C → O → R → Type 0
  StepsTo row call next reply = (opening : O) (calls : List C) → m.IsOpening opening → row ≡ m.row_after opening calls
      → (next ≡ m.row_after opening (calls ++ call ∷ [])) × (reply ≡ m.reply_after opening calls call)

  -- what is read from words: a row exactly where these are its words
  abbrev pub IsRowOf : List ℕ → Option O → Type 0
  IsRowOf ws read = (row : O) → (read ≡ Some row) ↔ (m.words row ≡ ws)

  -- what is read from words that are known to be some row's: that row
  abbrev pub IsRowWith : List ℕ → O → Type 0
  IsRowWith ws read = (row : O) → m.words row ≡ ws → read ≡ row

  -- a call that reads alone: from whatever calls a row comes, it leaves that row
  abbrev pub ReadsOnly : C → Type 0
  ReadsOnly call = (opening : O) (calls : List C) → m.IsOpening opening → m.row_after opening (calls ++ call ∷ []) ≡ m.row_after opening calls
