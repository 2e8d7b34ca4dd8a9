-- Inner: the rule of the cell. There is one legal history whose row the words are, and each token knows a part of it.
-- No public clause cites this file.
use Rattle.std.specs.Prelude.{◌≡◌, ℕ, ◌+◌, ◌≤◌, ◌⊎◌, List, [], ◌∷◌, Option, Some, None}
use mathlib.Core.Option.{some}
use mathlib.Core.List.{IsPrefix}
use lib.ListN.{get_elem?}
use Rattle.tk_core.specs.declared.history.Entry.{Entry}
use Rattle.tk_core.specs.Lists.{total}
use Rattle.tk_core.specs.Meaning.{Meaning}
use Rattle.tk_core.specs.History.{calls_of}
use Rattle.tk_core.specs.Legal.{own, maker, IsLegal}
use Rattle.tk_cell.specs.declared.view.View.{View}
use Rattle.tk_cell.specs.declared.part.Part.{Part}
use Rattle.tk_cell.specs.declared.part.Part.TheVariants.{Unopened, One, Two, Told, Hearing, Spent}
use Rattle.tk_cell.specs.Views.{times, Holds, after_split, split_off, as_caller, unheld}

-- the words before there is an opening row
abbrev pub zeros : List ℕ
zeros = 0 ∷ 0 ∷ 0 ∷ 0 ∷ 0 ∷ 0 ∷ 0 ∷ 0 ∷ 0 ∷ 0 ∷ 0 ∷ 0 ∷ 0 ∷ 0 ∷ 0 ∷ 0 ∷ []

module _ {O C R : Type 0} where
  -- the view of who knows nothing
  abbrev pub nothing : View O C R
  nothing = record { caller = 0; seen = []; held = []; opening = None }

  -- the view of a token
  abbrev pub view_of : Part O C R → View O C R
  view_of Unopened = nothing
  view_of (One v) = v
  view_of (Two v w) = v
  view_of (Told v) = v
  view_of (Hearing v w) = v
  view_of Spent = nothing

  -- the view of the token that it took in
  abbrev pub other_of : Part O C R → View O C R
  other_of Unopened = nothing
  other_of (One v) = nothing
  other_of (Two v w) = w
  other_of (Told v) = nothing
  other_of (Hearing v w) = w
  other_of Spent = nothing

  -- how often a part holds a number
  abbrev pub holds : ℕ → Part O C R → ℕ
  holds n Unopened = 0
  holds n (One v) = times n v.held
  holds n (Two v w) = times n v.held + times n w.held
  holds n (Told v) = 0
  holds n (Hearing v w) = times n v.held
  holds n Spent = 0

  -- the part is that of a token between two calls
  abbrev pub IsOne : Part O C R → Type 0
  IsOne p = p ≡ One (view_of p)

  -- the part is what a token told
  abbrev pub IsTold : Part O C R → Type 0
  IsTold p = p ≡ Told (view_of p)

  -- the part is two tokens that meet
  abbrev pub IsTwo : Part O C R → Type 0
  IsTwo p = p ≡ Two (view_of p) (other_of p)

  -- what a split leaves, of the number that is picked
  abbrev pub left_of : Option ℕ → Part O C R → Part O C R
  left_of None p = p
  left_of (Some n) p = One (after_split n (view_of p))

  -- what a split gives, of the number that is picked
  abbrev pub right_of : Option ℕ → Part O C R → Part O C R
  right_of None p = Spent
  right_of (Some n) p = One (split_off n (view_of p))

  -- a token that took in another one
  abbrev pub taken_in : Part O C R → Part O C R → Part O C R
  taken_in p q = Two (view_of p) (view_of q)

  -- what a token tells: what it has seen, and none of its numbers
  abbrev pub told_of : Part O C R → Part O C R
  told_of p = Told (unheld (view_of p))

  -- a token that hears what was told
  abbrev pub hearing : Part O C R → Part O C R → Part O C R
  hearing p q = Hearing (view_of p) (view_of q)

  -- the token goes on as the caller that is picked
  abbrev pub gone_on : Option ℕ → Part O C R → Part O C R
  gone_on None p = p
  gone_on (Some n) p = One (as_caller n (view_of p))

  -- the first and the second of two that met
  abbrev pub first_of : Part O C R → Part O C R
  first_of p = One (view_of p)

  abbrev pub second_of : Part O C R → Part O C R
  second_of p = One (other_of p)

-- a token between two calls: it makes the calls of the caller that it says
pub record IsSettled {O C R : Type 0} (caller : ℕ) (p : Part O C R) : Type 0 where
  pub one : IsOne p
  pub by : caller ≡ (view_of p).caller

module _ {O C R : Type 0} (m : Meaning O C R) where
  -- the number is the owner's, or was answered
  abbrev pub IsMade : ℕ → List (Entry C R) → Type 0
  IsMade n h = (n ≡ 0) ⊎ ((made : C) × (maker m n h ≡ Some made))

  -- what was seen begins the history, and each number that is held was made in what was seen and has all its entries there
  pub record Fits (opening : O) (h : List (Entry C R)) (v : View O C R) : Type 0 where
    pub opened : v.opening ≡ Some opening
    pub begins : IsPrefix v.seen h
    pub made : (n : ℕ) → Holds v n → IsMade n v.seen
    pub whole : (n : ℕ) → Holds v n → own n h ≡ own n v.seen
    pub itself : Holds v v.caller

  -- what was seen begins the history
  pub record Knows (opening : O) (h : List (Entry C R)) (v : View O C R) : Type 0 where
    pub opened : v.opening ≡ Some opening
    pub begins : IsPrefix v.seen h

  -- each view of a part fits the history
  abbrev pub IsPart : O → List (Entry C R) → Part O C R → Type 0
  IsPart opening h Unopened = ⊥
  IsPart opening h (One v) = Fits opening h v
  IsPart opening h (Two v w) = Fits opening h v × Fits opening h w
  IsPart opening h (Told v) = Knows opening h v
  IsPart opening h (Hearing v w) = Fits opening h v × Knows opening h w
  IsPart opening h Spent = Unit {0}

  -- there is one legal history, whose row the words are, each part fits it, and no number is held twice
  pub record Runs (words : List ℕ) (parts : List (Part O C R)) : Type 0 where
    pub opening : O
    pub history : List (Entry C R)
    pub opens : m.IsOpening opening
    pub legal : IsLegal m opening history
    pub words_are : m.words (m.row_after opening (calls_of history)) ≡ words
    pub fitting : (i : ℕ) (p : Part O C R) → get_elem? parts i ≡ some p → IsPart opening history p
    pub once : (n : ℕ) → total (holds n) parts ≤ 1

  -- the rule: nothing is opened yet, or the above
  abbrev pub Kept : List ℕ → List (Part O C R) → Type 0
  Kept words parts = ((words ≡ zeros) × (parts ≡ Unopened ∷ [])) ⊎ Runs words parts
