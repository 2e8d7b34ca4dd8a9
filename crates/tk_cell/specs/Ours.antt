-- What a token knows of the callers that it holds: each of their entries, in order. And what it knows where it holds all callers: the whole history.
use Rattle.std.specs.Prelude.{◌≡◌, ℕ, ◌⊎◌, ◌==◌, Bool, not, filter, List, [], ◌∷◌, ◌++◌, Some}
use Rattle.tk_core.specs.declared.history.Entry.{Entry}
use Rattle.tk_core.specs.Meaning.{Meaning}
use Rattle.tk_core.specs.History.{calls_of}
use Rattle.tk_core.specs.Legal.{maker, IsLegal}
use Rattle.tk_cell.specs.declared.view.View.{View}
use Rattle.tk_cell.specs.Views.{times, Holds}
use Rattle.tk_cell.specs.Calls.{entry, Calls, Joins, Hears, Meets}

-- a list is made of two others: each of its elements is the next one of the first or of the second
abbrev pub Interleaves : {A : Type 0} → List A → List A → List A → Type 0
Interleaves {A = A} xs ys [] = (xs ≡ []) × (ys ≡ [])
Interleaves {A = A} xs ys (z ∷ zs) = ((rest : List A) × (xs ≡ z ∷ rest) × Interleaves rest ys zs) ⊎ ((rest : List A) × (ys ≡ z ∷ rest) × Interleaves xs rest zs)

module _ {O C R : Type 0} where
  -- whether a token holds a number
  abbrev pub is_held : View O C R → ℕ → Bool
  is_held v n = not (times n v.held == 0)

  -- the entries of a list whose callers a token holds
  abbrev pub of_held : View O C R → List (Entry C R) → List (Entry C R)
  of_held v h = filter (λ e. is_held v e.caller) h

  -- the entries that a token has seen of the callers that it holds
  abbrev pub ours : View O C R → List (Entry C R)
  ours v = of_held v v.seen

module _ {O C R : Type 0} (m : Meaning O C R) where
  -- a token holds the owner, and each caller that was made in what it has seen
  abbrev pub HoldsAll : View O C R → Type 0
  HoldsAll v = Holds v 0 × ((n : ℕ) (made : C) → maker m n v.seen ≡ Some made → Holds v n)

  -- a token holds the owner, and each number that was answered to a caller that it holds
  abbrev pub HoldsItsOwn : View O C R → Type 0
  HoldsItsOwn v = Holds v 0 × ((before after : List (Entry C R)) (e : Entry C R) → before ++ e ∷ after ≡ ours v → (n : ℕ) → m.number e.reply ≡ Some n → Holds v n)

  -- a call adds its entry to those of the callers that the token holds, and nothing else
  abbrev pub CallsInOrder : Type 0
  CallsInOrder = (v w : View O C R) (call : C) (reply : R) → Calls m v call reply w → ours w ≡ ours v ++ entry v.caller call reply ∷ []

  -- what is heard adds nothing to them
  abbrev pub HearingAddsNothing : Type 0
  HearingAddsNothing = (v heard w : View O C R) → Hears m v heard w → ours w ≡ ours v

  -- nor does a meeting
  abbrev pub MeetingAddsNothing : Type 0
  MeetingAddsNothing = (v other w u : View O C R) → Meets m v other w u → (ours w ≡ ours v) × (ours u ≡ ours other)

  -- where two tokens become one, after what both had seen, the entries of the callers of both are those of the first and those of the second, interleaved
  abbrev pub JoinsInterleave : Type 0
  JoinsInterleave = (v other w : View O C R) → Joins m v other w → (shared a b : List (Entry C R)) → v.seen ≡ shared ++ a → other.seen ≡ shared ++ b
      → (rest : List (Entry C R)) × (w.seen ≡ shared ++ rest) × Interleaves (of_held v a) (of_held other b) (of_held w rest)

  -- where a token holds all callers that there are, the whole history is theirs
  abbrev pub AllAreOurs : Type 0
  AllAreOurs = (opening : O) (v : View O C R) → HoldsAll v → IsLegal m opening v.seen → ours v ≡ v.seen

  -- and that is so where it holds the owner and whom those made whom it holds
  abbrev pub ItsOwnAreAll : Type 0
  ItsOwnAreAll = (opening : O) (v : View O C R) → HoldsItsOwn v → IsLegal m opening v.seen → HoldsAll v × (ours v ≡ v.seen)

  -- a token that holds all callers is alone: a call adds its entry to what it has seen, and nothing else, and then it holds all callers again
  abbrev pub IsAlone : Type 0
  IsAlone = (v w : View O C R) (call : C) (reply : R) → HoldsAll v → Calls m v call reply w → (w.seen ≡ v.seen ++ entry v.caller call reply ∷ []) × HoldsAll w

  -- a call that one token makes beside another: they meet, the second one makes the call, and they meet again
  pub record CallsBeside (v q : View O C R) (call : C) (reply : R) (w u : View O C R) : Type 0 where
    pub v_met : View O C R
    pub q_met : View O C R
    pub q_called : View O C R
    pub before : Meets m v q v_met q_met
    pub entry : Calls m q_met call reply q_called
    pub again : Meets m v_met q_called w u

  -- each number that was answered to a caller that either token holds is held by either
  abbrev pub HoldTheirOwn : View O C R → View O C R → Type 0
  HoldTheirOwn v q = (Holds v 0 ⊎ Holds q 0)
      × ((h before after : List (Entry C R)) (e : Entry C R) → Interleaves (ours v) (ours q) h → before ++ e ∷ after ≡ h → (n : ℕ) → m.number e.reply ≡ Some n → Holds v n ⊎ Holds q n)

  -- where the two tokens hold all whom their own calls made, the call's reply is that after a history of their calls and of no others, each list in its order
  pub record IsAfterTheirs (v q : View O C R) (call : C) (reply : R) (w u : View O C R) : Type 0 where
    pub opening : O
    pub opened : v.opening ≡ Some opening
    pub opens : m.IsOpening opening
    pub history : List (Entry C R)
    pub theirs : Interleaves (ours v) (ours q) history
    pub answered : reply ≡ m.reply_after opening (calls_of history) call
    pub first_saw : w.seen ≡ history ++ entry q.caller call reply ∷ []
    pub second_saw : u.seen ≡ w.seen
    pub legal : IsLegal m opening w.seen
    pub first_stays : ours w ≡ ours v
    pub second_grows : ours u ≡ ours q ++ entry q.caller call reply ∷ []

  abbrev pub BesideIsWhole : Type 0
  BesideIsWhole = (v q w u : View O C R) (call : C) (reply : R) → CallsBeside v q call reply w u → HoldTheirOwn v q → IsAfterTheirs v q call reply w u
