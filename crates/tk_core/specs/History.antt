-- Histories: who called what and was answered what, the oldest entry first.
use Rattle.std.specs.Prelude.{◌≡◌, ℕ, Bool, map, filter, List, [], ◌∷◌, ◌++◌, fold}
use Rattle.std.specs.List.{AllByRecursion}
use Rattle.tk_core.specs.declared.history.Entry.{Entry}
use Rattle.tk_core.specs.Lists.{each_with_before}

module _ {C R : Type 0} where
  -- the calls of a history
  abbrev pub calls_of : List (Entry C R) → List C
  calls_of h = map (λ e. e.call) h

  -- the calls that were accepted, that is, not refused
  unfoldable pub accepted : (R → Bool) → List (Entry C R) → List C
  accepted is_accepted h = map (λ e. e.call) (filter (λ e. is_accepted e.reply) h)

  -- each reply is the answer to the entries before it
  abbrev pub IsAnswered : (List (Entry C R) → C → R) → List (Entry C R) → Type 0
  IsAnswered answer h = AllByRecursion (λ p. p.1.reply ≡ answer p.0 p.1.call) (each_with_before h)

  -- a history with one more call, by this caller, and its answer
  abbrev pub with_call : (List (Entry C R) → C → R) → List (Entry C R) → ℕ → C → List (Entry C R)
  with_call answer h caller call = h ++ record { caller = caller; call = call; reply = answer h call } ∷ []

  -- the history in which the owner makes these calls, one after the other
  abbrev pub history_of : (List (Entry C R) → C → R) → List C → List (Entry C R)
  history_of answer calls = fold (λ h call. with_call answer h 0 call) [] calls
