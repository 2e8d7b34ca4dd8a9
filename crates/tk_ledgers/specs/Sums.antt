-- What a reading shows, by the lists of the callers that a token holds.
use Rattle.std.specs.Prelude.{◌≡◌, ℕ, Bool, List, length, filter, Some}
use Rattle.tk_core.specs.declared.history.Entry.{Entry}
use Rattle.tk_core.specs.declared.reply.Reply.{Reply}
use Rattle.tk_core.specs.Lists.{capped, total}
use Rattle.tk_core.specs.History.{accepted}
use Rattle.tk_core.specs.Fold.{is_accepted}
use Rattle.tk_core.specs.Meaning.{Meaning}
use Rattle.tk_core.specs.Legal.{own, maker}
use Rattle.tk_cell.specs.declared.view.View.{View}
use Rattle.tk_cell.specs.Views.{Holds}

-- a token holds the owner, and each caller that was made in what it has seen
abbrev pub HoldsAll : {O C R : Type 0} → Meaning O C R → View O C R → Type 0
HoldsAll {C = C} m v = Holds v 0 × ((n : ℕ) (made : C) → maker m n v.seen ≡ Some made → Holds v n)

module _ {Row C : Type 0} where
  -- how many accepted calls of a list pass a test
  abbrev pub tally : (C → Bool) → List (Entry C (Reply Row)) → ℕ
  tally test h = length (filter test (accepted is_accepted h))

  -- the same over the lists of all callers that a token holds, added up, and at most 2^64 - 1
  abbrev pub sum_held : (C → Bool) → View Row C (Reply Row) → ℕ
  sum_held test v = capped (total (λ n. tally test (own n v.seen)) v.held)
