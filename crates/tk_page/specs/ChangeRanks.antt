-- In which order the places of two streams stand.
use Rattle.std.specs.Prelude.{ℕ, ◌+◌, ◌-◌, ◌^◌, min, max, true, List}
use Rattle.std.specs.List.Sorted.{IsPermutation}
use Rattle.tk_core.specs.Lists.{capped}
use Rattle.tk_compare.specs.Changes.{rate}
use Rattle.tk_compare.specs.declared.change.Spans.{Spans}
use Rattle.tk_compare.specs.declared.spent.Compared.{Compared}
use Rattle.tk_page.specs.declared.ranks.Rank.{Rank}
use Rattle.tk_page.specs.Ranks.{AreInOrder, ranks_from}

-- how far a time of a second is from what it was
abbrev pub apart : Spans → ℕ → ℕ → ℕ
apart spans before after =
    max (rate spans.before before) (rate spans.after after) - min (rate spans.before before) (rate spans.after after)

-- how much of a second changed at a place: for how long its tasks ran, for how long they waited, and for how long others waited for them, together
abbrev pub changed_by : Spans → Compared → ℕ
changed_by spans x =
    capped (apart spans x.before.ran x.after.ran + apart spans x.before.waited x.after.waited + apart spans x.before.held x.after.held)

-- the rank of a place: those at which more changed come first, then those that came before
abbrev pub change_rank : Spans → ℕ → Compared → Rank
change_rank spans place x = record { calm = true; below = 2 ^ 64 - 1 - changed_by spans x; place = place }

-- the ranks of places, in their order
abbrev pub change_ranks_of : Spans → List (List ℕ × Compared) → List Rank
change_ranks_of spans places = ranks_from (λ place x. change_rank spans place x.1) 0 places

-- these ranks are those of all places, in order
pub record AreChangeRanks (spans : Spans) (places : List (List ℕ × Compared)) (ranks : List Rank) : Type 0 where
  pub all : IsPermutation (change_ranks_of spans places) ranks
  pub sorted : AreInOrder ranks
