-- Which tasks and places a page shows, and in which order.
use Rattle.std.specs.Prelude.{ℕ, ◌+◌, ◌-◌, ◌^◌, not, true, List, [], ◌∷◌}
use Rattle.std.specs.List.Sorted.{IsPermutation, IsSorted}
use Rattle.std.specs.Ordering.{bool_cmp, nat_cmp, ordering_then}
use Rattle.std.specs.declared.cmp.Ordering.{Ordering}
use Rattle.tk_core.specs.Lists.{capped}
use Rattle.tk_sites.specs.declared.sums.Sums.{Sums}
use Rattle.tk_stream.specs.declared.tables.task.Task.{Task}
use Rattle.tk_page.specs.declared.figures.Scale.{Scale}
use Rattle.tk_page.specs.declared.oddities.Signs.{Signs}
use Rattle.tk_page.specs.declared.ranks.Rank.{Rank}
use Rattle.tk_page.specs.Odd.{is_odd_at_all}
use Rattle.tk_core.specs.Lasting.{busy_until, sched_until}

-- the rank of a task at a place: odd ones come first, then those that ran and waited longer, then those that stand before
abbrev pub rank_of : Scale → Signs → ℕ → Task → Rank
rank_of scale signs place t = record {
  calm = not (is_odd_at_all signs t);
  below = 2 ^ 64 - 1 - capped (busy_until t.row scale.now + sched_until t.row scale.now);
  place = place;
}

-- the ranks of items, the first of which stands at a place
abbrev pub ranks_from : {A : Type 0} → (ℕ → A → Rank) → ℕ → List A → List Rank
ranks_from rank place [] = []
ranks_from rank place (x ∷ xs) = rank place x ∷ ranks_from rank (place + 1) xs

-- the ranks of the tasks of tables, in table order
abbrev pub ranks_of : Scale → Signs → List Task → List Rank
ranks_of scale signs tasks = ranks_from (rank_of scale signs) 0 tasks

-- the rank of a place: those whose tasks ran and waited longer come first, then those that came before
abbrev pub site_rank : ℕ → Sums → Rank
site_rank place sums = record { calm = true; below = 2 ^ 64 - 1 - capped (sums.busy + sums.sched); place = place }

-- the ranks of places, in the order in which a first task of each came
abbrev pub site_ranks_of : List (List ℕ × Sums) → List Rank
site_ranks_of sites = ranks_from (λ place x. site_rank place x.1) 0 sites

-- by whether something is odd, then by how long it ran and waited, then by place
abbrev pub rank_cmp : Rank → Rank → Ordering
rank_cmp a b = ordering_then (bool_cmp a.calm b.calm) (ordering_then (nat_cmp a.below b.below) (nat_cmp a.place b.place))

-- none comes before one of a lesser rank
abbrev pub AreInOrder : List Rank → Type 0
AreInOrder ranks = IsSorted rank_cmp ranks

-- these ranks are those of all places, in order
pub record AreSiteRanks (sites : List (List ℕ × Sums)) (ranks : List Rank) : Type 0 where
  pub all : IsPermutation (site_ranks_of sites) ranks
  pub sorted : AreInOrder ranks
