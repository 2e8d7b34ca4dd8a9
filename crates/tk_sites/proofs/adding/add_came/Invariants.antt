use Rattle.std.proofs.Common.{◌≡◌, ℕ, List, map}
use Rattle.tk_stream.specs.Tables.{task_id}
use Rattle.tk_stream.specs.declared.tables.task.Task.{Task}
use Rattle.tk_sites.specs.Adding.{AreThere}
use Rattle.tk_series.specs.Limited.{limited}
use Rattle.tk_odd.specs.Places.{place_of}
use Rattle.tk_sites.specs.Site.{room}
use Rattle.tk_series.proofs.FoldLemmas.{so_far}
use Rattle.tk_sites.proofs.adding.add_came.Given as goal

-- those so far are added
abbrev pub invariant-loop-id : goal.invariant-loop-id
invariant-loop-id g l = (before : List (List ℕ × g.row.V.Denot)) (tasks : List Task) → l.initial.sites ≡ limited room g.V.Added.plus before → l.ids ≡ map task_id tasks → AreThere l.tables tasks
    → l.sites ≡ so_far room g.V.Added.plus (λ t. (place_of t.info, l.came)) before tasks l.id-index
