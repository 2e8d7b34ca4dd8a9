use Rattle.std.proofs.Common.{◌≡◌, ℕ, List}
use Rattle.tk_client.specs.declared.change.LeftTask.{LeftTask}
use Rattle.tk_series.specs.Limited.{limited}
use Rattle.tk_series.proofs.FoldLemmas.{so_far}
use Rattle.tk_metrics.specs.Blame.{plus_tally}
use Rattle.tk_metrics.specs.Keys.{left_name}
use Rattle.tk_metrics.specs.declared.blame.Tally.{Tally}
use Rattle.tk_metrics.proofs.keys.add_left.Given as goal

-- those so far are added
abbrev pub invariant-loop-one : goal.invariant-loop-one
invariant-loop-one l = (room : ℕ) (before : List (List ℕ × Tally)) → l.initial.names ≡ limited room plus_tally before
    → l.names ≡ so_far room plus_tally (λ (x : LeftTask). left_name l.by x.task) before l.left l.one-index
