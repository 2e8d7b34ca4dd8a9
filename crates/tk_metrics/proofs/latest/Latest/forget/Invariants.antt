use Rattle.std.proofs.Common.{◌≡◌, ℕ, map, false}
use Rattle.tk_client.specs.Changes.{left_id}
use Rattle.tk_stream.specs.Tables.{is_among, item_with}
use Rattle.tk_stream.specs.Times.{times_id}
use Rattle.tk_metrics.proofs.latest.Latest.forget.Given as goal

-- those of no others have left
abbrev pub invariant-loop-one : goal.invariant-loop-one
invariant-loop-one l = (other : ℕ) → is_among (map left_id l.left) other ≡ false → item_with times_id other l.self.times ≡ item_with times_id other l.initial.self.times
