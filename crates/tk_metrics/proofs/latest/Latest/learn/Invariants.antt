use Rattle.std.proofs.Common.{◌≡◌, ℕ, cond, take}
use Rattle.tk_stream.specs.Tables.{is_among, item_with}
use Rattle.tk_stream.specs.Times.{times_id}
use Rattle.tk_metrics.proofs.latest.Latest.learn.Given as goal

-- those so far are learned
abbrev pub invariant-loop-id : goal.invariant-loop-id
invariant-loop-id l = (other : ℕ) → item_with times_id other l.self.times
    ≡ cond (is_among (take l.id-index l.told) other) (item_with times_id other l.times) (item_with times_id other l.initial.self.times)
