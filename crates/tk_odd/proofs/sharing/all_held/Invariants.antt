use Rattle.std.proofs.Common.{◌≡◌, ◌≤◌, ◌*◌}
use Rattle.std.specs.Prelude.{sum_by, take}
use Rattle.tk_odd.specs.Sharing as spec
use Rattle.tk_odd.proofs.sharing.all_held.Given as goal

-- the sum so far
abbrev pub invariant-loop-one : goal.invariant-loop-one
invariant-loop-one l = record {
  sum : l.sum ≡ sum_by (spec.held_by l.moved) (take l.one-index l.moved);
  most : l.sum ≤ l.one-index * 39614081257132168796771975168;
}
