use Rattle.std.proofs.Common.{◌≡◌, ◌≤◌, ◌*◌}
use Rattle.std.specs.Prelude.{sum_by, take}
use Rattle.tk_odd.specs.Charging as charging
use Rattle.tk_odd.proofs.sharing.all_charged.Given as goal

-- the sum so far
abbrev pub invariant-loop-one : goal.invariant-loop-one
invariant-loop-one l = record {
  sum : l.sum ≡ sum_by (charging.charge_of l.long l.time l.now l.moved) (take l.one-index l.moved);
  most : l.sum ≤ l.one-index * 39614081257132168796771975168;
}
