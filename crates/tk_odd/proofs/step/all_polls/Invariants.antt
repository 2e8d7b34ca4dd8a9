use Rattle.std.proofs.Common.{◌≡◌, ◌≤◌, ◌*◌}
use Rattle.std.specs.Prelude.{sum_by, take}
use Rattle.tk_odd.proofs.step.all_polls.Given as goal

-- the sum so far
abbrev pub invariant-loop-one : goal.invariant-loop-one
invariant-loop-one l = record {
  sum : l.sum ≡ sum_by (λ x. x.gain.polls) (take l.one-index l.moved);
  most : l.sum ≤ l.one-index * 18446744073709551615;
}
