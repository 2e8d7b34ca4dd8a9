use Rattle.std.proofs.Common.{◌≡◌, ◌≤◌, ◌*◌}
use Rattle.std.specs.Prelude.{take, sum_by, if◌then◌else◌}
use Rattle.tk_odd.specs.Steps.{is_passed}
use Rattle.tk_odd.proofs.step.passed_time.Given as goal

-- the sum so far
abbrev pub invariant-loop-one : goal.invariant-loop-one
invariant-loop-one l = record {
  sum : l.sum ≡ sum_by (λ x. if is_passed l.wait l.first l.moved x then x.gain.waited else 0) (take l.one-index l.moved);
  most : l.sum ≤ l.one-index * 18446744073709551615;
}
