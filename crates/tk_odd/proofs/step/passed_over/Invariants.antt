use Rattle.std.proofs.Common.{◌≡◌}
use Rattle.std.specs.Prelude.{take, map, filter}
use Rattle.tk_odd.specs.Steps.{is_passed}
use Rattle.tk_odd.proofs.step.passed_over.Given as goal

-- those so far
abbrev pub invariant-loop-one : goal.invariant-loop-one
invariant-loop-one l = l.list.items ≡ map (λ x. x.task) (filter (is_passed l.wait l.first l.moved) (take l.one-index l.moved))
