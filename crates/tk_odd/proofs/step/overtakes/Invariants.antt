use Rattle.std.proofs.Common.{◌≡◌, false}
use Rattle.std.specs.Prelude.{take}
use Rattle.std.specs.List.{list_any}
use Rattle.std.specs.Prelude.{◌&&◌, nat_le, not}
use Rattle.tk_odd.specs.Steps.{waited_for}
use Rattle.tk_odd.proofs.step.overtakes.Given as goal

-- none so far
abbrev pub invariant-loop-one : goal.invariant-loop-one
invariant-loop-one l = list_any (λ x. nat_le 1 x.gain.polls && not (waited_for l.first 0 x.task)) (take l.one-index l.moved) ≡ false
