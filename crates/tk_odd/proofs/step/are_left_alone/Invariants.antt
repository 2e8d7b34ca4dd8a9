use Rattle.std.proofs.Common.{◌≡◌, false}
use Rattle.std.specs.List.{list_any}
use Rattle.std.specs.Prelude.{take}
use Rattle.tk_odd.specs.Steps.{is_left_alone}
use Rattle.tk_odd.proofs.step.are_left_alone.Given as goal

-- none so far
abbrev pub invariant-loop-one : goal.invariant-loop-one
invariant-loop-one l = list_any (is_left_alone l.long l.wait l.first l.moved) (take l.one-index l.moved) ≡ false
