use Rattle.std.proofs.Common.{◌≡◌, false}
use Rattle.std.specs.List.{list_any}
use Rattle.std.specs.Prelude.{take, nat_le}
use Rattle.tk_odd.proofs.step.is_free.Given as goal

-- none so far
abbrev pub invariant-loop-one : goal.invariant-loop-one
invariant-loop-one l = list_any (λ x. nat_le l.long x.gain.longest) (take l.one-index l.moved) ≡ false
