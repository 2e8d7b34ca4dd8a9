use Rattle.std.proofs.Common.{◌≡◌, take}
use Rattle.tk_page.specs.Strips as spec
use Rattle.tk_page.proofs.peaks.most_part.Given as goal

-- the most so far
abbrev pub invariant-loop-step : goal.invariant-loop-step
invariant-loop-step l = l.most ≡ spec.most_part l.kind (take l.step-index l.steps)
