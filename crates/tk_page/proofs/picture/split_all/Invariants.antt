use Rattle.std.proofs.Common.{◌≡◌, map, take}
use Rattle.tk_page.specs.Picture as spec
use Rattle.tk_page.proofs.picture.split_all.Given as goal

-- the steps so far
abbrev pub invariant-loop-step : goal.invariant-loop-step
invariant-loop-step l = l.splits.items ≡ map (spec.split_of l.first l.second) (take l.step-index l.steps)
