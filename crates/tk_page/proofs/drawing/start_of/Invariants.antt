use Rattle.std.proofs.Common.{◌≡◌, take}
use Rattle.tk_page.specs.Heads as spec
use Rattle.tk_page.proofs.drawing.start_of.Given as goal

-- the earliest so far
abbrev pub invariant-loop-place : goal.invariant-loop-place
invariant-loop-place l = l.start ≡ spec.start_of l.first (take l.place l.tables.tasks)
