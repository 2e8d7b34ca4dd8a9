use Rattle.std.proofs.Common.{take}
use Rattle.std.specs.Prelude.{flat_map}
use Rattle.tk_paper.specs.Pieces.{Writes}
use Rattle.tk_page.specs.Items as spec
use Rattle.tk_page.proofs.resources.put_some_resources.Given as goal

-- the resources so far
abbrev pub invariant-loop-place : goal.invariant-loop-place
invariant-loop-place l = Writes l.initial.paper l.paper (flat_map (spec.resource l.scale l.tables) (take l.place l.tables.resources))
