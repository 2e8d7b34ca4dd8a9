use Rattle.std.proofs.Common.{take}
use Rattle.std.specs.Prelude.{flat_map}
use Rattle.tk_paper.specs.Pieces.{Writes}
use Rattle.tk_page.specs.Picture.{split_reading}
use Rattle.tk_page.proofs.picture.put_each_split_reading.Given as goal

-- the steps so far
abbrev pub invariant-loop-split : goal.invariant-loop-split
invariant-loop-split l = Writes l.initial.paper l.paper (flat_map (split_reading l.scale) (take l.split-index l.splits))
