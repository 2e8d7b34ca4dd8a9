use Rattle.std.proofs.Common.{take}
use Rattle.std.specs.Prelude.{flat_map}
use Rattle.tk_paper.specs.Pieces.{Writes}
use Rattle.tk_page.specs.Picture.{held_words}
use Rattle.tk_page.proofs.picture.put_all_held_words.Given as goal

-- the places so far
abbrev pub invariant-loop-one : goal.invariant-loop-one
invariant-loop-one l = Writes l.initial.paper l.paper (flat_map (held_words l.scale) (take l.one-index l.blamed))
