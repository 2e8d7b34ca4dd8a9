use Rattle.std.proofs.Common.{take}
use Rattle.std.specs.Prelude.{flat_map}
use Rattle.tk_paper.specs.Pieces.{Writes}
use Rattle.tk_page.specs.Changed.{row_of_rank}
use Rattle.tk_page.proofs.changed_places.put_change_rows.Given as goal

-- the rows so far
abbrev pub invariant-loop-rank : goal.invariant-loop-rank
invariant-loop-rank l = Writes l.initial.paper l.paper (flat_map (row_of_rank l.margin l.spans l.places) (take l.rank-index l.ranks))
