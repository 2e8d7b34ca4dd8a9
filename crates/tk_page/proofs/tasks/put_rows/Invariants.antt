use Rattle.std.proofs.Common.{take}
use Rattle.std.specs.Prelude.{flat_map}
use Rattle.tk_paper.specs.Pieces.{Writes}
use Rattle.tk_page.specs.Courses.{courses_of}
use Rattle.tk_page.specs.Rows.{row_at}
use Rattle.tk_page.proofs.tasks.put_rows.Given as goal

-- the rows so far
abbrev pub invariant-loop-rank : goal.invariant-loop-rank
invariant-loop-rank l = Writes l.initial.paper l.paper (flat_map (row_at l.scale l.signs (courses_of l.history) l.tables) (take l.rank-index l.ranks))
