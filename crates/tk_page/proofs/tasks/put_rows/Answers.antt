use Rattle.std.proofs.Common.{arith}
use Rattle.tk_page.specs.Courses.{courses_of}
use Rattle.tk_page.specs.Rows.{row_at}
use Rattle.tk_page.specs.declared.ranks.Rank.{Rank}
use Rattle.std.proofs.Common.{false}
use Rattle.tk_paper.proofs.PutLemmas.{nothing}
use Rattle.tk_page.proofs.LoopLemmas.{next_of}
use Rattle.tk_page.proofs.tasks.put_rows.Goals as goal

pub loop-rank-init : goal.loop-rank-init
loop-rank-init c = nothing c.args.paper.now

pub loop-rank-preserved : goal.loop-rank-preserved
loop-rank-preserved c =
    let zero : Rank = record { calm = false; below = 0; place = 0 } in
    next_of (row_at c.args.scale c.args.signs.now (courses_of c.args.history.now) c.args.tables.now) c.args.ranks.now c.loop-rank.rank-index zero (omega arith) c.loop-rank.invariant
    (c.in_ok-put_row.ensures)
