use Rattle.std.proofs.Common.{arith, false}
use Rattle.tk_page.specs.Changed.{row_of_rank}
use Rattle.tk_page.specs.declared.ranks.Rank.{Rank}
use Rattle.tk_paper.proofs.PutLemmas.{nothing}
use Rattle.tk_page.proofs.LoopLemmas.{next_of}
use Rattle.tk_page.proofs.changed_places.put_change_rows.Goals as goal

pub loop-rank-init : goal.loop-rank-init
loop-rank-init c = nothing c.args.paper.now

pub loop-rank-preserved : goal.loop-rank-preserved
loop-rank-preserved c =
    let zero : Rank = record { calm = false; below = 0; place = 0 } in
    next_of (row_of_rank c.args.margin c.args.spans c.args.places.now) c.args.ranks.now c.loop-rank.rank-index zero (omega arith) c.loop-rank.invariant
    (c.in_ok-put_row_at.ensures)
