use Rattle.std.proofs.Common.{get_or, arith, subst}
use Rattle.tk_paper.specs.Pieces.{Writes}
use Rattle.tk_odd.specs.declared.finding.OddKind.TheVariants.{HoldsUp}
use Rattle.tk_page.specs.Badges.{badge, row_badge}
use Rattle.tk_page.specs.Odd.{row_kinds}
use Rattle.tk_paper.proofs.PutLemmas.{nothing}
use Rattle.tk_page.proofs.LoopLemmas.{next_of}
use Rattle.tk_page.proofs.badges.put_row_badges.Goals as goal

pub loop-kind-init : goal.loop-kind-init
loop-kind-init c = nothing c.args.paper.now

pub loop-kind-preserved : goal.loop-kind-preserved
loop-kind-preserved c =
    next_of (row_badge c.args.signs.now c.args.task.now) row_kinds c.loop-kind.kind-index HoldsUp (omega arith) c.loop-kind.invariant
    (subst (λ odd. Writes c.loop-kind.paper c.put_badge.new.paper (badge odd (get_or row_kinds c.loop-kind.kind-index HoldsUp))) c.has.ensures c.in_ok-put_badge.ensures)
