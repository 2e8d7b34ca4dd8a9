use Rattle.std.proofs.Common.{OnOk, subst, sym}
use Rattle.tk_page.specs.Badges.{badge}
use Rattle.tk_paper.specs.Pieces.{Writes}
use Rattle.tk_page.proofs.badges.put_badge.Goals as goal

pub returns : goal.returns
returns c =
    subst (λ b. OnOk c.put-2.result (Writes c.args.paper.now c.put-2.new.self (badge b c.args.kind))) (sym c.if-not-odd.false)
    (rw (c.mark_of-mark.ensures.class, c.mark_of-mark.ensures.icon, c.sign.ensures, c.badge.ensures) at c.put-2.ensures)
