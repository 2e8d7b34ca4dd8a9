use Rattle.std.proofs.Common.{OnOk, subst}
use Rattle.tk_paper.specs.Pieces.{Writes}
use Rattle.tk_page.specs.Badges.{badge}
use Rattle.tk_page.proofs.badges.put_found_badge.Goals as goal

pub returns : goal.returns
returns c = subst (λ odd. OnOk c.put_badge.result (Writes c.args.paper.now c.put_badge.new.paper (badge odd c.args.found.now.finding.kind))) c.says.ensures c.put_badge.ensures
