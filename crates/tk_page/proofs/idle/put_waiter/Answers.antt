use Rattle.std.proofs.Common.{OnOk, [], subst}
use Rattle.std.specs.Option.{option_map_or}
use Rattle.tk_paper.specs.Pieces.{Writes}
use Rattle.tk_page.specs.Idle.{waiter_line}
use Rattle.tk_page.proofs.idle.put_waiter.Goals as goal

pub returns-in-Some : goal.returns-in-Some
returns-in-Some c =
    subst (λ o. OnOk c.put_waiter_line.result (Writes c.args.paper.now c.put_waiter_line.new.paper (option_map_or (waiter_line c.args.scale c.args.op.now) o []))) c.in-Some.ensures c.put_waiter_line.ensures
