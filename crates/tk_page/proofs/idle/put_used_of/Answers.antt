use Rattle.std.proofs.Common.{OnOk, [], subst}
use Rattle.std.specs.Option.{option_map_or}
use Rattle.tk_paper.specs.Pieces.{Writes}
use Rattle.tk_page.specs.Idle.{used}
use Rattle.tk_page.proofs.idle.put_used_of.Goals as goal

pub returns-in-Some : goal.returns-in-Some
returns-in-Some c =
    subst (λ o. OnOk c.put_used.result (Writes c.args.paper.now c.put_used.new.paper (option_map_or used o []))) c.in-Some.ensures c.put_used.ensures
