use Rattle.std.proofs.Common.{OnOk, [], subst}
use Rattle.std.specs.Option.{option_map_or}
use Rattle.tk_paper.specs.Pieces.{Writes}
use Rattle.tk_page.specs.Changed.{finding_if}
use Rattle.tk_page.proofs.changed.put_finding_at.Goals as goal

pub returns-in-Some : goal.returns-in-Some
returns-in-Some c =
    subst (λ o. OnOk c.put_finding_if.result (Writes c.args.paper.now c.put_finding_if.new.paper (option_map_or (finding_if c.args.rank) o []))) c.in-Some.ensures c.put_finding_if.ensures
