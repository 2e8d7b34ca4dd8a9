use Rattle.std.proofs.Common.{OnOk, [], subst}
use Rattle.std.specs.Option.{option_map_or}
use Rattle.tk_paper.specs.Pieces.{Writes}
use Rattle.tk_page.specs.Changed.{row_if}
use Rattle.tk_page.proofs.changed_places.put_row_at.Goals as goal

pub returns-in-Some : goal.returns-in-Some
returns-in-Some c =
    subst (λ o. OnOk c.put_row_if.result (Writes c.args.paper.now c.put_row_if.new.paper (option_map_or (row_if c.args.margin c.args.spans) o []))) c.in-Some.ensures c.put_row_if.ensures
