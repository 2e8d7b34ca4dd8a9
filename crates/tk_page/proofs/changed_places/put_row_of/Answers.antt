use Rattle.std.proofs.Common.{OnOk, subst}
use Rattle.tk_paper.specs.Pieces.{Writes}
use Rattle.tk_page.specs.Changed.{change_row}
use Rattle.tk_page.proofs.changed_places.put_row_of.Goals as goal

pub returns : goal.returns
returns c =
    subst (λ w. OnOk c.put_change_row.result (Writes c.args.paper.now c.put_change_row.new.paper (change_row c.args.spans w (c.args.site.now, c.args.x.now))))
    c.word.ensures c.put_change_row.ensures
