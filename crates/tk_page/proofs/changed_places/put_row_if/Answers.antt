use Rattle.std.proofs.Common.{◌≡◌, Bool, true, false, cond, nat_eq, OnOk, [], ap, sym, subst, ◌∙◌}
use Rattle.tk_compare.specs.Changes.{change_of}
use Rattle.tk_compare.specs.Lines.{rank_of, word_of}
use Rattle.tk_compare.specs.declared.change.Change.{Change}
use Rattle.tk_paper.specs.Pieces.{Writes}
use Rattle.tk_page.specs.Changed.{change_row}
use Rattle.tk_page.proofs.changed_places.put_row_if.Goals as goal

pub returns-else-is_same : goal.returns-else-is_same
returns-else-is_same c =
    let old = c.args.paper.now in
    let new = c.put_row_of.new.paper in
    let change = change_of c.args.margin c.args.spans c.args.x.now in
    let changed : nat_eq (rank_of change) 5 ≡ false =
    ap (λ (ch : Change). nat_eq (rank_of ch) 5) (sym c.change_of-change.ensures) ∙ sym c.is_same.ensures ∙ c.if-is_same.false in
    subst (λ (b : Bool). OnOk c.put_row_of.result (Writes old new (cond b [] (change_row c.args.spans (word_of change) (c.args.site.now, c.args.x.now))))) (sym changed)
    (subst (λ (ch : Change). OnOk c.put_row_of.result (Writes old new (change_row c.args.spans (word_of ch) (c.args.site.now, c.args.x.now)))) c.change_of-change.ensures
    c.put_row_of.ensures)
