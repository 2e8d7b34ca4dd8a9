use Rattle.std.proofs.Common.{List, OnOk, subst, sym}
use Rattle.tk_paper.specs.Parts.{Bit}
use Rattle.tk_paper.specs.Pieces.{Writes}
use Rattle.tk_page.proofs.CardLemmas.{waited_in_the_mean}
use Rattle.tk_page.proofs.LoopLemmas.{not_zero}
use Rattle.tk_page.proofs.calm.put_mean_wait.Goals as goal

pub returns : goal.returns
returns c =
    subst (λ (bits : List Bit). OnOk c.put-2.result (Writes c.args.paper.now c.put-2.new.self bits))
    (sym (waited_in_the_mean c.args.all (not_zero c.args.all.polls c.if-all-eq0.false))) (rw c.each.ensures at c.put-2.ensures)
