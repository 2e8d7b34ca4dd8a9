use Rattle.std.proofs.Common.{◌≡◌, false, nat_eq}
use Rattle.tk_paper.proofs.PutLemmas.{then}
use Rattle.tk_page.proofs.LoopLemmas.{not_zero}
use Rattle.tk_page.proofs.drawing.put_gone.Goals as goal

pub returns : goal.returns
returns c =
    let some : nat_eq c.args.gone 0 ≡ false = not_zero c.args.gone c.if-gone-eq0.false in
    rw some (then c.in_ok-put.ensures c.in_ok-put_fact.ensures)
