use Rattle.std.proofs.Common.{◌≡◌, false, nat_eq}
use Rattle.tk_page.proofs.LoopLemmas.{not_zero}
use Rattle.tk_page.proofs.facts.put_alone.Goals as goal

pub returns : goal.returns
returns c =
    let some : nat_eq c.args.still 0 ≡ false = not_zero c.args.still c.if-still-eq0.false in
    rw some c.put-2.ensures
