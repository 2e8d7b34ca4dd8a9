use Rattle.std.proofs.Common.{◌≡◌, false, nat_eq}
use Rattle.tk_page.proofs.LoopLemmas.{not_zero}
use Rattle.tk_page.proofs.boxes.put_box.Goals as goal

pub returns : goal.returns
returns c =
    let high : nat_eq c.args.area.high 0 ≡ false = not_zero c.args.area.high c.if-high-eq0.false in
    let wide : nat_eq c.args.area.wide 0 ≡ false = not_zero c.args.area.wide c.if-wide-eq0.false in
    rw (high, wide) c.put-2.ensures
