use Rattle.std.proofs.Common.{◌≡◌, length, false, nat_eq, sym}
use Rattle.tk_page.proofs.CardLemmas.{placed, unplaced}
use Rattle.tk_page.proofs.cards.put_place.Goals as goal

pub returns-in-Ok : goal.returns-in-Ok
returns-in-Ok c =
    let some : nat_eq (length c.args.place.now) 0 ≡ false = sym c.if-is_empty.ensures in
    rw (placed c.args.place.now some c.in-Ok.ensures.cases.1) (rw c.in-Ok.ensures.cases.0 at c.put-in-Ok.ensures)

pub returns-in-Err : goal.returns-in-Err
returns-in-Err c =
    let some : nat_eq (length c.args.place.now) 0 ≡ false = sym c.if-is_empty.ensures in
    rw (unplaced c.args.place.now some c.in-Err.ensures.cases.0) c.put-in-Err.ensures
