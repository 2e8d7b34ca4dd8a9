use Rattle.std.proofs.Common.{subst, ◌∙◌}
use Rattle.std.specs.Str.{IsUtf8}
use Rattle.tk_page.proofs.CardLemmas.{known, unknown}
use Rattle.tk_page.proofs.cards.put_victim.Goals as goal

pub returns-in-Ok : goal.returns-in-Ok
returns-in-Ok c =
    let v = c.args.victim.now in
    rw (known v.place.items v.time (subst IsUtf8 c.deref.ensures.value c.in-Ok.ensures.cases.1)) (rw (c.in-Ok.ensures.cases.0 ∙ c.deref.ensures.value) at c.put.ensures)

pub returns-in-Err : goal.returns-in-Err
returns-in-Err c =
    let v = c.args.victim.now in
    rw (unknown v.place.items v.time (λ is. c.in-Err.ensures.cases.0 (rw c.deref.ensures.value is))) c.put-in-Err.ensures
