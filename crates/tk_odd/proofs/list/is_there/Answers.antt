use Rattle.std.proofs.Common.{◌≡◌, ◌∙◌, ap, sym, true}
use Rattle.std.specs.Str.{bytes_eq}
use Rattle.tk_odd.proofs.ListLemmas.{there_at}
use Rattle.tk_odd.proofs.list.is_there.Goals as goal

pub returns-then-eq : goal.returns-then-eq
returns-then-eq c =
    let place = c.args.place.now in
    let same : bytes_eq c.other-item.result.items place ≡ true = ap (λ xs. bytes_eq xs place) (sym c.as_slice.ensures.value) ∙ sym c.eq.ensures ∙ c.if-eq.true in
    sym (there_at c.args.places.now c.loop-other.other-index c.other-item.result place c.loop-other-test.true c.other-item.is same)
