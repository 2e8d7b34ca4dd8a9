use Rattle.std.proofs.Common.{ℕ, List, None, Option, ap, sym, ◌∙◌, slice_get, arith}
use Rattle.std.specs.Option.{option_map_or}
use Rattle.std.specs.Prelude.{fold}
use Rattle.std.proofs.lemmas.List.{take_all}
use Rattle.tk_odd.specs.Victims.{most_with}
use Rattle.tk_odd.proofs.LoopLemmas.{folded_more}
use Rattle.tk_odd.proofs.victims.longest.Goals as goal

pub loop-i-preserved : goal.loop-i-preserved
loop-i-preserved c =
    let place = c.args.place.now in
    let pairs = c.args.pairs.now in
    let i = c.loop-i.i in
    c.longer_at-most.ensures place (c.deref.ensures.value ∙ c.in_ok-begin.ensures)
    ∙ ap (λ (s : Option (List ℕ × ℕ)). option_map_or (λ pair. most_with place s pair) (slice_get pairs i) s) c.loop-i.invariant
    ∙ sym (folded_more (most_with place) None pairs i)
