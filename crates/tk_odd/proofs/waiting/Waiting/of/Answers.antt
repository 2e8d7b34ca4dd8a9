use Rattle.std.proofs.Common.{ap, sym, ◌∙◌, slice_get, arith}
use Rattle.std.specs.Option.{option_map_or}
use Rattle.std.proofs.lemmas.List.{take_all}
use Rattle.tk_odd.proofs.LoopLemmas.{folded_more}
use Rattle.tk_odd.specs.Waiting.{waiting_of, with_task}
use Rattle.tk_odd.specs.declared.waiting.Waiting.{Waiting}
use Rattle.tk_odd.proofs.waiting.Waiting.of.Goals as goal

pub loop-place-preserved : goal.loop-place-preserved
loop-place-preserved c =
    let tables = c.args.tables.now in
    let one = with_task tables.now in
    let none : Waiting = record { count = 0; longest = 0 } in
    let place = c.loop-place.place in
    c.with_at-waiting.ensures
    ∙ ap (λ w. option_map_or (λ t. one w t) (slice_get tables.tasks place) w) c.loop-place.invariant
    ∙ sym (folded_more one none tables.tasks place)

pub returns : goal.returns
returns c =
    let tables = c.args.tables.now in
    c.loop-place.invariant ∙ ap (waiting_of tables.now) (take_all c.loop-place.place tables.tasks (omega arith))
