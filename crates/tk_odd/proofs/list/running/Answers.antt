use Rattle.std.proofs.Common.{ap, sym, ◌∙◌, slice_get, arith, []}
use Rattle.std.specs.Option.{option_map_or}
use Rattle.std.specs.Prelude.{fold}
use Rattle.std.proofs.lemmas.List.{take_all}
use Rattle.tk_odd.specs.Findings.{with_running}
use Rattle.tk_odd.proofs.LoopLemmas.{folded_more}
use Rattle.tk_odd.proofs.list.running.Goals as goal

pub loop-place-preserved : goal.loop-place-preserved
loop-place-preserved c =
    let tables = c.args.tables.now in
    let one = with_running c.args.long tables.now in
    let place = c.loop-place.place in
    c.in_ok-add_running_at.ensures
    ∙ ap (λ s. option_map_or (λ t. one s t) (slice_get tables.tasks place) s) c.loop-place.invariant
    ∙ sym (folded_more one [] tables.tasks place)

pub returns : goal.returns
returns c =
    let tables = c.args.tables.now in
    c.loop-place.invariant ∙ ap (fold (with_running c.args.long tables.now) []) (take_all c.loop-place.place tables.tasks (omega arith))
