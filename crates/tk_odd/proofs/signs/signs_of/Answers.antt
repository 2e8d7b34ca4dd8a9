use Rattle.std.proofs.Common.{ap, sym, ◌∙◌, slice_get, arith, []}
use Rattle.std.specs.Option.{option_map_or}
use Rattle.std.specs.Prelude.{fold}
use Rattle.std.proofs.lemmas.List.{take_all}
use Rattle.tk_odd.specs.Findings.{with_task_signs}
use Rattle.tk_odd.proofs.LoopLemmas.{folded_more}
use Rattle.tk_odd.proofs.signs.signs_of.Goals as goal

pub loop-place-preserved : goal.loop-place-preserved
loop-place-preserved c =
    let look = c.args.look.now in
    let one = with_task_signs look.limits look.moment look.passed.now in
    let tasks = c.args.tables.now.tasks in
    let place = c.loop-place.place in
    c.in_ok-add_task_at.ensures
    ∙ ap (λ s. option_map_or (λ t. one s t) (slice_get tasks place) s) c.loop-place.invariant
    ∙ sym (folded_more one [] tasks place)

pub returns : goal.returns
returns c =
    let look = c.args.look.now in
    c.loop-place.invariant ∙ ap (fold (with_task_signs look.limits look.moment look.passed.now) []) (take_all c.loop-place.place c.args.tables.now.tasks (omega arith))
