use Rattle.std.proofs.Common.{[], ap, sym, ◌∙◌, slice_get, arith}
use Rattle.std.specs.Option.{option_map_or}
use Rattle.std.specs.Prelude.{fold}
use Rattle.std.proofs.lemmas.List.{take_all}
use Rattle.tk_report.proofs.KnownLemmas.{noted_all, with_noted}
use Rattle.tk_report.proofs.LoopLemmas.{folded_more}
use Rattle.tk_report.proofs.known.note_all.Goals as goal

pub loop-place-preserved : goal.loop-place-preserved
loop-place-preserved c =
    let add = with_noted c.args.tables.now.now c.args.before.now.entries in
    let tasks = c.args.tables.now.tasks in
    c.in_ok-note_at.ensures
    ∙ ap (λ es. option_map_or (λ t. add es t) (slice_get tasks c.loop-place.place) es) c.loop-place.invariant
    ∙ sym (folded_more add [] tasks c.loop-place.place)

pub returns : goal.returns
returns c =
    let now = c.args.tables.now.now in
    let before = c.args.before.now.entries in
    let tasks = c.args.tables.now.tasks in
    c.loop-place.invariant
    ∙ ap (fold (with_noted now before) []) (take_all c.loop-place.place tasks (omega arith))
    ∙ noted_all now before [] tasks c.task_count-place-end.ensures.distinct.tasks
