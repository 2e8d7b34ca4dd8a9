use Rattle.std.proofs.Common.{◌≡◌, ℕ, ◌<◌, List, length, get_or, slice_get, ap, ap₂, sym, ◌∙◌, append-nil, subst}
use Rattle.std.specs.Option.{option_map_or}
use Rattle.std.proofs.lemmas.List.{length-map}
use Rattle.tk_stream.specs.Tables.{task_id, task_with}
use Rattle.tk_stream.specs.declared.tables.task.Task.{Task}
use Rattle.tk_series.specs.Limited.{limited, with_one}
use Rattle.tk_series.proofs.FoldLemmas.{item_more, items_all}
use Rattle.tk_metrics.specs.Blame.{plus_tally}
use Rattle.tk_metrics.specs.Keys.{came_name}
use Rattle.tk_metrics.proofs.KeysLemmas.{at-place}
use Rattle.tk_metrics.proofs.keys.add_came.Goals as goal

pub loop-id-init : goal.loop-id-init
loop-id-init c = λ room before tasks is ids there. is ∙ ap (limited room plus_tally) (sym (append-nil before))

pub loop-id-preserved : goal.loop-id-preserved
loop-id-preserved c = λ room before tasks is ids there.
    let i = c.loop-id.id-index in
    let e = came_name c.args.by in
    let one = c.id-item.result in
    let tables = c.args.tables.now in
    let here : task_with one tables.tasks ≡ slice_get tasks i =
    ap (λ n. task_with n tables.tasks) c.id-item.is
    ∙ ap (λ (ns : List ℕ). task_with (get_or ns i one) tables.tasks) ids
    ∙ at-place tables tasks i one there (subst (λ (ns : List ℕ). i < length ns) ids c.loop-id-test.true) in
    c.in_ok-add_came_one.ensures
    ∙ ap₂ (λ o s. option_map_or (λ (t : Task). with_one plus_tally (e t).0 (e t).1 s) o s) here (c.loop-id.invariant room before tasks is ids there)
    ∙ sym (item_more room plus_tally e before tasks i)

pub returns : goal.returns
returns c = λ room before tasks is ids there.
    c.loop-id.invariant room before tasks is ids there
    ∙ items_all room plus_tally (came_name c.args.by) before tasks c.loop-id.id-index _ (ap length ids ∙ length-map tasks task_id) c.loop-id-test.false
