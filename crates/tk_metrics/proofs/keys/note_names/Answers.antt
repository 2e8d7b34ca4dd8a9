use Rattle.std.proofs.Common.{◌≡◌, ◌++◌, List, map, ap, append_assoc, subst, sym, ◌∙◌}
use Rattle.std.specs.Prelude.{nat_eq}
use Rattle.std.specs.List.{IsDistinct}
use Rattle.tk_client.specs.Changes.{tasks_beside}
use Rattle.tk_client.specs.declared.change.LeftTask.{LeftTask}
use Rattle.tk_stream.specs.Tables.{TablesView, task_id}
use Rattle.tk_series.specs.Limited.{limited}
use Rattle.tk_metrics.specs.Blame.{plus_tally}
use Rattle.tk_metrics.specs.Keys.{came_name, left_name}
use Rattle.tk_metrics.specs.KeysKept.{AreThere}
use Rattle.tk_metrics.proofs.KeysLemmas.{found, names-left}
use Rattle.tk_metrics.proofs.keys.note_names.Goals as goal

pub returns : goal.returns
returns c = λ room since before now is same h.
    let by = c.args.by in
    let coming = tasks_beside now.0 before.0 in
    let once = subst (λ (t : TablesView). IsDistinct nat_eq (map task_id t.tasks)) (sym same) c.task_count.ensures.distinct.tasks in
    let came = c.in_ok-add_came.ensures room since coming h (c.came.ensures ∙ is.came) (subst (λ (t : TablesView). AreThere t coming) same (found now.0 before.0 once)) in
    c.in_ok-add_left.ensures room (since ++ map (came_name by) coming) came
    ∙ ap (λ xs. limited room plus_tally ((since ++ map (came_name by) coming) ++ xs))
    (ap (map (λ (l : LeftTask). left_name by l.task)) (c.left.ensures ∙ is.left) ∙ names-left by before.1 (tasks_beside before.0 now.0))
    ∙ ap (limited room plus_tally) (append_assoc since (map (came_name by) coming) (map (left_name by) (tasks_beside before.0 now.0)))
