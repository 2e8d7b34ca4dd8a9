use Rattle.std.proofs.Common.{◌≡◌, ℕ, List, [], ap, ap₂, ◌∙◌, slice_get}
use Rattle.std.specs.Prelude.{fold}
use Rattle.std.specs.Option.{option_map_or}
use Rattle.tk_client.specs.Changes.{is_one_of}
use Rattle.tk_odd.specs.Keeping.{plain_rows, with_waiter}
use Rattle.tk_odd.specs.Waiters.{WaitersView}
use Rattle.tk_odd.specs.declared.kept.Kept.{Kept}
use Rattle.tk_odd.proofs.RowLemmas.{others_wait_not, skipped, waiting}
use Rattle.tk_core.specs.declared.task.row.TaskRow.{TaskRow}
use Rattle.tk_odd.proofs.waiters.Waiters.of.Goals as goal

pub returns : goal.returns
returns c = λ k.
    let tables = c.args.tables.now in
    let r = c.args.rows.now in
    let once = c.task_count.ensures.distinct.tasks in
    let step = λ (rows : List (ℕ × Kept)) (place : ℕ). option_map_or (with_waiter rows) (slice_get tables.tasks place) rows in
    let is : c.in_ok-rows.rows.entries ≡ fold with_waiter [] tables.tasks =
    c.in_ok-rows.ensures
    ∙ ap (λ (ps : List ℕ). fold step [] ps) (c.deref.ensures.value ∙ c.in_ok-places.ensures)
    ∙ skipped with_waiter (is_one_of r.lasting.keys) tables.tasks (others_wait_not tables r k once) [] in
    ap₂ (λ (now : ℕ) (rows : List (ℕ × TaskRow)). record { moment = now; rows = rows }) c.now.ensures (ap plain_rows is ∙ waiting tables.tasks once)
