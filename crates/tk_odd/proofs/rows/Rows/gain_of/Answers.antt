use Rattle.std.proofs.Common.{◌≡◌, ℕ, List, Option, Some, None, nat_eq, ap, ap₂, sym, ◌∙◌}
use Rattle.std.specs.Map.{lookup}
use Rattle.std.specs.Option.{option_map_or}
use Rattle.std.specs.Prelude.{option_map}
use Rattle.tk_core.specs.declared.task.row.TaskRow.{TaskRow}
use Rattle.tk_stream.specs.Tables.{task_with}
use Rattle.tk_stream.specs.declared.tables.task.Task.{Task}
use Rattle.tk_odd.specs.Gains.{gain_since}
use Rattle.tk_odd.specs.declared.kept.Kept.{Kept}
use Rattle.tk_odd.proofs.rows.Rows.gain_of.Goals as goal

row-there : (o : Option Task) (x other : TaskRow) → Some x ≡ option_map (λ (t : Task). t.row) o → x ≡ option_map_or (λ (t : Task). t.row) o other
row-there None x other e = absurd (cc)
row-there (Some t) x other e = cc

pub returns-in-Some : goal.returns-in-Some
returns-in-Some c = λ before k.
    let t = c.args.task.now in
    let es = c.args.self.now.rows.entries in
    let id = t.info.id in
    let there : Some c.in-Some.old.now.row ≡ option_map (λ (x : Task). x.row) (task_with id before.tasks) =
    ap (option_map (λ (x : Kept). x.row)) (c.in-Some.ensures.value ∙ ap (λ n. lookup (nat_eq n) es) c.value.ensures.value) ∙ k.rows id in
    c.since.ensures
    ∙ ap₂ (λ (from to : ℕ). gain_since from to c.in-Some.old.now.row t.row) k.moment c.now-now.ensures
    ∙ ap (λ (x : TaskRow). gain_since before.now c.args.tables.now.now x t.row) (row-there (task_with id before.tasks) c.in-Some.old.now.row _ there)
