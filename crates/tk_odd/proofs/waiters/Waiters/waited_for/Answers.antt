use Rattle.std.proofs.Common.{◌≡◌, ℕ, List, Option, Some, None, false, nat_eq, nat_le, ap, sym, ◌∙◌}
use Rattle.std.specs.Map.{lookup}
use Rattle.std.specs.Option.{option_map_or}
use Rattle.std.specs.Prelude.{option_map}
use Rattle.tk_core.specs.Lasting.{waits_for}
use Rattle.tk_core.specs.declared.task.row.TaskRow.{TaskRow}
use Rattle.tk_odd.specs.Keeping.{plain_rows}
use Rattle.tk_odd.specs.Steps.{waited_for}
use Rattle.tk_odd.specs.Waiters.{WaitersView}
use Rattle.tk_odd.specs.declared.kept.Kept.{Kept}
use Rattle.tk_odd.proofs.RowLemmas.{plain_found}
use Rattle.tk_odd.proofs.waiters.Waiters.waited_for.Goals as goal

-- what is kept of a task, by the id as it was read
kept-of : (es : List (ℕ × Kept)) (id read : ℕ) → read ≡ id → (o : Option Kept) → o ≡ lookup (nat_eq read) es → lookup (nat_eq id) (plain_rows es) ≡ option_map (λ (k : Kept). k.row) o
kept-of es id read same o found = plain_found id es ∙ ap (option_map (λ (k : Kept). k.row)) (ap (λ n. lookup (nat_eq n) es) (sym same) ∙ sym found)

pub returns-in-Some : goal.returns-in-Some
returns-in-Some c =
    let wait = c.args.wait in
    let moment = c.self.inside.moment in
    ap (nat_le wait) c.waits_for.ensures
    ∙ ap (λ (o : Option TaskRow). option_map_or (λ x. nat_le wait (waits_for x moment)) o false) (sym (kept-of c.self.inside.rows.entries c.args.task c.value.result c.value.ensures.value (Some c.in-Some.kept.now) c.in-Some.ensures.value))
    ∙ ap (λ (w : WaitersView). waited_for w wait c.args.task) c.self.view_is

pub returns-in-None : goal.returns-in-None
returns-in-None c =
    let wait = c.args.wait in
    let moment = c.self.inside.moment in
    ap (λ (o : Option TaskRow). option_map_or (λ x. nat_le wait (waits_for x moment)) o false) (sym (kept-of c.self.inside.rows.entries c.args.task c.value.result c.value.ensures.value None c.in-None.ensures.value))
    ∙ ap (λ (w : WaitersView). waited_for w wait c.args.task) c.self.view_is
