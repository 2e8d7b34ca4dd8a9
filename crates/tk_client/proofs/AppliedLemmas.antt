-- The tasks after a line that was applied.
use Rattle.std.proofs.Common.{◌≡◌, List, [], ◌++◌, Bool, true, false, cond, Option, Some, None, Ok, Err, refl, ap, sym, ◌∙◌}
use Rattle.std.specs.Prelude.{map, option_map, option_and_then}
use Rattle.tk_stream.specs.declared.tables.op.Op.{Op}
use Rattle.tk_stream.specs.declared.tables.resource.Resource.{Resource}
use Rattle.tk_stream.specs.declared.tables.task.Task.{Task}
use Rattle.tk_stream.specs.Lines.{LineView}
use Rattle.tk_stream.specs.Applied.{task_kind, resource_kind, op_kind, told_item, new_items, items_after, counts_after, tables_after}
use Rattle.tk_stream.specs.Tables.{TablesView, task_id, staying}
use Rattle.tk_stream.proofs.GoneLemmas.{staying_all}
use Rattle.tk_client.specs.declared.fault.Fault.TheVariants.{Repeated, UnknownId, Misfit}
use Rattle.tk_client.specs.Taking.{has_twice, are_fitting, fitting, repeats_told, strange_told, line_applied}
use Rattle.tk_client.specs.Applying.{stats_id_by, told_part}
use Rattle.tk_client.proofs.LineLemmas.{tells-once}

-- tasks that were there, each with what is told of it, and after them new ones
pub record Follow (old : TablesView) (l : LineView) (t : TablesView) : Type 0 where
  pub items : List Task
  pub are : new_items task_kind l.task_stats l.new_tasks ≡ Some items
  pub now : t.tasks ≡ map (told_item task_kind l.task_stats) old.tasks ++ items

after-tasks : (old : TablesView) (l : LineView) (t : TablesView) → tables_after old (told_part l) ≡ Some t → Follow old l t
after-tasks old l t e =
    by (new_items task_kind l.task_stats l.new_tasks) refl (items_after resource_kind old.resources [] l.new_resources l.resource_stats) (items_after op_kind old.ops [] l.new_ops l.op_stats) e
  where
    by : (ts : Option (List Task)) → new_items task_kind l.task_stats l.new_tasks ≡ ts → (rs : Option (List Resource)) (os : Option (List Op))
        → option_and_then (λ tasks. option_and_then (λ resources. option_map (λ ops. record {
          tasks = tasks;
          resources = resources;
          ops = ops;
          counts = counts_after old.counts l.poll_counts;
          dropped = l.dropped;
          now = l.now;
        }) os) rs) (option_map (λ items. map (told_item task_kind l.task_stats) (staying task_id [] old.tasks) ++ items) ts) ≡ Some t → Follow old l t
    by None is rs os g = absurd (cc)
    by (Some ts) is None os g = absurd (cc)
    by (Some ts) is (Some rs) None g = absurd (cc)
    by (Some ts) is (Some rs) (Some os) g =
        let same : record { tasks = map (told_item task_kind l.task_stats) (staying task_id [] old.tasks) ++ ts; resources = rs; ops = os; counts = counts_after old.counts l.poll_counts; dropped = l.dropped; now = l.now } ≡ t = (cc) in
        record { items = ts; are = is; now = ap (λ (v : TablesView). v.tasks) (sym same) ∙ ap (λ xs. map (told_item task_kind l.task_stats) xs ++ ts) (staying_all task_id old.tasks) }

-- where what a line tells was applied, it tells of no task twice, and its tasks follow those of before
pub applied-tasks : (old : TablesView) (l : LineView) (t : TablesView) → line_applied old (told_part l) ≡ Ok t → Follow old l t × (has_twice (map (stats_id_by task_kind) l.task_stats) ≡ false)
unfolding line_applied
applied-tasks old l t e = by (repeats_told old l) refl (strange_told old l) (tables_after old (told_part l)) refl e
  where
    test : (v : TablesView) (b : Bool) → cond b (Ok v) (Err Misfit) ≡ Ok t → v ≡ t
    test v true h = cc
    test v false h = absurd (cc)

    by : (r : Bool) → repeats_told old l ≡ r → (s : Bool) (o : Option TablesView) → tables_after old (told_part l) ≡ o → cond r (Err Repeated) (cond s (Err UnknownId) (fitting o)) ≡ Ok t
        → Follow old l t × (has_twice (map (stats_id_by task_kind) l.task_stats) ≡ false)
    by true once s o is h = absurd (cc)
    by false once true o is h = absurd (cc)
    by false once false None is h = absurd (cc)
    by false once false (Some v) is h =
        let same : v ≡ t = test v (are_fitting v) h in
        (after-tasks old l t (is ∙ ap Some same), (tells-once old l once).tasks)
