-- Tables are in range where each of their items is.
use Rattle.std.proofs.Common.{ℕ, List, [], ◌∷◌, refl, sym, subst}
use Rattle.std.specs.Prelude.{map}
use Rattle.std.specs.List.{AllByRecursion}
use Rattle.tk_stream.specs.Lines.{task_info, resource_info, op_info, task_stats_of, resource_stats_of, op_stats_of, all_counts, have_same_row, have_same_resource_row, have_same_op_row}
use Rattle.tk_stream.specs.Ranges.{IsTaskInfo, IsResourceInfo, IsOpInfo, AreTaskStats, AreResourceStats, AreOpStats, AreCounts, AreTotals, IsNumber}
use Rattle.tk_stream.specs.Rows.{same_counts}
use Rattle.tk_stream.specs.Streams.{AreInRange}
use Rattle.tk_stream.specs.Tables.{TablesView, task_id, resource_id, op_id, counts_id}
use Rattle.tk_stream.specs.declared.tables.op.Op.{Op}
use Rattle.tk_stream.specs.declared.tables.resource.Resource.{Resource}
use Rattle.tk_stream.specs.declared.tables.task.Task.{Task}
use Rattle.tk_stream.proofs.LinesLemmas.{all_infos, all_stats}

all_map : {A B : Type 0} (f : A → B) (P : B → Type 0) (Q : A → Type 0) → ((x : A) → Q x → P (f x)) → (xs : List A) → AllByRecursion Q xs → AllByRecursion P (map f xs)
all_map f P Q h [] all = tt
all_map f P Q h (x ∷ xs) all = (h x all.0, all_map f P Q h xs all.1)

-- a task's info and row are in range
abbrev pub TaskInRange : Task → Type 0
TaskInRange t = IsTaskInfo t.info × AreTaskStats (t.info.id, t.row)

abbrev pub ResourceInRange : Resource → Type 0
ResourceInRange r = IsResourceInfo r.info × AreResourceStats (r.info.id, r.row)

abbrev pub OpInRange : Op → Type 0
OpInRange o = IsOpInfo o.info × AreOpStats (o.info.id, o.row)

pub are_in_range : (t : TablesView) → AllByRecursion TaskInRange t.tasks → AllByRecursion ResourceInRange t.resources → AllByRecursion OpInRange t.ops → AllByRecursion AreCounts t.counts
    → AreTotals t.dropped → IsNumber t.now → AreInRange t
are_in_range t tasks resources ops counts totals now = record {
  dropped = totals;
  gone = tt;
  new_ops = subst (AllByRecursion IsOpInfo) (sym (all_infos op_id op_info t.ops)) (all_map op_info IsOpInfo OpInRange (λ x p. p.0) t.ops ops);
  new_resources = subst (AllByRecursion IsResourceInfo) (sym (all_infos resource_id resource_info t.resources)) (all_map resource_info IsResourceInfo ResourceInRange (λ x p. p.0) t.resources resources);
  new_tasks = subst (AllByRecursion IsTaskInfo) (sym (all_infos task_id task_info t.tasks)) (all_map task_info IsTaskInfo TaskInRange (λ x p. p.0) t.tasks tasks);
  now = now;
  op_stats = subst (AllByRecursion AreOpStats) (sym (all_stats op_id have_same_op_row op_stats_of t.ops)) (all_map op_stats_of AreOpStats OpInRange (λ x p. p.1) t.ops ops);
  poll_counts = subst (AllByRecursion AreCounts) (sym (all_stats counts_id same_counts all_counts t.counts)) (all_map all_counts AreCounts AreCounts (λ x p. p) t.counts counts);
  resource_stats = subst (AllByRecursion AreResourceStats) (sym (all_stats resource_id have_same_resource_row resource_stats_of t.resources)) (all_map resource_stats_of AreResourceStats ResourceInRange (λ x p. p.1) t.resources resources);
  seq = refl;
  task_stats = subst (AllByRecursion AreTaskStats) (sym (all_stats task_id have_same_row task_stats_of t.tasks)) (all_map task_stats_of AreTaskStats TaskInRange (λ x p. p.1) t.tasks tasks);
  task_times = tt;
}

-- another moment in range
pub at_moment : (t : TablesView) (now : ℕ) → AreInRange t → IsNumber now → AreInRange (record t { now = now })
at_moment t now r fits = record { dropped = r.dropped; gone = tt; new_ops = r.new_ops; new_resources = r.new_resources; new_tasks = r.new_tasks; now = fits; op_stats = r.op_stats; poll_counts = r.poll_counts; resource_stats = r.resource_stats; seq = r.seq; task_stats = r.task_stats; task_times = tt }
