-- What the items of tables take in a line, by what was told of them.
use Rattle.std.proofs.Common.{◌≡◌, ℕ, ◌+◌, ◌*◌, ◌≤◌, List, [], ◌∷◌, ◌++◌, length, Bool, true, false, cond, Option, Some, None, nat_eq, ap, arith}
use Rattle.std.specs.Prelude.{not, sum_by}
use Rattle.std.specs.Option.{option_map_or}
use Rattle.std.proofs.lemmas.List.Sums.{sum_by-cons, sum_by-append}
use Rattle.tk_ids.specs.declared.info.OpInfo.{OpInfo}
use Rattle.tk_ids.specs.declared.info.ResourceInfo.{ResourceInfo}
use Rattle.tk_ids.specs.declared.info.TaskInfo.{TaskInfo}
use Rattle.tk_stream.specs.Lines.{GoneView, task_info, resource_info, op_info}
use Rattle.tk_stream.specs.Polls.{one_more}
use Rattle.tk_stream.specs.Tables.{TablesView, counts_id, counts_of, item_with, put_item, is_among}
use Rattle.tk_aggregator.specs.Absorbing.{Infos, infos_of, with_info, with_told, infos_without}
use Rattle.tk_aggregator.specs.Contents.{Content, made_task, made_resource, made_op, polled}
use Rattle.tk_live.specs.Ran.{infos_with}
use Rattle.tk_app.proofs.LineSizes.{task_size, resource_size, op_size, tables_size}
use Rattle.tk_app.proofs.Sums.{sum_filter, sum_map}

-- what an item takes of which this tells
abbrev pub told_size : Content → ℕ
told_size (made_task t) = task_size t
told_size (made_resource r) = resource_size r
told_size (made_op o) = op_size o
told_size (polled resource ready) = 200

-- what tables with these infos and poll counts take
abbrev infos_size : Infos → ℕ
infos_size infos = sum_by task_size infos.tasks + sum_by resource_size infos.resources + sum_by op_size infos.ops + 200 * length infos.counts

tables_infos : (tables : TablesView) → tables_size tables ≡ infos_size (infos_of tables)
tables_infos tables = omega (arith, sum_map task_size task_info tables.tasks, sum_map resource_size resource_info tables.resources, sum_map op_size op_info tables.ops)

-- ---- one thing told more

info_more : {Info : Type 0} (id_of : Info → ℕ) (size : Info → ℕ) (info : Info) (infos : List Info) → sum_by size (with_info id_of info infos) ≤ sum_by size infos + size info
info_more {Info} id_of size info infos = by (item_with id_of (id_of info) infos)
  where
    by : (o : Option Info) → sum_by size (option_map_or (λ there. infos) o (infos ++ info ∷ [])) ≤ sum_by size infos + size info
    by (Some there) = omega arith
    by None = omega (arith, sum_by-append size infos (info ∷ []))

put_one : {Item : Type 0} (id_of : Item → ℕ) (new : Item) (items : List Item) → length (put_item id_of new items) ≤ length items + 1
put_one id_of new [] = omega arith
put_one id_of new (x ∷ items) = by (nat_eq (id_of new) (id_of x)) (put_one id_of new items)
  where
    by : (b : Bool) → length (put_item id_of new items) ≤ length items + 1 → length (cond b (new ∷ items) (x ∷ put_item id_of new items)) ≤ length (x ∷ items) + 1
    by true le = omega arith
    by false le = omega (arith, le)

told_more : (infos : Infos) (t : Content) → infos_size (with_told infos t) ≤ infos_size infos + told_size t
told_more infos (made_task t) = omega (arith, info_more (λ (i : TaskInfo). i.id) task_size t infos.tasks)
told_more infos (made_resource r) = omega (arith, info_more (λ (i : ResourceInfo). i.id) resource_size r infos.resources)
told_more infos (made_op o) = omega (arith, info_more (λ (i : OpInfo). i.id) op_size o infos.ops)
told_more infos (polled resource ready) =
    omega (arith, put_one counts_id (resource, (one_more ready (counts_of resource infos.counts)).0, (one_more ready (counts_of resource infos.counts)).1) infos.counts)

all_told : (told : List Content) (infos : Infos) → infos_size (infos_with infos told) ≤ infos_size infos + sum_by told_size told
all_told [] infos = omega arith
all_told (t ∷ told) infos = omega (arith, all_told told (with_told infos t), told_more infos t, sum_by-cons told_size t told)

-- ---- where items leave

some_left : (gone : GoneView) (infos : Infos) → infos_size (infos_without gone infos) ≤ infos_size infos
some_left gone infos =
    omega (
      arith,
      sum_filter task_size (λ (i : TaskInfo). not (is_among gone.tasks i.id)) infos.tasks,
      sum_filter resource_size (λ (i : ResourceInfo). not (is_among gone.resources i.id)) infos.resources,
      sum_filter op_size (λ (i : OpInfo). not (is_among gone.ops i.id)) infos.ops,
    )

-- the items of a line are some of those of the line before and of what was told since
pub line_more : (before tables : TablesView) (gone : GoneView) (since : List Content) → infos_of tables ≡ infos_without gone (infos_with (infos_of before) since)
    → tables_size tables ≤ tables_size before + sum_by told_size since
line_more before tables gone since is =
    omega (arith, tables_infos tables, tables_infos before, ap infos_size is, some_left gone (infos_with (infos_of before) since), all_told since (infos_of before))
