-- Which line a client takes, and what it makes of the client's tables.
use Rattle.std.specs.Prelude.{ℕ, ◌==◌, List, [], ◌∷◌, map, Bool, true, false, ◌&&◌, ◌||◌, not, is_some, Option, Some, None, if◌then◌else◌, Result, Ok, Err}
use Rattle.std.specs.List.{list_any, list_all}
use Rattle.tk_ids.specs.Attributes.{kind_of}
use Rattle.tk_ids.specs.declared.attr.AttrInfo.{AttrInfo}
use Rattle.tk_ids.specs.declared.attr.AttrKind.{AttrKind}
use Rattle.tk_ids.specs.declared.attr.AttrKind.TheVariants as kinds
use Rattle.tk_ids.specs.declared.attr.AttrValue.{AttrValue}
use Rattle.tk_stream.specs.declared.tables.op.Op.{Op}
use Rattle.tk_stream.specs.declared.tables.resource.Resource.{Resource}
use Rattle.tk_ids.specs.declared.info.TaskInfo.{TaskInfo}
use Rattle.tk_stream.specs.Tables.{TablesView, task_id, counts_id, item_with, is_among}
use Rattle.tk_stream.specs.Times.{times_id}
use Rattle.tk_stream.specs.Lines.{LineView, gone_of, times_of}
use Rattle.tk_stream.specs.Applied.{Kind, task_kind, resource_kind, op_kind, tables_after}
use Rattle.tk_client.specs.declared.fault.Fault.{Fault}
use Rattle.tk_client.specs.declared.fault.Fault.TheVariants.{UnknownId, Repeated, Misfit}

-- ---- ids

-- some number stands twice
abbrev pub has_twice : List ℕ → Bool
has_twice [] = false
has_twice (n ∷ ns) = list_any (λ m. n == m) ns || has_twice ns

-- one of these has this id
abbrev pub has_id : {Item : Type 0} → (Item → ℕ) → ℕ → List Item → Bool
has_id id_of id items = is_some (item_with id_of id items)

-- of one kind of item, a new one is there already, or one is new twice, or is told of twice
abbrev pub repeats_kind : {Item Info Stats : Type 0} → Kind Item Info Stats → List Item → List Info → List Stats → Bool
repeats_kind k old infos stats =
    list_any (λ info. has_id k.id_of (k.info_id info) old) infos || (has_twice (map k.info_id infos) || has_twice (map k.stats_id stats))

-- of one kind of item, one is gone twice, or is gone and told of
abbrev pub repeats_gone_kind : {Item Info Stats : Type 0} → Kind Item Info Stats → List ℕ → List Stats → Bool
repeats_gone_kind k gone stats = has_twice gone || list_any (λ id. has_id k.stats_id id stats) gone

-- of one kind of item, what is told is of an item that is neither there nor new
abbrev pub is_strange : {Item Info Stats : Type 0} → Kind Item Info Stats → List Item → List Info → Stats → Bool
is_strange k old infos s = not (has_id k.id_of (k.stats_id s) old || has_id k.info_id (k.stats_id s) infos)

-- of one kind of item, the line tells of one that is neither there nor new
abbrev pub strange_kind : {Item Info Stats : Type 0} → Kind Item Info Stats → List Item → List Info → List Stats → Bool
strange_kind k old infos stats = list_any (is_strange k old infos) stats

-- of one kind of item, one is gone that wasn't there
abbrev pub strange_gone_kind : {Item Info Stats : Type 0} → Kind Item Info Stats → List Item → List ℕ → Bool
strange_gone_kind k old gone = list_any (λ id. not (has_id k.id_of id old)) gone

-- the line shows an item as new that is there, or has an id twice in one of its lists of what is new, told or counted
abbrev pub repeats_told : TablesView → LineView → Bool
repeats_told old l =
    repeats_kind task_kind old.tasks l.new_tasks l.task_stats
    || (repeats_kind resource_kind old.resources l.new_resources l.resource_stats
    || (repeats_kind op_kind old.ops l.new_ops l.op_stats
    || has_twice (map counts_id l.poll_counts)))

-- the line says of an item twice that it is gone, or tells of one that is gone
abbrev pub repeats_gone : LineView → Bool
repeats_gone l =
    repeats_gone_kind task_kind (gone_of l).tasks l.task_stats
    || (repeats_gone_kind resource_kind (gone_of l).resources l.resource_stats
    || repeats_gone_kind op_kind (gone_of l).ops l.op_stats)

-- the line repeats an id: of what is gone, or of what is new, told or counted
abbrev pub repeats_id : TablesView → LineView → Bool
repeats_id old l = repeats_gone l || repeats_told old l

-- the line tells of an item that is neither there nor new
abbrev pub strange_told : TablesView → LineView → Bool
strange_told old l =
    strange_kind task_kind old.tasks l.new_tasks l.task_stats
    || (strange_kind resource_kind old.resources l.new_resources l.resource_stats
    || strange_kind op_kind old.ops l.new_ops l.op_stats)

-- the line says of an item that it is gone that wasn't there
abbrev pub strange_gone : TablesView → LineView → Bool
strange_gone old l =
    strange_gone_kind task_kind old.tasks (gone_of l).tasks
    || (strange_gone_kind resource_kind old.resources (gone_of l).resources
    || strange_gone_kind op_kind old.ops (gone_of l).ops)

-- the line has the id of an unknown item: of one that is gone and wasn't there, or of one that is told of and is neither
-- there nor new
abbrev pub has_strange_id : TablesView → LineView → Bool
has_strange_id old l = strange_gone old l || strange_told old l

-- ---- attributes

-- whether two kinds of attributes are the same
abbrev pub is_kind : AttrKind → AttrKind → Bool
is_kind kinds.U64 kinds.U64 = true
is_kind kinds.Bool kinds.Bool = true
is_kind kinds.I64 kinds.I64 = true
is_kind _ _ = false

-- the test of `HaveKinds`: values are as many as the attributes, and each of its attribute's kind
abbrev pub fit_attrs : List AttrInfo → List AttrValue → Bool
fit_attrs [] [] = true
fit_attrs [] (v ∷ vs) = false
fit_attrs (a ∷ attrs) [] = false
fit_attrs (a ∷ attrs) (v ∷ vs) = is_kind (kind_of v) a.kind && fit_attrs attrs vs

-- a resource's row has the attributes of its info
abbrev pub fits_resource : Resource → Bool
fits_resource r = fit_attrs r.info.attrs r.row.attrs

-- an async operation's row has the attributes of its info
abbrev pub fits_op : Op → Bool
fits_op o = fit_attrs o.info.attrs o.row.attrs

-- each row has the attributes of its item
abbrev pub are_fitting : TablesView → Bool
are_fitting tables = list_all fits_resource tables.resources && list_all fits_op tables.ops

-- ---- the line

-- the tables after a line, where each new item has statistics and each row then has the attributes of its item
abbrev pub fitting : Option TablesView → Result TablesView Fault
fitting (Some tables) = if are_fitting tables then Ok tables else Err Misfit
fitting None = Err Misfit

-- what a line makes of tables: the checks in their order, and then the tables after it
unfoldable pub line_applied : TablesView → LineView → Result TablesView Fault
line_applied old l =
    if repeats_id old l then Err Repeated else
    (if has_strange_id old l then Err UnknownId else
    fitting (tables_after old l))

-- ---- histograms of poll times

-- the id of a new task
abbrev pub new_id : TaskInfo → ℕ
new_id info = info.id

-- the line tells the histogram of a task twice, or that of one that is gone
abbrev pub repeats_times : LineView → Bool
repeats_times l = has_twice (map times_id (times_of l)) || list_any (is_among (map times_id (times_of l))) (gone_of l).tasks

-- a task is neither there nor new
abbrev pub is_strange_task : TablesView → List TaskInfo → ℕ → Bool
is_strange_task old infos id = not (has_id task_id id old.tasks || is_among (map new_id infos) id)

-- the line tells a histogram of a task that is neither there nor new
abbrev pub strange_times : TablesView → LineView → Bool
strange_times old l = list_any (λ t. is_strange_task old l.new_tasks (times_id t)) (times_of l)

-- what a line makes of tables, once its histograms are found to be of tasks that are then there, and of none twice
abbrev pub line_checked : TablesView → LineView → Result TablesView Fault
line_checked old l =
    if repeats_times l then Err Repeated else
    (if strange_times old l then Err UnknownId else line_applied old l)
