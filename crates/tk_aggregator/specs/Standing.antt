-- What an aggregator keeps true inside. No public clause cites this.
use Rattle.std.specs.Prelude.{◌≡◌, ℕ, ◌^◌, ◌≤◌, List, length, Option, Some, IfSome, IsSome}
use Rattle.std.specs.List.{AllByRecursion}
use Rattle.tk_core.specs.declared.op.row.OpRow.{OpRow}
use Rattle.tk_core.specs.declared.resource.row.ResourceRow.{ResourceRow}
use Rattle.tk_events.specs.declared.event.Event.{Event}
use Rattle.tk_events.specs.Items.{Agrees}
use Rattle.tk_ids.specs.Attributes.{HaveKinds}
use Rattle.tk_ledgers.specs.Ops.{OpSight}
use Rattle.tk_ledgers.specs.Resources.{ResourceSight}
use Rattle.tk_ledgers.specs.Tasks.{TaskSight}
use Rattle.tk_stream.specs.declared.tables.op.Op.{Op}
use Rattle.tk_stream.specs.declared.tables.resource.Resource.{Resource}
use Rattle.tk_stream.specs.declared.tables.task.Task.{Task}
use Rattle.tk_aggregator.specs.Aggregates.{Pairs, ReadTask, ReadResource, ReadOp}
use Rattle.tk_stream.specs.Fronts.{Telling, ToldView, as_told, with_rows, told_tables, FitsIn, HaveRoom}
use Rattle.tk_stream.specs.Tables.{TablesView, empty_tables, task_with}
use Rattle.tk_stream.specs.Times.{TaskTimes}
use Rattle.tk_aggregator.specs.Timing.{TimingView, ReadTimes}

-- a handle may read for a task: it is of the task
abbrev pub TaskFits : Task → TaskSight → Type 0
TaskFits t s = s.id ≡ t.info.id

-- for a resource: it is of the resource, and its ledger began with values of the resource's attributes
abbrev pub ResourceFits : Resource → ResourceSight → Type 0
ResourceFits r s = (s.id ≡ r.info.id) × ((row : ResourceRow) × (s.token.view.opening ≡ Some row) × HaveKinds r.info.attrs row.attrs)

-- for an async operation
abbrev pub OpFits : Op → OpSight → Type 0
OpFits o s = (s.id ≡ o.info.id) × ((row : OpRow) × (s.token.view.opening ≡ Some row) × HaveKinds o.info.attrs row.attrs)

-- items as they were told
abbrev pub told_list : {Item Row : Type 0} → (Item → Row → Item) → List Item → Telling Row → List Item
told_list with_row items telling = with_rows (as_told with_row) items telling.rows

-- the same was told of items that have other rows now, and the room is the same
pub record TellsSame {Item Row : Type 0} (with_row : Item → Row → Item) (items : List Item) (telling : Telling Row) (now : List Item) (tells : Telling Row) : Type 0 where
  pub same : told_list with_row now tells ≡ told_list with_row items telling
  pub count : length tells.rows ≡ length telling.rows
  pub room : tells.room ≡ telling.room

-- what holds inside
pub record IsStanding (shown : TablesView) (telling : ToldView) (task_handles : List TaskSight) (resource_handles : List ResourceSight) (op_handles : List OpSight) (event : Option Event) (last : ℕ) : Type 0 where
  pub tasks : Pairs ReadTask shown.tasks task_handles
  pub resources : Pairs ReadResource shown.resources resource_handles
  pub ops : Pairs ReadOp shown.ops op_handles
  pub resources_fit : Pairs ResourceFits shown.resources resource_handles
  pub ops_fit : Pairs OpFits shown.ops op_handles
  pub fits : FitsIn telling shown
  pub room : HaveRoom telling shown
  pub held : IfSome event Agrees
  pub first : last ≡ 0 → told_tables telling shown ≡ empty_tables
  pub numbered : last ≤ 2 ^ 63

-- what holds inside of histograms: each is what its reader read last, and of one of these tasks
pub record TimesStand (tasks : List Task) (t : TimingView) : Type 0 where
  pub pairs : Pairs ReadTimes t.shown t.readers
  pub known : AllByRecursion (λ (x : TaskTimes). IsSome (task_with x.0 tasks)) t.shown
