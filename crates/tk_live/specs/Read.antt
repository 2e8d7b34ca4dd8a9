-- What readings before a line leave. Inner: no public clause cites it.
use Rattle.std.specs.Prelude.{◌≡◌, ℕ, List, map, length, take, slice_get, Option, Some, None, All}
use Rattle.std.specs.List.{AllByRecursion}
use Rattle.tk_ids.specs.Ids.{id_of}
use Rattle.tk_events.specs.Buffer.{IsNamed}
use Rattle.tk_events.specs.Handles.{Recording, Taking, dropped_by}
use Rattle.tk_events.specs.Offers.{by}
use Rattle.tk_events.specs.declared.event.Event.{Event}
use Rattle.tk_ledgers.specs.Ops.{OpSight}
use Rattle.tk_ledgers.specs.Resources.{ResourceSight}
use Rattle.tk_ledgers.specs.Tasks.{TaskSight}
use Rattle.tk_ledgers.specs.Times.{TimesSight, added_times}
use Rattle.tk_stream.specs.Lines.{task_info, resource_info, op_info}
use Rattle.tk_stream.specs.Tables.{task_id, resource_id, op_id}
use Rattle.tk_stream.specs.Times.{TaskTimes, times_id}
use Rattle.tk_aggregator.specs.Aggregates.{Aggregating, Gathers, TellsTotals, ReadsHistogramBeside, dropped_in}
use Rattle.tk_aggregator.specs.Timing.{StaysOwner, times_of}
use Rattle.tk_live.specs.Items.{EachFrom, Holds, IsTask, IsResource, IsOp, IsSameTask, IsSameResource, IsSameOp}
use Rattle.tk_live.specs.Named.{made_item}
use Rattle.tk_live.specs.Pasts.{TaskPast, ResourcePast, OpPast, Pasts, IsTaskRow, IsResourceRow, IsOpRow}
use Rattle.tk_live.specs.Runs.{IsTaskLedger, IsTimesLedger, IsResourceLedger, IsOpLedger}
use Rattle.tk_live.specs.declared.interpreter.Interpreter.{Interpreter}
use Rattle.tk_live.specs.declared.items.OpItem.{OpItem}
use Rattle.tk_live.specs.declared.items.ResourceItem.{ResourceItem}
use Rattle.tk_live.specs.declared.items.TaskItem.{TaskItem}

-- all was taken in that the recorder had kept, and the totals are those of what it dropped, if it is the console's only one
pub record CollectsAll (r : Recording) (old : Aggregating) (before : Taking) (new : Aggregating) (after : Taking) : Type 0 where
  pub taken : List Event
  pub gathered : Aggregating
  pub taker : Taking
  pub gathers : Gathers old before taken gathered taker
  pub all : by r.number after.taken ≡ r.kept
  pub named : All (IsNamed after.recorders) after.taken
  pub none_held : new.held ≡ None
  pub totals : TellsTotals taker after
  pub exact : before.recorders ≡ 1 → after.last ≡ dropped_by r
  pub now : new ≡ record gathered { tables = record gathered.tables { dropped = dropped_in after.last } }

-- what each number names is the same item, now or later
abbrev pub AreSame : {X : Type 0} → (X → X → Type 0) → List X → List X → Type 0
AreSame {X} R old new = (n : ℕ) (x : X) → made_item n old ≡ Some x → (y : X) × (made_item n new ≡ Some y) × R x y

-- at a place of a table stands the item of this number
abbrev pub HasNumber : {T : Type 0} → (T → ℕ) → List T → ℕ → ℕ → Type 0
HasNumber {T} id ts i n = (t : T) × (slice_get ts i ≡ Some t) × (id t ≡ id_of 1 n)

module _ {T P : Type 0} (id : T → ℕ) (HasRow : P → T → Type 0) where
  -- an item of a table has the row of what was called on the one of its number
  abbrev pub IsRead : List P → T → Type 0
  IsRead ps t = (n : ℕ) (p : P) → id t ≡ id_of 1 n → made_item n ps ≡ Some p → HasRow p t

  -- so have the first so many items of a table
  abbrev pub AreReadTo : ℕ → List P → List T → Type 0
  AreReadTo count ps ts = AllByRecursion (IsRead ps) (take count ts)

-- the first so many tasks of the aggregator were read, each beside its hand: it has the same tasks, and who reads them, and the script's tasks
-- are the same, of which the hands made the same calls
pub record AreTasksRead (count : ℕ) (a : Aggregating) (tasks : List TaskItem) (b : Aggregating) (new : List TaskItem) : Type 0 where
  pub same : AreSame IsSameTask tasks new
  pub many : length new ≡ length tasks
  pub hands : (ps : List TaskPast) → EachFrom IsTask 1 ps tasks → EachFrom IsTask 1 ps new
  pub rows : (ps : List TaskPast) → EachFrom IsTask 1 ps tasks → AreReadTo task_id (λ p t. IsTaskRow p t.row) count ps b.tables.tasks
  pub infos : map task_info b.tables.tasks ≡ map task_info a.tables.tasks
  pub readers : AllByRecursion (λ (s : TaskSight). IsTaskLedger new s.id s.token.ledger) b.tasks
  pub rest : b ≡ record a { tables = record a.tables { tasks = b.tables.tasks }; tasks = b.tasks }

-- the first so many resources of the aggregator were read, each beside its hand: it has the same resources, and who reads them, and the script's
-- resources are the same, of which the hands made the same calls
pub record AreResourcesRead (count : ℕ) (a : Aggregating) (resources : List ResourceItem) (b : Aggregating) (new : List ResourceItem) : Type 0 where
  pub same : AreSame IsSameResource resources new
  pub many : length new ≡ length resources
  pub hands : (ps : List ResourcePast) → EachFrom IsResource 1 ps resources → EachFrom IsResource 1 ps new
  pub rows : (ps : List ResourcePast) → EachFrom IsResource 1 ps resources → AreReadTo resource_id (λ p r. IsResourceRow p r.row) count ps b.tables.resources
  pub infos : map resource_info b.tables.resources ≡ map resource_info a.tables.resources
  pub readers : AllByRecursion (λ (s : ResourceSight). IsResourceLedger new s.id s.token.ledger) b.resources
  pub rest : b ≡ record a { tables = record a.tables { resources = b.tables.resources }; resources = b.resources }

-- the first so many async operations of the aggregator were read, each beside its hand: it has the same operations, and who reads them, and the
-- script's operations are the same, of which the hands made the same calls
pub record AreOpsRead (count : ℕ) (a : Aggregating) (ops : List OpItem) (b : Aggregating) (new : List OpItem) : Type 0 where
  pub same : AreSame IsSameOp ops new
  pub many : length new ≡ length ops
  pub hands : (ps : List OpPast) → EachFrom IsOp 1 ps ops → EachFrom IsOp 1 ps new
  pub rows : (ps : List OpPast) → EachFrom IsOp 1 ps ops → AreReadTo op_id (λ p o. IsOpRow p o.row) count ps b.tables.ops
  pub infos : map op_info b.tables.ops ≡ map op_info a.tables.ops
  pub readers : AllByRecursion (λ (s : OpSight). IsOpLedger new s.id s.token.ledger) b.ops
  pub rest : b ≡ record a { tables = record a.tables { ops = b.tables.ops }; ops = b.ops }

-- a histogram was read beside its owner, if there is one
abbrev pub ReadsOwned : Option TimesSight → Aggregating → Aggregating → Option TimesSight → Type 0
ReadsOwned None a b new = (b ≡ a) × (new ≡ None)
ReadsOwned (Some owner) a b new = (owner_then : TimesSight) × ReadsHistogramBeside owner a b × (new ≡ Some owner_then) × StaysOwner owner owner_then

-- a histogram is that of the times that were added to a task's, if it has one
abbrev pub ShowsAdded : TaskItem → TaskTimes → Type 0
ShowsAdded x t = (o : TimesSight) → x.times ≡ Some o → t.1 ≡ times_of (added_times o.token)

-- the first so many histograms of the aggregator were read, each beside its owner: it has those of the same tasks, and who reads them, and the
-- script's tasks are the same, of which the hands made the same calls
pub record AreTimesRead (count : ℕ) (a : Aggregating) (tasks : List TaskItem) (b : Aggregating) (new : List TaskItem) : Type 0 where
  pub same : AreSame IsSameTask tasks new
  pub many : length new ≡ length tasks
  pub hands : (ps : List TaskPast) → EachFrom IsTask 1 ps tasks → EachFrom IsTask 1 ps new
  pub rows : AreReadTo times_id ShowsAdded count tasks b.timing.shown
  pub ids : map times_id b.timing.shown ≡ map times_id a.timing.shown
  pub readers : AllByRecursion (λ (s : TimesSight). IsTimesLedger new s.id s.token.ledger) b.timing.readers
  pub rest : b ≡ record a { timing = record a.timing { shown = b.timing.shown; readers = b.timing.readers } }

-- each item may be read beside its hand: it is kept of the number that it has, and the aggregator's readers are of such items
pub record MayRead (i : Interpreter) : Type 0 where
  pub pasts : Pasts
  pub holds : Holds i.tasks.items i.wakers.items i.resources.items i.ops.items pasts
  pub tasks : AllByRecursion (λ (s : TaskSight). IsTaskLedger i.tasks.items s.id s.token.ledger) i.aggregator.tasks
  pub resources : AllByRecursion (λ (s : ResourceSight). IsResourceLedger i.resources.items s.id s.token.ledger) i.aggregator.resources
  pub ops : AllByRecursion (λ (s : OpSight). IsOpLedger i.ops.items s.id s.token.ledger) i.aggregator.ops
  pub times : AllByRecursion (λ (s : TimesSight). IsTimesLedger i.tasks.items s.id s.token.ledger) i.aggregator.timing.readers

-- all items of the aggregator were read, one kind after the other, and then its histograms
pub record AreItemsRead (old new : Interpreter) : Type 0 where
  pub tasks_then : Aggregating
  pub resources_then : Aggregating
  pub ops_then : Aggregating
  pub items_then : List TaskItem
  pub tasks : AreTasksRead (length old.aggregator.tables.tasks) old.aggregator old.tasks.items tasks_then items_then
  pub resources : AreResourcesRead (length tasks_then.tables.resources) tasks_then old.resources.items resources_then new.resources.items
  pub ops : AreOpsRead (length resources_then.tables.ops) resources_then old.ops.items ops_then new.ops.items
  pub times : AreTimesRead (length ops_then.timing.shown) ops_then items_then new.aggregator new.tasks.items
  pub rest : new ≡ record old { aggregator = new.aggregator; tasks = new.tasks; resources = new.resources; ops = new.ops }
