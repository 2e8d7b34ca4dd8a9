-- What a new item is: its info, what its owner and its inspector have seen, and what agrees in its event.
use Rattle.std.specs.Prelude.{◌≡◌, ℕ, List, [], ◌∷◌, map, Bool, true, false, Option, Some, None, if◌then◌else◌, ⊤}
use Rattle.tk_ids.specs.declared.attr.AttrInfo.{AttrInfo}
use Rattle.tk_ids.specs.declared.attr.AttrSpec.{AttrSpec}
use Rattle.tk_ids.specs.declared.attr.AttrValue.{AttrValue}
use Rattle.tk_ids.specs.declared.info.OpInfo.{OpInfo}
use Rattle.tk_ids.specs.declared.info.ResourceInfo.{ResourceInfo}
use Rattle.tk_ids.specs.declared.info.TaskInfo.{TaskInfo}
use Rattle.tk_ids.specs.declared.spec.OpSpec.{OpSpec}
use Rattle.tk_ids.specs.declared.spec.ResourceSpec.{ResourceSpec}
use Rattle.tk_ids.specs.declared.spec.TaskSpec.{TaskSpec}
use Rattle.tk_ids.specs.Attributes.{kind_of, HaveKinds}
use Rattle.tk_core.specs.declared.op.call.OpCall.TheVariants as op_calls
use Rattle.tk_core.specs.declared.op.row.OpRow.{OpRow}
use Rattle.tk_core.specs.declared.reply.Reply.{Reply}
use Rattle.tk_core.specs.declared.reply.Reply.TheVariants.{Number}
use Rattle.tk_core.specs.declared.resource.call.ResourceCall.TheVariants as resource_calls
use Rattle.tk_core.specs.declared.resource.row.ResourceRow.{ResourceRow}
use Rattle.tk_core.specs.declared.task.call.TaskCall.TheVariants as task_calls
use Rattle.tk_core.specs.declared.task.row.TaskRow.{TaskRow}
use Rattle.tk_core.specs.declared.times.call.TimesCall.TheVariants.{Enlist}
use Rattle.tk_core.specs.Task.{counting_row, opening_row as plain_row}
use Rattle.tk_core.specs.Times.{opening_row}
use Rattle.tk_cell.specs.declared.view.View.{View}
use Rattle.tk_cell.specs.Calls.{entry}
use Rattle.tk_ledgers.specs.Handles.{KnownTimes}
use Rattle.tk_events.specs.declared.event.Event.{Event}
use Rattle.tk_events.specs.declared.event.Event.TheVariants.{Task, Resource, Op, Poll}

-- what stays of an attribute that is declared so
abbrev pub info_of : AttrSpec → AttrInfo
info_of attr = record { name = attr.name; unit = attr.unit; kind = kind_of attr.first }

-- what stays of the attributes that are declared so
abbrev pub infos_of : List AttrSpec → List AttrInfo
infos_of attrs = map info_of attrs

-- the values that attributes have first
abbrev pub first_values : List AttrSpec → List AttrValue
first_values attrs = map (λ (attr : AttrSpec). attr.first) attrs

-- the info of a task with this id
abbrev pub task_info : ℕ → TaskSpec → TaskInfo
task_info id spec = record { id = id; kind = spec.kind; name = spec.name; location = spec.location }

-- the info of a resource with this id
abbrev pub resource_info : ℕ → ResourceSpec → ResourceInfo
resource_info id spec = record { id = id; parent = spec.parent; concrete = spec.concrete; kind = spec.kind; location = spec.location; attrs = infos_of spec.attrs }

-- the info of an operation with this id
abbrev pub op_info : ℕ → OpSpec → OpInfo
op_info id spec = record { id = id; source = spec.source; resource = spec.resource; parent = spec.parent; attrs = infos_of spec.attrs }

module _ {Row C : Type 0} where
  -- what the owner of a new ledger knows, whose list is one `Enlist` that was answered 1
  abbrev pub owner_view : C → Row → View Row C (Reply Row)
  owner_view enlist row = record { caller = 0; seen = entry 0 enlist (Number 1) ∷ []; held = 0 ∷ []; opening = Some row }

  -- what the inspector knows that this `Enlist` made: it is caller 1
  abbrev pub inspector_view : C → Row → View Row C (Reply Row)
  inspector_view enlist row = record { caller = 1; seen = entry 0 enlist (Number 1) ∷ []; held = 1 ∷ []; opening = Some row }

-- the row of a new task, where its waits are counted, and where they aren't
abbrev pub opening_as : Bool → ℕ → TaskRow
opening_as waits created = if waits then counting_row created else plain_row created

-- the histogram of a new task, as its owner knows it: no time was added, and one inspector drawn
abbrev pub HasNewTimes : Option KnownTimes → Type 0
HasNewTimes times = (t : KnownTimes) × (times ≡ Some t) × (t.view ≡ owner_view Enlist opening_row)

-- the histogram of a new task, where it has one
abbrev pub HasTimesAs : Bool → Option KnownTimes → Type 0
HasTimesAs true times = HasNewTimes times
HasTimesAs false times = times ≡ None

-- and as that inspector knows it, which is of the same ledger
abbrev pub InspectsNewTimes : Option KnownTimes → Option KnownTimes → Type 0
InspectsNewTimes owned times = (mine : KnownTimes) × (theirs : KnownTimes) × (owned ≡ Some mine) × (times ≡ Some theirs) × (theirs.ledger ≡ mine.ledger) × (theirs.view ≡ inspector_view Enlist opening_row)

-- info and ledger agree in the id, and in number and kinds of the attributes that the ledger began with; and the inspector has made no
-- call: it was drawn by the first one of the owner
abbrev pub Agrees : Event → Type 0
Agrees (Task info inspector) = (inspector.id ≡ info.id) × ((row : TaskRow) × (inspector.token.view ≡ inspector_view task_calls.Enlist row))
Agrees (Resource info inspector) = (inspector.id ≡ info.id) × ((row : ResourceRow) × (inspector.token.view ≡ inspector_view resource_calls.Enlist row) × HaveKinds info.attrs row.attrs)
Agrees (Op info inspector) = (inspector.id ≡ info.id) × ((row : OpRow) × (inspector.token.view ≡ inspector_view op_calls.Enlist row) × HaveKinds info.attrs row.attrs)
Agrees (Poll op) = ⊤
