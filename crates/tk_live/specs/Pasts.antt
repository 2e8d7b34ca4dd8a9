-- What a script's text calls on each of its items, and the row that an item has by that.
use Rattle.std.specs.Prelude.{◌≡◌, ℕ, ◌+◌, ◌*◌, List, [], ◌∷◌, ◌++◌, map, Bool, true, false, if◌then◌else◌, Option, Some, None, is_some, option_and_then}
use Rattle.std.specs.List.{flat_map, range_with_len}
use Rattle.std.specs.Option.{option_map_or}
use Rattle.tk_ids.specs.Ids.{id_of}
use Rattle.tk_ids.specs.declared.attr.AttrSpec.{AttrSpec}
use Rattle.tk_ids.specs.declared.attr.AttrValue.{AttrValue}
use Rattle.tk_core.specs.declared.op.call.OpCall.{OpCall}
use Rattle.tk_core.specs.declared.op.call.OpCall.TheVariants as op_calls
use Rattle.tk_core.specs.declared.op.row.OpRow.{OpRow}
use Rattle.tk_core.specs.declared.resource.call.ResourceCall.{ResourceCall}
use Rattle.tk_core.specs.declared.resource.call.ResourceCall.TheVariants as resource_calls
use Rattle.tk_core.specs.declared.resource.row.ResourceRow.{ResourceRow}
use Rattle.tk_core.specs.declared.task.call.TaskCall.{TaskCall}
use Rattle.tk_core.specs.declared.task.call.TaskCall.TheVariants.{Enlist, PollStart, PollEnd, Close, CloneWaker, WakeRef, WakeVal, Release}
use Rattle.tk_core.specs.declared.task.row.TaskRow.{TaskRow}
use Rattle.tk_core.specs.Attributes.{values_from}
use Rattle.tk_core.specs.Lists.{last_of}
use Rattle.tk_core.specs.Polls.{is_polling}
use Rattle.tk_core.specs.Op as op_rules
use Rattle.tk_core.specs.Resource as resource_rules
use Rattle.tk_core.specs.Task as task_rules
use Rattle.tk_core.specs.OpMeaning.{op_meaning}
use Rattle.tk_core.specs.ResourceMeaning.{resource_meaning}
use Rattle.tk_core.specs.TaskMeaning.{task_meaning}
use Rattle.tk_cell.specs.Ours.{Interleaves}
use Rattle.tk_events.specs.Items.{first_values, opening_as}
use Rattle.tk_script.specs.Commands.{Said, task, start, finish, polls, close, self_wake, clone, again, wake_ref, wake, release, resource, close_resource, change_resource, op, op_task, start_op, finish_op, close_op, change_op}
use Rattle.tk_live.specs.Named.{made_item, live_item, with_item}

-- ---- the calls on one item

-- a call; or what a block of threads called: the calls of each waker that its lines name, each list in its order
pub data Piece (C : Type 0) : Type 0 where
  one : C → Piece C
  beside : List (List C) → Piece C

-- calls that were made beside one another: those of each list in their order, and otherwise in any
abbrev pub AreBeside : {C : Type 0} → List (List C) → List C → Type 0
AreBeside [] calls = calls ≡ []
AreBeside {C = C} (xs ∷ lists) calls = (rest : List C) × Interleaves xs rest calls × AreBeside lists rest

-- calls in an order that pieces allow: one after the other, and those of a block beside one another
abbrev pub InOrder : {C : Type 0} → List (Piece C) → List C → Type 0
InOrder [] calls = calls ≡ []
InOrder {C = C} (one c ∷ pieces) calls = (rest : List C) × (calls ≡ c ∷ rest) × InOrder pieces rest
InOrder {C = C} (beside lists ∷ pieces) calls = (these rest : List C) × (calls ≡ these ++ rest) × AreBeside lists these × InOrder pieces rest

-- the calls outside blocks
abbrev pub outside_blocks : {C : Type 0} → List (Piece C) → List C
outside_blocks [] = []
outside_blocks (one c ∷ pieces) = c ∷ outside_blocks pieces
outside_blocks (beside lists ∷ pieces) = outside_blocks pieces

-- an item of a script: the row that its command opens it with, and what the text calls on it from then on, by whatever handle
pub record Past (Row C : Type 0) : Type 0 where
  pub opening : Row
  pub called : List C

-- a task, a resource and an async operation. Only tasks are called in blocks
abbrev pub TaskPast : Type 0
TaskPast = Past TaskRow (Piece TaskCall)

abbrev pub ResourcePast : Type 0
ResourcePast = Past ResourceRow ResourceCall

abbrev pub OpPast : Type 0
OpPast = Past OpRow OpCall

-- an item with these calls more
abbrev pub and_called : {Row C : Type 0} → List C → Past Row C → Past Row C
and_called calls p = record p { called = p.called ++ calls }

-- a row is that of a task: the row after its calls, in an order that they allow. Without blocks there is one order
abbrev pub IsTaskRow : TaskPast → TaskRow → Type 0
IsTaskRow p row = (calls : List TaskCall) × InOrder p.called calls × (row ≡ task_meaning.row_after p.opening calls)

-- a row is that of a resource, and of an async operation: the row after its calls
abbrev pub IsResourceRow : ResourcePast → ResourceRow → Type 0
IsResourceRow p row = row ≡ resource_meaning.row_after p.opening p.called

abbrev pub IsOpRow : OpPast → OpRow → Type 0
IsOpRow p row = row ≡ op_meaning.row_after p.opening p.called

-- ---- what state an item is in. Blocks neither poll nor close

-- a poll of a task is open, and a task is closed
abbrev pub is_polled : TaskPast → Bool
is_polled p = is_polling task_rules.start_at task_rules.end_at (outside_blocks p.called)

abbrev pub is_closed : TaskPast → Bool
is_closed p = is_some (last_of task_rules.close_at (outside_blocks p.called))

-- a resource is closed
abbrev pub is_closed_resource : ResourcePast → Bool
is_closed_resource p = is_some (last_of resource_rules.close_at p.called)

-- a poll of an async operation is open, and an async operation is closed
abbrev pub is_polled_op : OpPast → Bool
is_polled_op p = is_polling op_rules.start_at op_rules.end_at p.called

abbrev pub is_closed_op : OpPast → Bool
is_closed_op p = is_some (last_of op_rules.close_at p.called)

-- the values of a resource's attributes, and those of an async operation's: of each the last value that a change set, or the first one,
-- with what was added to it since and without what was taken away
abbrev pub resource_values : ResourcePast → List AttrValue
resource_values p = values_from resource_rules.change_of 0 p.opening.attrs p.called

abbrev pub op_values : OpPast → List AttrValue
op_values p = values_from op_rules.change_of 0 p.opening.attrs p.called

-- ---- the calls on all items of a script

-- the items of a script, each at its number; and of each waker its task's number, while it isn't spent
pub record Pasts : Type 0 where
  pub tasks : List TaskPast
  pub wakers : List (Option ℕ)
  pub resources : List ResourcePast
  pub ops : List OpPast

-- before any command nothing was made
abbrev pub no_pasts : Pasts
no_pasts = record { tasks = []; wakers = []; resources = []; ops = [] }

-- what is there unless it is closed
abbrev pub unless_closed : {X : Type 0} → (X → Bool) → Option X → Option X
unless_closed closed o = option_and_then (λ x. if closed x then None else Some x) o

-- the task, the resource and the operation of a number, if it was made and isn't closed
abbrev pub open_task : ℕ → Pasts → Option TaskPast
open_task n ps = unless_closed is_closed (made_item n ps.tasks)

abbrev pub open_resource : ℕ → Pasts → Option ResourcePast
open_resource n ps = unless_closed is_closed_resource (made_item n ps.resources)

abbrev pub open_op : ℕ → Pasts → Option OpPast
open_op n ps = unless_closed is_closed_op (made_item n ps.ops)

-- items with these calls more on the one of a number
abbrev pub called_at : {Row C : Type 0} → ℕ → List C → List (Past Row C) → List (Past Row C)
called_at n calls ps = option_map_or (λ p. with_item n (and_called calls p) ps) (made_item n ps) ps

abbrev pub task_called : ℕ → List TaskCall → Pasts → Pasts
task_called n calls ps = record ps { tasks = called_at n (map one calls) ps.tasks }

abbrev pub resource_called : ℕ → ResourceCall → Pasts → Pasts
resource_called n call ps = record ps { resources = called_at n (call ∷ []) ps.resources }

abbrev pub op_called : ℕ → OpCall → Pasts → Pasts
op_called n call ps = record ps { ops = called_at n (call ∷ []) ps.ops }

-- a waker that isn't spent calls on its task
abbrev pub waker_called : ℕ → TaskCall → Pasts → Pasts
waker_called w call ps = option_map_or (λ n. task_called n (call ∷ []) ps) (live_item w ps.wakers) ps

-- and that was its last call
abbrev pub waker_spent : ℕ → TaskCall → Pasts → Pasts
waker_spent w call ps = record (waker_called w call ps) { wakers = with_item w None ps.wakers }

-- a waker more is drawn of a task, by its owner or by another waker
abbrev pub waker_drawn : ℕ → Pasts → Pasts
waker_drawn n ps = record (task_called n (CloneWaker ∷ []) ps) { wakers = ps.wakers ++ Some n ∷ [] }

-- a new task and a new operation have drawn an inspector; a new resource that and a user. The waits of a task are counted or not
abbrev pub new_task : Bool → ℕ → TaskPast
new_task counting created = record { opening = opening_as counting created; called = one Enlist ∷ [] }

abbrev pub new_resource : ℕ → List AttrSpec → ResourcePast
new_resource created attrs = record { opening = resource_rules.opening_row created (first_values attrs); called = resource_calls.Enlist ∷ resource_calls.Enlist ∷ [] }

abbrev pub new_op : ℕ → List AttrSpec → OpPast
new_op created attrs = record { opening = op_rules.opening_row created (first_values attrs); called = op_calls.Enlist ∷ [] }

-- the calls of so many polls: the i-th starts `i * every` after the moment, from 0 on, and ends when it has run for `run`
abbrev pub polls_of : ℕ → ℕ → ℕ → ℕ → List TaskCall
polls_of count moment run every = flat_map (λ i. PollStart (moment + i * every) ∷ PollEnd ((moment + i * every) + run) ∷ []) (range_with_len 0 count)

-- what one command more makes of the items, where waits of new tasks are counted or not. The last calls of owners and of wakers are calls like others
abbrev pub called_by : Bool → Pasts → Said → Pasts
called_by counting ps (task created kind name) = record ps { tasks = ps.tasks ++ new_task counting created ∷ [] }
called_by counting ps (start n moment) = task_called n (PollStart moment ∷ []) ps
called_by counting ps (finish n moment) = task_called n (PollEnd moment ∷ []) ps
called_by counting ps (polls n count moment run every) = task_called n (polls_of count moment run every) ps
called_by counting ps (close n moment) = task_called n (Close moment ∷ []) ps
called_by counting ps (self_wake n moment) = task_called n (WakeRef moment true ∷ []) ps
called_by counting ps (clone n) = waker_drawn n ps
called_by counting ps (again w) = option_map_or (λ n. waker_drawn n ps) (live_item w ps.wakers) ps
called_by counting ps (wake_ref w moment) = waker_called w (WakeRef moment false) ps
called_by counting ps (wake w moment) = waker_spent w (WakeVal moment false) ps
called_by counting ps (release w) = waker_spent w Release ps
called_by counting ps (resource created kind concrete attrs) = record ps { resources = ps.resources ++ new_resource created attrs ∷ [] }
called_by counting ps (close_resource n moment) = resource_called n (resource_calls.Close moment) ps
called_by counting ps (change_resource n index change) = resource_called n (resource_calls.Attr index change) ps
called_by counting ps (op created r source attrs) = record ps { ops = ps.ops ++ new_op created attrs ∷ [] }
called_by counting ps (op_task n t) = op_called n (op_calls.SetTask (id_of 1 t)) ps
called_by counting ps (start_op n moment) = op_called n (op_calls.PollStart moment) ps
called_by counting ps (finish_op n moment) = op_called n (op_calls.PollEnd moment) ps
called_by counting ps (close_op n moment) = op_called n (op_calls.Close moment) ps
called_by counting ps (change_op n index change) = op_called n (op_calls.Attr index change) ps
called_by counting ps s = ps
