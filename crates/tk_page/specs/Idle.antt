-- What idle tasks wait for: operations that they polled, each on a resource.
use Rattle.std.specs.Prelude.{ℕ, ◌-◌, ◌==◌, Bool, false, ◌&&◌, not, is_some, is_none, Option, Some, None, unwrap_or, if◌then◌else◌, List, [], ◌∷◌, ◌++◌, codes, length, take, filter, flat_map}
use Rattle.std.specs.List.{zip}
use Rattle.std.specs.Option.{option_map_or}
use Rattle.tk_core.specs.declared.op.row.OpRow.{OpRow}
use Rattle.tk_core.specs.declared.task.row.TaskRow.{TaskRow}
use Rattle.tk_ids.specs.declared.attr.AttrInfo.{AttrInfo}
use Rattle.tk_ids.specs.declared.attr.AttrValue.{AttrValue}
use Rattle.tk_stream.specs.declared.tables.op.Op.{Op}
use Rattle.tk_stream.specs.declared.tables.resource.Resource.{Resource}
use Rattle.tk_stream.specs.declared.tables.task.Task.{Task}
use Rattle.tk_stream.specs.Tables.{TablesView, resource_with, task_with}
use Rattle.tk_paper.specs.Parts.{Bit, text, span, close, class}
use Rattle.tk_paper.specs.declared.marks.Tag.TheVariants as tags
use Rattle.tk_page.specs.declared.figures.Scale.{Scale}
use Rattle.tk_page.specs.Cards.{link}
use Rattle.tk_page.specs.Places.{id, more}
use Rattle.tk_page.specs.Values.{unit, value_of}

-- ---- who waits where

-- a task is idle: it is open, no poll of it lasts, and nothing has woken it
abbrev pub is_idle : TaskRow → Bool
is_idle x = is_none x.dropped && (not x.polling && not x.scheduled)

-- an operation is pending: it is open and was polled, and no poll of it lasts
abbrev pub is_pending : OpRow → Bool
is_pending x = is_none x.dropped && (not x.polling && is_some x.first_poll)

-- a task that is idle waits in an operation: it polls it, and the operation is pending
abbrev pub is_awaited_by : Task → Op → Bool
is_awaited_by t o = is_pending o.row && option_map_or (λ n. n == t.info.id) o.row.task false

-- a task, if it is idle
abbrev pub if_idle : Option Task → Option Task
if_idle None = None
if_idle (Some t) = if is_idle t.row then Some t else None

-- the idle task that polls an operation, if there is one
abbrev pub idle_task : List Task → Option ℕ → Option Task
idle_task tasks None = None
idle_task tasks (Some n) = if_idle (task_with n tasks)

-- the idle task that waits in an operation, if one does
abbrev pub waiter_of : List Task → Op → Option Task
waiter_of tasks o = if is_pending o.row then idle_task tasks o.row.task else None

-- an idle task waits for a resource in this operation
abbrev pub waits_at : List Task → Resource → Op → Bool
waits_at tasks r o = (o.info.resource == r.info.id) && is_some (waiter_of tasks o)

-- since when: since the operation was first polled
abbrev pub since_of : OpRow → ℕ
since_of x = unwrap_or x.first_poll x.created

-- ---- how it is said

-- an attribute with its value, after a comma
abbrev pub short_attr : AttrInfo × AttrValue → List Bit
short_attr (info, is) = text (codes ", ") ∷ text info.name ∷ text (codes " ") ∷ [] ++ (value_of is ++ unit info.unit)

abbrev pub short_attrs : List AttrInfo → List AttrValue → List Bit
short_attrs infos values = flat_map short_attr (zip infos values)

-- in which operation: by its source, with its attributes
abbrev pub in_op : Op → List Bit
in_op o = text (codes "in ") ∷ text o.info.source ∷ [] ++ short_attrs o.info.attrs o.row.attrs

-- a resource, with its attributes
abbrev pub used : Resource → List Bit
used r = text (32 ∷ 194 ∷ 183 ∷ 32 ∷ []) ∷ text r.info.concrete ∷ text (codes " ") ∷ [] ++ (id r.info.id ++ short_attrs r.info.attrs r.row.attrs)

-- since when, from the page's left
abbrev pub since : Scale → OpRow → List Bit
since scale x = text (32 ∷ 194 ∷ 183 ∷ codes " since ") ∷ span (since_of x - scale.start) ∷ close tags.Div ∷ []

-- in which operation a task waits, and of which resource
abbrev pub awaited_op : Scale → TablesView → Op → List Bit
awaited_op scale tables o =
    class tags.Div (codes "in") ∷ [] ++ (in_op o ++ (option_map_or used (resource_with o.info.resource tables.resources) [] ++ since scale o.row))

-- so much of a list, and how many items more there are: the first 5
abbrev pub some_of : (Op → List Bit) → List Op → List Bit
some_of line ops = flat_map line (take 5 ops) ++ more (length ops) 5 (codes " more")

-- what a task waits for, if it is idle, in the order of the table
abbrev pub awaited : Scale → TablesView → Task → List Bit
awaited scale tables t = if is_idle t.row then some_of (awaited_op scale tables) (filter (is_awaited_by t) tables.ops) else []

-- a task that waits in an operation
abbrev pub waiter_line : Scale → Op → Task → List Bit
waiter_line scale o t = class tags.Div (codes "in") ∷ [] ++ (link t ++ (text (codes " waits ") ∷ [] ++ (in_op o ++ since scale o.row)))

-- the same, if one does
abbrev pub waiter : Scale → List Task → Op → List Bit
waiter scale tasks o = option_map_or (waiter_line scale o) (waiter_of tasks o) []

-- who waits for a resource, in the order of the operations
abbrev pub waiters : Scale → TablesView → Resource → List Bit
waiters scale tables r = some_of (waiter scale tables.tasks) (filter (waits_at tables.tasks r) tables.ops)
