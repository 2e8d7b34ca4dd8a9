-- Why a command stops a script.
use Rattle.std.specs.Prelude.{◌≡◌, ℕ, ◌+◌, ◌^◌, ◌⊎◌, ◌==◌, ◌||◌, ◌<◌, List, [], ◌∷◌, ◌++◌, length, slice_get, nat_lt, nat_le, Bool, true, false, Option, Some, None, option_map, if◌then◌else◌}
use Rattle.std.specs.Option.{option_map_or}
use Rattle.tk_ids.specs.IdBlocks.{last_number}
use Rattle.tk_ids.specs.declared.attr.AttrValue.{AttrValue}
use Rattle.tk_core.specs.Attributes.{refused_by}
use Rattle.tk_core.specs.declared.attrs.AttrOp.{AttrOp}
use Rattle.tk_core.specs.declared.history.Entry.{Entry}
use Rattle.tk_core.specs.declared.reply.Refusal.{Refusal}
use Rattle.tk_core.specs.declared.reply.Refusal.TheVariants.{AlreadyPolling, Closed, HandlesSpent, NotPolling}
use Rattle.tk_core.specs.declared.reply.Reply.{Reply}
use Rattle.tk_core.specs.declared.reply.Reply.TheVariants.{Refused}
use Rattle.tk_core.specs.declared.task.call.TaskCall.TheVariants.{CloneWaker}
use Rattle.tk_core.specs.declared.resource.call.ResourceCall.TheVariants as resource_calls
use Rattle.tk_core.specs.Legal.{IsLegal}
use Rattle.tk_core.specs.Meaning.{Meaning}
use Rattle.tk_core.specs.ResourceMeaning.{resource_meaning}
use Rattle.tk_core.specs.TaskMeaning.{task_meaning}
use Rattle.tk_cell.specs.Calls.{entry}
use Rattle.tk_live.specs.Blocks.{Block, is_named, spends, lines_of_worker, lines_of_other}
use Rattle.tk_script.specs.Commands.{Said, Line, skipped, bad, says, opens, joins, works, task, start, finish, polls, close, self_wake, clone, again, wake_ref, wake, release, resource, close_resource, change_resource, op, op_task, start_op, finish_op, close_op, change_op, poll_op, capacity, retention, times, waits, publish, polls_in}
use Rattle.tk_live.specs.Course.{Course, line_after}
use Rattle.tk_live.specs.Named.{made_item, live_item}
use Rattle.tk_live.specs.Pasts.{Past, TaskPast, ResourcePast, OpPast, Pasts, is_polled, is_polled_op, is_closed_resource, resource_values, op_values, open_task, open_resource, open_op, new_resource}
use Rattle.tk_script.specs.declared.stop.Stop.{Stop}
use Rattle.tk_script.specs.declared.stop.Stop.TheVariants.{BadCommand, TooManyPolls, NoSuchItem, Call, OffersSpent, Clock, NumbersSpent, Memory, WriteFault, NoThread, Stopped}
use Rattle.tk_script.specs.declared.block.WorkerLine.{WorkerLine}

-- a call that is made where no poll is open, of what is there
abbrev pub unless_polled : Option Bool → Option Stop
unless_polled None = Some NoSuchItem
unless_polled (Some true) = Some (Call AlreadyPolling)
unless_polled (Some false) = None

-- a call that is made where a poll is open
abbrev pub while_polled : Option Bool → Option Stop
while_polled None = Some NoSuchItem
while_polled (Some true) = None
while_polled (Some false) = Some (Call NotPolling)

-- what is there stops nothing, and then this may
abbrev pub if_there : {X : Type 0} → Option X → Option Stop → Option Stop
if_there None stop = Some NoSuchItem
if_there (Some x) stop = stop

-- a change of the attribute of an index, where attributes have these values: there is none of this index, it is of another kind, or its
-- number would leave the range
abbrev pub unless_refused : ℕ → AttrOp → List AttrValue → Option Stop
unless_refused index change values = option_map (λ refusal. Call refusal) (refused_by (slice_get values index) change)

-- a change by the user of a resource: the user is gone once the resource is closed
abbrev pub change_of_resource : ℕ → AttrOp → Option ResourcePast → Option Stop
change_of_resource index change None = Some NoSuchItem
change_of_resource index change (Some p) = if is_closed_resource p then Some (Call Closed) else unless_refused index change (resource_values p)

-- a change by the owner of an async operation, if it is open
abbrev pub change_of_op : ℕ → AttrOp → Option OpPast → Option Stop
change_of_op index change None = Some NoSuchItem
change_of_op index change (Some p) = unless_refused index change (op_values p)

-- a recorder makes so many offers, and no more
abbrev pub offer_stop : Course → Option Stop
offer_stop c = if length c.told == last_number then Some OffersSpent else None

-- the stop that the text tells of a command, if it tells one
abbrev pub stop_by_text : Course → Said → Option Stop
stop_by_text c (task at kind name) = offer_stop c
stop_by_text c (start n moment) = unless_polled (option_map is_polled (open_task n c.pasts))
stop_by_text c (finish n moment) = while_polled (option_map is_polled (open_task n c.pasts))
stop_by_text c (polls n count moment run every) = unless_polled (option_map is_polled (open_task n c.pasts))
stop_by_text c (close n moment) = unless_polled (option_map is_polled (open_task n c.pasts))
stop_by_text c (self_wake n moment) = while_polled (option_map is_polled (open_task n c.pasts))
stop_by_text c (clone n) = if_there (open_task n c.pasts) None
stop_by_text c (again w) = if_there (live_item w c.pasts.wakers) None
stop_by_text c (wake_ref w moment) = if_there (live_item w c.pasts.wakers) None
stop_by_text c (wake w moment) = if_there (live_item w c.pasts.wakers) None
stop_by_text c (release w) = if_there (live_item w c.pasts.wakers) None
stop_by_text c (resource at kind concrete attrs) = offer_stop c
stop_by_text c (close_resource n moment) = if_there (open_resource n c.pasts) None
stop_by_text c (change_resource n index change) = change_of_resource index change (made_item n c.pasts.resources)
stop_by_text c (op at r source attrs) = if_there (made_item r c.pasts.resources) (offer_stop c)
stop_by_text c (op_task n t) = if_there (made_item t c.pasts.tasks) (if_there (open_op n c.pasts) None)
stop_by_text c (start_op n moment) = unless_polled (option_map is_polled_op (open_op n c.pasts))
stop_by_text c (finish_op n moment) = while_polled (option_map is_polled_op (open_op n c.pasts))
stop_by_text c (close_op n moment) = unless_polled (option_map is_polled_op (open_op n c.pasts))
stop_by_text c (change_op n index change) = change_of_op index change (open_op n c.pasts)
stop_by_text c (poll_op r o t name ready) =
    if_there (made_item r c.pasts.resources) (if_there (made_item o c.pasts.ops) (if_there (made_item t c.pasts.tasks) (offer_stop c)))
stop_by_text c (capacity n) = if c.begun || c.capacity_said then Some BadCommand else None
stop_by_text c (retention n) = if c.begun || c.retention_said then Some BadCommand else None
stop_by_text c times = if c.begun || c.times_said then Some BadCommand else None
stop_by_text c waits = if c.begun || c.waits_said then Some BadCommand else None
stop_by_text c (publish moment whole) =
    if nat_lt moment c.now then Some Clock else
    (if nat_le (2 ^ 63) (length c.due) then Some NumbersSpent else None)

-- so many polls `polls` commands make together at most
abbrev pub most_polls : ℕ
most_polls = 100000000

-- the stop that the text tells of a command: with it there are too many polls, or what else stops it
abbrev pub command_stop : Course → Said → Option Stop
command_stop c s = if nat_lt most_polls (c.polled + polls_in s) then Some TooManyPolls else stop_by_text c s

-- a ledger's own reply to a call on an item: in some legal history, from the row that its command opens it with, the call is refused so
pub record IsReply {Row C : Type 0} (m : Meaning Row C (Reply Row)) (opening : Option Row) (call : C) (refusal : Refusal) : Type 0 where
  pub row : Row
  pub is_row : opening ≡ Some row
  pub opens : m.IsOpening row
  pub caller : ℕ
  pub history : List (Entry C (Reply Row))
  pub legal : IsLegal m row (history ++ entry caller call (Refused refusal) ∷ [])

-- the row that an item was opened with, if it is there
abbrev pub opening_of : {Row C : Type 0} → Option (Past Row C) → Option Row
opening_of item = option_map (λ p. p.opening) item

-- the task of a waker that isn't spent
abbrev pub woken_task : ℕ → Pasts → Option TaskPast
woken_task w ps = option_map_or (λ n. made_item n ps.tasks) (live_item w ps.wakers) None

-- a command that takes memory: it makes a task, a resource, an operation or a waker, records a poll, or writes a line. Where a task
-- that is named would have a number that no id has, the answer is the same
abbrev pub TakesMemory : Said → Type 0
TakesMemory (task at kind name) = Unit {0}
TakesMemory (clone n) = Unit {0}
TakesMemory (again n) = Unit {0}
TakesMemory (resource at kind concrete attrs) = Unit {0}
TakesMemory (op at r source attrs) = Unit {0}
TakesMemory (op_task n t) = last_number < t
TakesMemory (poll_op r o t name ready) = Unit {0}
TakesMemory (publish moment whole) = Unit {0}
TakesMemory s = ⊥

-- what else may stop a command: its ledger's reply, want of memory where it takes some, or a fault of the writer
abbrev pub StopByEnvironment : Course → Said → Stop → Type 0
StopByEnvironment c s Memory = TakesMemory s
StopByEnvironment c (publish moment whole) WriteFault = Unit {0}
StopByEnvironment c (clone n) (Call HandlesSpent) = IsReply task_meaning (opening_of (open_task n c.pasts)) CloneWaker HandlesSpent
StopByEnvironment c (again w) (Call HandlesSpent) = IsReply task_meaning (opening_of (woken_task w c.pasts)) CloneWaker HandlesSpent
StopByEnvironment c (resource at kind concrete attrs) (Call HandlesSpent) = IsReply resource_meaning (opening_of (Some (new_resource at attrs))) resource_calls.Enlist HandlesSpent
StopByEnvironment c s stop = ⊥

-- why a command stops: by what the text tells, or else where it may fail
abbrev pub StopsBy : Option Stop → Course → Said → Stop → Type 0
StopsBy by_text c s stop = (by_text ≡ Some stop) ⊎ StopByEnvironment c s stop

-- where the number of polls was seen to already
abbrev pub StopReason : Course → Said → Stop → Type 0
StopReason c s stop = StopsBy (stop_by_text c s) c s stop

-- the stop that the text tells of a worker's line: its waker has lines of the other worker, or isn't there after the worker's own
abbrev pub work_stop : List WorkerLine → List WorkerLine → List (Option ℕ) → WorkerLine → Option Stop
work_stop own others wakers l = if is_named l.waker others then Some BadCommand else if_there (if spends l.waker own then None else live_item l.waker wakers) None

-- the stop that the text tells of a line outside blocks
abbrev pub stop_outside : Course → Line → Option Stop
stop_outside c skipped = None
stop_outside c bad = Some BadCommand
stop_outside c (says s) = command_stop c s
stop_outside c opens = None
stop_outside c joins = Some BadCommand
stop_outside c (works k l) = Some BadCommand

-- the stop that the text tells of a line in a block
abbrev pub stop_inside : Course → Block → Line → Option Stop
stop_inside c b skipped = None
stop_inside c b bad = Some BadCommand
stop_inside c b (says s) = Some BadCommand
stop_inside c b opens = Some BadCommand
stop_inside c b joins = None
stop_inside c b (works k l) = work_stop (lines_of_worker k b) (lines_of_other k b) c.pasts.wakers l

-- the stop that the text tells of a line, if it tells one
abbrev pub line_stop : Course → Line → Option Stop
line_stop c line = option_map_or (λ b. stop_inside c b line) c.block (stop_outside c line)

-- a line that the text doesn't stop
abbrev pub Goes : Course → ℕ × Line → Type 0
Goes c (n, line) = line_stop c line ≡ None

-- lines of which the text stops none
abbrev pub AllGo : Course → List (ℕ × Line) → Type 0
AllGo c [] = Unit {0}
AllGo c (l ∷ ls) = Goes c l × AllGo (line_after c l) ls

-- a gate stopped a worker that has lines
abbrev pub GateStops : (ℕ → Bool → Type 0) → Block → Type 0
GateStops answers b = ((0 < length b.first) × answers 1 false) ⊎ ((0 < length b.second) × answers 2 false)

-- why threads aren't joined: want of memory, one that couldn't be started, or a gate
abbrev pub JoinStop : Type 0 → Stop → Type 0
JoinStop Gated Memory = Unit {0}
JoinStop Gated NoThread = Unit {0}
JoinStop Gated Stopped = Gated
JoinStop Gated stop = ⊥

-- what else may stop a line outside blocks. What is no command may need memory before that shows
abbrev pub OutsideByEnvironment : Course → Line → Stop → Type 0
OutsideByEnvironment c (says s) stop = StopByEnvironment c s stop
OutsideByEnvironment c bad Memory = Unit {0}
OutsideByEnvironment c line stop = ⊥

-- and one in a block, with what the gate may answer
abbrev pub InsideByEnvironment : (ℕ → Bool → Type 0) → Block → Line → Stop → Type 0
InsideByEnvironment answers b joins stop = JoinStop (GateStops answers b) stop
InsideByEnvironment answers b (works k l) Memory = Unit {0}
InsideByEnvironment answers b line stop = ⊥

abbrev pub WhereByEnvironment : (ℕ → Bool → Type 0) → Course → Option Block → Line → Stop → Type 0
WhereByEnvironment answers c None line stop = OutsideByEnvironment c line stop
WhereByEnvironment answers c (Some b) line stop = InsideByEnvironment answers b line stop

abbrev pub LineStopByEnvironment : (ℕ → Bool → Type 0) → Course → Line → Stop → Type 0
LineStopByEnvironment answers c line stop = WhereByEnvironment answers c c.block line stop

-- why a line stops, after lines that come to this: by what the text tells, or else where it may fail
abbrev pub LineStopReason : (ℕ → Bool → Type 0) → Course → Line → Stop → Type 0
LineStopReason answers c line stop = (line_stop c line ≡ Some stop) ⊎ LineStopByEnvironment answers c line stop
