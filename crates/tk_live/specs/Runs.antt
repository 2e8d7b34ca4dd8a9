-- What an interpreter stands for. Inner: no public clause cites it.
use Rattle.std.specs.Prelude.{◌≡◌, ℕ, ◌+◌, ◌≤◌, ◌⊎◌, List, [], ◌∷◌, ◌++◌, map, length, slice_get, slice_set, take, Bool, true, false, not, Option, Some, None, option_map, IsSome, Result, Ok, Err}
use Rattle.std.specs.List.{AllByRecursion, enumerate_from, items_where_true}
use Rattle.std.specs.Io.KnownBytes.{Appends}
use Rattle.atomic_table.specs.Seated.{TableId}
use Rattle.tk_core.specs.declared.reply.Refusal.TheVariants.{HandlesSpent}
use Rattle.tk_core.specs.declared.task.call.TaskCall.TheVariants.{CloneWaker}
use Rattle.tk_core.specs.TaskMeaning.{task_meaning}
use Rattle.tk_ids.specs.Ids.{id_of}
use Rattle.tk_ids.specs.IdBlocks.{last_number}
use Rattle.tk_events.specs.declared.event.Shown.{Shown}
use Rattle.tk_events.specs.declared.event.Shown.TheVariants.{MadeTask, MadeResource, MadeOp}
use Rattle.tk_events.specs.declared.item.Offer.{Offer}
use Rattle.tk_events.specs.Handles.{Recording, Taking, offers_made}
use Rattle.tk_events.specs.Offers.{tasks_in, resources_in, ops_in}
use Rattle.tk_ledgers.specs.Callers.{IsLive}
use Rattle.tk_ledgers.specs.Ops.{OpSight}
use Rattle.tk_ledgers.specs.Resources.{ResourceSight}
use Rattle.tk_ledgers.specs.Tasks.{TaskSight}
use Rattle.tk_ledgers.specs.Times.{TimesSight}
use Rattle.tk_fault.specs.declared.fault.AppFault.{AppFault}
use Rattle.tk_fault.specs.declared.fault.AppFault.TheVariants as faults
use Rattle.tk_stream.specs.Streams.{Sending, lines_sent, bytes_sent, tables_sent, times_sent, last_sent}
use Rattle.tk_stream.specs.Tables.{empty_tables, task_id}
use Rattle.tk_stream.specs.Times.{times_id}
use Rattle.tk_aggregator.specs.Absorbing.{infos_of}
use Rattle.tk_aggregator.specs.Aggregates.{Aggregating}
use Rattle.tk_aggregator.specs.Contents.{Content, content_of}
use Rattle.tk_live.specs.Blocks.{Block}
use Rattle.tk_script.specs.Commands.{Said, Line}
use Rattle.tk_live.specs.Course.{Due, Course, start_of_all, step, line_after, course_of}
use Rattle.tk_live.specs.Items.{Holds, IsTask, Draws, times_ledger_of}
use Rattle.tk_live.specs.Named.{made_item}
use Rattle.tk_live.specs.Pasts.{TaskPast, Pasts}
use Rattle.tk_live.specs.Ran.{IsStreamOf, written_by}
use Rattle.tk_script.specs.Refusals.{stop_name}
use Rattle.tk_live.specs.Script.{FrontOf, Fronts}
use Rattle.tk_live.specs.Stops.{IsReply, StopsBy, StopReason, stop_by_text, line_stop, Goes, AllGo, LineStopReason}
use Rattle.tk_live.specs.Threads.{Apart}
use Rattle.tk_live.specs.declared.block.OpenBlock.{OpenBlock}
use Rattle.tk_live.specs.declared.interpreter.Interpreter.{Interpreter}
use Rattle.tk_live.specs.declared.items.OpItem.{OpItem}
use Rattle.tk_live.specs.declared.items.ResourceItem.{ResourceItem}
use Rattle.tk_live.specs.declared.items.TaskItem.{TaskItem}
use Rattle.tk_script.specs.declared.settings.Settings.{Settings}
use Rattle.tk_script.specs.declared.stop.Stop.{Stop}
use Rattle.tk_script.specs.declared.stop.Stop.TheVariants.{BadCommand, Call, Memory}

-- ---- the recorder and the taker

-- what an offer says
abbrev pub offer_content : Offer → Content
offer_content o = content_of o.event

-- how many items of each kind were made
pub record Numbers : Type 0 where
  pub tasks : ℕ
  pub resources : ℕ
  pub ops : ℕ

-- how many items of each kind a script made
abbrev pub numbers_of : Pasts → Numbers
numbers_of ps = record { tasks = length ps.tasks; resources = length ps.resources; ops = length ps.ops }

-- the one recorder of a console offered what was recorded, and these marks tell what was kept, and what was refused
pub record Offered (r : Recording) (capacity : ℕ) (numbers : Numbers) (told : List Content) (kept : List Bool) : Type 0 where
  pub number : r.number ≡ 1
  pub alone : r.recorders ≡ 1
  pub capacity_is : r.capacity ≡ capacity
  pub limit : r.limit ≡ last_number
  pub made : offers_made r ≡ length told
  pub few : length told ≤ last_number
  pub picks : map offer_content r.kept ≡ items_where_true kept told
  pub lost : map offer_content r.refused ≡ items_where_true (map not kept) told
  pub tasks_are : tasks_in r.kept + tasks_in r.refused ≡ numbers.tasks
  pub resources_are : resources_in r.kept + resources_in r.refused ≡ numbers.resources
  pub ops_are : ops_in r.kept + ops_in r.refused ≡ numbers.ops

-- the taker of that console is not finished
pub record IsTakerOf (r : Recording) (t : Taking) : Type 0 where
  pub console : t.console ≡ r.console
  pub recorders : t.recorders ≡ 1
  pub unfinished : t.finished ≡ false
  pub known : t.known ≡ []

-- how much was recorded before the last line that was due, where so much was before all of these
abbrev pub recorded_by : ℕ → List Due → ℕ
recorded_by from [] = from
recorded_by from (d ∷ due) = recorded_by d.recorded due

-- no line was due after more recordings than there are, and none after fewer than the line before
abbrev pub RiseTo : ℕ → ℕ → List Due → Type 0
RiseTo all from [] = (k : ℕ) × (from + k ≡ all)
RiseTo all from (d ∷ due) = ((k : ℕ) × (from + k ≡ d.recorded)) × RiseTo all d.recorded due

-- ---- whose ledgers are read

-- an id and a ledger are those of a task, of a resource and of an operation of the script
abbrev pub IsTaskLedger : List TaskItem → ℕ → TableId → Type 0
IsTaskLedger tasks id ledger = (n : ℕ) × (t : TaskItem) × (id ≡ id_of 1 n) × (made_item n tasks ≡ Some t) × (t.callers.token.ledger ≡ ledger)

-- and of a task's histogram
abbrev pub IsTimesLedger : List TaskItem → ℕ → TableId → Type 0
IsTimesLedger tasks id ledger = (n : ℕ) × (t : TaskItem) × (id ≡ id_of 1 n) × (made_item n tasks ≡ Some t) × (times_ledger_of t ≡ Some ledger)

abbrev pub IsResourceLedger : List ResourceItem → ℕ → TableId → Type 0
IsResourceLedger resources id ledger = (n : ℕ) × (r : ResourceItem) × (id ≡ id_of 1 n) × (made_item n resources ≡ Some r) × (r.callers.token.ledger ≡ ledger)

abbrev pub IsOpLedger : List OpItem → ℕ → TableId → Type 0
IsOpLedger ops id ledger = (n : ℕ) × (o : OpItem) × (id ≡ id_of 1 n) × (made_item n ops ≡ Some o) × (o.callers.token.ledger ≡ ledger)

-- an offer of a new item has the ledger of the item of its number, and that of a task has its histogram's
abbrev pub OffersLedger : List TaskItem → List ResourceItem → List OpItem → Shown → Type 0
OffersLedger tasks resources ops (MadeTask info ledger caller times) = IsTaskLedger tasks info.id ledger × ((histogram : TableId) → times ≡ Some histogram → IsTimesLedger tasks info.id histogram)
OffersLedger tasks resources ops (MadeResource info ledger caller) = IsResourceLedger resources info.id ledger
OffersLedger tasks resources ops (MadeOp info ledger caller) = IsOpLedger ops info.id ledger
OffersLedger tasks resources ops event = Unit {0}

-- of each offer that was kept, and of each reader of the aggregator
pub record AreLinked (tasks : List TaskItem) (resources : List ResourceItem) (ops : List OpItem) (kept : List Offer) (a : Aggregating) : Type 0 where
  pub offers : AllByRecursion (λ (o : Offer). OffersLedger tasks resources ops o.event) kept
  pub task_readers : AllByRecursion (λ (s : TaskSight). IsTaskLedger tasks s.id s.token.ledger) a.tasks
  pub times_readers : AllByRecursion (λ (s : TimesSight). IsTimesLedger tasks s.id s.token.ledger) a.timing.readers
  pub resource_readers : AllByRecursion (λ (s : ResourceSight). IsResourceLedger resources s.id s.token.ledger) a.resources
  pub op_readers : AllByRecursion (λ (s : OpSight). IsOpLedger ops s.id s.token.ledger) a.ops

-- ---- histograms

-- a task that was offered has a histogram
abbrev pub HasTimes : Shown → Type 0
HasTimes (MadeTask info ledger caller times) = IsSome times
HasTimes event = Unit {0}

-- so has each task of these offers
abbrev pub HaveTimes : List Offer → Type 0
HaveTimes offers = AllByRecursion (λ o. HasTimes o.event) offers

-- ---- the aggregator

-- it has told all that it has: a stream that leads to where it is, of these lines, so many, the last at this moment. No event is held
pub record HasTold (a : Aggregating) (settings : Settings) (now count : ℕ) (sent : List Sending) : Type 0 where
  pub retention_is : a.retention ≡ settings.retention
  pub reads : a.timing.reads ≡ settings.times
  pub told : a.told ≡ tables_sent empty_tables sent
  pub times_told : a.timing.told ≡ times_sent [] empty_tables sent
  pub last : a.last ≡ last_sent 0 sent
  pub none_held : a.held ≡ None
  pub infos : infos_of a.tables ≡ infos_of a.told
  pub times : settings.times ≡ true → map times_id a.timing.shown ≡ map task_id a.tables.tasks
  pub moment : a.tables.now ≡ now
  pub numbers : a.last ≡ count
  pub going : a.broken ≡ false

-- ---- all of it

-- an interpreter stands for what commands came to
pub record Represents (i : Interpreter) (settings : Settings) (c : Course) (kept : List Bool) (sent : List Sending) : Type 0 where
  pub came : IsStreamOf settings c kept sent
  pub rise : RiseTo (length c.told) 0 c.due
  pub offered : Offered i.recorder settings.capacity (numbers_of c.pasts) c.told kept
  pub takes : IsTakerOf i.recorder i.taker
  pub taken : map offer_content i.taker.taken ≡ items_where_true (take (recorded_by 0 c.due) kept) (take (recorded_by 0 c.due) c.told)
  pub gone : i.recorder.gone ≡ length i.taker.taken
  pub has_told : HasTold i.aggregator settings c.now (length c.due) sent
  pub timed : settings.times ≡ true → HaveTimes i.recorder.kept
  pub holds : Holds i.tasks.items i.wakers.items i.resources.items i.ops.items c.pasts
  pub linked : AreLinked i.tasks.items i.resources.items i.ops.items i.recorder.kept i.aggregator
  pub polled : i.polled ≡ c.polled
  pub capacity_said : i.capacity_said ≡ c.capacity_said
  pub retention_said : i.retention_said ≡ c.retention_said
  pub times_said : i.times_said ≡ c.times_said
  pub waits_said : i.waits_said ≡ c.waits_said
  pub begun : i.begun ≡ c.begun
  pub times_is : i.times ≡ settings.times

-- a waker may be drawn of the task at a place by this caller: its owner, or a waker that is live
abbrev pub MayDraw : List TaskItem → ℕ → ℕ → Type 0
MayDraw tasks place by = (t : TaskItem) × (slice_get tasks place ≡ Some t) × ((by ≡ 0) ⊎ IsLive task_meaning t.callers.token.view by)

-- a waker more was drawn of the task at a place, or there was no memory for it, or its ledger refused it
abbrev pub DrawsWaker : Interpreter → ℕ → Interpreter → Result (Unit {0}) Stop → Type 0
DrawsWaker old place new (Ok done) = (t : TaskItem) × (next : TaskItem) × (waker : ℕ) × (slice_get old.tasks.items place ≡ Some t) × Draws waker t next
    × (new ≡ record old { tasks = new.tasks; wakers = new.wakers }) × (new.tasks.items ≡ slice_set old.tasks.items place next)
    × (new.wakers.items ≡ old.wakers.items ++ Some (record { task = place + 1; number = waker }) ∷ [])
DrawsWaker old place new (Err stop) = (stop ≡ Memory) ⊎ ((stop ≡ Call HandlesSpent) × (t : TaskItem) × (slice_get old.tasks.items place ≡ Some t)
    × ((n : ℕ) (p : TaskPast) → IsTask n p t → IsReply task_meaning (Some p.opening) CloneWaker HandlesSpent))

-- an interpreter stands for some commands
abbrev pub RepresentsSome : Interpreter → Type 0
RepresentsSome i = (settings : Settings) × (c : Course) × (kept : List Bool) × (sent : List Sending) × Represents i settings c kept sent

-- the bytes of these lines after those
abbrev pub bytes_after : List Sending → List Sending → List ℕ
bytes_after sent more = bytes_sent (lines_sent (tables_sent empty_tables sent) more)

-- a command that writes nothing went on, with marks for what it recorded; or it stopped
abbrev pub SilentResult : Settings → Course → List Bool → List Sending → ℕ → Said → Interpreter → Result (Unit {0}) Stop → Type 0
SilentResult settings c kept sent line s new (Ok done) = (stop_by_text c s ≡ None) × (marks : List Bool) × Represents new settings (step c line s) (kept ++ marks) sent
SilentResult settings c kept sent line s new (Err stop) = StopReason c s stop

-- whatever the interpreter stood for, the command that writes nothing did this
abbrev pub SilentSpec : ℕ → Said → Interpreter → Interpreter → Result (Unit {0}) Stop → Type 0
SilentSpec line s old new result =
    (settings : Settings) (c : Course) (kept : List Bool) (sent : List Sending) → Represents old settings c kept sent → SilentResult settings c kept sent line s new result

-- a command went on, with marks and lines more; or it stopped, and a front may have gone out
abbrev pub CommandResult : (Course → Said → Option Stop) → (Course → ℕ → Said → Course) → Settings → Course → List Bool → List Sending → ℕ → Said → Interpreter → Result (Unit {0}) Stop → Option (List ℕ) → Option (List ℕ) → Type 0
CommandResult stops next settings c kept sent line s new (Ok done) before after =
    (stops c s ≡ None) × (marks : List Bool) × (more : List Sending) × Represents new settings (next c line s) (kept ++ marks) (sent ++ more) × Appends before after (bytes_after sent more)
CommandResult stops next settings c kept sent line s new (Err stop) before after =
    StopsBy (stops c s) c s stop × (front : List ℕ) × FrontOf sent s stop front × Appends before after front

-- whatever the interpreter stood for, this came of the command
abbrev pub CommandSpec : (Course → Said → Option Stop) → (Course → ℕ → Said → Course) → ℕ → Said → Interpreter → Interpreter → Result (Unit {0}) Stop → Option (List ℕ) → Option (List ℕ) → Type 0
CommandSpec stops next line s old new result before after =
    (settings : Settings) (c : Course) (kept : List Bool) (sent : List Sending) → Represents old settings c kept sent → CommandResult stops next settings c kept sent line s new result before after

-- the lines of a block
abbrev pub block_of : OpenBlock → Block
block_of b = record { first = b.first; second = b.second }

-- the block that is open, if one is, has the lines that the text tells, and no waker with lines of both workers
pub record IsOpen (block : Option OpenBlock) (c : Course) : Type 0 where
  pub is : option_map block_of block ≡ c.block
  pub apart : (b : Block) → c.block ≡ Some b → Apart b.first b.second

-- a line that is no command went on, or it stopped
abbrev pub BlockLineResult : (ℕ → Bool → Type 0) → Settings → Course → List Bool → List Sending → ℕ → Line → Interpreter → Option OpenBlock → Result (Unit {0}) Stop → Type 0
BlockLineResult answers settings c kept sent n line new block (Ok done) = (line_stop c line ≡ None) × Represents new settings (line_after c (n, line)) kept sent × IsOpen block (line_after c (n, line))
BlockLineResult answers settings c kept sent n line new block (Err stop) = LineStopReason answers c line stop

abbrev pub BlockLineSpec : (ℕ → Bool → Type 0) → ℕ → Line → Interpreter → Option OpenBlock → Interpreter → Option OpenBlock → Result (Unit {0}) Stop → Type 0
BlockLineSpec answers n line old was new block result =
    (settings : Settings) (c : Course) (kept : List Bool) (sent : List Sending) → Represents old settings c kept sent → IsOpen was c → BlockLineResult answers settings c kept sent n line new block result

-- whatever the interpreter stood for, this came of a line
abbrev pub LineResult : (ℕ → Bool → Type 0) → Settings → Course → List Bool → List Sending → ℕ → Line → Interpreter → Option OpenBlock → Result (Unit {0}) Stop → Option (List ℕ) → Option (List ℕ) → Type 0
LineResult answers settings c kept sent n line new block (Ok done) before after =
    Goes c (n, line) × (marks : List Bool) × (more : List Sending) × Represents new settings (line_after c (n, line)) (kept ++ marks) (sent ++ more) × IsOpen block (line_after c (n, line)) × Appends before after (bytes_after sent more)
LineResult answers settings c kept sent n line new block (Err stop) before after =
    LineStopReason answers c line stop × (front : List ℕ) × Fronts sent line stop front × Appends before after front

abbrev pub LineSpec : (ℕ → Bool → Type 0) → ℕ → Line → Interpreter → Option OpenBlock → Interpreter → Option OpenBlock → Result (Unit {0}) Stop → Option (List ℕ) → Option (List ℕ) → Type 0
LineSpec answers n line old was new block result before after =
    (settings : Settings) (c : Course) (kept : List Bool) (sent : List Sending) → Represents old settings c kept sent → IsOpen was c → LineResult answers settings c kept sent n line new block result before after

-- the line of this number stops the lines, by this name
pub record LinesStop (answers : ℕ → Bool → Type 0) (ls : List Line) (settings : Settings) (number : ℕ) (name : List ℕ) (text : List ℕ) : Type 0 where
  pub before : List Line
  pub line : Line
  pub after : List Line
  pub lines : ls ≡ before ++ line ∷ after
  pub counted : number ≡ length before + 1
  pub goes : AllGo start_of_all (enumerate_from 1 before)
  pub kept : List Bool
  pub sent : List Sending
  pub came : IsStreamOf settings (course_of before) kept sent
  pub stop : Stop
  pub stops : LineStopReason answers (course_of before) line stop
  pub named : name ≡ stop_name stop
  pub front : List ℕ
  pub fronts : Fronts sent line stop front
  pub all : text ≡ written_by sent ++ front

-- a block is open after the last line
pub record LinesStayOpen (ls : List Line) (settings : Settings) (last number : ℕ) (name : List ℕ) (text : List ℕ) : Type 0 where
  pub counted : number ≡ last
  pub goes : AllGo start_of_all (enumerate_from 1 ls)
  pub block : Block
  pub is_open : (course_of ls).block ≡ Some block
  pub named : name ≡ stop_name BadCommand
  pub kept : List Bool
  pub sent : List Sending
  pub came : IsStreamOf settings (course_of ls) kept sent
  pub all : text ≡ written_by sent

-- this came of lines, of which the last has this number
abbrev pub LinesResult : (ℕ → Bool → Type 0) → ℕ → List Line → Settings → Result (Unit {0}) AppFault → List ℕ → Type 0
LinesResult answers last ls settings (Ok done) text =
    AllGo start_of_all (enumerate_from 1 ls) × ((course_of ls).block ≡ None) × (kept : List Bool) × (sent : List Sending) × IsStreamOf settings (course_of ls) kept sent × (text ≡ written_by sent)
LinesResult answers last ls settings (Err (faults.Script number name)) text = LinesStop answers ls settings number name.now text ⊎ LinesStayOpen ls settings last number name.now text
LinesResult answers last ls settings (Err other) text = ⊥
