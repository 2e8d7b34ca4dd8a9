-- The wakers that the threads of a block are handed: what is known of each, and of the hands that they were taken out of. Inner: no public clause
-- cites it.
use Rattle.std.specs.Prelude.{◌≡◌, ℕ, ◌+◌, ◌≤◌, ◌<◌, ◌⊎◌, ◌==◌, List, [], ◌∷◌, ◌++◌, length, drop, Bool, true, false, Option, Some, None, if◌then◌else◌}
use Rattle.std.specs.Global.{Vec}
use Rattle.std.specs.List.{AllByRecursion}
use Rattle.std.specs.Option.{option_or}
use Rattle.tk_core.specs.declared.history.Entry.{Entry}
use Rattle.tk_core.specs.declared.reply.Reply.{Reply}
use Rattle.tk_core.specs.declared.task.call.TaskCall.{TaskCall}
use Rattle.tk_core.specs.declared.task.call.TaskCall.TheVariants.{CloneWaker}
use Rattle.tk_core.specs.declared.task.row.TaskRow.{TaskRow}
use Rattle.tk_core.specs.Fold.{is_accepted, number_of}
use Rattle.tk_core.specs.History.{calls_of}
use Rattle.tk_core.specs.Polls.{starts_or_ends}
use Rattle.tk_core.specs.Task.{start_at, end_at, close_at}
use Rattle.tk_core.specs.TaskMeaning.{task_meaning}
use Rattle.tk_cell.specs.Views.{Known, Holds}
use Rattle.tk_cell.specs.Calls.{Calls}
use Rattle.tk_cell.specs.Ours.{of_held}
use Rattle.tk_ledgers.specs.Callers.{IsLive, HandsOut, TakesBack, HoldsOnly}
use Rattle.tk_ledgers.specs.Tasks.{TaskSight}
use Rattle.tk_live.specs.Blocks.{is_named, is_last, spends, call_of, calls_by}
use Rattle.tk_live.specs.Items.{EachFrom}
use Rattle.tk_live.specs.Named.{made_item, live_item, with_item}
use Rattle.tk_live.specs.Pasts.{AreBeside}
use Rattle.tk_live.specs.Threads.{LastsAreLast}
use Rattle.tk_live.specs.declared.handed.Handed.{Handed}
use Rattle.tk_live.specs.declared.handed.Handed.TheVariants.{Live, Spent}
use Rattle.tk_live.specs.declared.items.TaskItem.{TaskItem}
use Rattle.tk_live.specs.declared.items.WakerItem.{WakerItem}
use Rattle.tk_script.specs.declared.block.WakerCall.{WakerCall}
use Rattle.tk_script.specs.declared.block.WorkerLine.{WorkerLine}

-- what is known of a task by a token
abbrev pub KnownTask : Type 0
KnownTask = Known TaskRow TaskCall (Reply TaskRow)

-- the entries of a task
abbrev pub TaskEntries : Type 0
TaskEntries = List (Entry TaskCall (Reply TaskRow))

-- what a waker that was handed out knows, live or spent
abbrev pub known_by : Handed → KnownTask
known_by (Live h) = h.token
known_by (Spent r) = r.token

-- whether it is spent
abbrev pub is_spent : Handed → Bool
is_spent (Live h) = false
is_spent (Spent r) = true

-- an entry that a waker makes in a block: it is accepted, draws no waker, and neither polls nor closes
pub record IsQuiet (e : Entry TaskCall (Reply TaskRow)) : Type 0 where
  pub accepted : is_accepted e.reply ≡ true
  pub draws_none : number_of e.reply ≡ None
  pub polls_not : starts_or_ends start_at end_at e.call ≡ None
  pub closes_not : close_at e.call ≡ None

-- ---- what one waker does

-- after what a waker had seen, it made these calls
pub record HasMade (old : KnownTask) (calls : List TaskCall) (new : KnownTask) : Type 0 where
  pub held : new.view.held ≡ old.view.held
  pub caller : new.view.caller ≡ old.view.caller
  pub more : TaskEntries
  pub seen : new.view.seen ≡ old.view.seen ++ more
  pub calls_are : calls_of (of_held old.view more) ≡ calls
  pub quiet : AllByRecursion IsQuiet (of_held old.view more)

-- a waker is of the same ledger, and holds wakers alone as before
pub record StaysWaker (old new : KnownTask) : Type 0 where
  pub ledger : new.ledger ≡ old.ledger
  pub wakers : HoldsOnly task_meaning CloneWaker old.view → HoldsOnly task_meaning CloneWaker new.view

-- a live waker makes a call, which is accepted and draws no waker, and is spent where it was its last
pub record MakesCall (call : WakerCall) (old : KnownTask) (new : Handed) : Type 0 where
  pub ledger : (known_by new).ledger ≡ old.ledger
  pub reply : Reply TaskRow
  pub accepted : is_accepted reply ≡ true
  pub draws_none : number_of reply ≡ None
  pub made : Calls task_meaning old.view (call_of call) reply (known_by new).view
  pub spent : is_spent new ≡ is_last call

-- one that is spent makes none
abbrev pub Makes : WakerCall → Handed → Handed → Type 0
Makes call (Live h) new = MakesCall call h.token new
Makes call (Spent r) new = new ≡ Spent r

-- a waker of this number made the calls that lines have of it, and is spent where they have its last
pub record MadeLines (ls : List WorkerLine) (w : ℕ) (old new : Handed) : Type 0 where
  pub made : HasMade (known_by old) (calls_by w ls) (known_by new)
  pub spent : is_spent new ≡ spends w ls
  pub live : IsLive task_meaning (known_by old).view (known_by old).view.caller → spends w ls ≡ false → IsLive task_meaning (known_by new).view (known_by new).view.caller

-- lines were run by a waker of this number, where it was live before and none of them stands after its last call
pub record RanBy (ls : List WorkerLine) (w : ℕ) (old new : Handed) : Type 0 where
  pub stays : StaysWaker (known_by old) (known_by new)
  pub did : LastsAreLast ls → is_spent old ≡ false → MadeLines ls w old new

-- so they were by a waker that is there
abbrev pub RanAt : List WorkerLine → ℕ → Option Handed → Option Handed → Type 0
RanAt ls w None None = Unit {0}
RanAt ls w None (Some new) = ⊥
RanAt ls w (Some old) None = ⊥
RanAt ls w (Some old) (Some new) = RanBy ls w old new

-- so they were by the wakers of a list, each at its number
abbrev pub RanAll : List WorkerLine → List (Option Handed) → List (Option Handed) → Type 0
RanAll ls old new = (w : ℕ) → RanAt ls w (live_item w old) (live_item w new)

-- what a worker came to: it ran its lines; or its gate stopped it
abbrev pub Worked : (Bool → Type 0) → List WorkerLine → List (Option Handed) → Option (Vec (Option Handed)) → Type 0
Worked answers ls old (Some new) = (0 < length ls → answers true) × RanAll ls old new.items
Worked answers ls old None = (0 < length ls) × answers false

-- ---- tasks of which wakers are handed out

-- a task is the same but for its hand, which is of the same task and ledger
pub record IsHandOf (old new : TaskItem) : Type 0 where
  pub id : new.callers.id ≡ old.callers.id
  pub ledger : new.callers.token.ledger ≡ old.callers.token.ledger
  pub closed : new.closed ≡ old.closed
  pub times : new.times ≡ old.times
  pub started : new.started ≡ old.started

-- the waker is live in the hand of its task
abbrev pub IsLiveIn : List TaskItem → WakerItem → Type 0
IsLiveIn tasks a = (t : TaskItem) × (made_item a.task tasks ≡ Some t) × IsLive task_meaning t.callers.token.view a.number

-- one task of a list had this hand, and has that one, of which the rest is told
abbrev pub OneTask : (KnownTask → KnownTask → Type 0) → ℕ → List TaskItem → List TaskItem → Type 0
OneTask Rest n old new = (t u : TaskItem) × (made_item n old ≡ Some t) × (new ≡ with_item n u old) × IsHandOf t u × Rest t.callers.token u.callers.token

-- a waker is handed out of the hand of its task, live
abbrev pub PartsWaker : WakerItem → List TaskItem → List TaskItem → Handed → Type 0
PartsWaker a old new handed = (h : TaskSight) × (handed ≡ Live h) × HoldsOnly task_meaning CloneWaker h.token.view
    × OneTask (λ was is. HandsOut task_meaning was a.number is h.token) a.task old new

-- the task of a waker is made, and the waker that was handed out is of its ledger, and holds wakers alone
abbrev pub MayTakeBack : WakerItem → List TaskItem → Handed → Type 0
MayTakeBack a tasks handed = (t : TaskItem) × (made_item a.task tasks ≡ Some t) × ((known_by handed).ledger ≡ t.callers.token.ledger) × HoldsOnly task_meaning CloneWaker (known_by handed).view

-- it is taken back
abbrev pub TakesWakerBack : WakerItem → List TaskItem → List TaskItem → Handed → Type 0
TakesWakerBack a old new handed = OneTask (λ was is. TakesBack task_meaning was (known_by handed) is) a.task old new

-- ---- the wakers of a block

-- the lines that a waker runs: those of worker 1 where these name it, and otherwise those of worker 2
abbrev pub its_lines : List WorkerLine → List WorkerLine → ℕ → List WorkerLine
its_lines first second w = if is_named w first then first else second

-- of each waker the lines that it runs, and whether they name it
abbrev pub Share : Type 0
Share = ℕ → List WorkerLine

abbrev pub is_out : Share → ℕ → Bool
is_out share w = is_named w (share w)

-- a waker of this task is out that has this number among the task's callers, of those up to a number of the script's
abbrev pub IsOut : Share → List (Option WakerItem) → ℕ → ℕ → ℕ → Type 0
IsOut share wakers i n j = (w : ℕ) × (a : WakerItem) × (w ≤ i) × (live_item w wakers ≡ Some a) × (a.task ≡ n) × (a.number ≡ j) × (is_out share w ≡ true)

-- a hand of which some callers are out: it has seen this more, of which its own entries are quiet
pub record IsLent (Out : ℕ → Type 0) (more : TaskEntries) (old new : TaskItem) : Type 0 where
  pub hand : IsHandOf old new
  pub opening : new.callers.token.view.opening ≡ old.callers.token.view.opening
  pub seen : new.callers.token.view.seen ≡ old.callers.token.view.seen ++ more
  pub quiet : AllByRecursion IsQuiet (of_held new.callers.token.view more)
  pub fewer : (j : ℕ) → Holds new.callers.token.view j → Holds old.callers.token.view j
  pub rest : (j : ℕ) → Holds old.callers.token.view j → Holds new.callers.token.view j ⊎ Out j

-- what is known of a waker that is out, after calls, where this is known of its hand before: it holds itself alone
pub record IsFrom (old : KnownTask) (number : ℕ) (calls : List TaskCall) (spent : Bool) (new : KnownTask) : Type 0 where
  pub ledger : new.ledger ≡ old.ledger
  pub wakers : HoldsOnly task_meaning CloneWaker new.view
  pub was_held : Holds old.view number
  pub held : new.view.held ≡ number ∷ []
  pub caller : new.view.caller ≡ number
  pub more : TaskEntries
  pub seen : new.view.seen ≡ old.view.seen ++ more
  pub calls_are : calls_of (of_held new.view more) ≡ calls
  pub quiet : AllByRecursion IsQuiet (of_held new.view more)
  pub live : spent ≡ false → IsLive task_meaning new.view number

-- a waker is out of a task that had this hand
abbrev pub IsFromTask : List TaskItem → WakerItem → List TaskCall → Bool → Handed → Type 0
IsFromTask before a calls spent handed = (t : TaskItem) × (made_item a.task before ≡ Some t) × IsFrom t.callers.token a.number calls spent (known_by handed)

-- it was handed out where a list of lines names it
abbrev pub IsGiven : Bool → List TaskItem → WakerItem → Option Handed → Type 0
IsGiven named before a o = ((named ≡ true) × (handed : Handed) × (o ≡ Some handed) × (is_spent handed ≡ false) × IsFromTask before a [] false handed) ⊎ ((named ≡ false) × (o ≡ None))

-- wakers up to a number were handed out: those that the first lines name into one list, and the others that the second lines name into another.
-- The rest of the lists is empty
pub record HandedOut (first second : List WorkerLine) (wakers : List (Option WakerItem)) (before : List TaskItem) (i : ℕ) (now : List TaskItem) (one two : List (Option Handed)) : Type 0 where
  pub tasks : EachFrom (λ n t u. IsLent (IsOut (its_lines first second) wakers i n) [] t u) 1 before now
  pub live : (w : ℕ) (a : WakerItem) → live_item w wakers ≡ Some a → ((w ≤ i) × (is_out (its_lines first second) w ≡ true)) ⊎ IsLiveIn now a
  pub ones : (w : ℕ) (a : WakerItem) → live_item w wakers ≡ Some a → w ≤ i → IsGiven (is_named w first) before a (live_item w one)
  pub twos : (w : ℕ) (a : WakerItem) → live_item w wakers ≡ Some a → w ≤ i → is_named w first ≡ false → IsGiven (is_named w second) before a (live_item w two)
  pub one_rest : (w : ℕ) → i < w → live_item w one ≡ None
  pub two_rest : (w : ℕ) → i < w → live_item w two ≡ None
  pub one_long : length one ≡ length wakers
  pub two_long : length two ≡ length wakers

-- a waker comes back that ran its lines, where these name it
abbrev pub ComesBack : Share → List TaskItem → ℕ → WakerItem → Option Handed → Type 0
ComesBack share before w a o = ((is_out share w ≡ true) × (handed : Handed) × (o ≡ Some handed) × IsFromTask before a (calls_by w (share w)) (spends w (share w)) handed) ⊎ ((is_out share w ≡ false) × (o ≡ None))

-- so come those up to a number
abbrev pub AllComeBack : Share → List (Option WakerItem) → List TaskItem → ℕ → List (Option Handed) → List (Option Handed) → Type 0
AllComeBack share wakers before i one two = (w : ℕ) (a : WakerItem) → live_item w wakers ≡ Some a → w ≤ i → ComesBack share before w a (option_or (live_item w one) (live_item w two))

-- the calls of the wakers of a task, from a number on, each by its lines
abbrev pub calls_for : Share → ℕ → ℕ → List (Option WakerItem) → List (List TaskCall)
calls_for share n w [] = []
calls_for share n w (Some a ∷ wakers) = if a.task == n then calls_by w (share w) ∷ calls_for share n (w + 1) wakers else calls_for share n (w + 1) wakers
calls_for share n w (None ∷ wakers) = calls_for share n (w + 1) wakers

-- a hand of which wakers up to a number are out: the later ones are back, and the hand has seen their calls, beside one another
abbrev pub IsBackFrom : Share → List (Option WakerItem) → ℕ → ℕ → TaskItem → TaskItem → Type 0
IsBackFrom share wakers i n t u = (more : TaskEntries) × IsLent (IsOut share wakers i n) more t u × AreBeside (calls_for share n (i + 1) (drop i wakers)) (calls_of (of_held u.callers.token.view more))

-- wakers up to a number are out, and the later ones are back, live but for those that their lines spent
pub record TakenBack (share : Share) (wakers : List (Option WakerItem)) (before : List TaskItem) (i : ℕ) (now : List TaskItem) : Type 0 where
  pub tasks : EachFrom (IsBackFrom share wakers i) 1 before now
  pub made : (w : ℕ) (a : WakerItem) → live_item w wakers ≡ Some a → (t : TaskItem) × (made_item a.task before ≡ Some t)
  pub live : (w : ℕ) (a : WakerItem) → live_item w wakers ≡ Some a → spends w (share w) ≡ false → ((w ≤ i) × (is_out share w ≡ true)) ⊎ IsLiveIn now a

-- all are out, and come back
pub record AreOut (wakers : List (Option WakerItem)) (now : List TaskItem) (one two : List (Option Handed)) : Type 0 where
  pub share : Share
  pub before : List TaskItem
  pub back : TakenBack share wakers before (length wakers) now
  pub come : AllComeBack share wakers before (length wakers) one two
