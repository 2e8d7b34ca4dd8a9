-- What is kept of a script's items: the hands that make their calls. Inner: no public clause cites it.
use Rattle.std.specs.Prelude.{◌≡◌, ◌≢◌, ℕ, ◌+◌, List, [], ◌∷◌, ◌++◌, map, true, Option, Some, None, option_map, is_some, Result, Ok, Err}
use Rattle.std.specs.List.{filter_map}
use Rattle.atomic_table.specs.Seated.{TableId}
use Rattle.tk_ids.specs.Ids.{id_of}
use Rattle.tk_core.specs.declared.attrs.AttrOp.{AttrOp}
use Rattle.tk_core.specs.declared.history.Entry.{Entry}
use Rattle.tk_core.specs.declared.op.call.OpCall.{OpCall}
use Rattle.tk_core.specs.declared.reply.Reply.{Reply}
use Rattle.tk_core.specs.declared.resource.call.ResourceCall.{ResourceCall}
use Rattle.tk_core.specs.declared.resource.call.ResourceCall.TheVariants.{Attr}
use Rattle.tk_core.specs.declared.resource.row.ResourceRow.{ResourceRow}
use Rattle.tk_core.specs.declared.task.call.TaskCall.{TaskCall}
use Rattle.tk_core.specs.declared.task.call.TaskCall.TheVariants.{CloneWaker}
use Rattle.tk_core.specs.Fold.{is_accepted, fold_of, HasItsAnswers}
use Rattle.tk_core.specs.History.{accepted}
use Rattle.tk_core.specs.Lists.{last_of}
use Rattle.tk_core.specs.Polls.{is_polling}
use Rattle.tk_core.specs.Resource as resource_rules
use Rattle.tk_core.specs.Resource.{resource_kind}
use Rattle.tk_core.specs.Task.{start_at, end_at, close_at}
use Rattle.tk_core.specs.OpMeaning.{op_meaning}
use Rattle.tk_core.specs.ResourceMeaning.{resource_meaning}
use Rattle.tk_core.specs.TaskMeaning.{task_meaning}
use Rattle.tk_ledgers.specs.Called.{HasCalled}
use Rattle.tk_ledgers.specs.Callers.{IsLive}
use Rattle.tk_ledgers.specs.Times.{TimesSight, added_times, runs_of}
use Rattle.tk_live.specs.Named.{made_item, live_item}
use Rattle.tk_live.specs.Pasts.{TaskPast, ResourcePast, OpPast, Pasts, InOrder, one, and_called, outside_blocks, is_polled, is_closed, is_closed_resource, is_closed_op}
use Rattle.tk_live.specs.declared.items.OpItem.{OpItem}
use Rattle.tk_live.specs.declared.items.ResourceItem.{ResourceItem}
use Rattle.tk_live.specs.declared.items.TaskItem.{TaskItem}
use Rattle.tk_live.specs.declared.items.WakerItem.{WakerItem}
use Rattle.tk_script.specs.declared.stop.Stop.{Stop}

-- R holds of a number and the elements of two lists, place by place, where the first place has this number
abbrev pub EachFrom : {X Y : Type 0} → (ℕ → X → Y → Type 0) → ℕ → List X → List Y → Type 0
EachFrom R n [] [] = Unit {0}
EachFrom R n [] (y ∷ ys) = ⊥
EachFrom R n (x ∷ xs) [] = ⊥
EachFrom R n (x ∷ xs) (y ∷ ys) = R n x y × EachFrom R (n + 1) xs ys

-- the ledger of a task's histogram, if it has one
abbrev pub times_ledger_of : TaskItem → Option TableId
times_ledger_of t = option_map (λ (o : TimesSight). o.token.ledger) t.times

-- what is kept of the task of a number: its hand made the text's calls, in an order that they allow, and no others but an inspector's
-- readings. To its histogram, if it has one, was added how long its polls ran, of each poll once, in their order, and nothing else
pub record IsTask (n : ℕ) (p : TaskPast) (t : TaskItem) : Type 0 where
  pub id : t.callers.id ≡ id_of 1 n
  pub calls : List TaskCall
  pub order : InOrder p.called calls
  pub called : HasCalled task_meaning (1 ∷ []) p.opening calls t.callers.token.view
  -- blocks neither poll nor close
  pub polled : is_polling start_at end_at calls ≡ is_polled p
  pub closed : is_some (last_of close_at calls) ≡ is_closed p
  pub is_closed : t.closed ≡ is_closed p
  pub times : (o : TimesSight) → t.times ≡ Some o → (o.id ≡ id_of 1 n) × (added_times o.token ≡ runs_of (outside_blocks p.called))
  pub started : is_polled p ≡ true → last_of start_at (outside_blocks p.called) ≡ Some t.started

-- which attribute of a resource a call changes, and how, if it does
abbrev pub change_in : ResourceCall → Option (ℕ × AttrOp)
change_in (Attr index change) = Some (index, change)
change_in _ = None

-- a row keeps the values of a resource's attributes by the text: it is that of the text's changes, as if nobody else made calls
pub record KeepsValues (p : ResourcePast) (row : ResourceRow) : Type 0 where
  pub changes : List (Entry ResourceCall (Reply ResourceRow))
  pub answered : HasItsAnswers resource_kind p.opening changes
  pub is_row : fold_of resource_kind p.opening changes ≡ row
  pub unclosed : last_of resource_rules.close_at (accepted is_accepted changes) ≡ None
  pub same : filter_map change_in (accepted is_accepted changes) ≡ filter_map change_in p.called

-- of a resource, whose user is live
pub record IsResource (n : ℕ) (p : ResourcePast) (r : ResourceItem) : Type 0 where
  pub id : r.callers.id ≡ id_of 1 n
  pub called : HasCalled resource_meaning (1 ∷ []) p.opening p.called r.callers.token.view
  pub is_closed : r.closed ≡ is_closed_resource p
  pub values : KeepsValues p r.values
  pub user : IsLive resource_meaning r.callers.token.view r.user

-- of an async operation
pub record IsOp (n : ℕ) (p : OpPast) (o : OpItem) : Type 0 where
  pub id : o.callers.id ≡ id_of 1 n
  pub called : HasCalled op_meaning (1 ∷ []) p.opening p.called o.callers.token.view
  pub is_closed : o.closed ≡ is_closed_op p

-- wakers that aren't spent are live callers in the hands of their tasks, and no two of them are the same caller
pub record AreWakers (tasks : List TaskItem) (wakers : List (Option WakerItem)) : Type 0 where
  pub live : (w : ℕ) (a : WakerItem) → live_item w wakers ≡ Some a → (t : TaskItem) × (made_item a.task tasks ≡ Some t) × IsLive task_meaning t.callers.token.view a.number
  pub apart : (v w : ℕ) (a b : WakerItem) → live_item v wakers ≡ Some a → live_item w wakers ≡ Some b → a.task ≡ b.task → a.number ≡ b.number → v ≡ w

-- the task of each waker that isn't spent
abbrev pub woken_by : List (Option WakerItem) → List (Option ℕ)
woken_by wakers = map (option_map (λ (a : WakerItem). a.task)) wakers

-- what is kept of tasks and their wakers
pub record HoldsTasks (tasks : List TaskItem) (wakers : List (Option WakerItem)) (ps : Pasts) : Type 0 where
  pub tasks_are : EachFrom IsTask 1 ps.tasks tasks
  pub wakers_are : woken_by wakers ≡ ps.wakers
  pub are_live : AreWakers tasks wakers

-- what is kept of all items of a script
pub record Holds (tasks : List TaskItem) (wakers : List (Option WakerItem)) (resources : List ResourceItem) (ops : List OpItem) (ps : Pasts) : Type 0 where
  pub tasks_are : HoldsTasks tasks wakers ps
  pub resources_are : EachFrom IsResource 1 ps.resources resources
  pub ops_are : EachFrom IsOp 1 ps.ops ops

-- ---- what a call leaves of an item

-- a time was added to a histogram, if there is one
abbrev pub AddsTo : Option TimesSight → ℕ → Option TimesSight → Type 0
AddsTo None time new = new ≡ None
AddsTo (Some old) time new = (o : TimesSight) × (new ≡ Some o) × (o.id ≡ old.id) × (o.token.ledger ≡ old.token.ledger) × (added_times o.token ≡ added_times old.token ++ time ∷ [])

-- a task's hand is of the same task and ledger, its histogram is of the same ledger, and who was live stays so
pub record IsSameTask (old new : TaskItem) : Type 0 where
  pub id : new.callers.id ≡ old.callers.id
  pub ledger : new.callers.token.ledger ≡ old.callers.token.ledger
  pub times : times_ledger_of new ≡ times_ledger_of old
  pub live : (k : ℕ) → IsLive task_meaning old.callers.token.view k → IsLive task_meaning new.callers.token.view k

-- a call of a task's owner: where the text stops it, this is the stop; else its calls are more by these
abbrev pub TaskDid : (TaskPast → Option Stop) → List TaskCall → TaskItem → TaskItem → Result (Unit {0}) Stop → Type 0
TaskDid stop calls old new (Ok done) = (n : ℕ) (p : TaskPast) → IsTask n p old → (stop p ≡ None) × IsTask n (and_called (map one calls) p) new
TaskDid stop calls old new (Err why) = (n : ℕ) (p : TaskPast) → IsTask n p old → stop p ≡ Some why

-- a call of a waker, which nothing stops
abbrev pub WakerDid : TaskCall → TaskItem → TaskItem → Type 0
WakerDid call old new = (n : ℕ) (p : TaskPast) → IsTask n p old → IsTask n (and_called (one call ∷ []) p) new

-- it was the waker's last: the others stay live
pub record IsSpent (waker : ℕ) (old new : TaskItem) : Type 0 where
  pub id : new.callers.id ≡ old.callers.id
  pub ledger : new.callers.token.ledger ≡ old.callers.token.ledger
  pub times : times_ledger_of new ≡ times_ledger_of old
  pub live : (k : ℕ) → k ≢ waker → IsLive task_meaning old.callers.token.view k → IsLive task_meaning new.callers.token.view k

-- a waker was drawn: it is live, and was none of those that were
pub record Draws (waker : ℕ) (old new : TaskItem) : Type 0 where
  pub goes_on : IsSameTask old new
  pub did : WakerDid CloneWaker old new
  pub is_live : IsLive task_meaning new.callers.token.view waker
  pub is_new : (k : ℕ) → IsLive task_meaning old.callers.token.view k → k ≢ waker

-- a call on a resource, and a call on an operation, which the text may stop
abbrev pub ResourceDid : (ResourcePast → Option Stop) → ResourceCall → ResourceItem → ResourceItem → Result (Unit {0}) Stop → Type 0
ResourceDid stop call old new (Ok done) = (n : ℕ) (p : ResourcePast) → IsResource n p old → (stop p ≡ None) × IsResource n (and_called (call ∷ []) p) new
ResourceDid stop call old new (Err why) = (n : ℕ) (p : ResourcePast) → IsResource n p old → stop p ≡ Some why

abbrev pub OpDid : (OpPast → Option Stop) → OpCall → OpItem → OpItem → Result (Unit {0}) Stop → Type 0
OpDid stop call old new (Ok done) = (n : ℕ) (p : OpPast) → IsOp n p old → (stop p ≡ None) × IsOp n (and_called (call ∷ []) p) new
OpDid stop call old new (Err why) = (n : ℕ) (p : OpPast) → IsOp n p old → stop p ≡ Some why

-- a resource's hand and an operation's are of the same item and ledger
pub record IsSameResource (old new : ResourceItem) : Type 0 where
  pub id : new.callers.id ≡ old.callers.id
  pub ledger : new.callers.token.ledger ≡ old.callers.token.ledger

pub record IsSameOp (old new : OpItem) : Type 0 where
  pub id : new.callers.id ≡ old.callers.id
  pub ledger : new.callers.token.ledger ≡ old.callers.token.ledger
