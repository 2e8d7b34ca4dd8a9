-- What a poll of a future does to the scope of its task, and what is heard of its wakers.
use Rattle.std.specs.Prelude.{◌≡◌, ℕ, ◌<◌, ◌≤◌, ◌⊎◌, Bool, true, false, List, length, Option, Some, None, IsSomeAnd}
use Rattle.std.specs.List.{slice_get}
use Rattle.futures.specs.declared.task.Poll.{Poll}
use Rattle.futures.specs.declared.task.Poll.TheVariants.{Ready, Pending}
use Rattle.tk_core.specs.declared.reply.WakeReply.{WakeReply}
use Rattle.tk_core.specs.declared.reply.Reply.TheVariants.{Woken}
use Rattle.tk_core.specs.declared.task.call.TaskCall.TheVariants.{WakeRef}
use Rattle.tk_core.specs.TaskMeaning.{task_meaning}
use Rattle.tk_cell.specs.Calls.{Calls}
use Rattle.tk_ledgers.specs.Tasks.{TaskSight}
use Rattle.tk_ledgers.specs.Scopes.{Scoped}
use Rattle.tk_exec.specs.Scopes.{WakesItself, KeepsWaker, IsReleased}
use Rattle.tk_exec.specs.Polls.{Tracked}
use Rattle.tk_exec.specs.Seats.{Seat, Tasks}

-- what contracts see of a future that is a work: the future until it is ready, the task's waker that stands for the future's own, and the receipt of it once it is released
pub record Lent (F : Type 0) : Type 0 where
  pub future : Option F
  pub waker : Option TaskSight
  pub released : Option TaskSight

-- a future that was not polled yet
abbrev pub unpolled : {F : Type 0} → F → Lent F
unpolled future = record { future = Some future; waker = None; released = None }

-- what the future gives, until it is ready
abbrev pub lent_gives : {F A : Type 0} → (F → A → Type 0) → Lent F → A → Type 0
lent_gives gives work x = IsSomeAnd work.future (λ future. gives future x)

-- the waker that was kept is still kept, or one is made and kept
abbrev pub Lends : Option TaskSight → Scoped → Option TaskSight → Scoped → Type 0
Lends (Some waker) old kept new = (kept ≡ Some waker) × (new ≡ old)
Lends None old kept new = KeepsWaker old kept new

-- a pending poll of a future keeps a waker, and then the task wakes itself once where the future was woken in its poll
pub record Waits (had : Option TaskSight) (old : Scoped) (kept : Option TaskSight) (new : Scoped) : Type 0 where
  pub lent : Scoped
  pub lends : Lends had old kept lent
  pub woken : (new ≡ lent) ⊎ WakesItself lent new

module _ {F A : Type 0} (polls : F → Poll A → F → Type 0) where
  -- one poll of the future is ready with this, and the future is let go
  abbrev pub PollsLast : Option F → A → Option F → Type 0
  PollsLast old x new = (before : F) × (after : F) × (old ≡ Some before) × polls before (Ready x) after × (new ≡ None)

  -- one poll of the future is pending, and the future is kept. Where it was let go, nothing is polled
  abbrev pub PollsOnce : Option F → Option F → Type 0
  PollsOnce (Some before) new = (after : F) × (new ≡ Some after) × polls before Pending after
  PollsOnce None new = new ≡ None

  -- a poll is one of the future. A ready one makes no call of the scope and releases the waker; a pending one waits
  abbrev pub lent_polls : Lent F → Scoped → Poll A → Lent F → Scoped → Type 0
  lent_polls work scope (Ready x) after scope' = PollsLast work.future x after.future × (after.waker ≡ None) × IsReleased work.waker after.released × (scope' ≡ scope)
  lent_polls work scope Pending after scope' = PollsOnce work.future after.future × Waits work.waker scope after.waker scope'

-- one wake from outside by this waker, at this moment
pub record WakesFromOutside (old : TaskSight) (moment : ℕ) (new : TaskSight) : Type 0 where
  pub id : new.id ≡ old.id
  pub ledger : new.token.ledger ≡ old.token.ledger
  pub found : WakeReply
  pub entry : Calls task_meaning old.token.view (WakeRef moment false) (Woken found) new.token.view

-- something was heard, which is one wake from outside, or nothing
abbrev pub Hears : Option TaskSight → ℕ → Bool → Option TaskSight → Type 0
Hears (Some old) moment true (Some new) = WakesFromOutside old moment new
Hears old moment false new = new ≡ old
Hears _ moment true _ = ⊥

module _ {F : Type 0} where
  -- the work of a task heard something or nothing, and nothing else changed
  pub record TaskHears (old : Tracked (Lent F)) (moment : ℕ) (heard : Bool) (new : Tracked (Lent F)) : Type 0 where
    pub id : new.id ≡ old.id
    pub owner : new.owner ≡ old.owner
    pub receipt : new.receipt ≡ old.receipt
    pub future : new.work.future ≡ old.work.future
    pub released : new.work.released ≡ old.work.released
    pub hears : Hears old.work.waker moment heard new.work.waker

  -- a task of an executor heard something or nothing
  pub record SeatHears {A : Type 0} (old : Seat (Lent F) A) (moment : ℕ) (heard : Bool) (new : Seat (Lent F) A) : Type 0 where
    pub task : TaskHears old.task moment heard new.task
    pub out : new.out ≡ old.out

  -- the task at a place heard something or nothing
  pub record PlaceHears {A : Type 0} (old : Option (Seat (Lent F) A)) (moment : ℕ) (new : Option (Seat (Lent F) A)) : Type 0 where
    pub before : Seat (Lent F) A
    pub after : Seat (Lent F) A
    pub heard : Bool
    pub stood : old ≡ Some before
    pub stands : new ≡ Some after
    pub hears : SeatHears before moment heard after

  -- the task at each place below one heard something or nothing, and the others stay
  pub record HearBelow {A : Type 0} (place : ℕ) (old : List (Seat (Lent F) A)) (moment : ℕ) (new : List (Seat (Lent F) A)) : Type 0 where
    pub as_long : length new ≡ length old
    pub hears : (i : ℕ) → i < place → PlaceHears (slice_get old i) moment (slice_get new i)
    pub others : (i : ℕ) → place ≤ i → slice_get new i ≡ slice_get old i

  -- each task of an executor heard something or nothing
  pub record AllHear {A : Type 0} (old : Tasks (Lent F) A) (moment : ℕ) (new : Tasks (Lent F) A) : Type 0 where
    pub next : new.next ≡ old.next
    pub each : HearBelow (length old.seats) old.seats moment new.seats
