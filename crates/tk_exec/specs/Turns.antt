-- What an executor does: its turns, and what is put in and taken out.
use Rattle.std.specs.Prelude.{◌≡◌, ℕ, ◌+◌, ◌<◌, ◌≤◌, ◌⊎◌, Bool, true, false, List, length, Option, Some, is_some}
use Rattle.std.specs.List.{slice_get, remove}
use Rattle.futures.specs.declared.task.Poll.{Poll}
use Rattle.tk_ledgers.specs.Tasks.{TaskSight}
use Rattle.tk_ledgers.specs.Scopes.{Scoped}
use Rattle.tk_exec.specs.Seats.{Seat, Tasks, LookedAt, PolledAt, ChangesAt}
use Rattle.tk_exec.specs.declared.error.ExecError.{ExecError}
use Rattle.tk_exec.specs.declared.error.ExecError.TheVariants as errors
use Rattle.tk_exec.specs.declared.executor.Turn.{Turn}
use Rattle.tk_exec.specs.declared.executor.Turn.TheVariants as turns

-- a turn begins at a place, goes on to the last place, and then from the first place on: the first of two places comes before the second
abbrev pub ComesBefore : ℕ → ℕ → ℕ → Type 0
ComesBefore begin i j = ((begin ≤ i) × ((j < begin) ⊎ (i < j))) ⊎ ((i < begin) × (j < begin) × (i < j))

module _ {W A : Type 0} where
  -- a place was looked at, and shows not scheduled
  pub record PassedOver (old new : Option (Seat W A)) : Type 0 where
    pub before : Seat W A
    pub after : Seat W A
    pub stood : old ≡ Some before
    pub stands : new ≡ Some after
    pub looked : LookedAt before false after

  -- the places from one on and before another were passed over, and the others stay
  pub record Passed (first last : ℕ) (old new : List (Seat W A)) : Type 0 where
    pub passed : (i : ℕ) → first ≤ i → i < last → PassedOver (slice_get old i) (slice_get new i)
    pub others : (i : ℕ) → (i < first) ⊎ (last ≤ i) → slice_get new i ≡ slice_get old i
    pub as_long : length new ≡ length old

  -- places from one on were passed over, up to one before another, which shows scheduled
  pub record Found (first last place : ℕ) (old new : List (Seat W A)) : Type 0 where
    pub from : first ≤ place
    pub to : place < last
    pub between : List (Seat W A)
    pub passed : Passed first place old between
    pub change : ChangesAt place between new
    pub looked : LookedAt change.before true change.after

  -- the task at one place was polled
  pub record PolledThere {C : Type 0} (reads : C → ℕ → C → Type 0) (polls : W → Scoped → Poll A → W → Scoped → Type 0) (gives : W → A → Type 0) (place : ℕ) (old : List (Seat W A)) (id : ℕ) (ready : Bool) (new : List (Seat W A)) (clock clock' : C) : Type 0 where
    pub change : ChangesAt place old new
    pub named : id ≡ change.before.task.id
    pub polled : PolledAt reads polls gives change.before ready change.after clock clock'

  -- the answer names the task at one place that was polled
  abbrev pub PollsAt : {C : Type 0} → (C → ℕ → C → Type 0) → (W → Scoped → Poll A → W → Scoped → Type 0) → (W → A → Type 0) → ℕ → List (Seat W A) → Turn → List (Seat W A) → C → C → Type 0
  PollsAt reads polls gives place old (turns.Polled id ready) new clock clock' = PolledThere reads polls gives place old id ready new clock clock'
  PollsAt reads polls gives place old turns.Idle new clock clock' = ⊥

  -- a turn that polls a task: each task before it in the order of the turn was passed over, it shows scheduled and is polled, and those after it stay; the next turn begins after it
  pub record TurnPolls {C : Type 0} (reads : C → ℕ → C → Type 0) (polls : W → Scoped → Poll A → W → Scoped → Type 0) (gives : W → A → Type 0) (old new : Tasks W A) (id : ℕ) (ready : Bool) (clock clock' : C) : Type 0 where
    pub place : ℕ
    pub before : Seat W A
    pub read : Seat W A
    pub after : Seat W A
    pub stood : slice_get old.seats place ≡ Some before
    pub stands : slice_get new.seats place ≡ Some after
    pub named : id ≡ before.task.id
    pub looked : LookedAt before true read
    pub polled : PolledAt reads polls gives read ready after clock clock'
    pub passed : (i : ℕ) → i < length old.seats → ComesBefore old.next i place → PassedOver (slice_get old.seats i) (slice_get new.seats i)
    pub others : (i : ℕ) → ComesBefore old.next place i → slice_get new.seats i ≡ slice_get old.seats i
    pub as_long : length new.seats ≡ length old.seats
    pub next : new.next ≡ place + 1

  -- an idle turn: every task was passed over
  pub record TurnIdles {C : Type 0} (old new : Tasks W A) (clock clock' : C) : Type 0 where
    pub passed : (i : ℕ) → i < length old.seats → PassedOver (slice_get old.seats i) (slice_get new.seats i)
    pub as_long : length new.seats ≡ length old.seats
    pub next : new.next ≡ old.next
    pub unread : clock' ≡ clock

  -- what a turn does, by what it answers
  abbrev pub TurnDoes : {C : Type 0} → (C → ℕ → C → Type 0) → (W → Scoped → Poll A → W → Scoped → Type 0) → (W → A → Type 0) → Tasks W A → Turn → Tasks W A → C → C → Type 0
  TurnDoes reads polls gives old (turns.Polled id ready) new clock clock' = TurnPolls reads polls gives old new id ready clock clock'
  TurnDoes reads polls gives old turns.Idle new clock clock' = TurnIdles old new clock clock'

  -- a task of this id is held
  abbrev pub HoldsId : List (Seat W A) → ℕ → Type 0
  HoldsId seats id = (place : ℕ) × (seat : Seat W A) × (slice_get seats place ≡ Some seat) × (seat.task.id ≡ id)

  -- why a task isn't taken in
  abbrev pub RefusedFor : ExecError → List (Seat W A) → ℕ → Type 0
  RefusedFor errors.Repeated seats id = HoldsId seats id
  RefusedFor errors.Memory seats id = HoldsId seats id → ⊥

  -- no task of this id that is held is finished
  abbrev pub NoneFinished : List (Seat W A) → ℕ → Type 0
  NoneFinished seats id = (place : ℕ) (seat : Seat W A) → slice_get seats place ≡ Some seat → seat.task.id ≡ id → is_some seat.out ≡ false

  -- the output and the receipt of a finished task, which is held no more; the next turn begins at the same task as before
  pub record Takes (old new : Tasks W A) (id : ℕ) (out : A) (receipt : TaskSight) : Type 0 where
    pub place : ℕ
    pub seat : Seat W A
    pub stood : slice_get old.seats place ≡ Some seat
    pub named : seat.task.id ≡ id
    pub output : seat.out ≡ Some out
    pub closed : seat.task.receipt ≡ Some receipt
    pub left : new.seats ≡ remove old.seats place
    pub next : ((place < old.next) × (new.next + 1 ≡ old.next)) ⊎ ((old.next ≤ place) × (new.next ≡ old.next))
