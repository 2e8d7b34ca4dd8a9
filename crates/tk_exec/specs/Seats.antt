-- The tasks that an executor holds, and what happens to one of them.
use Rattle.std.specs.Prelude.{◌≡◌, ◌≢◌, ℕ, Bool, true, false, List, [], ◌∷◌, length, filter, filter_map, Option, Some, None, is_some, not, ⊤}
use Rattle.std.specs.List.{slice_get}
use Rattle.futures.specs.declared.task.Poll.{Poll}
use Rattle.futures.specs.declared.task.Poll.TheVariants.{Ready, Pending}
use Rattle.futures.specs.Poll.{IfReady, OnPending}
use Rattle.tk_core.specs.declared.reply.Reply.TheVariants.{Shown}
use Rattle.tk_core.specs.declared.task.row.TaskRow.{TaskRow}
use Rattle.tk_core.specs.declared.task.call.TaskCall.TheVariants.{Read}
use Rattle.tk_cell.specs.Calls.{entry}
use Rattle.tk_ledgers.specs.Tasks.{TaskSight}
use Rattle.tk_ledgers.specs.Scopes.{Scoped, Grows}
use Rattle.tk_exec.specs.Polls.{Tracked, Polled, ClosedAt}

-- a task, and its output once it is finished
pub record Seat (W A : Type 0) : Type 0 where
  pub task : Tracked W
  pub out : Option A

-- the tasks that an executor holds, in order of spawn, and the place at which the next turn begins
pub record Tasks (W A : Type 0) : Type 0 where
  pub seats : List (Seat W A)
  pub next : ℕ

-- the owner of a task read its row, which shows whether the task is scheduled; a task that is finished has no owner, and isn't scheduled
abbrev pub OwnerReads : Option TaskSight → Bool → Option TaskSight → Type 0
OwnerReads None scheduled new = (scheduled ≡ false) × (new ≡ None)
OwnerReads (Some owner) scheduled new = (row : TaskRow) × (after : TaskSight) × (new ≡ Some after) × (scheduled ≡ row.scheduled) × Grows owner (entry 0 Read (Shown row) ∷ []) after

-- the owner read its row, and nothing else changed
pub record IsRead {W : Type 0} (old : Tracked W) (scheduled : Bool) (new : Tracked W) : Type 0 where
  pub id : new.id ≡ old.id
  pub work : new.work ≡ old.work
  pub receipt : new.receipt ≡ old.receipt
  pub owner : OwnerReads old.owner scheduled new.owner

-- whether a poll is ready
abbrev pub is_ready : {A : Type 0} → Poll A → Bool
is_ready (Ready x) = true
is_ready Pending = false

-- the output of a poll that is ready, and otherwise what there was
abbrev pub output_or : {A : Type 0} → Poll A → Option A → Option A
output_or (Ready x) old = Some x
output_or Pending old = old

module _ {W A : Type 0} where
  -- how many tasks are not finished
  abbrev pub unfinished : List (Seat W A) → ℕ
  unfinished seats = length (filter (λ seat. not (is_some seat.out)) seats)

  -- the outputs of those that are finished, in their order
  abbrev pub outputs_of : List (Seat W A) → List A
  outputs_of seats = filter_map (λ seat. seat.out) seats

  -- a receipt for each task, in their order: each that isn't finished is closed at this moment
  abbrev pub AreClosedAt : ℕ → List (Seat W A) → List TaskSight → Type 0
  AreClosedAt moment [] [] = ⊤
  AreClosedAt moment (seat ∷ seats) (receipt ∷ receipts) = ClosedAt moment seat.task.owner seat.task.receipt receipt × AreClosedAt moment seats receipts
  AreClosedAt moment _ _ = ⊥

  -- a task was looked at
  abbrev pub LookedAt : Seat W A → Bool → Seat W A → Type 0
  LookedAt old scheduled new = IsRead old.task scheduled new.task × (new.out ≡ old.out)

  -- a task that isn't finished was polled once: where its work is ready the output is kept, which the work gives
  pub record PolledAt {C : Type 0} (reads : C → ℕ → C → Type 0) (polls : W → Scoped → Poll A → W → Scoped → Type 0) (gives : W → A → Type 0) (old : Seat W A) (ready : Bool) (new : Seat W A) (clock clock' : C) : Type 0 where
    pub answer : Poll A
    pub polled : Polled reads polls answer old.task new.task clock clock'
    pub unfinished : old.out ≡ None
    pub is : ready ≡ is_ready answer
    pub out : new.out ≡ output_or answer old.out
    pub value : IfReady answer (gives old.task.work)
    pub same : OnPending answer ((x : A) → gives new.task.work x → gives old.task.work x)

  -- one place changes
  pub record ChangesAt (place : ℕ) (old new : List (Seat W A)) : Type 0 where
    pub before : Seat W A
    pub after : Seat W A
    pub stood : slice_get old place ≡ Some before
    pub stands : slice_get new place ≡ Some after
    pub others : (i : ℕ) → i ≢ place → slice_get new i ≡ slice_get old i
    pub as_long : length new ≡ length old
