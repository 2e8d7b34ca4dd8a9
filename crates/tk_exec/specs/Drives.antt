-- What a driver answers, after which turns.
use Rattle.std.specs.Prelude.{◌≡◌, ℕ, ◌+◌, ◌<◌, List, [], ◌∷◌, ◌++◌, length, replicate, Option, Some, None, ⊤}
use Rattle.std.specs.List.{slice_get}
use Rattle.futures.specs.declared.task.Poll.{Poll}
use Rattle.tk_ledgers.specs.Scopes.{Scoped}
use Rattle.tk_exec.specs.Seats.{Seat, Tasks, unfinished, outputs_of}
use Rattle.tk_exec.specs.Turns.{TurnDoes}
use Rattle.tk_exec.specs.declared.executor.Turn.{Turn}
use Rattle.tk_exec.specs.declared.executor.Turn.TheVariants as turns
use Rattle.tk_exec.specs.declared.driver.Ran.{Ran}
use Rattle.tk_exec.specs.declared.driver.Ran.TheVariants.{Finished, Stalled}

-- what contracts see of a driver: its tasks until it has answered, its clock, the idle turns in a row that it has made, and the number of them at which it stalls
pub record Driving (W A C : Type 0) : Type 0 where
  pub tasks : Option (Tasks W A)
  pub clock : C
  pub idle : ℕ
  pub max_idle : ℕ

-- the number of idle turns in a row, after a turn
abbrev pub idle_after : ℕ → Turn → ℕ
idle_after idle turns.Idle = idle + 1
idle_after idle (turns.Polled id ready) = 0

-- no turn was made, or the last one polled a task
abbrev pub EndsPolled : List Turn → Type 0
EndsPolled [] = ⊤
EndsPolled (turns.Idle ∷ []) = ⊥
EndsPolled (turns.Polled id ready ∷ []) = ⊤
EndsPolled (answer ∷ next ∷ answers) = EndsPolled (next ∷ answers)

-- after so many idle turns, turns that were answered this end in so many idle ones in a row, and no more
pub record EndsIdle (before : ℕ) (answers : List Turn) (idle : ℕ) : Type 0 where
  pub earlier : List Turn
  pub polled : EndsPolled earlier
  pub ends : replicate before turns.Idle ++ answers ≡ earlier ++ replicate idle turns.Idle

-- the output that there is, or where there is none one of which this holds
abbrev pub IsOutput : {A : Type 0} → Option A → (A → Type 0) → A → Type 0
IsOutput None P x = P x
IsOutput (Some y) P x = x ≡ y

module _ {W A : Type 0} (gives : W → A → Type 0) where
  -- what a task gave, or where it isn't finished what its work gives
  abbrev pub Gives : Seat W A → A → Type 0
  Gives seat x = IsOutput seat.out (gives seat.task.work) x

  -- one output for each task, in order of spawn
  pub record GaveAll (seats : List (Seat W A)) (outputs : List A) : Type 0 where
    pub as_many : length outputs ≡ length seats
    pub each : (place : ℕ) (seat : Seat W A) (x : A) → slice_get seats place ≡ Some seat → slice_get outputs place ≡ Some x → Gives seat x

module _ {W A C : Type 0} (reads : C → ℕ → C → Type 0) (polls : W → Scoped → Poll A → W → Scoped → Type 0) (gives : W → A → Type 0) where
  -- turns, one after the other, that were answered this
  abbrev pub Turned : Tasks W A → C → List Turn → Tasks W A → C → Type 0
  Turned old clock [] new clock' = (new ≡ old) × (clock' ≡ clock)
  Turned old clock (answer ∷ answers) new clock' = (next : Tasks W A) × (between : C) × TurnDoes reads polls gives old answer next clock between × Turned next between answers new clock'

  -- turns were made, which end in so many idle ones in a row as are the most, and this number of tasks, more than none, is not finished
  pub record Stalls (tasks : Tasks W A) (clock : C) (idle max_idle n : ℕ) : Type 0 where
    pub answers : List Turn
    pub left : Tasks W A
    pub clock' : C
    pub turned : Turned tasks clock answers left clock'
    pub idles : EndsIdle idle answers max_idle
    pub number : n ≡ unfinished left.seats
    pub waits : 0 < n

  -- turns were made, after which no task is unfinished, and the outputs are those that the tasks have, in order of spawn: what the last poll of each work answered
  pub record Finishes (tasks : Tasks W A) (clock : C) (outputs : List A) : Type 0 where
    pub answers : List Turn
    pub left : Tasks W A
    pub clock' : C
    pub turned : Turned tasks clock answers left clock'
    pub all : unfinished left.seats ≡ 0
    pub given : outputs ≡ outputs_of left.seats

  -- one output for each task, or a stall; after its answer a stall with none unfinished
  abbrev pub RanGives : Option (Tasks W A) → C → ℕ → ℕ → Ran A → Type 0
  RanGives None clock idle max_idle ran = ran ≡ Stalled 0
  RanGives (Some tasks) clock idle max_idle (Finished outputs) = GaveAll gives tasks.seats outputs × Finishes tasks clock outputs
  RanGives (Some tasks) clock idle max_idle (Stalled n) = Stalls tasks clock idle max_idle n

  -- what a driver may answer
  abbrev pub DriverGives : Driving W A C → Ran A → Type 0
  DriverGives driver ran = RanGives driver.tasks driver.clock driver.idle driver.max_idle ran

  -- some task wasn't finished, and exactly one turn was made, after which the driver goes on
  pub record OneTurn (old new : Driving W A C) : Type 0 where
    pub before : Tasks W A
    pub after : Tasks W A
    pub answer : Turn
    pub stood : old.tasks ≡ Some before
    pub waits : 0 < unfinished before.seats
    pub stands : new.tasks ≡ Some after
    pub turned : TurnDoes reads polls gives before answer after old.clock new.clock
    pub idle : new.idle ≡ idle_after old.idle answer
    pub most : new.max_idle ≡ old.max_idle
