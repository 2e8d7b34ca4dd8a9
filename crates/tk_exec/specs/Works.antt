-- What the example works give, and what a poll of each does.
use Rattle.std.specs.Prelude.{◌≡◌, ℕ, ◌+◌, ◌-◌, ◌^◌, ◌<◌, ◌≤◌, ◌⊎◌, true, false, Some, None}
use Rattle.futures.specs.declared.task.Poll.{Poll}
use Rattle.futures.specs.declared.task.Poll.TheVariants.{Ready, Pending}
use Rattle.tk_core.specs.Lists.{capped}
use Rattle.tk_ledgers.specs.Tasks.{TaskSight}
use Rattle.tk_ledgers.specs.Scopes.{Scoped}
use Rattle.tk_exec.specs.Scopes.{WakesItself, Clones, ClonesNone, KeepsWaker, IsReleased}
use Rattle.tk_exec.specs.declared.works.yielding.YieldTimes.{YieldTimes}
use Rattle.tk_exec.specs.declared.works.busy.BusyUntil.{BusyUntil}
use Rattle.tk_exec.specs.declared.works.lose.LoseWaker.{LoseWaker}
use Rattle.tk_exec.specs.declared.works.hold.HoldWaker.{HoldWaker}
use Rattle.tk_exec.specs.declared.works.example.Example.{Example}
use Rattle.tk_exec.specs.declared.works.example.Example.TheVariants.{Yield, Hold, Lose, Busy}

-- ---- outputs: the number of polls

-- after so many polls, with so many wakes to go: one poll for each wake and one more, at most 2^64 - 1
abbrev pub yield_gives : YieldTimes → ℕ → Type 0
yield_gives work n = n ≡ capped (work.polls + work.left + 1)

-- two polls: the one that keeps a waker, and the one that releases it
abbrev pub hold_gives : HoldWaker → ℕ → Type 0
hold_gives work n = n ≡ 2

-- nothing, since it is never ready
abbrev pub lose_gives : LoseWaker → ℕ → Type 0
lose_gives work n = ⊥

-- more polls than there were, or 2^64 - 1
abbrev pub busy_gives : BusyUntil → ℕ → Type 0
busy_gives work n = (work.polls < n) ⊎ (n ≡ 2 ^ 64 - 1)

-- what the work gives that it is
abbrev pub example_gives : Example → ℕ → Type 0
example_gives (Yield work) n = yield_gives work n
example_gives (Hold work) n = hold_gives work n
example_gives (Lose work) n = lose_gives work n
example_gives (Busy work) n = busy_gives work n

-- ---- polls

-- it is ready exactly where no wake is to go, and makes no call then; otherwise it wakes itself once, and one wake less is to go
abbrev pub yield_polls : YieldTimes → Scoped → Poll ℕ → YieldTimes → Scoped → Type 0
yield_polls work scope (Ready n) after scope' = (work.left ≡ 0) × (n ≡ capped (work.polls + 1)) × (scope' ≡ scope)
yield_polls work scope Pending after scope' = (after.left + 1 ≡ work.left) × (after.polls ≡ capped (work.polls + 1)) × WakesItself scope scope'

-- the first poll is pending and keeps one waker; the next one releases it, and is ready
abbrev pub hold_polls : HoldWaker → Scoped → Poll ℕ → HoldWaker → Scoped → Type 0
hold_polls work scope (Ready n) after scope' = (work.begun ≡ true) × (n ≡ 2) × (after.waker ≡ None) × IsReleased work.waker after.released × (scope' ≡ scope)
hold_polls work scope Pending after scope' = (work.begun ≡ false) × (after.begun ≡ true) × KeepsWaker scope after.waker scope'

-- it is never ready: each poll makes one waker and releases it, where one can be made
abbrev pub lose_polls : LoseWaker → Scoped → Poll ℕ → LoseWaker → Scoped → Type 0
lose_polls work scope (Ready n) after scope' = ⊥
lose_polls work scope Pending after scope' = ((waker : TaskSight) × Clones scope waker scope' × IsReleased (Some waker) after.released) ⊎ ClonesNone scope scope'

-- it is ready exactly from its moment on, and makes no call then; otherwise it wakes itself once, and waits for the same moment
abbrev pub busy_polls : BusyUntil → Scoped → Poll ℕ → BusyUntil → Scoped → Type 0
busy_polls work scope (Ready n) after scope' = (work.moment ≤ scope.moment) × (n ≡ capped (work.polls + 1)) × (scope' ≡ scope)
busy_polls work scope Pending after scope' = (scope.moment < work.moment) × (after.moment ≡ work.moment) × (after.polls ≡ capped (work.polls + 1)) × WakesItself scope scope'

-- what the work does that it is, and it stays of its kind
abbrev pub example_polls : Example → Scoped → Poll ℕ → Example → Scoped → Type 0
example_polls (Yield work) scope answer (Yield after) scope' = yield_polls work scope answer after scope'
example_polls (Hold work) scope answer (Hold after) scope' = hold_polls work scope answer after scope'
example_polls (Lose work) scope answer (Lose after) scope' = lose_polls work scope answer after scope'
example_polls (Busy work) scope answer (Busy after) scope' = busy_polls work scope answer after scope'
example_polls _ scope answer _ scope' = ⊥
