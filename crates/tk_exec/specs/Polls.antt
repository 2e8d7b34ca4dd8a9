-- Polls of a work, as the ledger of its task records them.
use Rattle.std.specs.Prelude.{◌≡◌, ℕ, false, [], ◌∷◌, ◌++◌, Option, Some, None}
use Rattle.futures.specs.declared.task.Poll.{Poll}
use Rattle.futures.specs.declared.task.Poll.TheVariants.{Ready, Pending}
use Rattle.tk_core.specs.declared.reply.Reply.TheVariants.{Done}
use Rattle.tk_core.specs.declared.task.call.TaskCall.TheVariants.{PollStart, PollEnd, Close}
use Rattle.tk_cell.specs.Calls.{entry}
use Rattle.tk_ledgers.specs.Tasks.{TaskSight, TaskEntries, is_polling}
use Rattle.tk_ledgers.specs.Scopes.{Scoped, Grows, ScopeGrows}

-- what contracts see of an instrumented work: its task, its owner until it is finished and its receipt from then on, and the work
pub record Tracked (W : Type 0) : Type 0 where
  pub id : ℕ
  pub owner : Option TaskSight
  pub receipt : Option TaskSight
  pub work : W

-- a work with the owner of its task, not finished
abbrev pub tracked : {W : Type 0} → TaskSight → W → Tracked W
tracked owner work = record { id = owner.id; owner = Some owner; receipt = None; work = work }

-- between polls: an owner of the task without an open poll, or the task's receipt
abbrev pub IsAtRest : ℕ → Option TaskSight → Option TaskSight → Type 0
IsAtRest id (Some owner) None = (owner.id ≡ id) × (is_polling owner ≡ false)
IsAtRest id None (Some receipt) = receipt.id ≡ id
IsAtRest id _ _ = ⊥

-- the receipt of a task that is finished, or the one that its owner leaves by closing it at this moment
abbrev pub ClosedAt : ℕ → Option TaskSight → Option TaskSight → TaskSight → Type 0
ClosedAt moment (Some owner) had receipt = Grows owner (entry 0 (Close moment) Done ∷ []) receipt
ClosedAt moment None had receipt = had ≡ Some receipt

-- a work that is ready closes its task at this moment
abbrev pub closing : {A : Type 0} → Poll A → ℕ → TaskEntries
closing (Ready x) moment = entry 0 (Close moment) Done ∷ []
closing Pending moment = []

-- the entries of one poll: its start at the first moment, those of its scope, its end at the second, and the close where the work is ready
abbrev pub poll_entries : {A : Type 0} → Poll A → ℕ → TaskEntries → ℕ → TaskEntries
poll_entries answer first entries second = entry 0 (PollStart first) Done ∷ (entries ++ (entry 0 (PollEnd second) Done ∷ closing answer second))

-- after a poll the work has its owner where it is pending, and the receipt where it is ready
abbrev pub Leaves : {A W : Type 0} → Poll A → TaskSight → Tracked W → Type 0
Leaves (Ready x) after new = (new.owner ≡ None) × (new.receipt ≡ Some after)
Leaves Pending after new = (new.owner ≡ Some after) × (new.receipt ≡ None)

-- one poll of a work: the clock is read twice; the owner starts a poll at the first moment, the work is polled once in a scope of that moment, and the owner ends the poll at the second
pub record Polled {A C W : Type 0} (reads : C → ℕ → C → Type 0) (polls : W → Scoped → Poll A → W → Scoped → Type 0) (answer : Poll A) (old new : Tracked W) (clock clock' : C) : Type 0 where
  pub before : TaskSight
  pub after : TaskSight
  pub first : ℕ
  pub between : C
  pub second : ℕ
  pub id : new.id ≡ old.id
  pub was : old.owner ≡ Some before
  pub leaves : Leaves answer after new
  pub reads_first : reads clock first between
  pub reads_second : reads between second clock'
  -- the scope that the work was lent, and what it left of it
  pub scope : Scoped
  pub scope' : Scoped
  pub moment : scope.moment ≡ first
  pub starts : Grows before (entry 0 (PollStart first) Done ∷ []) scope.owner
  pub work : polls old.work scope answer new.work scope'
  pub scoped : ScopeGrows scope scope'
  pub ends : Grows scope'.owner (entry 0 (PollEnd second) Done ∷ closing answer second) after
  -- so the owner's list grows by the entries of one poll
  pub grows : Grows before (poll_entries answer first scoped.entries second) after
