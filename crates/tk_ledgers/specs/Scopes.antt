-- What the scope of a poll shows, and what may happen in it.
use Rattle.std.specs.Prelude.{◌≡◌, ℕ, Bool, true, false, ◌++◌}
use Rattle.std.specs.List.{list_all}
use Rattle.tk_core.specs.declared.task.call.TaskCall.{TaskCall}
use Rattle.tk_core.specs.declared.task.call.TaskCall.TheVariants.{CloneWaker, WakeRef}
use Rattle.tk_core.specs.History.{accepted}
use Rattle.tk_core.specs.Fold.{is_accepted}
use Rattle.tk_core.specs.Legal.{own}
use Rattle.tk_ledgers.specs.Tasks.{TaskSight, TaskEntries, owner_calls}
use Rattle.tk_ledgers.specs.Times.{runs_after, IsTimed, TimesGrow}

-- what contracts see of a scope: the owner that it holds, and the moment that it was opened at
pub record Scoped : Type 0 where
  pub owner : TaskSight
  pub moment : ℕ

-- the owner's own list, as far as a handle has seen
abbrev pub owner_list : TaskSight → TaskEntries
owner_list h = own 0 h.token.view.seen

-- the task and the ledger stay, the owner's list grows by these entries, and its histogram by how long the polls ran that they end
pub record Grows (old : TaskSight) (entries : TaskEntries) (new : TaskSight) : Type 0 where
  pub id : new.id ≡ old.id
  pub ledger : new.token.ledger ≡ old.token.ledger
  pub list : owner_list new ≡ owner_list old ++ entries
  pub times : TimesGrow old.times (runs_after (owner_calls old) (accepted is_accepted entries)) new.times

-- the times of a task's histogram stay how long its polls ran
abbrev pub StaysTimed : Type 0
StaysTimed = (old new : TaskSight) (entries : TaskEntries) → IsTimed old → Grows old entries new → IsTimed new

-- the calls of a scope: a clone of a waker, and a wake by reference that is a self-wake
abbrev pub is_scope_call : TaskCall → Bool
is_scope_call CloneWaker = true
is_scope_call (WakeRef m from_self) = from_self
is_scope_call _ = false

-- each entry is one of a scope's calls
abbrev pub AreOfScope : TaskEntries → Type 0
AreOfScope entries = list_all (λ e. is_scope_call e.call) entries ≡ true

-- in a poll the scope's moment stays, and its owner's list grows by entries of the scope's calls alone
pub record ScopeGrows (old new : Scoped) : Type 0 where
  pub moment : new.moment ≡ old.moment
  pub entries : TaskEntries
  pub of_scope : AreOfScope entries
  pub grows : Grows old.owner entries new.owner
