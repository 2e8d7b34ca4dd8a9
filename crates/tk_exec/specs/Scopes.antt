-- What a work does to the scope that its poll is lent.
use Rattle.std.specs.Prelude.{◌≡◌, true, Option, Some, None, ⊤}
use Rattle.tk_core.specs.declared.reply.Refusal.{Refusal}
use Rattle.tk_core.specs.declared.reply.WakeReply.{WakeReply}
use Rattle.tk_core.specs.declared.reply.Reply.TheVariants.{Done, Woken}
use Rattle.tk_core.specs.declared.task.call.TaskCall.TheVariants.{CloneWaker, WakeRef, Release}
use Rattle.tk_core.specs.TaskMeaning.{task_meaning}
use Rattle.tk_cell.specs.Calls.{Calls}
use Rattle.tk_ledgers.specs.Handles.{Drew, NotDrawn}
use Rattle.tk_ledgers.specs.Tasks.{TaskSight}
use Rattle.tk_ledgers.specs.Scopes.{Scoped}

-- the scope is still of the same poll: its moment, its task and the ledger stay
pub record Stays (old new : Scoped) : Type 0 where
  pub moment : new.moment ≡ old.moment
  pub id : new.owner.id ≡ old.owner.id
  pub ledger : new.owner.token.ledger ≡ old.owner.token.ledger

-- one wake of the task by itself, at the moment of the scope, and no other call
pub record WakesItself (old new : Scoped) : Type 0 where
  pub stays : Stays old new
  pub found : WakeReply
  pub entry : Calls task_meaning old.owner.token.view (WakeRef old.moment true) (Woken found) new.owner.token.view

-- this waker of the task is made, and no other call
pub record Clones (old : Scoped) (waker : TaskSight) (new : Scoped) : Type 0 where
  pub stays : Stays old new
  pub named : waker.id ≡ old.owner.id
  pub drew : Drew task_meaning old.owner.token CloneWaker new.owner.token waker.token

-- a waker is asked for and refused, and no other call
pub record ClonesNone (old new : Scoped) : Type 0 where
  pub stays : Stays old new
  pub refusal : Refusal
  pub undrawn : NotDrawn task_meaning old.owner.token CloneWaker refusal new.owner.token

-- one waker is made and kept, or none where it is refused
abbrev pub KeepsWaker : Scoped → Option TaskSight → Scoped → Type 0
KeepsWaker old (Some waker) new = Clones old waker new
KeepsWaker old None new = ClonesNone old new

-- the waker was released, which left this receipt
pub record Released (waker receipt : TaskSight) : Type 0 where
  pub id : receipt.id ≡ waker.id
  pub ledger : receipt.token.ledger ≡ waker.token.ledger
  pub entry : Calls task_meaning waker.token.view Release Done receipt.token.view

-- a waker that there is was released, and its receipt is kept
abbrev pub IsReleased : Option TaskSight → Option TaskSight → Type 0
IsReleased None receipt = ⊤
IsReleased (Some waker) (Some receipt) = Released waker receipt
IsReleased (Some waker) None = ⊥
