-- Inner: what a use of the handles says of its steps.
use Rattle.std.specs.Prelude.{ℕ, Bool}
use Rattle.tk_core.specs.declared.reply.Reply.TheVariants.{Woken}
use Rattle.tk_core.specs.declared.reply.WakeReply.{WakeReply}
use Rattle.tk_core.specs.declared.task.call.TaskCall.TheVariants.{WakeVal}
use Rattle.tk_core.specs.TaskMeaning.{task_meaning}
use Rattle.tk_cell.specs.Calls.{Calls}
use Rattle.tk_ledgers.specs.Tasks.{TaskSight}

-- a waker's last call was a wake by value, after which its receipt is what it has seen
abbrev pub WokeOnce : TaskSight → TaskSight → Type 0
WokeOnce waker receipt = (moment : ℕ) × (from_self : Bool) × (found : WakeReply)
    × Calls task_meaning waker.token.view (WakeVal moment from_self) (Woken found) receipt.token.view
