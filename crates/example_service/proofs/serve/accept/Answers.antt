use Rattle.std.proofs.Common.{ap}
use Rattle.tk_core.specs.declared.reply.Reply.{Reply}
use Rattle.tk_core.specs.declared.task.call.TaskCall.{TaskCall}
use Rattle.tk_core.specs.declared.task.row.TaskRow.{TaskRow}
use Rattle.tk_core.specs.Fold.{is_accepted}
use Rattle.tk_core.specs.History.{accepted}
use Rattle.tk_core.specs.Legal.{own}
use Rattle.tk_core.specs.Lists as lists
use Rattle.tk_core.specs.Polls.{is_polling}
use Rattle.tk_core.specs.Task.{start_at, end_at}
use Rattle.tk_cell.specs.declared.view.View.{View}
use Rattle.example_service.proofs.serve.accept.Goals as goal

-- a task that was just made has no open poll
pub new-requires-2 : goal.new-requires-2
unfolding lists.last_of accepted
new-requires-2 g c = ap (λ (v : View TaskRow TaskCall (Reply TaskRow)). is_polling start_at end_at (accepted is_accepted (own 0 v.seen))) c.in-Ok.ensures.owner
