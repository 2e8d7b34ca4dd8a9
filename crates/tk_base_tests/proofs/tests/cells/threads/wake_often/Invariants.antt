use Rattle.std.proofs.Common.{◌≡◌}
use Rattle.tk_core.specs.declared.task.call.TaskCall.TheVariants.{CloneWaker}
use Rattle.tk_core.specs.TaskMeaning.{task_meaning}
use Rattle.tk_cell.specs.Roles.{IsMadeBy}
use Rattle.tk_base_tests.proofs.tests.cells.threads.wake_often.Given as goal

abbrev pub invariant-loop-moment : goal.invariant-loop-moment
invariant-loop-moment g l = record {
  own : l.token.ledger ≡ l.initial.token.ledger;
  waker : IsMadeBy task_meaning CloneWaker l.token.view;
}
