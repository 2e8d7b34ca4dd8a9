use Rattle.std.proofs.Common.{ap, ◌∙◌}
use Rattle.taskscope.specs.Requests.{with_lints}
use Rattle.taskscope.proofs.commands.view_command.Goals as goal

pub returns-clause-ok : goal.returns-clause-ok
returns-clause-ok c = c.in_ok-with_lints.ensures.ok ∙ ap with_lints c.in_ok-reading.ensures.ok

pub returns-clause-local : goal.returns-clause-local
returns-clause-local c = c.in_ok-with_lints.ensures.local c.in_ok-reading.ensures.local
