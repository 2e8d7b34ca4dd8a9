use Rattle.std.proofs.Common.{ap₂, ◌∙◌, ◌||◌}
use Rattle.clap.specs.Simple.{with_rule}
use Rattle.taskscope.proofs.commands.run_command.Goals as goal

pub returns-clause-ok : goal.returns-clause-ok
returns-clause-ok c = c.in_ok-arg.ensures.shape c.flag_arg-explain.ensures.local ∙ ap₂ with_rule c.in_ok-run.ensures.ok c.flag_arg-explain.ensures.rule

pub returns-clause-local : goal.returns-clause-local
returns-clause-local c = c.in_ok-arg.ensures.globals ∙ ap₂ (λ a b. a || b) c.in_ok-run.ensures.local c.flag_arg-explain.ensures.local
