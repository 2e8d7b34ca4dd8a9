use Rattle.std.proofs.Common.{ap, ap₂, ◌∙◌, ◌||◌}
use Rattle.clap.specs.Simple.{with_rule}
use Rattle.taskscope.specs.Requests.{with_lints}
use Rattle.taskscope.proofs.commands.compare_command.Goals as goal

pub returns-clause-ok : goal.returns-clause-ok
returns-clause-ok c =
    let lints = c.in_ok-with_lints.ensures.ok ∙ ap with_lints c.in_ok-streams.ensures.ok in
    let polls = c.in_ok-arg.ensures.shape c.time_arg-long_poll.ensures.local ∙ ap₂ with_rule lints c.time_arg-long_poll.ensures.rule in
    let more = c.in_ok-arg-2.ensures.shape c.number_arg-more_than.ensures.local ∙ ap₂ with_rule polls c.number_arg-more_than.ensures.rule in
    c.in_ok-arg-3.ensures.shape c.time_arg-at_least.ensures.local ∙ ap₂ with_rule more c.time_arg-at_least.ensures.rule

pub returns-clause-local : goal.returns-clause-local
returns-clause-local c =
    let lints = c.in_ok-with_lints.ensures.local c.in_ok-streams.ensures.local in
    let polls = c.in_ok-arg.ensures.globals ∙ ap₂ (λ a b. a || b) lints c.time_arg-long_poll.ensures.local in
    let more = c.in_ok-arg-2.ensures.globals ∙ ap₂ (λ a b. a || b) polls c.number_arg-more_than.ensures.local in
    c.in_ok-arg-3.ensures.globals ∙ ap₂ (λ a b. a || b) more c.time_arg-at_least.ensures.local
