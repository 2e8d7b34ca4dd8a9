use Rattle.std.proofs.Common.{ap₂, ◌∙◌, ◌||◌}
use Rattle.clap.specs.Simple.{with_rule}
use Rattle.taskscope.proofs.commands.page_command.Goals as goal

pub returns-clause-ok : goal.returns-clause-ok
returns-clause-ok c =
    let polls = c.in_ok-arg.ensures.shape c.time_arg-long_poll.ensures.local ∙ ap₂ with_rule c.in_ok-view_command.ensures.ok c.time_arg-long_poll.ensures.rule in
    let titled = c.in_ok-arg-2.ensures.shape c.text_arg-title.ensures.local ∙ ap₂ with_rule polls c.text_arg-title.ensures.rule in
    let until = c.in_ok-arg-3.ensures.shape c.until_arg-until.ensures.local ∙ ap₂ with_rule titled c.until_arg-until.ensures.rule in
    let later = c.in_ok-arg-4.ensures.shape c.later_arg-later.ensures.local ∙ ap₂ with_rule until c.later_arg-later.ensures.rule in
    c.in_ok-arg-5.ensures.shape c.flag_arg-explain.ensures.local ∙ ap₂ with_rule later c.flag_arg-explain.ensures.rule

pub returns-clause-local : goal.returns-clause-local
returns-clause-local c =
    let polls = c.in_ok-arg.ensures.globals ∙ ap₂ (λ a b. a || b) c.in_ok-view_command.ensures.local c.time_arg-long_poll.ensures.local in
    let titled = c.in_ok-arg-2.ensures.globals ∙ ap₂ (λ a b. a || b) polls c.text_arg-title.ensures.local in
    let until = c.in_ok-arg-3.ensures.globals ∙ ap₂ (λ a b. a || b) titled c.until_arg-until.ensures.local in
    let later = c.in_ok-arg-4.ensures.globals ∙ ap₂ (λ a b. a || b) until c.later_arg-later.ensures.local in
    c.in_ok-arg-5.ensures.globals ∙ ap₂ (λ a b. a || b) later c.flag_arg-explain.ensures.local
