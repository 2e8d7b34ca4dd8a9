use Rattle.std.proofs.Common.{ap₂, ◌∙◌, ◌||◌}
use Rattle.clap.specs.Simple.{with_rule}
use Rattle.taskscope.proofs.commands.spans_command.Goals as goal

pub returns-clause-ok : goal.returns-clause-ok
returns-clause-ok c =
    let polls = c.in_ok-arg.ensures.shape c.time_arg-long_poll.ensures.local ∙ ap₂ with_rule c.in_ok-view_command.ensures.ok c.time_arg-long_poll.ensures.rule in
    let waits = c.in_ok-arg-2.ensures.shape c.time_arg-long_wait.ensures.local ∙ ap₂ with_rule polls c.time_arg-long_wait.ensures.rule in
    let odd = c.in_ok-arg-3.ensures.shape c.flag_arg-findings.ensures.local ∙ ap₂ with_rule waits c.flag_arg-findings.ensures.rule in
    let by = c.in_ok-arg-4.ensures.shape c.text_arg-by.ensures.local ∙ ap₂ with_rule odd c.text_arg-by.ensures.rule in
    let ends = c.in_ok-arg-5.ensures.shape c.until_arg-until.ensures.local ∙ ap₂ with_rule by c.until_arg-until.ensures.rule in
    let begins = c.in_ok-arg-6.ensures.shape c.since_arg-since.ensures.local ∙ ap₂ with_rule ends c.since_arg-since.ensures.rule in
    c.in_ok-arg-7.ensures.shape c.last_arg-last.ensures.local ∙ ap₂ with_rule begins c.last_arg-last.ensures.rule

pub returns-clause-local : goal.returns-clause-local
returns-clause-local c =
    let polls = c.in_ok-arg.ensures.globals ∙ ap₂ (λ a b. a || b) c.in_ok-view_command.ensures.local c.time_arg-long_poll.ensures.local in
    let waits = c.in_ok-arg-2.ensures.globals ∙ ap₂ (λ a b. a || b) polls c.time_arg-long_wait.ensures.local in
    let odd = c.in_ok-arg-3.ensures.globals ∙ ap₂ (λ a b. a || b) waits c.flag_arg-findings.ensures.local in
    let by = c.in_ok-arg-4.ensures.globals ∙ ap₂ (λ a b. a || b) odd c.text_arg-by.ensures.local in
    let ends = c.in_ok-arg-5.ensures.globals ∙ ap₂ (λ a b. a || b) by c.until_arg-until.ensures.local in
    let begins = c.in_ok-arg-6.ensures.globals ∙ ap₂ (λ a b. a || b) ends c.since_arg-since.ensures.local in
    c.in_ok-arg-7.ensures.globals ∙ ap₂ (λ a b. a || b) begins c.last_arg-last.ensures.local
