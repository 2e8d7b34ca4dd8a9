use Rattle.std.proofs.Common.{ap₂, ◌∙◌, ◌||◌}
use Rattle.clap.specs.Simple.{with_rule}
use Rattle.taskscope.proofs.commands.metrics_command.Goals as goal

pub returns-clause-ok : goal.returns-clause-ok
returns-clause-ok c =
    let by = c.in_ok-arg.ensures.shape c.text_arg-by.ensures.local ∙ ap₂ with_rule c.in_ok-view_command.ensures.ok c.text_arg-by.ensures.rule in
    let to = c.in_ok-arg-2.ensures.shape c.text_arg-to.ensures.local ∙ ap₂ with_rule by c.text_arg-to.ensures.rule in
    let every = c.in_ok-arg-3.ensures.shape c.time_arg-every.ensures.local ∙ ap₂ with_rule to c.time_arg-every.ensures.rule in
    let follow = c.in_ok-arg-4.ensures.shape c.flag_arg-follow.ensures.local ∙ ap₂ with_rule every c.flag_arg-follow.ensures.rule in
    let series = c.in_ok-arg-5.ensures.shape c.count_arg-series.ensures.local ∙ ap₂ with_rule follow c.count_arg-series.ensures.rule in
    c.in_ok-arg-6.ensures.shape c.until_arg-until.ensures.local ∙ ap₂ with_rule series c.until_arg-until.ensures.rule

pub returns-clause-local : goal.returns-clause-local
returns-clause-local c =
    let by = c.in_ok-arg.ensures.globals ∙ ap₂ (λ a b. a || b) c.in_ok-view_command.ensures.local c.text_arg-by.ensures.local in
    let to = c.in_ok-arg-2.ensures.globals ∙ ap₂ (λ a b. a || b) by c.text_arg-to.ensures.local in
    let every = c.in_ok-arg-3.ensures.globals ∙ ap₂ (λ a b. a || b) to c.time_arg-every.ensures.local in
    let follow = c.in_ok-arg-4.ensures.globals ∙ ap₂ (λ a b. a || b) every c.flag_arg-follow.ensures.local in
    let series = c.in_ok-arg-5.ensures.globals ∙ ap₂ (λ a b. a || b) follow c.count_arg-series.ensures.local in
    c.in_ok-arg-6.ensures.globals ∙ ap₂ (λ a b. a || b) series c.until_arg-until.ensures.local
