use Rattle.std.proofs.Common.{ap₂, ◌∙◌, ◌||◌}
use Rattle.clap.specs.Simple.{with_rule}
use Rattle.taskscope.proofs.commands.report_command.Goals as goal

pub returns-clause-ok : goal.returns-clause-ok
returns-clause-ok c =
    let timed = c.in_ok-arg.ensures.shape c.flag_arg-times.ensures.local ∙ ap₂ with_rule c.in_ok-spans_command.ensures.ok c.flag_arg-times.ensures.rule in
    let placed = c.in_ok-arg-2.ensures.shape c.count_arg-place.ensures.local ∙ ap₂ with_rule timed c.count_arg-place.ensures.rule in
    c.in_ok-arg-3.ensures.shape c.flag_arg-explain.ensures.local ∙ ap₂ with_rule placed c.flag_arg-explain.ensures.rule

pub returns-clause-local : goal.returns-clause-local
returns-clause-local c =
    let timed = c.in_ok-arg.ensures.globals ∙ ap₂ (λ a b. a || b) c.in_ok-spans_command.ensures.local c.flag_arg-times.ensures.local in
    let placed = c.in_ok-arg-2.ensures.globals ∙ ap₂ (λ a b. a || b) timed c.count_arg-place.ensures.local in
    c.in_ok-arg-3.ensures.globals ∙ ap₂ (λ a b. a || b) placed c.flag_arg-explain.ensures.local
