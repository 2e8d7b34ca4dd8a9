use Rattle.std.proofs.Common.{ap₂, ◌∙◌, ◌||◌}
use Rattle.clap.specs.Simple.{with_rule}
use Rattle.taskscope.proofs.commands.shows_command.Goals as goal

pub returns-clause-ok : goal.returns-clause-ok
returns-clause-ok c =
    let sort = c.in_ok-arg.ensures.shape c.text_arg-sort.ensures.local ∙ ap₂ with_rule c.in_ok-view_command.ensures.ok c.text_arg-sort.ensures.rule in
    let rows = c.in_ok-arg-2.ensures.shape c.number_arg-rows.ensures.local ∙ ap₂ with_rule sort c.number_arg-rows.ensures.rule in
    let filter = c.in_ok-arg-3.ensures.shape c.text_arg-filter.ensures.local ∙ ap₂ with_rule rows c.text_arg-filter.ensures.rule in
    let resources = c.in_ok-arg-4.ensures.shape c.flag_arg-resources.ensures.local ∙ ap₂ with_rule filter c.flag_arg-resources.ensures.rule in
    c.in_ok-arg-5.ensures.shape c.text_arg-by.ensures.local ∙ ap₂ with_rule resources c.text_arg-by.ensures.rule

pub returns-clause-local : goal.returns-clause-local
returns-clause-local c =
    let sort = c.in_ok-arg.ensures.globals ∙ ap₂ (λ a b. a || b) c.in_ok-view_command.ensures.local c.text_arg-sort.ensures.local in
    let rows = c.in_ok-arg-2.ensures.globals ∙ ap₂ (λ a b. a || b) sort c.number_arg-rows.ensures.local in
    let filter = c.in_ok-arg-3.ensures.globals ∙ ap₂ (λ a b. a || b) rows c.text_arg-filter.ensures.local in
    let resources = c.in_ok-arg-4.ensures.globals ∙ ap₂ (λ a b. a || b) filter c.flag_arg-resources.ensures.local in
    c.in_ok-arg-5.ensures.globals ∙ ap₂ (λ a b. a || b) resources c.text_arg-by.ensures.local
