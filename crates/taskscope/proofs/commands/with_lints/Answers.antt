use Rattle.std.proofs.Common.{ap₂, ◌∙◌, ◌||◌, refl}
use Rattle.clap.specs.Simple.{with_rule}
use Rattle.taskscope.proofs.commands.with_lints.Goals as goal

pub returns-clause-ok : goal.returns-clause-ok
returns-clause-ok c =
    let percent = c.in_ok-arg.ensures.shape c.number_arg-percent.ensures.local ∙ ap₂ with_rule refl c.number_arg-percent.ensures.rule in
    let limit = c.in_ok-arg-2.ensures.shape c.number_arg-limit.ensures.local ∙ ap₂ with_rule percent c.number_arg-limit.ensures.rule in
    c.in_ok-arg-3.ensures.shape c.time_arg-yields.ensures.local ∙ ap₂ with_rule limit c.time_arg-yields.ensures.rule

pub returns-clause-local : goal.returns-clause-local
returns-clause-local c = λ none.
    let percent = c.in_ok-arg.ensures.globals ∙ ap₂ (λ a b. a || b) none c.number_arg-percent.ensures.local in
    let limit = c.in_ok-arg-2.ensures.globals ∙ ap₂ (λ a b. a || b) percent c.number_arg-limit.ensures.local in
    c.in_ok-arg-3.ensures.globals ∙ ap₂ (λ a b. a || b) limit c.time_arg-yields.ensures.local
