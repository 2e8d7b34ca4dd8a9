use Rattle.std.proofs.Common.{ap₂, ◌∙◌, ◌||◌}
use Rattle.clap.specs.Simple.{with_rule}
use Rattle.taskscope.proofs.commands.watch_command.Goals as goal

pub returns-clause-ok : goal.returns-clause-ok
returns-clause-ok c =
    let every = c.in_ok-arg.ensures.shape c.time_arg-every.ensures.local ∙ ap₂ with_rule c.in_ok-shows_command.ensures.ok c.time_arg-every.ensures.rule in
    let follow = c.in_ok-arg-2.ensures.shape c.flag_arg-follow.ensures.local ∙ ap₂ with_rule every c.flag_arg-follow.ensures.rule in
    let keys = c.in_ok-arg-3.ensures.shape c.flag_arg-keys.ensures.local ∙ ap₂ with_rule follow c.flag_arg-keys.ensures.rule in
    c.in_ok-arg-4.ensures.shape c.flag_arg-plain.ensures.local ∙ ap₂ with_rule keys c.flag_arg-plain.ensures.rule

pub returns-clause-local : goal.returns-clause-local
returns-clause-local c =
    let every = c.in_ok-arg.ensures.globals ∙ ap₂ (λ a b. a || b) c.in_ok-shows_command.ensures.local c.time_arg-every.ensures.local in
    let follow = c.in_ok-arg-2.ensures.globals ∙ ap₂ (λ a b. a || b) every c.flag_arg-follow.ensures.local in
    let keys = c.in_ok-arg-3.ensures.globals ∙ ap₂ (λ a b. a || b) follow c.flag_arg-keys.ensures.local in
    c.in_ok-arg-4.ensures.globals ∙ ap₂ (λ a b. a || b) keys c.flag_arg-plain.ensures.local
