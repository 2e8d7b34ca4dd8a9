use Rattle.std.proofs.Common.{ap, ◌∙◌, true}
use Rattle.clap.specs.Walk.{Rule, rule_of}
use Rattle.clap.specs.declared.builder.arg.Arg.{Arg}
use Rattle.taskscope.proofs.commands.before_arg.Goals as goal

pub returns-clause-rule : goal.returns-clause-rule
returns-clause-rule c =
    ap rule_of c.required.ensures ∙ ap (λ (a : Rule). record a { required = true }) (ap rule_of c.help.ensures ∙ c.new.ensures.rule)

pub returns-clause-local : goal.returns-clause-local
returns-clause-local c =
    ap (λ (a : Arg). a.global) c.required.ensures ∙ (ap (λ (a : Arg). a.global) c.help.ensures ∙ c.new.ensures.optional.1)
