use Rattle.std.proofs.Common.{ap, ◌∙◌, Some}
use Rattle.clap.specs.Walk.{Rule, rule_of}
use Rattle.clap.specs.declared.builder.action.ArgAction.TheVariants.{SetTrue}
use Rattle.clap.specs.declared.builder.arg.Arg.{Arg}
use Rattle.taskscope.proofs.commands.flag_arg.Goals as goal

pub returns-clause-rule : goal.returns-clause-rule
returns-clause-rule c =
    let id = c.args.name.now in
    ap rule_of c.action.ensures ∙ ap (λ (a : Rule). record a { action = Some SetTrue }) (ap rule_of c.help.ensures
    ∙ (ap rule_of c.long.ensures ∙ ap (λ (a : Rule). record a { long = Some id }) c.new.ensures.rule))

pub returns-clause-local : goal.returns-clause-local
returns-clause-local c =
    ap (λ (a : Arg). a.global) c.action.ensures ∙ (ap (λ (a : Arg). a.global) c.help.ensures
    ∙ (ap (λ (a : Arg). a.global) c.long.ensures ∙ c.new.ensures.optional.1))
