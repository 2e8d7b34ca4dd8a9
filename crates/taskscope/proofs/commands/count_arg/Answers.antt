use Rattle.std.proofs.Common.{◌≡◌, ap, ◌∙◌, Option, Some}
use Rattle.clap.specs.Simple.{new_rule}
use Rattle.clap.specs.Walk.{Rule, Text, rule_of}
use Rattle.clap.specs.declared.builder.arg.Arg.{Arg}
use Rattle.clap.specs.declared.builder.value_parser.ValueParser.{ValueParser}
use Rattle.clap.specs.declared.builder.value_parser.ValueParser.TheVariants as vp
use Rattle.taskscope.proofs.commands.count_arg.Goals as goal

abbrev named : Text → Rule
named name = record (new_rule name) { long = Some name; value_names = 1 }

abbrev parsed : Option ValueParser → Rule → Rule
parsed p a = record a { parser = p }

pub returns-clause-rule : goal.returns-clause-rule
returns-clause-rule c =
    let parser : c.value_parser.result.value_parser ≡ Some (vp.Unsigned 1 18446744073709551615) =
    c.value_parser.ensures.given.1 ∙ ap (λ (q : ValueParser). Some q) (c.value_parser.ensures.given.2 ∙ c.unsigned.ensures) in
    let is_named : rule_of c.help.result ≡ named c.args.name.now =
    ap rule_of c.help.ensures ∙ (ap rule_of c.value_name.ensures ∙ ap (λ (a : Rule). record a { value_names = 1 })
    (ap rule_of c.long.ensures ∙ ap (λ (a : Rule). record a { long = Some c.args.name.now }) c.new.ensures.rule)) in
    ap rule_of c.value_parser.ensures.others ∙ (ap (λ (p : Option ValueParser). parsed p (rule_of c.help.result)) parser
    ∙ ap (parsed (Some (vp.Unsigned 1 18446744073709551615))) is_named)

pub returns-clause-local : goal.returns-clause-local
returns-clause-local c =
    ap (λ (a : Arg). a.global) c.value_parser.ensures.others ∙ (ap (λ (a : Arg). a.global) c.help.ensures
    ∙ (ap (λ (a : Arg). a.global) c.value_name.ensures ∙ (ap (λ (a : Arg). a.global) c.long.ensures ∙ c.new.ensures.optional.1)))
