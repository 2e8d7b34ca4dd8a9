use Rattle.std.proofs.Common.{◌≡◌, ap, ◌∙◌, [], ◌∷◌, Option, Some}
use Rattle.clap.specs.Simple.{new_rule}
use Rattle.clap.specs.Walk.{Rule, Text, rule_of}
use Rattle.clap.specs.declared.builder.arg.Arg.{Arg}
use Rattle.clap.specs.declared.builder.value_parser.ValueParser.{ValueParser}
use Rattle.clap.specs.declared.builder.value_parser.ValueParser.TheVariants as vp
use Rattle.taskscope.proofs.commands.number_arg.Goals as goal

abbrev named : Text → Rule
named id = record (new_rule id) { long = Some id; value_names = 1 }

abbrev with_default : Text → Rule → Rule
with_default text a = record a { defaults = text ∷ [] }

abbrev parsed : Option ValueParser → Rule → Rule
parsed p a = record a { parser = p }

pub returns-clause-rule : goal.returns-clause-rule
returns-clause-rule c =
    let id = c.args.name.now in
    let text = c.args.default.now in
    let parser : c.value_parser.result.value_parser ≡ Some (vp.Unsigned 0 c.args.most) =
    c.value_parser.ensures.given.1 ∙ ap (λ (q : ValueParser). Some q) (c.value_parser.ensures.given.2 ∙ c.unsigned.ensures) in
    let is_named : rule_of c.help.result ≡ named id =
    ap rule_of c.help.ensures ∙ (ap rule_of c.value_name.ensures ∙ ap (λ (a : Rule). record a { value_names = 1 })
    (ap rule_of c.long.ensures ∙ ap (λ (a : Rule). record a { long = Some id }) c.new.ensures.rule)) in
    let defaulted : rule_of c.default_value.result ≡ with_default text (named id) =
    ap rule_of c.default_value.ensures ∙ ap (with_default text) is_named in
    ap rule_of c.value_parser.ensures.others ∙ (ap (λ (p : Option ValueParser). parsed p (rule_of c.default_value.result)) parser
    ∙ ap (parsed (Some (vp.Unsigned 0 c.args.most))) defaulted)

pub returns-clause-local : goal.returns-clause-local
returns-clause-local c =
    ap (λ (a : Arg). a.global) c.value_parser.ensures.others ∙ (ap (λ (a : Arg). a.global) c.default_value.ensures
    ∙ (ap (λ (a : Arg). a.global) c.help.ensures ∙ (ap (λ (a : Arg). a.global) c.value_name.ensures
    ∙ (ap (λ (a : Arg). a.global) c.long.ensures ∙ c.new.ensures.optional.1))))
