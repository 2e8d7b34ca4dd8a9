use Rattle.std.proofs.Common.{◌≡◌, true, sym, rules, ◌∙◌, arith, subst}
use Rattle.std.specs.List.{list_all}
use Rattle.std.specs.Char.{is_ascii_digit}
use Rattle.std.specs.Str.Parse.{ParsesUnsigned}
use Rattle.tk_script.proofs.Moments.{text_of_digits, moment_parsed}
use Rattle.tk_script.proofs.words.moment_of.Goals as goal

pub returns-in-Ok : goal.returns-in-Ok
returns-in-Ok c =
    let digits : list_all is_ascii_digit c.args.word.now ≡ true = sym c.if-not-are_digits.ensures in
    let parsed : ParsesUnsigned 64 10 c.args.word.now c.parse.result =
    subst (λ ds. ParsesUnsigned 64 10 ds c.parse.result) c.in-Ok.ensures.cases.0 c.parse.ensures.value.0 in
    c.ok.ensures.value ∙ moment_parsed c.args.word.now c.parse.result parsed digits (search rules) (omega arith)

pub returns-in-Err : goal.returns-in-Err
returns-in-Err c =
    absurd (c.in-Err.ensures.cases.0 (text_of_digits c.args.word.now (sym c.if-not-are_digits.ensures)))
