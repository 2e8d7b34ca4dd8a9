use Rattle.std.proofs.Common.{Some, ap, sym, ◌∙◌}
use Rattle.std.specs.Prelude.{option_map}
use Rattle.std.specs.Box.{box_value}
use Rattle.clap.specs.Matches.{found_of}
use Rattle.clap.specs.Walk.{rows_of}
use Rattle.clap.specs.declared.parser.matches.ArgMatches.TheViews.{out-ArgMatches, out-SubCommand}
use Rattle.taskscope.specs.Requests.{option_names_nothing}
use Rattle.taskscope.proofs.WordLemmas.{both_parts}
use Rattle.taskscope.proofs.mistakes.names_nothing.Goals as goal

pub returns-in-Some : goal.returns-in-Some
returns-in-Some c =
    c.option_names_nothing.ensures
    ∙ both_parts (λ b. (out-SubCommand (box_value b)).name.now) (λ b. rows_of (found_of (out-SubCommand (box_value b)).matches)) option_names_nothing
    (out-ArgMatches c.args.matches.now).subcommand c.in-Some.name.now (rows_of (found_of c.in-Some.options.now))
    (sym (ap (option_map (λ p. p.0.now)) c.in-Some.is) ∙ c.subcommand.ensures.name)
    (sym (ap (option_map (λ p. rows_of (found_of p.1.now))) c.in-Some.is) ∙ c.subcommand.ensures.rows)
