use Rattle.std.proofs.Common.{◌≡◌, ap, ◌∙◌, refl, subst, sym, List, [], Option, true}
use Rattle.std.proofs.lemmas.Result.{err_from_is_err_and}
use Rattle.clap.specs.Faults.{fault_of, is_simple_and_free}
use Rattle.clap.specs.Kinds.{HasKind}
use Rattle.clap.specs.Simple.{App, app_of, is_simple, subcommand_of, subcommand_rows_of}
use Rattle.clap.specs.Walk.{Row, Text}
use Rattle.clap.specs.declared.error.Error.{Error}
use Rattle.clap.proofs.OnLiterals.{clap_on_literals}
use Rattle.taskscope.specs.Requests.{names_nothing, program, refusals, texts}
use Rattle.taskscope.proofs.WordLemmas.{name_refuses, none_refuses, parse_refuses}
use Rattle.taskscope.proofs.command_line.matches_of.Goals as goal

-- what `clap` promises of a parse holds of this program's
is_simple_program : is_simple program ≡ true
unfolding clap_on_literals
is_simple_program = refl

is_free_program : is_simple_and_free program ≡ true
unfolding clap_on_literals
is_free_program = refl

module _ (a : App) (words : List Text) (same : a ≡ program) where
  is_free : is_simple_and_free a ≡ true
  is_free = ap is_simple_and_free same ∙ is_free_program

  refused_as : (e : Error) → HasKind (fault_of a words) e → HasKind (refusals words) e
  refused_as e h = parse_refuses words e (subst (λ x. HasKind (fault_of x words) e) same h)

  taken_as : fault_of a words ≡ [] → fault_of program words ≡ []
  taken_as h = subst (λ x. fault_of x words ≡ []) same h

  -- what the matches have is what the words name
  found_as : (rows : Option (Text × List Row)) → (is_simple a ≡ true → rows ≡ subcommand_of a words) → rows ≡ subcommand_of program words
  found_as rows is = is (ap is_simple same ∙ is_simple_program) ∙ ap (λ x. subcommand_of x words) same

pub returns-in_err-matches-clause-fails : goal.returns-in_err-matches-clause-fails
returns-in_err-matches-clause-fails c =
    let words = texts c.args.words.now in
    let app_is : app_of c.in_ok-command.command ≡ program = c.in_ok-command.ensures.ok in
    let p = err_from_is_err_and c.from_residual-in_err-matches.result c.from_residual-in_err-matches.ensures.1 in
    rw (p.1, p.2) (refused_as _ words app_is c.in_err-matches.field-0.0 (c.in_err-matches.ensures.kinds (is_free _ words app_is)))

pub returns-then-names_nothing-clause-fails : goal.returns-then-names_nothing-clause-fails
returns-then-names_nothing-clause-fails c =
    let words = texts c.args.words.now in
    let app_is : app_of c.in_ok-command.command ≡ program = c.in_ok-command.ensures.ok in
    let none = taken_as _ words app_is (c.in_ok-matches.ensures.kinds (is_free _ words app_is)) in
    let found = found_as _ words app_is (subcommand_rows_of c.in_ok-matches.matches) (λ simple. (c.in_ok-matches.ensures.ok.2 simple).1) in
    name_refuses words c.no_name.result none (ap names_nothing (sym found) ∙ sym c.names_nothing.ensures ∙ c.if-names_nothing.true) c.no_name.ensures

pub returns-clause-fails : goal.returns-clause-fails
returns-clause-fails c =
    let words = texts c.args.words.now in
    let app_is : app_of c.in_ok-command.command ≡ program = c.in_ok-command.ensures.ok in
    let none = taken_as _ words app_is (c.in_ok-matches.ensures.kinds (is_free _ words app_is)) in
    let found = found_as _ words app_is (subcommand_rows_of c.in_ok-matches.matches) (λ simple. (c.in_ok-matches.ensures.ok.2 simple).1) in
    none_refuses words none (ap names_nothing (sym found) ∙ sym c.names_nothing.ensures ∙ c.if-names_nothing.false)

pub returns-clause-found : goal.returns-clause-found
returns-clause-found c =
    found_as _ (texts c.args.words.now) c.in_ok-command.ensures.ok (subcommand_rows_of c.in_ok-matches.matches) (λ simple. (c.in_ok-matches.ensures.ok.2 simple).1)
