use Rattle.std.proofs.Common.{◌≡◌, ap, ap₂, ◌∙◌}
use Rattle.clap.specs.Simple.{App, shape_of, with_subcommand}
use Rattle.taskscope.specs.Requests.{lint_command, report_command, run_command}
use Rattle.taskscope.proofs.commands.first_words.Goals as goal

pub returns-clause-ok : goal.returns-clause-ok
returns-clause-ok c =
    let run_is : shape_of c.in_ok-run.run' ≡ run_command.top = ap (λ (a : App). a.top) c.in_ok-run.ensures.ok in
    let view_is : shape_of c.in_ok-view.view ≡ report_command.top = ap (λ (a : App). a.top) c.in_ok-view.ensures.ok in
    let lint_is : shape_of c.in_ok-lint.lint ≡ lint_command.top = ap (λ (a : App). a.top) c.in_ok-lint.ensures.ok in
    let runs = c.in_ok-subcommand.ensures.shape c.in_ok-run.ensures.local ∙ ap₂ with_subcommand c.in_ok-top_command.ensures.ok run_is in
    let views = c.in_ok-subcommand-2.ensures.shape c.in_ok-view.ensures.local ∙ ap₂ with_subcommand runs view_is in
    c.in_ok-subcommand-3.ensures.shape c.in_ok-lint.ensures.local ∙ ap₂ with_subcommand views lint_is
