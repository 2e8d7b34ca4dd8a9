use Rattle.std.proofs.Common.{◌≡◌, ap, ◌∙◌, codes}
use Rattle.clap.specs.Simple.{app_of, app_of_fields, new_app}
use Rattle.taskscope.specs.Requests.{requiring, versioned}
use Rattle.taskscope.proofs.commands.top_command.Goals as goal

pub returns-clause-ok : goal.returns-clause-ok
returns-clause-ok c =
    let named_is : app_of c.after_help.result ≡ new_app (codes "taskscope") =
    ap app_of_fields c.after_help.ensures ∙ (ap app_of_fields c.long_about.ensures ∙ (ap app_of_fields c.about.ensures
    ∙ (ap app_of_fields c.in_ok-bin_name.ensures.0 ∙ c.new.ensures.app))) in
    ap app_of_fields c.subcommand_required.ensures ∙ ap requiring (ap app_of_fields c.version.ensures ∙ ap versioned named_is)
