use Rattle.std.proofs.Common.{◌≡◌, ap, ap₂, ◌∙◌, codes, false}
use Rattle.clap.specs.Simple.{App, new_shape, shape_of, shape_of_fields, with_subcommand}
use Rattle.clap.specs.declared.builder.command.Command.TheViews.{out-Command as fields_of}
use Rattle.clap.specs.declared.builder.command.Command.{Command}
use Rattle.clap.specs.declared.builder.command.Command.TheOpen.{Command-F}
use Rattle.taskscope.specs.Requests.{compare_command}
use Rattle.taskscope.proofs.commands.command_line.Goals as goal

pub returns-clause-ok : goal.returns-clause-ok
returns-clause-ok c =
    let compare_is : shape_of c.in_ok-compare.compare ≡ compare_command.top = ap (λ (a : App). a.top) c.in_ok-compare.ensures.ok in
    let demo_is : shape_of c.long_about-demo.result ≡ new_shape (codes "demo") =
    ap shape_of_fields c.long_about-demo.ensures ∙ (ap shape_of_fields c.about.ensures ∙ ap (λ (a : App). a.top) c.new.ensures.app) in
    let demo_local : (fields_of c.long_about-demo.result).has_globals ≡ false =
    ap (λ (f : Command-F Command). f.has_globals) c.long_about-demo.ensures ∙ (ap (λ (f : Command-F Command). f.has_globals) c.about.ensures ∙ c.new.ensures.local) in
    let compares = c.in_ok-subcommand.ensures.shape c.in_ok-compare.ensures.local ∙ ap₂ with_subcommand c.in_ok-more_words.ensures.ok compare_is in
    c.in_ok-subcommand-2.ensures.shape demo_local ∙ ap₂ with_subcommand compares demo_is
