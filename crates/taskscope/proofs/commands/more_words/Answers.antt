use Rattle.std.proofs.Common.{◌≡◌, ap, ap₂, ◌∙◌}
use Rattle.clap.specs.Simple.{App, shape_of, with_subcommand}
use Rattle.taskscope.specs.Requests.{metrics_command, page_command, watch_command}
use Rattle.taskscope.proofs.commands.more_words.Goals as goal

pub returns-clause-ok : goal.returns-clause-ok
returns-clause-ok c =
    let page_is : shape_of c.in_ok-page.page ≡ page_command.top = ap (λ (a : App). a.top) c.in_ok-page.ensures.ok in
    let watch_is : shape_of c.in_ok-watch.watch ≡ watch_command.top = ap (λ (a : App). a.top) c.in_ok-watch.ensures.ok in
    let metrics_is : shape_of c.in_ok-metrics.metrics ≡ metrics_command.top = ap (λ (a : App). a.top) c.in_ok-metrics.ensures.ok in
    let pages = c.in_ok-subcommand.ensures.shape c.in_ok-page.ensures.local ∙ ap₂ with_subcommand c.in_ok-first_words.ensures.ok page_is in
    let watches = c.in_ok-subcommand-2.ensures.shape c.in_ok-watch.ensures.local ∙ ap₂ with_subcommand pages watch_is in
    c.in_ok-subcommand-3.ensures.shape c.in_ok-metrics.ensures.local ∙ ap₂ with_subcommand watches metrics_is
