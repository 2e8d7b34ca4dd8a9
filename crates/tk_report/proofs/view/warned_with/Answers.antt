use Rattle.std.proofs.Common.{◌≡◌, ℕ, List, ap, ap₂, ◌∙◌, subst}
use Rattle.std.specs.Prelude.{IfOk}
use Rattle.tk_stream.specs.Tables.{TablesView}
use Rattle.tk_stream.specs.Times.{TaskTimes}
use Rattle.tk_stream.specs.declared.tables.task.Task.{Task}
use Rattle.tk_client.specs.AnyWarnings.{all_warnings_in}
use Rattle.tk_client.specs.declared.any_warnings.AnyWarning.{AnyWarning}
use Rattle.tk_report.specs.Known.{completed, longest_known}
use Rattle.tk_report.specs.Timed.{warned_of}
use Rattle.tk_report.specs.Watched.{known_at}
use Rattle.tk_report.proofs.KnownLemmas.{same_longest}
use Rattle.tk_report.proofs.TimedLemmas.{polls_warned}
use Rattle.tk_report.proofs.view.warned_with.Goals as goal

pub returns : goal.returns
returns c = λ shown h.
    let start = c.args.client.now.start in
    let lints = c.args.lints.now in
    let limits = c.args.options.now.limits in
    let entries = c.args.polls.now.tasks.entries in
    let own : ℕ → ℕ = λ id. (known_at entries id).longest in
    let times : c.in_ok-times.times ≡ completed (longest_known shown) start.tables.tasks start.times =
    c.in_ok-times.ensures
    ∙ (ap₂ (λ (ts : List Task) (hs : List TaskTimes). completed own ts hs) (ap (λ (x : TablesView). x.tasks) c.tables.ensures) c.times.ensures
    ∙ ap (λ (f : ℕ → ℕ). completed f start.tables.tasks start.times) (same_longest shown entries h)) in
    let is : all_warnings_in lints limits c.tables-2.result.now c.in_ok-times.times ≡ warned_of lints c.args.options.now shown start.tables start.times =
    ap₂ (λ (tables : TablesView) (hs : List TaskTimes). all_warnings_in lints limits tables hs) c.tables-2.ensures times
    ∙ polls_warned lints limits shown start.tables start.times c.requires in
    subst (λ (warnings : List AnyWarning). IfOk c.all_warnings_in.result (λ list. list.items ≡ warnings)) is c.all_warnings_in.ensures
