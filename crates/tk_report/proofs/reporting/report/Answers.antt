use Rattle.std.proofs.Common.{ap, ◌∙◌}
use Rattle.tk_client.specs.AnyWarnings.{all_warnings_in}
use Rattle.tk_client.specs.declared.any_warnings.TimeLimits.{TimeLimits}
use Rattle.tk_report.proofs.TimedLemmas.{plain_report}
use Rattle.tk_report.proofs.reporting.report.Goals as goal

pub returns-in-Ok-timed_report_with-clause-ok : goal.returns-in-Ok-timed_report_with-clause-ok
returns-in-Ok-timed_report_with-clause-ok c =
    c.in-Ok-timed_report_with.ensures
    ∙ plain_report c.args.lints.now c.args.tables.now c.new-times.result c.as_slice.result.now
    (c.as_slice.ensures.value ∙ (c.in-Ok.ensures ∙ ap (λ (limits : TimeLimits). all_warnings_in c.args.lints.now limits c.args.tables.now c.new-times.result) c.none.ensures))
