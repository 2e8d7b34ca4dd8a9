use Rattle.std.proofs.Common.{rules, subst}
use Rattle.tk_report.proofs.TimedLemmas.{plain_views}
use Rattle.tk_report.specs.TimedViews.{ViewsTimed}
use Rattle.tk_report.specs.declared.options.TimesOptions.{TimesOptions}
use Rattle.taskscope.proofs.reports.view.Goals as goal

pub returns-clause-does : goal.returns-clause-does
returns-clause-does g c =
    let given = g.I.Read.remaining c.args.input.now in
    let left = g.I.Read.remaining c.view_stream_with-outcome.new.reader in
    let old = g.O.Write.contents c.args.output.now in
    let new = g.O.Write.contents c.view_stream_with-outcome.new.writer in
    let view = c.args.view in
    let lints = c.args.lints.now in
    let outcome = c.view_stream_with-outcome.result in
    let viewed = λ (times : TimesOptions). ViewsTimed view lints times given left outcome old new in
    record {
      outcome = outcome;
      told = c.tell_view.ensures.status;
      views = c.view_stream_with-outcome.ensures.views;
      plain = λ none. plain_views view lints given left old new outcome (subst viewed none c.view_stream_with-outcome.ensures.views);
      unwritten = search rules;
    }
