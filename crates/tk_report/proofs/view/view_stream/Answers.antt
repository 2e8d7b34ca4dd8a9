use Rattle.std.proofs.Common.{Err, Ok, subst}
use Rattle.tk_report.specs.TimedViews.{ViewsTimed}
use Rattle.tk_report.specs.declared.options.TimesOptions.{TimesOptions}
use Rattle.tk_report.proofs.TimedLemmas.{plain_views}
use Rattle.tk_report.proofs.view.view_stream.Goals as goal

pub returns-in-Ok-clause-views : goal.returns-in-Ok-clause-views
returns-in-Ok-clause-views g c =
    let given = g.R.Read.remaining c.args.reader.now in
    let left = g.R.Read.remaining c.view_stream_with.new.reader in
    let old = g.W.Write.contents c.args.writer.now in
    let new = g.W.Write.contents c.view_stream_with.new.writer in
    let views = λ (options : TimesOptions). ViewsTimed c.args.view c.args.lints.now options given left (Ok c.in-Ok.viewed) old new in
    plain_views c.args.view c.args.lints.now given left old new (Ok c.in-Ok.viewed) (subst views c.none.ensures c.in-Ok.ensures.views)

pub returns-in-Err-clause-views : goal.returns-in-Err-clause-views
returns-in-Err-clause-views g c =
    let given = g.R.Read.remaining c.args.reader.now in
    let left = g.R.Read.remaining c.view_stream_with.new.reader in
    let old = g.W.Write.contents c.args.writer.now in
    let new = g.W.Write.contents c.view_stream_with.new.writer in
    let views = λ (options : TimesOptions). ViewsTimed c.args.view c.args.lints.now options given left (Err c.in-Err.fault) old new in
    plain_views c.args.view c.args.lints.now given left old new (Err c.in-Err.fault) (subst views c.none.ensures c.in-Err.ensures.views)
