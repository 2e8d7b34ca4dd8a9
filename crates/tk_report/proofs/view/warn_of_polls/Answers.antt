use Rattle.std.proofs.lemmas.Result.{err_from_is_err_and}
use Rattle.tk_reading.specs.Shown.{shown_of, tables_of}
use Rattle.tk_report.specs.Watched.{Follows}
use Rattle.tk_report.proofs.ViewLemmas.{warned_all, warns_none}
use Rattle.tk_report.proofs.view.warn_of_polls.Goals as goal

pub returns-in_err-read_stream : goal.returns-in_err-read_stream
returns-in_err-read_stream g c =
    let p = err_from_is_err_and c.from_residual.result c.from_residual.ensures.1 in
    rw (p.1, p.2) (warns_none c.args.lints.now c.args.options.now _ _ _ (λ seen it. Follows (tables_of seen) it.tasks.entries) c.read_stream.new.client c.read_stream.new.observer c.in_err-read_stream.field-0.0 c.in_err-read_stream.ensures)

pub returns-in-Ok : goal.returns-in-Ok
returns-in-Ok g c =
    let all = c.in_ok-read_stream.ensures in
    warned_all c.args.lints.now c.args.options.now _ (g.R.Read.remaining c.read_stream.new.reader) _ (λ seen it. Follows (tables_of seen) it.tasks.entries) c.read_stream.new.client c.read_stream.new.observer all _ (c.in-Ok.ensures (shown_of all.bytes) all.seen)
