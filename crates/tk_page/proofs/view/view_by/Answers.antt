use Rattle.std.proofs.Common.{◌≡◌, is_some, length, true, ap, subst, sym, ◌∙◌}
use Rattle.std.proofs.lemmas.Result.{err_from_is_err_and}
use Rattle.tk_client.specs.Warnings.{warnings_in}
use Rattle.tk_page.specs.Courses.{courses_of}
use Rattle.tk_page.specs.Pages.{IsDrawnAfter}
use Rattle.tk_reading.specs.Shown.{timed_of}
use Rattle.tk_sites.proofs.TimedLemmas.{is_shown}
use Rattle.tk_page.proofs.PageLemmas.{Watched, pages_all, pages_front, pages_none, with_times}
use Rattle.tk_page.proofs.view.view_by.Goals as goal

pub returns-in_err-read_stream-clause-pages : goal.returns-in_err-read_stream-clause-pages
returns-in_err-read_stream-clause-pages g c =
    let p = err_from_is_err_and c.from_residual.result c.from_residual.ensures.1 in
    rw (p.1, p.2) (pages_none _ (Watched c.args.limits) c.args.title.now c.args.limits _ _ _ _ c.read_stream.new.client c.read_stream.new.observer c.in_err-read_stream.field-0.0 c.in_err-read_stream.ensures)

pub returns-in-Ok-send-clause-pages : goal.returns-in-Ok-send-clause-pages
returns-in-Ok-send-clause-pages g c =
    let limits = c.args.limits in
    let title = c.args.title.now in
    let tables = c.read_stream.new.client.start.tables in
    let seen = c.read_stream.new.observer in
    let limited : c.deref_mut.result.now.second.diagnosis.limits ≡ limits = ap (λ s. s.second.diagnosis.limits) c.deref_mut.ensures.value ∙ c.in-Some.ensures.1 in
    let timed : is_some c.deref_mut.result.now.first.second.second.changes ≡ true =
    ap (λ s. is_some s.first.second.second.changes) c.deref_mut.ensures.value ∙ is_shown true _ c.in-Some.ensures.0.0.1.1 in
    let told = with_times (is_some c.deref_mut.result.now.first.second.second.changes) limits (g.R.Read.remaining c.args.reader.now) c.read_stream.new.client seen timed (rw limited at c.in_ok-read_stream.ensures) in
    let lines = timed_of told.bytes in
    let same : c.deref.result.now ≡ seen = c.deref.ensures in
    let listed : c.as_slice-warnings.result.now ≡ warnings_in limits.lints tables = c.as_slice-warnings.ensures.value ∙ c.in-Ok.ensures.ok in
    let drawn : IsDrawnAfter title limits lines (courses_of seen.first.first) c.read_stream.new.client.start c.as_slice.result.now =
    subst (IsDrawnAfter title limits lines (courses_of seen.first.first) c.read_stream.new.client.start) (sym c.as_slice.ensures.value)
    ((rw same at c.in-Ok-page_after.ensures) lines told.seen.1.0 told.seen.1.1 told.seen.0.1.0 told.seen.0.1.1) in
    pages_all title limits (g.R.Read.remaining c.args.reader.now) (g.R.Read.remaining c.read_stream.new.reader) (g.W.Write.contents c.args.writer.now)
    (g.W.Write.contents c.send.new.writer) c.read_stream.new.client seen c.as_slice.result.now told drawn
    (length c.as_slice-warnings.result.now) c.in-Ok-send.ensures (ap length listed)

pub returns-clause-pages : goal.returns-clause-pages
returns-clause-pages g c =
    let limits = c.args.limits in
    let title = c.args.title.now in
    let tables = c.read_stream.new.client.start.tables in
    let seen = c.read_stream.new.observer in
    let limited : c.deref_mut.result.now.second.diagnosis.limits ≡ limits = ap (λ s. s.second.diagnosis.limits) c.deref_mut.ensures.value ∙ c.in-Some.ensures.1 in
    let timed : is_some c.deref_mut.result.now.first.second.second.changes ≡ true =
    ap (λ s. is_some s.first.second.second.changes) c.deref_mut.ensures.value ∙ is_shown true _ c.in-Some.ensures.0.0.1.1 in
    let told = with_times (is_some c.deref_mut.result.now.first.second.second.changes) limits (g.R.Read.remaining c.args.reader.now) c.read_stream.new.client seen timed (rw limited at c.in_ok-read_stream.ensures) in
    let lines = timed_of told.bytes in
    let same : c.deref.result.now ≡ seen = c.deref.ensures in
    let drawn : IsDrawnAfter title limits lines (courses_of seen.first.first) c.read_stream.new.client.start c.as_slice.result.now =
    subst (IsDrawnAfter title limits lines (courses_of seen.first.first) c.read_stream.new.client.start) (sym c.as_slice.ensures.value)
    ((rw same at c.in-Ok-page_after.ensures) lines told.seen.1.0 told.seen.1.1 told.seen.0.1.0 told.seen.0.1.1) in
    let sent = c.in-Err.ensures in
    pages_front title limits (g.R.Read.remaining c.args.reader.now) (g.R.Read.remaining c.read_stream.new.reader) (g.W.Write.contents c.args.writer.now)
    (g.W.Write.contents c.send.new.writer) c.read_stream.new.client seen c.as_slice.result.now told drawn
    sent.0 sent.1 sent.2
