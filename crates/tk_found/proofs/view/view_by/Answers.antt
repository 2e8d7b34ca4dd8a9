use Rattle.std.proofs.Common.{◌≡◌, List, length, map, ap, ◌∙◌, arith}
use Rattle.std.proofs.lemmas.List.{length-map}
use Rattle.std.proofs.lemmas.Result.{err_from_is_err_and}
use Rattle.tk_stream.specs.Tables.{TablesView}
use Rattle.tk_odd.specs.declared.finding.Found.{Found}
use Rattle.tk_odd.specs.declared.limits.Limits.{Limits}
use Rattle.tk_odd.specs.Diagnosis.{standing_of}
use Rattle.tk_odd.specs.Findings.{told_of, told}
use Rattle.tk_odd.specs.Inner.{FollowsSpan}
use Rattle.tk_odd.specs.Span.{span_of}
use Rattle.tk_found.specs.Views.{found_text}
use Rattle.tk_found.proofs.ViewLemmas.{shows_all, shows_front, shows_none}
use Rattle.tk_found.proofs.view.view_by.Goals as goal

pub returns-in_err-read_stream-clause-views : goal.returns-in_err-read_stream-clause-views
returns-in_err-read_stream-clause-views g c =
    let p = err_from_is_err_and c.from_residual.result c.from_residual.ensures.1 in
    rw (p.1, p.2) (shows_none c.args.span.now c.args.view c.args.times _ _ _ _ c.read_stream.new.client c.read_stream.new.observer c.in_err-read_stream.field-0.0 c.in_err-read_stream.ensures)

pub returns-in-Ok-send-clause-views : goal.returns-in-Ok-send-clause-views
returns-in-Ok-send-clause-views g c =
    let client = c.read_stream.new.client in
    let it = c.read_stream.new.observer in
    let list = map told c.in-Ok.list.items in
    let limits : c.diagnosis.result.now.limits ≡ it.diagnosis.limits = c.diagnosis.ensures.limits in
    let found : (shown : List TablesView) → FollowsSpan shown it → list ≡ told_of it.diagnosis.limits (standing_of it.diagnosis.limits (span_of it.since shown)) c.tables.result.now =
    λ shown h.
    c.in-Ok.ensures (span_of it.since shown) (c.diagnosis.ensures.follows shown h)
    ∙ ap (λ (l : Limits). told_of l (standing_of l (span_of it.since shown)) c.tables.result.now) limits in
    let text_is : c.as_slice.result.now ≡ found_text c.args.view c.args.times client.start list =
    c.as_slice.ensures.value ∙ c.in-Ok-text_of.ensures
    ∙ ap (λ (xs : List Found). found_text c.args.view c.args.times client.start (map told xs)) c.deref.ensures.value in
    let items : length c.deref.result.now ≡ length c.in-Ok.list.items = ap length c.deref.ensures.value in
    let counted : c.len.result ≡ length list = omega (arith, c.len.ensures, c.deref.ensures.len, items, length-map c.in-Ok.list.items told) in
    shows_all c.args.span.now c.args.view c.args.times (g.R.Read.remaining c.args.reader.now) (g.R.Read.remaining c.read_stream.new.reader) (g.W.Write.contents c.args.writer.now)
    (g.W.Write.contents c.send.new.writer) client it c.in_ok-read_stream.ensures c.tables.result.now c.tables.ensures list found c.as_slice.result.now text_is c.len.result c.in-Ok-send.ensures counted

pub returns-clause-views : goal.returns-clause-views
returns-clause-views g c =
    let client = c.read_stream.new.client in
    let it = c.read_stream.new.observer in
    let list = map told c.in-Ok.list.items in
    let limits : c.diagnosis.result.now.limits ≡ it.diagnosis.limits = c.diagnosis.ensures.limits in
    let found : (shown : List TablesView) → FollowsSpan shown it → list ≡ told_of it.diagnosis.limits (standing_of it.diagnosis.limits (span_of it.since shown)) c.tables.result.now =
    λ shown h.
    c.in-Ok.ensures (span_of it.since shown) (c.diagnosis.ensures.follows shown h)
    ∙ ap (λ (l : Limits). told_of l (standing_of l (span_of it.since shown)) c.tables.result.now) limits in
    let text_is : c.as_slice.result.now ≡ found_text c.args.view c.args.times client.start list =
    c.as_slice.ensures.value ∙ c.in-Ok-text_of.ensures
    ∙ ap (λ (xs : List Found). found_text c.args.view c.args.times client.start (map told xs)) c.deref.ensures.value in
    let sent = c.in-Err.ensures in
    shows_front c.args.span.now c.args.view c.args.times (g.R.Read.remaining c.args.reader.now) (g.R.Read.remaining c.read_stream.new.reader) (g.W.Write.contents c.args.writer.now)
    (g.W.Write.contents c.send.new.writer) client it c.in_ok-read_stream.ensures c.tables.result.now c.tables.ensures list found c.as_slice.result.now text_is sent.0 sent.1 sent.2
