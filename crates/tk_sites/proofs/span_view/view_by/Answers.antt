use Rattle.std.proofs.Common.{◌≡◌, Bool, List, [], length, is_some, sym, subst, ap, ◌∙◌, arith}
use Rattle.std.proofs.lemmas.Result.{err_from_is_err_and}
use Rattle.tk_client.specs.Changes.{Timed}
use Rattle.tk_client.specs.declared.any_warnings.AnyWarning.{AnyWarning}
use Rattle.tk_reading.specs.Shown.{tables_of}
use Rattle.tk_sites.specs.Inner.{Follows, FollowsTimes}
use Rattle.tk_sites.specs.Sites.{sites_of}
use Rattle.tk_sites.specs.SpanLines.{span_text}
use Rattle.tk_sites.specs.TimedSites.{shown_times}
use Rattle.tk_sites.proofs.TimedLemmas.{is_shown}
use Rattle.tk_sites.proofs.SpanViewLemmas.{shows_all, shows_front, shows_none}
use Rattle.tk_sites.proofs.span_view.view_by.Goals as goal

pub read_stream-requires-clause-observer : goal.read_stream-requires-clause-observer
read_stream-requires-clause-observer g c =
    let seen = c.args.seen.now in
    let shown : is_some seen.second.changes ≡ is_some c.args.old.now.times = is_shown (is_some c.args.old.now.times) seen.second c.requires.times in
    (c.requires.sites, subst (λ b. FollowsTimes b [] seen.second) (sym shown) c.requires.times)

pub returns-in_err-read_stream-clause-views : goal.returns-in_err-read_stream-clause-views
returns-in_err-read_stream-clause-views g c =
    let p = err_from_is_err_and c.from_residual.result c.from_residual.ensures.1 in
    let seen = c.args.seen.now in
    let shown : is_some seen.second.changes ≡ is_some c.args.old.now.times = is_shown (is_some c.args.old.now.times) seen.second c.requires.times in
    rw (p.1, p.2) (shows_none seen c.args.old.now shown c.args.lints.now c.args.wait_ms _ _ _ _ c.read_stream.new.client c.read_stream.new.observer c.in_err-read_stream.field-0.0 c.in_err-read_stream.ensures)

pub returns-in-Ok-send-clause-views : goal.returns-in-Ok-send-clause-views
returns-in-Ok-send-clause-views g c =
    let client = c.read_stream.new.client in
    let it = c.read_stream.new.observer in
    let seen = c.args.seen.now in
    let shown : is_some seen.second.changes ≡ is_some c.args.old.now.times = is_shown (is_some c.args.old.now.times) seen.second c.requires.times in
    let list = c.in-Ok.list.items in
    let is : (b : Bool) (lines : List Timed) → Follows (tables_of lines) it.first → FollowsTimes b lines it.second
    → c.as_slice.result.now ≡ span_text c.args.old.now client.start.tables (sites_of (tables_of lines) client.start.tables list) (shown_times b lines client.start.tables client.start.times) =
    λ b lines h k. c.as_slice.ensures.value ∙ c.in-Ok-text_now.ensures b lines h k
    ∙ ap (λ (ws : List AnyWarning). span_text c.args.old.now client.start.tables (sites_of (tables_of lines) client.start.tables ws) (shown_times b lines client.start.tables client.start.times))
    c.deref.ensures.value in
    let items : length c.deref.result.now ≡ length list = ap length c.deref.ensures.value in
    let counted : c.len.result ≡ length list = omega (arith, c.len.ensures, c.deref.ensures.len, items) in
    shows_all seen c.args.old.now shown c.args.lints.now c.args.wait_ms (g.R.Read.remaining c.args.reader.now) (g.R.Read.remaining c.read_stream.new.reader) (g.W.Write.contents c.args.writer.now)
    (g.W.Write.contents c.send.new.writer) client it c.in_ok-read_stream.ensures list c.in-Ok.ensures c.as_slice.result.now is c.len.result c.in-Ok-send.ensures counted

pub returns-clause-views : goal.returns-clause-views
returns-clause-views g c =
    let client = c.read_stream.new.client in
    let it = c.read_stream.new.observer in
    let seen = c.args.seen.now in
    let shown : is_some seen.second.changes ≡ is_some c.args.old.now.times = is_shown (is_some c.args.old.now.times) seen.second c.requires.times in
    let list = c.in-Ok.list.items in
    let is : (b : Bool) (lines : List Timed) → Follows (tables_of lines) it.first → FollowsTimes b lines it.second
    → c.as_slice.result.now ≡ span_text c.args.old.now client.start.tables (sites_of (tables_of lines) client.start.tables list) (shown_times b lines client.start.tables client.start.times) =
    λ b lines h k. c.as_slice.ensures.value ∙ c.in-Ok-text_now.ensures b lines h k
    ∙ ap (λ (ws : List AnyWarning). span_text c.args.old.now client.start.tables (sites_of (tables_of lines) client.start.tables ws) (shown_times b lines client.start.tables client.start.times))
    c.deref.ensures.value in
    let sent = c.in-Err.ensures in
    shows_front seen c.args.old.now shown c.args.lints.now c.args.wait_ms (g.R.Read.remaining c.args.reader.now) (g.R.Read.remaining c.read_stream.new.reader) (g.W.Write.contents c.args.writer.now)
    (g.W.Write.contents c.send.new.writer) client it c.in_ok-read_stream.ensures list c.in-Ok.ensures c.as_slice.result.now is sent.0 sent.1 sent.2
