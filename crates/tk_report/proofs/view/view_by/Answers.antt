use Rattle.std.proofs.Common.{◌≡◌, length, ap, ap₂, sym, ◌∙◌}
use Rattle.tk_reading.specs.Shown.{shown_of}
use Rattle.tk_report.specs.Known.{are_untimed}
use Rattle.tk_report.specs.Timed.{timed_text_of, warned_of}
use Rattle.tk_report.proofs.ViewLemmas.{shows_all, shows_front}
use Rattle.tk_report.proofs.view.view_by.Goals as goal

pub returns-in-Ok-send-clause-views : goal.returns-in-Ok-send-clause-views
returns-in-Ok-send-clause-views g c =
    let lints = c.args.lints.now in
    let options = c.args.options.now in
    let client = c.warn.new.client in
    let start = client.start in
    let w = c.in_ok-list.ensures in
    let shown = shown_of w.bytes in
    let listed : c.as_slice-warnings.result.now ≡ warned_of lints options shown start.tables start.times = c.as_slice-warnings.ensures.value ∙ w.are in
    let text_is : c.as_slice.result.now ≡ timed_text_of c.args.view lints options shown start.tables start.times =
    c.as_slice.ensures.value
    ∙ (c.in-Ok.ensures lints shown (listed ∙ ap₂ (warned_of lints options shown) (sym c.tables.ensures) (sym c.times.ensures))
    ∙ ap₂ (timed_text_of c.args.view lints options shown) c.tables.ensures c.times.ensures) in
    shows_all lints options (g.R.Read.remaining c.args.reader.now) (g.R.Read.remaining c.warn.new.reader) c.args.view (g.W.Write.contents c.args.writer.now)
    (g.W.Write.contents c.send.new.writer) client c.in_ok-list.list.items w c.as_slice.result.now text_is
    (record { warnings = length c.as_slice-warnings.result.now; untimed = c.are_untimed.result }) c.in-Ok-send.ensures (ap length listed)
    (c.are_untimed.ensures ∙ ap₂ are_untimed c.tables-2.ensures c.times-2.ensures)

pub returns-clause-views : goal.returns-clause-views
returns-clause-views g c =
    let lints = c.args.lints.now in
    let options = c.args.options.now in
    let client = c.warn.new.client in
    let start = client.start in
    let w = c.in_ok-list.ensures in
    let shown = shown_of w.bytes in
    let listed : c.as_slice-warnings.result.now ≡ warned_of lints options shown start.tables start.times = c.as_slice-warnings.ensures.value ∙ w.are in
    let text_is : c.as_slice.result.now ≡ timed_text_of c.args.view lints options shown start.tables start.times =
    c.as_slice.ensures.value
    ∙ (c.in-Ok.ensures lints shown (listed ∙ ap₂ (warned_of lints options shown) (sym c.tables.ensures) (sym c.times.ensures))
    ∙ ap₂ (timed_text_of c.args.view lints options shown) c.tables.ensures c.times.ensures) in
    let sent = c.in-Err.ensures in
    shows_front lints options (g.R.Read.remaining c.args.reader.now) (g.R.Read.remaining c.warn.new.reader) c.args.view (g.W.Write.contents c.args.writer.now)
    (g.W.Write.contents c.send.new.writer) client c.in_ok-list.list.items w c.as_slice.result.now text_is sent.0 sent.1 sent.2
