use Rattle.std.proofs.Common.{◌≡◌, ℕ, List, Option, IfOk, ap, ap₂, subst, ◌∙◌}
use Rattle.tk_stream.specs.Tables.{TablesView}
use Rattle.tk_stream.specs.Times.{TaskTimes}
use Rattle.tk_reading.specs.Shown.{tables_of}
use Rattle.tk_series.specs.Limited.{LimitedView}
use Rattle.tk_sites.specs.Sites.{sites_of}
use Rattle.tk_sites.specs.SpanLines.{span_text}
use Rattle.tk_sites.specs.TimedSites.{shown_times}
use Rattle.tk_sites.specs.declared.sums.Sums.{Sums}
use Rattle.tk_sites.specs.declared.times.SiteTimes.{SiteTimes}
use Rattle.tk_sites.proofs.span_view.text_now.Goals as goal

pub returns : goal.returns
returns c = λ times lines h k.
    let old = c.args.old.now in
    let tables = c.args.client.now.start.tables in
    let own = c.args.client.now.start.times in
    let warnings = c.args.warnings.now in
    let shown : c.tables-tables.result.now ≡ tables = c.tables-tables.ensures in
    let sites : c.in_ok-sites.sites ≡ sites_of (tables_of lines) tables warnings =
    c.in_ok-sites.ensures (tables_of lines) h ∙ ap (λ (t : TablesView). sites_of (tables_of lines) t warnings) shown in
    let timed : c.in_ok-times.times ≡ shown_times times lines tables own =
    c.in_ok-times.ensures times lines k
    ∙ ap₂ (λ (t : TablesView) (x : List TaskTimes). shown_times times lines t x) shown c.times.ensures in
    let text : span_text old c.tables-tables.result.now c.in_ok-sites.sites c.in_ok-times.times
    ≡ span_text old tables (sites_of (tables_of lines) tables warnings) (shown_times times lines tables own) =
    ap (λ (t : TablesView). span_text old t c.in_ok-sites.sites c.in_ok-times.times) shown
    ∙ ap₂ (λ (s : LimitedView Sums) (x : Option (LimitedView SiteTimes)). span_text old tables s x) sites timed in
    subst (λ (xs : List ℕ). IfOk c.span_text.result (λ text. text.items ≡ xs)) text c.span_text.ensures
