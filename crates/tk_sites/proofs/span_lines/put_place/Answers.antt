use Rattle.std.proofs.Common.{◌≡◌, ℕ, ◌-◌, ap, ◌∙◌, subst}
use Rattle.tk_report.specs.Pieces.{Puts}
use Rattle.tk_report.proofs.PutLemmas.{both}
use Rattle.tk_sites.specs.Lines.{site_line}
use Rattle.tk_sites.specs.Span.{sums_by, value_then}
use Rattle.tk_sites.specs.SpanLines.{span_below}
use Rattle.tk_sites.specs.declared.sums.Sums.{Sums}
use Rattle.tk_sites.proofs.span_lines.put_place.Goals as goal

pub returns : goal.returns
returns c =
    let from = c.args.out.now.items in
    let mid = c.put_line.new.out.items in
    let end = c.put_below.new.out.items in
    let old = c.args.old.now in
    let sums = c.args.sums in
    let own : c.sums_by-own.result ≡ sums_by (value_then old.sites (c.args.number - 1)) sums =
    c.sums_by-own.ensures ∙ ap (λ o. sums_by o sums) c.value_then.ensures ∙ ap (λ (i : ℕ). sums_by (value_then old.sites i) sums) c.saturating_sub-index.ensures in
    both
    (subst (λ (s : Sums). Puts from mid (site_line c.args.number (c.args.site.now, s))) own c.in_ok-put_line.ensures)
    (subst (λ (i : ℕ). Puts mid end (span_below old.times c.args.times.now i)) c.saturating_sub-index.ensures c.in_ok-put_below.ensures)
