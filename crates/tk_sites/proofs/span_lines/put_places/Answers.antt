use Rattle.std.proofs.Common.{◌+◌, subst, []}
use Rattle.std.specs.Option.{option_map_or}
use Rattle.tk_report.specs.Pieces.{Puts}
use Rattle.tk_sites.specs.Lines.{more_site}
use Rattle.tk_sites.specs.SpanLines.{span_line}
use Rattle.tk_sites.specs.declared.sums.Sums.{Sums}
use Rattle.tk_sites.proofs.LineLemmas.{listed_put}
use Rattle.tk_sites.proofs.span_lines.put_places.Goals as goal

pub returns : goal.returns
returns c =
    let sites = c.args.sites.now in
    let mid = c.put_own_places.new.out.items in
    let end = c.put_more_place.new.out.items in
    let text = span_line c.args.old.now c.args.times.now in
    listed_put text sites c.in_ok-put_own_places.ensures
    (subst (λ n. Puts mid end (option_map_or (λ (s : Sums). text (n + 1) (more_site, s)) sites.rest [])) c.len.ensures.len
    (subst (λ o. Puts mid end (option_map_or (λ (s : Sums). text (c.len.result + 1) (more_site, s)) o [])) c.rest.ensures c.in_ok-put_more_place.ensures))
