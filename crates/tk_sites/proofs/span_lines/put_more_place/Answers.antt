use Rattle.std.proofs.Common.{◌≡◌, ℕ, List, Option, [], OnOk, subst, sym}
use Rattle.std.specs.Option.{option_map_or}
use Rattle.tk_report.specs.Pieces.{Puts}
use Rattle.tk_sites.specs.Lines.{more_site}
use Rattle.tk_sites.specs.SpanLines.{span_line}
use Rattle.tk_sites.specs.declared.sums.Sums.{Sums}
use Rattle.tk_sites.proofs.span_lines.put_more_place.Goals as goal

pub returns-in-Some : goal.returns-in-Some
returns-in-Some c =
    let old = c.args.out.now.items in
    let new = c.put_place.new.out.items in
    let text = span_line c.args.old.now c.args.times.now c.args.number in
    let is : c.as_bytes.result.now ≡ more_site = c.as_bytes.ensures.value in
    subst (λ (rest : Option Sums). OnOk c.put_place.result (Puts old new (option_map_or (λ (s : Sums). text (more_site, s)) rest []))) (sym c.in-Some.is)
    (subst (λ (site : List ℕ). OnOk c.put_place.result (Puts old new (text (site, c.in-Some.sums)))) is c.put_place.ensures)
