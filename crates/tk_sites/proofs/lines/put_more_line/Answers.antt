use Rattle.std.proofs.Common.{◌≡◌, ℕ, List, Option, [], OnOk, subst, sym}
use Rattle.std.specs.Option.{option_map_or}
use Rattle.tk_report.specs.Pieces.{Puts}
use Rattle.tk_sites.specs.Lines.{more_site, timed_line}
use Rattle.tk_sites.specs.declared.sums.Sums.{Sums}
use Rattle.tk_sites.proofs.lines.put_more_line.Goals as goal

pub returns-in-Some : goal.returns-in-Some
returns-in-Some c =
    let old = c.args.out.now.items in
    let new = c.put_timed_line.new.out.items in
    let is : c.as_bytes.result.now ≡ more_site = c.as_bytes.ensures.value in
    subst (λ (rest : Option Sums). OnOk c.put_timed_line.result (Puts old new (option_map_or (λ (s : Sums). timed_line c.args.times.now c.args.number (more_site, s)) rest []))) (sym c.in-Some.is)
    (subst (λ (site : List ℕ). OnOk c.put_timed_line.result (Puts old new (timed_line c.args.times.now c.args.number (site, c.in-Some.sums)))) is c.put_timed_line.ensures)
