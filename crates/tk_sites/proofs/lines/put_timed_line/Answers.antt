use Rattle.std.proofs.Common.{◌∙◌, subst}
use Rattle.tk_report.specs.Pieces.{Puts}
use Rattle.tk_report.proofs.PutLemmas.{both}
use Rattle.tk_sites.specs.Below.{below}
use Rattle.tk_sites.proofs.lines.put_timed_line.Goals as goal

pub returns : goal.returns
returns c =
    let mid = c.put_line.new.out.items in
    let end = c.put_below.new.out.items in
    both c.in_ok-put_line.ensures (subst (λ i. Puts mid end (below c.args.times.now i)) c.saturating_sub.ensures c.in_ok-put_below.ensures)
