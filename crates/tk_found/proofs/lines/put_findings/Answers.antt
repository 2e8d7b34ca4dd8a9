use Rattle.std.proofs.Common.{List, ℕ, ◌+◌, subst, sym, arith}
use Rattle.tk_report.specs.Pieces.{Puts}
use Rattle.tk_report.proofs.PutLemmas.{both}
use Rattle.tk_found.proofs.LineLemmas.{lines_more}
use Rattle.tk_found.proofs.lines.put_findings.Goals as goal

pub loop-i-preserved : goal.loop-i-preserved
loop-i-preserved c =
    let i = c.loop-i.i in
    subst (λ (p : List ℕ). Puts c.args.out.now.items c.put_found.new.out.items p)
    (sym (lines_more 1 c.args.list.now i c.index-list-i.result (i + 1) c.loop-i-test.true c.index-list-i.is (omega arith)))
    (both c.loop-i.invariant c.in_ok-put_found.ensures)
