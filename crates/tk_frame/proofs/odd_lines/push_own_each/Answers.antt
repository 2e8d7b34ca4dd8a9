use Rattle.std.proofs.Common.{List, ◌+◌, subst, sym, arith}
use Rattle.tk_odd.specs.Findings.{told}
use Rattle.tk_screen.specs.Screens.{LineView}
use Rattle.tk_screen.specs.Texts.{Puts}
use Rattle.tk_screen.proofs.PutLemmas.{both}
use Rattle.tk_frame.specs.Findings.{own_lines}
use Rattle.tk_frame.proofs.FindingLemmas.{numbered_more}
use Rattle.tk_frame.proofs.odd_lines.push_own_each.Goals as goal

pub loop-i-preserved : goal.loop-i-preserved
loop-i-preserved c =
    let i = c.loop-i.i in
    subst (λ (p : List LineView). Puts c.args.lines.now.items c.push_own.new.lines.items p)
    (sym (numbered_more told (own_lines c.args.tables.now.tasks c.args.place.now) 1 c.args.list.now i c.index-list-i.result (i + 1) c.loop-i-test.true c.index-list-i.is (omega arith)))
    (both c.loop-i.invariant c.in_ok-push_own.ensures)
