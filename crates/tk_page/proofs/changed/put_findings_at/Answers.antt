use Rattle.std.proofs.Common.{arith}
use Rattle.tk_paper.proofs.PutLemmas.{nothing}
use Rattle.tk_page.specs.Changed.{finding_if}
use Rattle.tk_page.proofs.ChangedLemmas.{next_at}
use Rattle.tk_page.proofs.LoopLemmas.{all_parts}
use Rattle.tk_page.proofs.changed.put_findings_at.Goals as goal

pub loop-at-init : goal.loop-at-init
loop-at-init c = nothing c.args.paper.now

pub loop-at-preserved : goal.loop-at-preserved
loop-at-preserved c = next_at (finding_if c.args.rank) c.args.findings.now c.loop-at.at c.loop-at.invariant c.in_ok-put_finding_at.ensures

pub returns : goal.returns
returns c =
    let count = c.len-at-end.ensures in
    let past = c.loop-at-test.false in
    all_parts (finding_if c.args.rank) c.args.findings.now c.loop-at.at (omega arith) c.loop-at.invariant
