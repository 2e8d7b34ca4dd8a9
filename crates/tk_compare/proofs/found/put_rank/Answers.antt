use Rattle.tk_report.proofs.PutLemmas.{all_put, next_put}
use Rattle.tk_compare.specs.Found.{finding_at}
use Rattle.tk_compare.proofs.found.put_rank.Goals as goal

pub loop-at-preserved : goal.loop-at-preserved
loop-at-preserved c = next_put (finding_at c.args.rank) c.args.findings.now c.loop-at.at c.loop-at.invariant c.in_ok-put_at.ensures

pub returns : goal.returns
returns c = all_put (finding_at c.args.rank) c.args.findings.now c.loop-at.at _ c.len-at-end.ensures c.loop-at-test.false c.loop-at.invariant
