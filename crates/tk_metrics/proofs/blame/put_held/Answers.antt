use Rattle.tk_metrics.specs.Blame.{held_sample}
use Rattle.tk_report.proofs.PutLemmas.{both, next_put, all_put}
use Rattle.tk_metrics.proofs.blame.put_held.Goals as goal

pub loop-i-preserved : goal.loop-i-preserved
loop-i-preserved c = next_put held_sample c.args.held.now c.loop-i.i c.loop-i.invariant c.in_ok-put_held_at.ensures

pub returns : goal.returns
returns c = both c.in_ok-put_head.ensures (all_put held_sample c.args.held.now c.loop-i.i _ c.len-i-end.ensures c.loop-i-test.false c.loop-i.invariant)
