use Rattle.tk_metrics.specs.Metrics.{state_samples}
use Rattle.tk_report.proofs.PutLemmas.{both, next_put, all_put}
use Rattle.tk_metrics.proofs.writing.put_all_states.Goals as goal

pub loop-place-preserved : goal.loop-place-preserved
loop-place-preserved c = next_put state_samples c.args.tasks.now c.loop-place.place c.loop-place.invariant c.in_ok-put_states_at.ensures

pub returns : goal.returns
returns c = both c.in_ok-put_head.ensures (all_put state_samples c.args.tasks.now c.loop-place.place _ c.len-place-end.ensures c.loop-place-test.false c.loop-place.invariant)
