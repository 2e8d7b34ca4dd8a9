use Rattle.tk_metrics.specs.Metrics.{count_of}
use Rattle.tk_metrics.specs.Samples.{sample}
use Rattle.tk_metrics.specs.declared.family.Family.TheVariants.{Task}
use Rattle.tk_report.proofs.PutLemmas.{both, next_put, all_put}
use Rattle.tk_metrics.proofs.writing.put_counts.Goals as goal

pub loop-place-preserved : goal.loop-place-preserved
loop-place-preserved c = next_put (λ s. sample (Task c.args.count) (s.0, count_of c.args.count s.1)) c.args.tasks.now c.loop-place.place c.loop-place.invariant c.in_ok-put_count_at.ensures

pub returns : goal.returns
returns c = both c.in_ok-put_head.ensures (all_put (λ s. sample (Task c.args.count) (s.0, count_of c.args.count s.1)) c.args.tasks.now c.loop-place.place _ c.len-place-end.ensures c.loop-place-test.false c.loop-place.invariant)
