use Rattle.tk_report.proofs.PutLemmas.{all_put, next_put}
use Rattle.tk_compare.specs.Lines.{line_at}
use Rattle.tk_compare.proofs.lines.put_rank.Goals as goal

pub loop-at-preserved : goal.loop-at-preserved
loop-at-preserved c = next_put (line_at c.args.margin c.args.spans c.args.rank) c.args.places.now c.loop-at.at c.loop-at.invariant c.in_ok-put_at.ensures

pub returns : goal.returns
returns c = all_put (line_at c.args.margin c.args.spans c.args.rank) c.args.places.now c.loop-at.at _ c.len-at-end.ensures c.loop-at-test.false c.loop-at.invariant
