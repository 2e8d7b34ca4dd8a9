use Rattle.tk_sites.specs.Lines.{timed_line}
use Rattle.tk_sites.proofs.LineLemmas.{all_put, next_put}
use Rattle.tk_sites.proofs.lines.put_own_lines.Goals as goal

pub loop-at-preserved : goal.loop-at-preserved
loop-at-preserved c = next_put (timed_line c.args.times.now) c.args.sites.now.first c.loop-at.at c.loop-at.invariant c.in_ok-put_line_at.ensures

pub returns : goal.returns
returns c = all_put (timed_line c.args.times.now) c.args.sites.now.first c.loop-at.at _ c.len-at-end.ensures.len c.loop-at-test.false c.loop-at.invariant
