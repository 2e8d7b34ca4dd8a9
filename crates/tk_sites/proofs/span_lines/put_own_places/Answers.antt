use Rattle.tk_sites.specs.SpanLines.{span_line}
use Rattle.tk_sites.proofs.LineLemmas.{all_put, next_put}
use Rattle.tk_sites.proofs.span_lines.put_own_places.Goals as goal

pub loop-at-preserved : goal.loop-at-preserved
loop-at-preserved c = next_put (span_line c.args.old.now c.args.times.now) c.args.sites.now.first c.loop-at.at c.loop-at.invariant c.in_ok-put_place_at.ensures

pub returns : goal.returns
returns c = all_put (span_line c.args.old.now c.args.times.now) c.args.sites.now.first c.loop-at.at _ c.len-at-end.ensures.len c.loop-at-test.false c.loop-at.invariant
