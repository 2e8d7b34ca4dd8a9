use Rattle.std.proofs.Common.{arith}
use Rattle.std.proofs.lemmas.Bool.{ne_eqb}
use Rattle.tk_explain.proofs.Cuts.{next-end, next-more}
use Rattle.tk_explain.proofs.lines.ends_from.Goals as goal
use Rattle.tk_explain.proofs.lines.ends_from.Goals.{then-bytes-at-eq10, else-bytes-at-eq10}

pub loop-at-preserved : goal.loop-at-preserved
loop-at-preserved c = record {
  within = omega (arith, c.loop-at-test.true);
  known = elim c.if-bytes-at-eq10.branch [
    | then-bytes-at-eq10 w ↦ rw (w.ended-is, w.saturating_add-ended.ensures, w.start-is)
        (next-end c.args.bytes.now c.loop-at.at c.loop-at.ended c.loop-at.start c.loop-at-test.true w.if-bytes-at-eq10.true c.loop-at.invariant.known)
    | else-bytes-at-eq10 w ↦ rw (w.ended-is, w.start-is)
        (next-more c.args.bytes.now c.loop-at.at c.loop-at.ended c.loop-at.start c.loop-at-test.true (ne_eqb _ _ w.if-bytes-at-eq10.false) c.loop-at.invariant.known)
  ];
}
