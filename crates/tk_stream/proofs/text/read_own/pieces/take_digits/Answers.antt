use Rattle.std.proofs.Common.{arith}
use Rattle.tk_stream.proofs.Pieces.{digit_taken}
use Rattle.tk_stream.proofs.text.read_own.pieces.take_digits.Goals as goal

pub loop-at-preserved : goal.loop-at-preserved
loop-at-preserved c = record {
  positive = omega (arith, c.in_ok-n.ensures.value, c.loop-at.invariant.positive);
  whole = digit_taken c.args.bytes.now c.loop-at.at c.loop-at.n c.in-Some.digit c.in_ok-n.n _ c.loop-at-test.true c.in-Some.ensures.digit c.in-Some.ensures.small c.loop-at.invariant.positive c.in_ok-n.ensures.value c.in_ok-n.ensures.fits c.loop-at.invariant.whole;
}
