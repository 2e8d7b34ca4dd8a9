use Rattle.std.proofs.Common.{Bool, subst, arith}
use Rattle.tk_live.proofs.Ran.{ran_none, ran_more}
use Rattle.tk_live.proofs.worker.work.Goals as goal

pub loop-i-init : goal.loop-i-init
loop-i-init g c = (ran_none c.args.wakers.items, omega arith, λ lt. absurd (omega (arith, lt)))

pub loop-i-preserved : goal.loop-i-preserved
loop-i-preserved g c =
    let was = c.loop-i.invariant in (
      ran_more c.args.lines.now c.loop-i.i _ c.args.wakers.items c.run_line.new.wakers.items c.loop-i-test.true (c.run_line.ensures c.args.wakers.items _ was.0),
      omega (arith, c.loop-i-test.true),
      λ lt. subst (λ (b : Bool). g.G.Gate.answers c.args.gate.now c.args.k b) c.if-not-pass.false c.pass.ensures,
    )
