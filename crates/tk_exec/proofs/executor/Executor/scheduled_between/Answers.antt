use Rattle.std.proofs.Common.{◌∙◌, arith}
use Rattle.tk_exec.proofs.TurnLemmas.{passed_more}
use Rattle.tk_exec.proofs.executor.Executor.scheduled_between.Goals as goal

pub loop-place-preserved : goal.loop-place-preserved
loop-place-preserved g c =
    let was = c.loop-place.invariant in
    let looked = c.if-look_at.ensures.looked in
    (passed_more c.args.first c.loop-place.place c.args.self.now.seats c.loop-place.self.seats c.look_at.new.self.seats was.3 was.0 looked.0 looked.1, c.look_at.ensures.next ∙ was.1, was.2, omega (arith, was.3), omega (arith, c.loop-place-test.true))
