use Rattle.std.proofs.Common.{refl, subst, inl, arith, ◌∙◌}
use Rattle.tk_live.specs.Items.{IsTask}
use Rattle.tk_live.specs.Pasts.{TaskPast}
use Rattle.tk_live.proofs.Polling.{begins, one_more, still_idle, start_stops, end_stops, all_polled}
use Rattle.tk_live.proofs.items.TaskItem.polls.Goals as goal

pub loop-i-init : goal.loop-i-init
loop-i-init g c = record {
  same = record { id = refl; ledger = refl; times = refl; live = λ k there. there };
  still = c.requires.open;
  so_far = λ n p is. subst (λ (q : TaskPast). IsTask n q c.args.self.now) (begins c.args.moment c.args.run c.args.every p) is;
  idle = λ n p is. inl refl;
}

pub loop-i-preserved : goal.loop-i-preserved
loop-i-preserved g c = let inv = c.loop-i.invariant in record {
  same = record {
    id = c.end.ensures.same.id ∙ (c.start.ensures.same.id ∙ inv.same.id);
    ledger = c.end.ensures.same.ledger ∙ (c.start.ensures.same.ledger ∙ inv.same.ledger);
    times = c.end.ensures.same.times ∙ (c.start.ensures.same.times ∙ inv.same.times);
    live = λ k there. c.end.ensures.same.live k (c.start.ensures.same.live k (inv.same.live k there));
  };
  still = c.end.ensures.open;
  so_far = one_more c.args.self.now c.loop-i.self c.start.new.self c.end.new.self c.loop-i.i c.args.moment c.args.run c.args.every c.loop-i.invariant.so_far c.loop-i.invariant.idle c.in_default.ensures.did c.in_default-end.ensures.did;
  idle = still_idle c.args.self.now c.loop-i.self c.start.new.self c.end.new.self c.loop-i.i c.args.moment c.args.run c.args.every c.loop-i.invariant.so_far c.loop-i.invariant.idle c.in_default.ensures.did c.in_default-end.ensures.did;
}

pub returns-clause-did : goal.returns-clause-did
returns-clause-did g c = all_polled c.args.self.now c.loop-i.self c.loop-i.i c.args.count c.args.moment c.args.run c.args.every c.loop-i.invariant.so_far c.loop-i.invariant.idle (omega (arith, c.loop-i-test.false, c.loop-i.auto.i-end)) c.requires.some

pub returns-in-Err-clause-did : goal.returns-in-Err-clause-did
returns-in-Err-clause-did g c = start_stops c.args.self.now c.loop-i.self c.start.new.self c.start.new.self c.loop-i.i c.args.moment c.args.run c.args.every c.loop-i.invariant.so_far c.loop-i.invariant.idle c.args.count c.in-Err.stop c.in-Err.ensures.did

pub returns-in-Err-end-clause-did : goal.returns-in-Err-end-clause-did
returns-in-Err-end-clause-did g c = end_stops c.args.self.now c.loop-i.self c.start.new.self c.end.new.self c.loop-i.i c.args.moment c.args.run c.args.every c.loop-i.invariant.so_far c.loop-i.invariant.idle c.args.count c.in-Err-end.stop c.in_default.ensures.did c.in-Err-end.ensures.did
