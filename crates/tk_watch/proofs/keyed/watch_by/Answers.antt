use Rattle.std.proofs.Common.{Ok, arith, subst}
use Rattle.tk_watch.specs.Keying.{Goes}
use Rattle.tk_watch.proofs.KeyLemmas.{starts_keys}
use Rattle.tk_watch.proofs.keyed.watch_by.Goals as goal

pub loop-init : goal.loop-init
loop-init g c = record {
  keying = starts_keys c.args.screen.now (g.W.Write.contents c.args.writer.now) (g.S.Source.to_come c.args.source.now) c.args.session.now c.requires;
  few = omega arith;
}

pub returns-then-not-goes_on : goal.returns-then-not-goes_on
returns-then-not-goes_on g c =
    let given = g.S.Source.to_come c.args.source.now in
    let old = g.W.Write.contents c.args.writer.now in
    subst (λ b. Goes c.args.screen.now given (g.S.Source.to_come c.step.new.source) (Ok b) c.step.new.session old (g.W.Write.contents c.step.new.writer)) c.if-not-goes_on.true
    (c.in_ok-goes_on.ensures.goes given old c.loop.invariant.keying)
