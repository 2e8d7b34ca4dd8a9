use Rattle.tk_watch.proofs.KeyLemmas.{ends_keys}
use Rattle.tk_watch.proofs.keyed.step.Goals as goal

pub returns-in-Some-clause-goes : goal.returns-in-Some-clause-goes
returns-in-Some-clause-goes g c = λ given old w.
    c.take_event.ensures.goes given (g.S.Source.to_come c.args.source.now) (g.S.Source.to_come c.next.new.self) old c.in-Some.ensures.gives w

pub returns-in-None-clause-goes : goal.returns-in-None-clause-goes
returns-in-None-clause-goes g c = λ given old w.
    ends_keys c.args.screen.now given (g.S.Source.to_come c.args.source.now) c.args.session.now old (g.W.Write.contents c.args.writer.now) w (g.S.Source.to_come c.next.new.self)
    c.in-None.ensures.gives.0 c.in-None.ensures.gives.1
