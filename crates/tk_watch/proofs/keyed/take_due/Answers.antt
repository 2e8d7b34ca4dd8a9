use Rattle.tk_watch.specs.Keyed.{standing}
use Rattle.tk_watch.proofs.KeyLemmas.{draws_due, draws_no_due}
use Rattle.tk_watch.proofs.keyed.take_due.Goals as goal

pub returns-in-Ok : goal.returns-in-Ok
returns-in-Ok g c = λ given left new old lost w.
    draws_due c.args.screen.now given left c.args.session.now old (g.W.Write.contents c.args.writer.now) w new (g.W.Write.contents c.draw.new.writer) lost
    (c.in-Ok.ensures (standing c.args.screen.now w.events) w.stands.shows)

pub returns-in-Err : goal.returns-in-Err
returns-in-Err g c = λ given left new old lost w.
    draws_no_due c.args.screen.now given left c.args.session.now old (g.W.Write.contents c.args.writer.now) w new (g.W.Write.contents c.draw.new.writer) c.in-Err.stop lost
    (c.in-Err.ensures (standing c.args.screen.now w.events) w.stands.shows)
