use Rattle.tk_watch.specs.Keyed.{standing}
use Rattle.tk_watch.proofs.KeyLemmas.{faulty_piece, takes_piece}
use Rattle.tk_watch.proofs.keyed.take_piece.Goals as goal

pub returns-in-Ok-clause-goes : goal.returns-in-Ok-clause-goes
returns-in-Ok-clause-goes g c = λ given left new old lost w.
    let h = c.in-Ok.ensures.takes c.args.screen.now.lints (standing c.args.screen.now w.events).bytes w.stands.taken w.stands.shows.seen in
    takes_piece c.args.screen.now given left c.args.session.now old (g.W.Write.contents c.args.writer.now) w new c.args.bytes.now c.in-Ok.lines c.feed_more.new.course lost
    h.0 h.1

pub returns-in-Err-clause-goes : goal.returns-in-Err-clause-goes
returns-in-Err-clause-goes g c = λ given left new old lost w.
    faulty_piece c.args.screen.now given left c.args.session.now old (g.W.Write.contents c.args.writer.now) w new c.args.bytes.now lost c.feed_more.new.course
    c.in-Err.fault c.draw_at.result (g.W.Write.contents c.draw_at.new.writer)
    (c.in-Err.ensures.takes c.args.screen.now.lints (standing c.args.screen.now w.events).bytes w.stands.taken w.stands.shows.seen)
    c.draw_at.ensures
