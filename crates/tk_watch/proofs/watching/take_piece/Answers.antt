use Rattle.std.proofs.Common.{[], refl}
use Rattle.tk_watch.proofs.WatchLemmas.{ends_at, takes_more}
use Rattle.tk_watch.proofs.watching.take_piece.Goals as goal

pub returns-in-Ok-clause-goes : goal.returns-in-Ok-clause-goes
returns-in-Ok-clause-goes g c = λ given left new old drawn said told read w.
    let h = c.in-Ok.ensures.takes c.args.screen.now.lints w.bytes w.taken w.seen in
    takes_more c.args.screen.now given left old c.args.lines drawn [] c.args.course.now (g.W.Write.contents c.args.writer.now) said told w
    refl new c.args.piece.now c.in-Ok.sum c.feed_more.new.course c.requires.short read h.0 h.1

pub returns-in-Err-clause-goes : goal.returns-in-Err-clause-goes
returns-in-Err-clause-goes g c = λ given left new old drawn said told read w.
    ends_at c.args.screen.now given left old c.args.lines drawn [] c.args.course.now (g.W.Write.contents c.args.writer.now) said told w
    new c.args.piece.now c.feed_more.new.course read c.in-Err.fault c.draw_at.result (g.W.Write.contents c.draw_at.new.writer)
    (c.in-Err.ensures.takes c.args.screen.now.lints w.bytes w.taken w.seen) c.draw_at.ensures
