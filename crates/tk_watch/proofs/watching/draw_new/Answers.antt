use Rattle.std.proofs.Common.{[], refl}
use Rattle.std.proofs.lemmas.Result.{err_from_is_err_and}
use Rattle.tk_watch.specs.Odd.{seen_in}
use Rattle.tk_watch.proofs.WatchLemmas.{draws_last, draws_no_more, draws_not}
use Rattle.tk_watch.proofs.watching.draw_new.Goals as goal

pub returns-then-not-is_new-clause-drew : goal.returns-then-not-is_new-clause-drew
returns-then-not-is_new-clause-drew g c = λ given left old said told w.
    draws_no_more c.args.screen.now given left old c.args.lines c.args.drawn [] c.args.course.now (g.W.Write.contents c.args.writer.now) said told w refl (c.is_new.ensures.old c.if-not-is_new.true)

pub returns-in_err-draw-clause-drew : goal.returns-in_err-draw-clause-drew
returns-in_err-draw-clause-drew g c = λ given left old said told w.
    let p = err_from_is_err_and c.from_residual.result c.from_residual.ensures.1 in
    rw (p.1, p.2) (draws_not c.args.screen.now given left old c.args.lines c.args.drawn [] c.args.course.now (g.W.Write.contents c.args.writer.now) said told w
    c.in_err-draw.field-0.0 (g.W.Write.contents c.draw.new.writer) told (c.in_err-draw.ensures (seen_in w.bytes) w.seen))

pub returns-clause-drew : goal.returns-clause-drew
returns-clause-drew g c = λ given left old said told w.
    draws_last c.args.screen.now given left old c.args.lines c.args.drawn [] c.args.course.now (g.W.Write.contents c.args.writer.now) said told w refl
    (g.W.Write.contents c.draw.new.writer) (c.in_ok-draw.ensures (seen_in w.bytes) w.seen) (c.is_new.ensures.new c.if-not-is_new.false)
