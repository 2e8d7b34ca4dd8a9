use Rattle.std.proofs.Common.{subst}
use Rattle.std.proofs.lemmas.Result.{err_from_is_err_and}
use Rattle.tk_watch.specs.Odd.{seen_in}
use Rattle.tk_watch.specs.Watching.{Asks}
use Rattle.tk_watch.proofs.WatchLemmas.{draws_more, draws_not, stays_old, stays_so}
use Rattle.tk_watch.proofs.watching.draw_after.Goals as goal

pub returns-then-not-is_new : goal.returns-then-not-is_new
returns-then-not-is_new g c = record {
  drew = λ given left old said w.
      stays_old c.args.screen.now given left old c.args.lines c.args.drawn c.args.piece.now c.args.course.now (g.W.Write.contents c.args.writer.now) said (g.P.Pace.said c.args.pace.now) w
      (c.is_new.ensures.old c.if-not-is_new.true);
}

pub returns-then-not-may_draw : goal.returns-then-not-may_draw
returns-then-not-may_draw g c = record {
  drew = λ given left old said w.
      stays_so c.args.screen.now given left old c.args.lines c.args.drawn c.args.piece.now c.args.course.now (g.W.Write.contents c.args.writer.now) said (g.P.Pace.said c.args.pace.now) w
      (g.P.Pace.said c.may_draw.new.pace) (subst (Asks (g.P.Pace.said c.args.pace.now) (g.P.Pace.said c.may_draw.new.pace)) c.if-not-may_draw.true c.may_draw.ensures);
}

pub returns-in_err-draw : goal.returns-in_err-draw
returns-in_err-draw g c = record {
  drew = λ given left old said w.
      let p = err_from_is_err_and c.from_residual.result c.from_residual.ensures.1 in
      rw (p.1, p.2) (draws_not c.args.screen.now given left old c.args.lines c.args.drawn c.args.piece.now c.args.course.now (g.W.Write.contents c.args.writer.now) said (g.P.Pace.said c.args.pace.now) w
      c.in_err-draw.field-0.0 (g.W.Write.contents c.draw.new.writer) (g.P.Pace.said c.may_draw.new.pace) (c.in_err-draw.ensures (seen_in w.bytes) w.seen));
}

pub returns : goal.returns
returns g c = record {
  drew = λ given left old said w.
      draws_more c.args.screen.now given left old c.args.lines c.args.drawn c.args.piece.now c.args.course.now (g.W.Write.contents c.args.writer.now) said (g.P.Pace.said c.args.pace.now) w
      (g.W.Write.contents c.draw.new.writer) (g.P.Pace.said c.may_draw.new.pace) (g.P.Pace.said c.mark.new.self) (c.in_ok-draw.ensures (seen_in w.bytes) w.seen)
      (c.is_new.ensures.new c.if-not-is_new.false) (subst (Asks (g.P.Pace.said c.args.pace.now) (g.P.Pace.said c.may_draw.new.pace)) c.if-not-may_draw.false c.may_draw.ensures) c.mark.ensures;
}
