use Rattle.std.proofs.Common.{Ok, arith, subst}
use Rattle.tk_watch.specs.Watching.{Steps}
use Rattle.tk_watch.proofs.WatchLemmas.{starts}
use Rattle.tk_watch.proofs.watching.watch_by.Goals as goal

pub loop-init : goal.loop-init
loop-init g c = record {
  watching = starts c.args.screen.now (g.R.Read.remaining c.args.reader.now) (g.W.Write.contents c.args.writer.now) c.args.course.now (g.P.Pace.said c.args.pace.now) c.requires;
  few = omega arith;
}

pub returns-in-None : goal.returns-in-None
returns-in-None g c =
    let given = g.R.Read.remaining c.args.reader.now in
    let old = g.W.Write.contents c.args.writer.now in
    let said = g.P.Pace.said c.args.pace.now in
    subst (λ next. Steps c.args.screen.now given (g.R.Read.remaining c.step.new.reader) (Ok next) c.step.new.course old (g.W.Write.contents c.step.new.writer) said (g.P.Pace.said c.step.new.pace)) c.in-None.is
    (c.in_ok-next.ensures.steps given old said c.loop.invariant.watching)
