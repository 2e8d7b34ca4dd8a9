use Rattle.std.proofs.Common.{[], refl}
use Rattle.tk_watch.specs.Watching.{Watching}
use Rattle.tk_reading.proofs.ReadLemmas.{all_at_end}
use Rattle.tk_watch.proofs.WatchLemmas.{ends_all, says_no_more}
use Rattle.tk_watch.proofs.watching.at_end.Goals as goal

pub returns-then-goes_on-clause-steps : goal.returns-then-goes_on-clause-steps
returns-then-goes_on-clause-steps g c = λ given left old said end w.
    says_no_more c.args.screen.now given left old c.args.progress.lines c.in_ok-drawn.drawn [] c.args.course.now (g.W.Write.contents c.draw_new.new.writer) said (g.P.Pace.said c.args.pace.now)
    (c.in_ok-drawn.ensures.drew given left old said (g.P.Pace.said c.args.pace.now) w) (g.P.Pace.said c.goes_on.new.self) c.goes_on.ensures

pub returns-else-goes_on-clause-steps : goal.returns-else-goes_on-clause-steps
returns-else-goes_on-clause-steps g c = λ given left old said end w.
    let then = g.P.Pace.said c.goes_on.new.self in
    let now : Watching c.args.screen.now given left c.args.progress.lines c.in_ok-drawn.drawn [] c.args.course.now old (g.W.Write.contents c.draw_new.new.writer) said then =
    says_no_more c.args.screen.now given left old c.args.progress.lines c.in_ok-drawn.drawn [] c.args.course.now (g.W.Write.contents c.draw_new.new.writer) said (g.P.Pace.said c.args.pace.now)
    (c.in_ok-drawn.ensures.drew given left old said (g.P.Pace.said c.args.pace.now) w) then c.goes_on.ensures in
    ends_all c.args.screen.now given left old c.args.progress.lines c.in_ok-drawn.drawn [] c.args.course.now (g.W.Write.contents c.draw_new.new.writer) said then now refl
    (all_at_end given left now.bytes now.read end) c.in_ok-drawn.ensures.covers
