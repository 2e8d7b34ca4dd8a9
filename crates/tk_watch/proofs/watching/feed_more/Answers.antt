use Rattle.tk_watch.proofs.OddLemmas.{feeds}
use Rattle.tk_watch.proofs.watching.feed_more.Goals as goal

pub returns-clause-takes : goal.returns-clause-takes
returns-clause-takes c = λ lints front h s.
    feeds lints front c.args.piece.now c.args.lines c.args.course.now (record { client = c.feed_lines.new.client; seen = c.feed_lines.new.observer }) c.feed_lines.result h s
    (c.feed_lines.ensures.takes c.args.course.now.seen front h)
