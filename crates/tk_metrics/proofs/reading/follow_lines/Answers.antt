use Rattle.tk_metrics.proofs.FollowLemmas.{by_takes, own_watch}
use Rattle.tk_metrics.proofs.reading.follow_lines.Goals as goal

pub returns-clause-takes : goal.returns-clause-takes
returns-clause-takes c = λ by limits bytes h seen.
    let was = c.args.seen.now in
    let told = seen.0.notes.told in
    let same = seen.1.1 in
    by_takes by limits was told same bytes c.args.piece.now c.feed_lines.result c.feed_lines.new.client c.feed_lines.new.observer
    (c.feed_lines.ensures.takes was bytes h (own_watch by limits was told same bytes seen))
