use Rattle.tk_reading.specs.Shown.{shown_of, timed_of}
use Rattle.tk_metrics.proofs.FollowLemmas.{last_of}
use Rattle.tk_metrics.proofs.KeepLemmas.{lets_go, puts_more, puts_none, text_after}
use Rattle.tk_metrics.proofs.keeping.try_now.Goals as goal

pub returns-in-Ok : goal.returns-in-Ok
returns-in-Ok g c = λ by given left old k.
    puts_more c.args.path.now by c.args.lints.now given left c.args.progress.lines c.args.progress.put c.args.client.now c.args.seen.now old _ k
    (g.P.Place.texts c.put_now.new.place) (c.in-Ok.ensures by (shown_of k.bytes) (timed_of k.bytes) (last_of k.bytes c.args.progress.lines c.args.client.now k.taken) k.follows) c.requires

pub returns-then-is_of_place : goal.returns-then-is_of_place
returns-then-is_of_place g c = λ by given left old k.
    lets_go c.args.path.now by c.args.lints.now given left c.args.progress.lines c.args.progress.put c.args.client.now c.args.seen.now old _ k
    c.in-Err.fault (text_after by c.args.lints.now c.args.client.now k.bytes) (g.P.Place.texts c.put_now.new.place) (c.in-Err.ensures by (shown_of k.bytes) (timed_of k.bytes) (last_of k.bytes c.args.progress.lines c.args.client.now k.taken) k.follows)

pub returns-else-is_of_place : goal.returns-else-is_of_place
returns-else-is_of_place g c = λ by given left old k.
    puts_none c.args.path.now by c.args.lints.now given left c.args.progress.lines c.args.progress.put c.args.client.now c.args.seen.now old _ k
    c.in-Err.fault (text_after by c.args.lints.now c.args.client.now k.bytes) (g.P.Place.texts c.put_now.new.place) (c.in-Err.ensures by (shown_of k.bytes) (timed_of k.bytes) (last_of k.bytes c.args.progress.lines c.args.client.now k.taken) k.follows)
