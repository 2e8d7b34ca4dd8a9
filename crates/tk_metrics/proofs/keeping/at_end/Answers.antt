use Rattle.std.proofs.lemmas.Result.{err_from_is_err_and}
use Rattle.tk_reading.specs.Shown.{shown_of, timed_of}
use Rattle.tk_reading.proofs.ReadLemmas.{all_at_end}
use Rattle.tk_metrics.proofs.FollowLemmas.{last_of}
use Rattle.tk_metrics.proofs.KeepLemmas.{puts_last, puts_not, text_after}
use Rattle.tk_metrics.proofs.keeping.at_end.Goals as goal

pub returns-then-not-goes_on-clause-steps : goal.returns-then-not-goes_on-clause-steps
returns-then-not-goes_on-clause-steps g c = λ by given left old end k.
    puts_last c.args.path.now by c.args.lints.now given left c.args.progress.lines c.args.progress.put c.args.client.now c.args.seen.now old _ k
    (g.P.Place.texts c.put_now.new.place) (c.in_ok-put_now.ensures by (shown_of k.bytes) (timed_of k.bytes) (last_of k.bytes c.args.progress.lines c.args.client.now k.taken) k.follows) (all_at_end given left k.bytes k.read end)

pub returns-in_err-put_now-clause-steps : goal.returns-in_err-put_now-clause-steps
returns-in_err-put_now-clause-steps g c = λ by given left old end k.
    let p = err_from_is_err_and c.from_residual.result c.from_residual.ensures.1 in
    rw (p.1, p.2) (puts_not c.args.path.now by c.args.lints.now given left c.args.progress.lines c.args.progress.put c.args.client.now c.args.seen.now old _ k
    c.in_err-put_now.field-0.0 (text_after by c.args.lints.now c.args.client.now k.bytes) (g.P.Place.texts c.put_now.new.place) (c.in_err-put_now.ensures by (shown_of k.bytes) (timed_of k.bytes) (last_of k.bytes c.args.progress.lines c.args.client.now k.taken) k.follows)
    (all_at_end given left k.bytes k.read end))
