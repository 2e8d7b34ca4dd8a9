use Rattle.std.proofs.Common.{Ok, arith, subst}
use Rattle.std.proofs.lemmas.Result.{err_from_is_err_and}
use Rattle.tk_metrics.specs.Kept.{Steps}
use Rattle.tk_metrics.proofs.KeepLemmas.{starts}
use Rattle.tk_metrics.proofs.keeping.keep_seen.Goals as goal

pub loop-init : goal.loop-init
loop-init g c = record {
  kept = starts c.args.path.now c.args.seen.now.leavers.by c.args.lints.now (g.R.Read.remaining c.args.reader.now) (g.P.Place.texts c.args.place.now) c.args.client.now _ c.requires.client c.requires.seen;
  few = omega arith;
}

pub returns-in-None : goal.returns-in-None
returns-in-None g c =
    let given = g.R.Read.remaining c.args.reader.now in
    let old = g.P.Place.texts c.args.place.now in
    subst (λ next. Steps c.args.path.now c.args.seen.now.leavers.by c.args.lints.now given (g.R.Read.remaining c.step.new.reader) (Ok next) c.step.new.client c.step.new.seen old (g.P.Place.texts c.step.new.place)) c.in-None.is
    (c.in_ok-next.ensures.steps c.args.seen.now.leavers.by given old c.loop.invariant.kept)

pub returns-in_err-next : goal.returns-in_err-next
returns-in_err-next g c =
    let p = err_from_is_err_and c.from_residual.result c.from_residual.ensures.1 in
    rw (p.1, p.2) (c.in_err-next.ensures.steps c.args.seen.now.leavers.by (g.R.Read.remaining c.args.reader.now) (g.P.Place.texts c.args.place.now) c.loop.invariant.kept)
