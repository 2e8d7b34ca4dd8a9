use Rattle.std.proofs.Common.{[], subst, sym}
use Rattle.tk_metrics.specs.Following.{Sees}
use Rattle.tk_metrics.specs.Keeping.{Keeps}
use Rattle.tk_metrics.specs.Streams.{usual}
use Rattle.tk_metrics.proofs.KeepLemmas.{none_put}
use Rattle.tk_metrics.proofs.keeping.keep_by.Goals as goal

pub keep_seen-requires-clause-seen : goal.keep_seen-requires-clause-seen
keep_seen-requires-clause-seen g c = subst (λ b. Sees b (usual c.args.lints.now) [] [] c.in-Ok.seen) (sym c.in-Ok.ensures.0.notes.told) c.in-Ok.ensures

pub returns-in-Ok : goal.returns-in-Ok
returns-in-Ok g c =
    subst (λ b. Keeps c.args.path.now b c.args.lints.now (g.R.Read.remaining c.args.reader.now) (g.R.Read.remaining c.keep_seen.new.reader) c.keep_seen.result
    (g.P.Place.texts c.args.place.now) (g.P.Place.texts c.keep_seen.new.place)) c.in-Ok.ensures.0.notes.told c.keep_seen.ensures

pub returns-in-Err : goal.returns-in-Err
returns-in-Err g c = none_put c.args.path.now c.args.by c.args.lints.now (g.R.Read.remaining c.args.reader.now) (g.P.Place.texts c.args.place.now)
