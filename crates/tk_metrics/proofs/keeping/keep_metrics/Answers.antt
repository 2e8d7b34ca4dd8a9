use Rattle.tk_metrics.proofs.KeepLemmas.{none_put}
use Rattle.tk_metrics.proofs.keeping.keep_metrics.Goals as goal

pub returns-in-Err : goal.returns-in-Err
returns-in-Err g c = none_put c.args.path.now c.args.by c.args.lints.now (g.R.Read.remaining c.args.reader.now) (g.P.Place.texts c.args.place.now)
