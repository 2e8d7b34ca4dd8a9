use Rattle.tk_client.specs.Applying.{stats_id_by}
use Rattle.tk_client.proofs.IdLemmas.{found-there, none-found}
use Rattle.tk_client.proofs.taking.told_of.Goals as goal

pub returns-in-Some : goal.returns-in-Some
returns-in-Some g c =
    found-there (stats_id_by g.T.Listed.kind) c.args.told.now c.args.id c.args.stats.now c.in-Some.i c.index-stats-i.result c.requires c.in-Some.ensures.place c.index-stats-i.is

pub returns-in-None : goal.returns-in-None
returns-in-None g c = none-found (stats_id_by g.T.Listed.kind) c.args.told.now c.args.id c.args.stats.now c.requires c.in-None.ensures.place
