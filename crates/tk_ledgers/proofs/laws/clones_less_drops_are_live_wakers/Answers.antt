use Rattle.tk_ledgers.proofs.WakerLemmas.{each_is_distinct, clones_less_drops}
use Rattle.tk_ledgers.proofs.laws.clones_less_drops_are_live_wakers.Goals as goal

pub returns-clause-distinct : goal.returns-clause-distinct
returns-clause-distinct c = each_is_distinct

pub returns-clause-live : goal.returns-clause-live
returns-clause-live c = clones_less_drops
