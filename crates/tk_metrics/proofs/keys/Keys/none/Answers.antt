use Rattle.std.proofs.Common.{sym, ◌∙◌}
use Rattle.tk_metrics.proofs.KeysLemmas.{keys_endless, keys_first}
use Rattle.tk_metrics.proofs.keys.Keys.none.Goals as goal

pub returns-in-Some : goal.returns-in-Some
returns-in-Some c = keys_first c.args.apart c.in-Some.room c.new.result c.new.ensures (sym c.in-Some.is ∙ c.room.ensures)

pub returns-in-None : goal.returns-in-None
returns-in-None c = c.endless.ensures ∙ keys_endless c.args.apart (sym c.in-None.is ∙ c.room.ensures)
