use Rattle.tk_odd.proofs.ShareLemmas as lemmas
use Rattle.tk_odd.proofs.laws.splits.Goals as goal

pub returns : goal.returns
returns c = lemmas.splits c.args._long c.args._time c.args._now c.args._moved.now
