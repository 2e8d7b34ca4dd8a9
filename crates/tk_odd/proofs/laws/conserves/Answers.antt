use Rattle.tk_odd.proofs.ShareLemmas.{conserves}
use Rattle.tk_odd.proofs.laws.conserves.Goals as goal

pub returns : goal.returns
returns c = conserves c.args._moved.now
