use Rattle.tk_client.proofs.ChangeLemmas.{says_all}
use Rattle.tk_client.proofs.laws.changes_say_all.Goals as goal

pub returns : goal.returns
returns c = says_all
