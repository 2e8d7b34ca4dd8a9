use Rattle.tk_sites.proofs.CameLemmas.{names_go_on}
use Rattle.tk_sites.proofs.laws.numbers_stay.Goals as goal

pub returns : goal.returns
returns c = λ shown more first later steady. names_go_on shown more first later steady
