use Rattle.tk_series.proofs.NameLemmas.{first_stay, named_stands}
use Rattle.tk_series.proofs.laws.limited_stay.Goals as goal

pub returns-clause-own : goal.returns-clause-own
returns-clause-own g c = λ room xs more. first_stay g.V.Added.plus room xs more

pub returns-clause-beside : goal.returns-clause-beside
returns-clause-beside g c = λ room labels xs more there. named_stands g.V.Added.plus room labels xs more there
