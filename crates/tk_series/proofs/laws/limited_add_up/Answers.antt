use Rattle.tk_series.proofs.SumLemmas.{all_adds, own_shown, rest_adds}
use Rattle.tk_series.proofs.laws.limited_add_up.Goals as goal

pub returns-clause-own : goal.returns-clause-own
returns-clause-own g c = λ room most number labels xs adds fits seen. own_shown most g.V.Added.plus number adds room labels xs fits seen

pub returns-clause-rest : goal.returns-clause-rest
returns-clause-rest g c = λ room most number xs adds fits. rest_adds most g.V.Added.plus number adds room xs fits

pub returns-clause-all : goal.returns-clause-all
returns-clause-all g c = λ room most number xs adds fits. all_adds most g.V.Added.plus number adds room xs fits
