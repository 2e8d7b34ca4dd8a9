use Rattle.tk_series.proofs.TotalLemmas.{adds_up}
use Rattle.tk_series.proofs.laws.series_add_up.Goals as goal

pub returns : goal.returns
returns c = λ start most number labels xs adds fits. adds_up most _ number labels adds xs fits
