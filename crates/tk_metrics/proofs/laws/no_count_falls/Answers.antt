use Rattle.tk_metrics.proofs.RisingLemmas.{no_fall}
use Rattle.tk_metrics.proofs.laws.no_count_falls.Goals as goal

pub returns : goal.returns
returns c = λ by count labels shown tables stay is. no_fall by stay count labels is shown tables
