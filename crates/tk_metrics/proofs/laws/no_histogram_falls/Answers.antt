use Rattle.tk_metrics.proofs.RisingLemmas.{no_time_falls}
use Rattle.tk_metrics.proofs.laws.no_histogram_falls.Goals as goal

pub returns : goal.returns
returns c = λ timing by key timed next stay. no_time_falls timing by stay key timed next
