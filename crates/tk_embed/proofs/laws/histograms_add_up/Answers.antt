use Rattle.tk_embed.proofs.SumLemmas.{busy_adds_up, waits_add_up}
use Rattle.tk_embed.proofs.laws.histograms_add_up.Goals as goal

pub returns : goal.returns
returns c = record { busy = busy_adds_up; waits = waits_add_up }
