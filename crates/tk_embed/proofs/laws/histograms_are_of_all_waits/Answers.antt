use Rattle.tk_embed.proofs.WaitLemmas.{no_waits_yet, other_calls_wait}
use Rattle.tk_embed.proofs.laws.histograms_are_of_all_waits.Goals as goal

pub returns : goal.returns
returns c = record { opened = no_waits_yet; others = other_calls_wait }
