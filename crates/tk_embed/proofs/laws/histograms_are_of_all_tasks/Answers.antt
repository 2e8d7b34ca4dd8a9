use Rattle.std.proofs.Common.{[]}
use Rattle.tk_stream.specs.Tables.{empty_tables}
use Rattle.tk_embed.proofs.HistogramLemmas.{none_twice, sent_are}
use Rattle.tk_embed.proofs.laws.histograms_are_of_all_tasks.Goals as goal

pub returns : goal.returns
returns c ps published on = sent_are empty_tables [] ps none_twice published on
