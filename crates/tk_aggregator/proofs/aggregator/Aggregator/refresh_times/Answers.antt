use Rattle.tk_aggregator.specs.Timing.{ReadTimes}
use Rattle.tk_aggregator.proofs.HandledLemmas.{pairs-count}
use Rattle.tk_aggregator.proofs.RefreshLemmas.{times_read}
use Rattle.tk_aggregator.proofs.aggregator.Aggregator.refresh_times.Goals as goal

pub refresh-requires : goal.refresh-requires
refresh-requires g c = pairs-count ReadTimes _ _ c.self.invariant.1.pairs

pub invariant_of-self : goal.invariant_of-self
invariant_of-self g c = let a = c.self.inside in (c.self.invariant.0, times_read a.tables.tasks a.timing c.refresh.new.self c.refresh.ensures c.self.invariant.1)
