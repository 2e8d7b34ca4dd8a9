use Rattle.std.proofs.Common.{arith}
use Rattle.tk_events.proofs.CountRuleLemmas.{reads_allowed}
use Rattle.tk_events.proofs.counts.read.Goals as goal

pub load-requires : goal.load-requires
load-requires c = (c.requires.own.0, omega arith, reads_allowed _ _ _ _ _ c.requires.role c.requires.inside)
