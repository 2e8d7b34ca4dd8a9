use Rattle.tk_events.proofs.CountRuleLemmas.{splits}
use Rattle.tk_events.proofs.counts.make.Goals as goal

pub split_seat-requires : goal.split_seat-requires
split_seat-requires c = (c.requires.own.0, c.requires.own.1, splits _ _ _ c.requires.role c.requires.room)
