use Rattle.tk_events.proofs.CountRuleLemmas.{splits_back}
use Rattle.tk_events.proofs.counts.give_back.Goals as goal

pub split_seat-requires : goal.split_seat-requires
split_seat-requires c = (c.requires.own.0, c.requires.own.1, splits_back _ _ _ c.requires.role)
