use Rattle.tk_events.proofs.CountRuleLemmas.{splits_whole}
use Rattle.tk_events.proofs.counts.lend.Goals as goal

pub split_seat-requires : goal.split_seat-requires
split_seat-requires c = (c.requires.0, c.requires.1, splits_whole _ _ _)
