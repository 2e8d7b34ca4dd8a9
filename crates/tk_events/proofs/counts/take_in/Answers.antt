use Rattle.tk_events.proofs.CountRuleLemmas.{joins}
use Rattle.tk_events.proofs.counts.take_in.Goals as goal

pub join_seat-requires : goal.join_seat-requires
join_seat-requires c = (c.requires.own.0, c.requires.other.0, c.requires.other.1, c.requires.own.1, joins _ _ _ _ _ c.requires.role.0 c.requires.role.1)
