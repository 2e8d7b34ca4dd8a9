use Rattle.tk_aggregator.specs.Standing.{TellsSame}
use Rattle.tk_aggregator.proofs.ReadingLemmas.{Went}
use Rattle.tk_aggregator.proofs.ledgered.refresh_all.Given as goal

abbrev pub invariant-loop-i : goal.invariant-loop-i
invariant-loop-i g l = Went g.T.Item.with_row g.T.Ledgered.reads l.i l.fn.table l.fn.handles.items l.table l.handles.items × TellsSame g.T.Item.with_row l.fn.table l.fn.told l.table l.told
