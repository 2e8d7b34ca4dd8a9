use Rattle.std.proofs.Common.{subst}
use Rattle.tk_stream.specs.Streams.{AreInRange}
use Rattle.tk_stream.proofs.RangeLemmas.{are_in_range}
use Rattle.tk_stream.proofs.tables.Tables.see.Goals as goal

pub returns-clause-in_range : goal.returns-clause-in_range
returns-clause-in_range c = subst AreInRange c.self.view_is (are_in_range _ c.len.ensures.in_range c.len-2.ensures.in_range c.len-3.ensures.in_range c.len-4.ensures.in_range c.see_totals.ensures c.see_number.ensures)
