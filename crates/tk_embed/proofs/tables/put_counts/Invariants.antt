use Rattle.std.proofs.Common.{take}
use Rattle.tk_embed.specs.Entries.{AddCounts}
use Rattle.tk_embed.proofs.tables.put_counts.Given as goal

abbrev pub invariant-loop-i : goal.invariant-loop-i
invariant-loop-i l = AddCounts l.now (take l.i l.entries) l.fn.tables l.tables
