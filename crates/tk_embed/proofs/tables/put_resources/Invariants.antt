use Rattle.std.proofs.Common.{take}
use Rattle.tk_embed.specs.Entries.{AddResources}
use Rattle.tk_embed.proofs.tables.put_resources.Given as goal

abbrev pub invariant-loop-i : goal.invariant-loop-i
invariant-loop-i l = AddResources l.text l.attrs l.now (take l.i l.entries) l.fn.tables l.tables
