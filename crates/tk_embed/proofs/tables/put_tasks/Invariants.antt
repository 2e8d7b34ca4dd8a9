use Rattle.std.proofs.Common.{take}
use Rattle.tk_embed.specs.Entries.{AddTasks}
use Rattle.tk_embed.proofs.tables.put_tasks.Given as goal

abbrev pub invariant-loop-i : goal.invariant-loop-i
invariant-loop-i l = AddTasks l.text l.now (take l.i l.entries) l.fn.tables l.tables
