use Rattle.std.proofs.Common.{◌≡◌, map, take}
use Rattle.tk_embed.specs.Entries.{times_entry_shown}
use Rattle.tk_embed.proofs.timed.put_times.Given as goal

abbrev pub invariant-loop-i : goal.invariant-loop-i
invariant-loop-i l = l.table ≡ map (times_entry_shown l.now) (take l.i l.entries)
