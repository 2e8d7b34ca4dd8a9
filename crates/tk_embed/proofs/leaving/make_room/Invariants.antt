use Rattle.std.proofs.Common.{◌≤◌}
use Rattle.tk_embed.proofs.leaving.make_room.Given as goal

abbrev pub invariant-loop-i : goal.invariant-loop-i
invariant-loop-i g l = l.i ≤ l.told.room
