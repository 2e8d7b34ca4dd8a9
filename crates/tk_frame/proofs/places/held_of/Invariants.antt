use Rattle.std.proofs.Common.{◌≡◌, take}
use Rattle.tk_frame.specs.Places.{held_of}
use Rattle.tk_frame.proofs.places.held_of.Given as goal

-- what is known by those so far
abbrev pub invariant-loop-i : goal.invariant-loop-i
invariant-loop-i l = l.found ≡ held_of l.key (take l.i l.held)
