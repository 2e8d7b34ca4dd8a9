use Rattle.std.proofs.Common.{◌≡◌, take}
use Rattle.std.specs.Prelude.{fold}
use Rattle.tk_odd.specs.Diagnosis.{with_one}
use Rattle.tk_odd.specs.Inner.{places_of, shown}
use Rattle.tk_odd.proofs.places.Places.add_step.Given as goal

-- the members so far are added
abbrev pub invariant-loop-i : goal.invariant-loop-i
invariant-loop-i l = places_of l.self ≡ fold (with_one l.step.long l.free l.step.from l.step.to l.step.moved.now) (places_of l.initial.self) (take l.i (shown l.members.entries))
