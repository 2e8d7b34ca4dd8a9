use Rattle.std.proofs.Common.{◌≡◌, take}
use Rattle.std.specs.Prelude.{fold}
use Rattle.tk_odd.specs.Victims.{with_victim}
use Rattle.tk_odd.specs.Inner.{shown}
use Rattle.tk_odd.proofs.victims.add_victims.Given as goal

-- the members so far are added
abbrev pub invariant-loop-i : goal.invariant-loop-i
invariant-loop-i l = l.pairs ≡ fold (with_victim l.step.to l.step.moved.now (l.id, l.member.place.items, l.member.moved)) l.initial.pairs (take l.i (shown l.members.entries))
