use Rattle.std.proofs.Common.{◌≡◌, ◌-◌, take}
use Rattle.std.specs.Prelude.{fold}
use Rattle.tk_odd.specs.Victims.{with_charged}
use Rattle.tk_odd.specs.Inner.{shown}
use Rattle.tk_odd.proofs.victims.add_pairs.Given as goal

-- the members so far are added
abbrev pub invariant-loop-i : goal.invariant-loop-i
invariant-loop-i l = l.pairs ≡ fold (with_charged l.step.long (l.step.to - l.step.from) l.step.to (shown l.members.entries)) l.initial.pairs (take l.i (shown l.members.entries))
