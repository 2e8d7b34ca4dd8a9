use Rattle.std.proofs.Common.{◌≡◌, ◌++◌, map, take}
use Rattle.tk_odd.specs.Findings.{placed, sign_placed}
use Rattle.tk_odd.proofs.list.add_signs.Given as goal

-- those so far
abbrev pub invariant-loop-i : goal.invariant-loop-i
invariant-loop-i l = map placed l.list.items ≡ map placed l.initial.list.items ++ map sign_placed (take l.i l.signs)
