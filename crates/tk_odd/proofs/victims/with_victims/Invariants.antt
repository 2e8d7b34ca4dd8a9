use Rattle.std.proofs.Common.{◌≡◌, map, take}
use Rattle.tk_odd.specs.Findings.{placed, told, with_whom}
use Rattle.tk_odd.proofs.victims.with_victims.Given as goal

-- those so far
abbrev pub invariant-loop-found : goal.invariant-loop-found
invariant-loop-found l = map told l.all.items ≡ map (with_whom l.pairs) (map placed (take l.found-index l.list))
