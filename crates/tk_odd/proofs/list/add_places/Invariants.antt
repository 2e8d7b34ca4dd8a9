use Rattle.std.proofs.Common.{◌≡◌, ◌++◌, map, take}
use Rattle.std.specs.List.{filter_map}
use Rattle.tk_odd.specs.Findings.{of_place, placed}
use Rattle.tk_odd.proofs.list.add_places.Given as goal

-- those so far
abbrev pub invariant-loop-i : goal.invariant-loop-i
invariant-loop-i l = map placed l.list.items ≡ map placed l.initial.list.items ++ filter_map (of_place l.long l.last (map (λ v. v.items) l.running)) (take l.i l.held)
