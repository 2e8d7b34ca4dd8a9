use Rattle.std.proofs.Common.{◌≡◌, false, map, take}
use Rattle.tk_odd.specs.Findings.{placed}
use Rattle.tk_frame.specs.Findings as spec
use Rattle.tk_frame.proofs.odd_lines.any_now.Given as goal

-- none of those so far holds now
abbrev pub invariant-loop-found : goal.invariant-loop-found
invariant-loop-found l = spec.any_now (map placed (take l.found-index l.list)) ≡ false
