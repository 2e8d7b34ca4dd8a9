use Rattle.std.proofs.Common.{◌≡◌, map, take}
use Rattle.tk_odd.specs.Findings.{placed}
use Rattle.tk_compare.specs.Names.{texts}
use Rattle.tk_compare.specs.Recorded.{finding_name}
use Rattle.tk_compare.proofs.recorded.finding_names.Given as goal

-- those so far were put
abbrev pub invariant-loop-at : goal.invariant-loop-at
invariant-loop-at l = texts l.names.items ≡ map finding_name (map placed (take l.at l.list))
