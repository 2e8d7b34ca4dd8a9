use Rattle.std.proofs.Common.{◌≡◌, map, take}
use Rattle.tk_odd.specs.Findings.{placed}
use Rattle.tk_metrics.specs.Blame.{finding_series}
use Rattle.tk_metrics.proofs.blame.series_of_findings.Given as goal

-- the series of those so far
abbrev pub invariant-loop-found : goal.invariant-loop-found
invariant-loop-found l = l.series ≡ finding_series l.by (map placed (take l.found-index l.list))
