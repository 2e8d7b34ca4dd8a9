use Rattle.std.proofs.Common.{◌≡◌, ◌+◌, ◌≤◌, drop}
use Rattle.tk_core.specs.Lists.{capped}
use Rattle.tk_core.specs.Percentiles.{total_of}
use Rattle.tk_report.proofs.times.total_of.Given as goal

-- what was added, and what is left, are all
abbrev pub invariant-loop-count : goal.invariant-loop-count
invariant-loop-count l = record {
  all : capped (l.total + total_of (drop l.count-index l.counts)) ≡ capped (total_of l.counts);
  within : l.total ≤ 18446744073709551615;
}
