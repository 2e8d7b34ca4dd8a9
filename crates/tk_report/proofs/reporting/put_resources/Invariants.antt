use Rattle.std.proofs.Common.{take}
use Rattle.std.specs.Prelude.{flat_map, string_bytes}
use Rattle.tk_report.specs.Pieces.{Puts}
use Rattle.tk_report.specs.Report.{resource_lines}
use Rattle.tk_report.proofs.reporting.put_resources.Given as goal

-- the lines of the items so far
abbrev pub invariant-loop-place : goal.invariant-loop-place
invariant-loop-place l = Puts (string_bytes l.initial.out) (string_bytes l.out) (flat_map (resource_lines l.tables.counts) (take l.place l.tables.resources))
