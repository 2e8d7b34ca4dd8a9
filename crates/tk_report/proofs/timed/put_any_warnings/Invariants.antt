use Rattle.std.proofs.Common.{take}
use Rattle.std.specs.Prelude.{flat_map, string_bytes}
use Rattle.tk_report.specs.Pieces.{Puts}
use Rattle.tk_report.specs.Timed.{any_warn_line}
use Rattle.tk_report.proofs.timed.put_any_warnings.Given as goal

-- the lines of the warnings so far
abbrev pub invariant-loop-warning : goal.invariant-loop-warning
invariant-loop-warning l = Puts (string_bytes l.initial.out) (string_bytes l.out) (flat_map (any_warn_line l.tables) (take l.warning-index l.warnings))
