use Rattle.std.proofs.Common.{take}
use Rattle.std.specs.Prelude.{flat_map, string_bytes}
use Rattle.tk_report.specs.Pieces.{Puts}
use Rattle.tk_report.specs.Timed.{task_lines}
use Rattle.tk_report.proofs.timed.put_timed_tasks.Given as goal

-- the lines of the items so far
abbrev pub invariant-loop-place : goal.invariant-loop-place
invariant-loop-place l = Puts (string_bytes l.initial.out) (string_bytes l.out) (flat_map (task_lines l.shown l.times) (take l.place l.tables.tasks))
