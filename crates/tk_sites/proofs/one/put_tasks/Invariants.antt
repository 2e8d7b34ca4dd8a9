use Rattle.std.proofs.Common.{take}
use Rattle.std.specs.Prelude.{flat_map}
use Rattle.tk_report.specs.Pieces.{Puts}
use Rattle.tk_sites.specs.One.{is_of, lines_if}
use Rattle.tk_sites.proofs.one.put_tasks.Given as goal

-- the lines of the tasks so far
abbrev pub invariant-loop-at : goal.invariant-loop-at
invariant-loop-at l = Puts l.initial.out.items l.out.items (flat_map (lines_if (is_of l.sites.first l.index) l.shown l.times) (take l.at l.tables.tasks))
