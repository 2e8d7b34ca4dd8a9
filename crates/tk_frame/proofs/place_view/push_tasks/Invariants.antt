use Rattle.std.proofs.Common.{take}
use Rattle.std.specs.Prelude.{flat_map}
use Rattle.tk_screen.specs.Texts.{Puts}
use Rattle.tk_frame.specs.PlaceView.{task_if}
use Rattle.tk_frame.proofs.place_view.push_tasks.Given as goal

-- the lines so far
abbrev pub invariant-loop-at : goal.invariant-loop-at
invariant-loop-at l = Puts l.initial.lines.items l.lines.items (flat_map (task_if l.tables.now l.site) (take l.at l.tables.tasks))
