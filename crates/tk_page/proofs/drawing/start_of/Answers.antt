use Rattle.std.proofs.Common.{◌∙◌, ap, min, sym, arith}
use Rattle.tk_stream.specs.declared.tables.task.Task.{Task}
use Rattle.std.proofs.Common.{ℕ}
use Rattle.tk_page.proofs.LoopLemmas.{fold_next, past_end}
use Rattle.tk_page.proofs.drawing.start_of.Goals.{in-Some, in_default}
use Rattle.tk_page.proofs.drawing.start_of.Goals as goal

pub loop-place-preserved : goal.loop-place-preserved
loop-place-preserved c =
    let tasks = c.args.tables.now.tasks in
    let i = c.loop-place.place in
    elim c.match-task_at.branch [
      | in-Some w ↦
          w.start-is ∙ w.min-start.ensures ∙ ap (λ s. min s w.in-Some.task.now.row.created) c.loop-place.invariant
          ∙ sym (fold_next (λ (start : ℕ) (t : Task). min start t.row.created) c.args.first tasks i w.in-Some.task.now w.in-Some.ensures)
      | in_default w ↦ absurd (omega (arith, past_end tasks i w.in_default.ensures))
    ]
