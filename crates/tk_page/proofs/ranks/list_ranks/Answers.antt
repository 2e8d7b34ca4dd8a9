use Rattle.std.proofs.Common.{◌++◌, ◌∷◌, [], ◌∙◌, ap, sym, arith}
use Rattle.tk_page.specs.Ranks.{rank_of}
use Rattle.tk_page.proofs.LoopLemmas.{past_end}
use Rattle.tk_page.proofs.RankLemmas.{ranks_next}
use Rattle.tk_page.proofs.ranks.list_ranks.Goals.{in-Some+in_ok-push, in_default}
use Rattle.tk_page.proofs.ranks.list_ranks.Goals as goal

pub loop-place-preserved : goal.loop-place-preserved
loop-place-preserved c =
    let tasks = c.args.tables.now.tasks in
    let i = c.loop-place.place in
    elim c.match-task_at.branch [
      | in-Some+in_ok-push w ↦
          ap (λ v. v.items) w.ranks-is ∙ w.in_ok-push.ensures.items ∙ ap (λ r. c.loop-place.ranks.items ++ r ∷ []) w.rank_of.ensures
          ∙ ap (λ rs. rs ++ rank_of c.args.scale c.args.signs.now i w.in-Some.task.now ∷ []) c.loop-place.invariant
          ∙ sym (ranks_next (rank_of c.args.scale c.args.signs.now) tasks i w.in-Some.task.now w.in-Some.ensures)
      | in_default w ↦ absurd (omega (arith, past_end tasks i w.in_default.ensures))
    ]
