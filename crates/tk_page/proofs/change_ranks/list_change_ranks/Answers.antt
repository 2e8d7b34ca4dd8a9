use Rattle.std.proofs.Common.{ℕ, List, ◌++◌, ◌∷◌, [], ◌∙◌, ap, sym, arith}
use Rattle.tk_compare.specs.declared.spent.Compared.{Compared}
use Rattle.tk_page.specs.ChangeRanks.{change_rank}
use Rattle.tk_page.proofs.LoopLemmas.{past_end}
use Rattle.tk_page.proofs.RankLemmas.{ranks_next}
use Rattle.tk_page.proofs.change_ranks.list_change_ranks.Goals.{in-Some+in_ok-push, in_default}
use Rattle.tk_page.proofs.change_ranks.list_change_ranks.Goals as goal

pub loop-place-preserved : goal.loop-place-preserved
loop-place-preserved c =
    let places = c.args.places.now in
    let i = c.loop-place.place in
    elim c.match-at.branch [
      | in-Some+in_ok-push w ↦
          let entry : List ℕ × Compared = (w.in-Some.field-0-0.now, w.in-Some.compared) in
          ap (λ v. v.items) w.ranks-is ∙ w.in_ok-push.ensures.items ∙ ap (λ r. c.loop-place.ranks.items ++ r ∷ []) w.rank_of_change.ensures
          ∙ ap (λ rs. rs ++ change_rank c.args.spans i w.in-Some.compared ∷ []) c.loop-place.invariant
          ∙ sym (ranks_next (λ (place : ℕ) (x : List ℕ × Compared). change_rank c.args.spans place x.1) places i entry w.in-Some.ensures)
      | in_default w ↦ absurd (omega (arith, past_end places i w.in_default.ensures))
    ]
