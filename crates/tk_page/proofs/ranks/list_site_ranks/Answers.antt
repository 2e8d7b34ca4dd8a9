use Rattle.std.proofs.Common.{ℕ, List, ◌++◌, ◌∷◌, [], ◌∙◌, ap, sym, arith}
use Rattle.tk_sites.specs.declared.sums.Sums.{Sums}
use Rattle.tk_page.specs.Ranks.{site_rank}
use Rattle.tk_page.proofs.LoopLemmas.{past_end}
use Rattle.tk_page.proofs.RankLemmas.{ranks_next}
use Rattle.tk_page.proofs.ranks.list_site_ranks.Goals.{in-Some+in_ok-push, in_default}
use Rattle.tk_page.proofs.ranks.list_site_ranks.Goals as goal

pub loop-place-preserved : goal.loop-place-preserved
loop-place-preserved c =
    let sites = c.args.sites.now.first in
    let i = c.loop-place.place in
    elim c.match-at.branch [
      | in-Some+in_ok-push w ↦
          let entry : List ℕ × Sums = (w.in-Some.field-0-0.now, w.in-Some.sums) in
          ap (λ v. v.items) w.ranks-is ∙ w.in_ok-push.ensures.items ∙ ap (λ r. c.loop-place.ranks.items ++ r ∷ []) w.rank_of_site.ensures
          ∙ ap (λ rs. rs ++ site_rank i w.in-Some.sums ∷ []) c.loop-place.invariant
          ∙ sym (ranks_next (λ (place : ℕ) (x : List ℕ × Sums). site_rank place x.1) sites i entry w.in-Some.ensures)
      | in_default w ↦ absurd (omega (arith, past_end sites i w.in_default.ensures))
    ]
