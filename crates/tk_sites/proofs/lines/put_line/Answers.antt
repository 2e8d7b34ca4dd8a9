use Rattle.std.proofs.Common.{[], ◌∷◌, ◌++◌, codes, decimal, subst, ◌∙◌}
use Rattle.tk_report.specs.Pieces.{Puts}
use Rattle.tk_sites.specs.Lines.{count_words, place_words, state_words, time_words}
use Rattle.tk_sites.proofs.LineLemmas.{line_put, words_put}
use Rattle.tk_sites.proofs.lines.put_line.Goals as goal

pub returns : goal.returns
returns c =
    let s = c.args.sums.now in
    let site = place_words c.args.site.now in
    line_put (codes "place") (decimal c.args.number ∷ codes "tasks" ∷ decimal s.tasks ∷ []) (state_words s ++ (count_words s ++ (time_words s ++ site)))
    (subst (Puts _ _) (c.as_bytes.ensures.value ∙ c.in_ok-head_of.ensures) c.in_ok-put.ensures)
    (words_put (state_words s) (count_words s ++ (time_words s ++ site)) (subst (Puts _ _) (c.as_bytes-2.ensures.value ∙ c.in_ok-states_of.ensures) c.in_ok-put-2.ensures)
    (words_put (count_words s) (time_words s ++ site) (subst (Puts _ _) (c.as_bytes-3.ensures.value ∙ c.in_ok-counts_of.ensures) c.in_ok-put-3.ensures)
    (words_put (time_words s) site (subst (Puts _ _) (c.as_bytes-4.ensures.value ∙ c.in_ok-times_of.ensures) c.in_ok-put-4.ensures) c.in_ok-put_site.ensures)))
