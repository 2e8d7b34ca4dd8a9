use Rattle.std.proofs.Common.{[], ◌∷◌, codes, decimal, subst, ◌∙◌}
use Rattle.tk_ids.specs.Ids.{id_text}
use Rattle.tk_report.specs.Pieces.{Puts}
use Rattle.tk_sites.specs.Lines.{place_words}
use Rattle.tk_sites.proofs.LineLemmas.{line_put}
use Rattle.tk_sites.proofs.lines.put_warned_line.Goals as goal

pub returns : goal.returns
returns c =
    line_put (codes "warn-place") (decimal c.args.number ∷ c.args.kind.now ∷ decimal c.args.tasks ∷ codes "first" ∷ id_text c.args.task ∷ []) (place_words c.args.site.now)
    (subst (Puts _ _) (c.as_bytes.ensures.value ∙ c.in_ok-warned_words.ensures) c.in_ok-put.ensures) c.in_ok-put_site.ensures
