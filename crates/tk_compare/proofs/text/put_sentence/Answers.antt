use Rattle.std.proofs.Common.{subst, ◌∙◌}
use Rattle.tk_report.specs.Pieces.{Puts}
use Rattle.tk_report.proofs.PutLemmas.{both}
use Rattle.tk_compare.proofs.text.put_sentence.Goals as goal

pub returns : goal.returns
returns c =
    both (subst (Puts _ _) (c.as_bytes.ensures.value ∙ c.in_ok-places_said.ensures) c.in_ok-put.ensures)
    (subst (Puts _ _) (c.as_bytes-2.ensures.value ∙ c.in_ok-findings_said.ensures) c.in_ok-put-2.ensures)
