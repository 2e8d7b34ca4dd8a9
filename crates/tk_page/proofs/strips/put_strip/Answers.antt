use Rattle.std.proofs.Common.{◌∙◌, subst}
use Rattle.tk_paper.specs.Pieces.{Writes}
use Rattle.tk_page.specs.Odd.{is_lost}
use Rattle.tk_page.specs.Strips.{steps_of, strip_of}
use Rattle.tk_page.proofs.strips.put_strip.Goals as goal

pub returns : goal.returns
returns c =
    let scale = c.args.scale in
    let t = c.args.task.now in
    let old = c.args.paper.now in
    let new = c.put_strip_of.new.paper in
    subst (λ last. Writes old new (strip_of scale t last (steps_of t.row.created c.args.samples.now last) (is_lost t))) c.of-last.ensures
    (subst (λ steps. Writes old new (strip_of scale t c.of-last.result steps (is_lost t))) (c.as_slice.ensures.value ∙ c.in_ok-steps.ensures)
    (subst (λ lost. Writes old new (strip_of scale t c.of-last.result c.as_slice.result.now lost)) c.is_lost-lost.ensures c.in_ok-put_strip_of.ensures))
