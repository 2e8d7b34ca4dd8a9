use Rattle.std.proofs.Common.{OnOk, [], ◌∷◌, codes, subst}
use Rattle.tk_paper.specs.Parts.{class, close, text}
use Rattle.tk_paper.specs.Pieces.{Writes}
use Rattle.tk_paper.specs.declared.marks.Tag.TheVariants as tags
use Rattle.tk_page.proofs.changed_head.put_verdict_head.Goals as goal

pub returns : goal.returns
returns c =
    subst (λ t. OnOk c.put.result (Writes c.args.paper.now c.put.new.self
    (class tags.Div (codes "now verdict") ∷ class tags.Span (codes "tag") ∷ text t ∷ close tags.Span ∷ text (codes " ") ∷ [])))
    c.verdict_of.ensures c.put.ensures
