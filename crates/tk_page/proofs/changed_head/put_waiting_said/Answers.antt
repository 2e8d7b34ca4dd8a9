use Rattle.std.proofs.Common.{ℕ, List, OnOk, [], ◌∷◌, codes, subst}
use Rattle.tk_compare.specs.declared.spent.Side.TheVariants.{Before}
use Rattle.tk_paper.specs.Parts.{Bit, close, mean, start, text}
use Rattle.tk_paper.specs.Pieces.{Writes}
use Rattle.tk_paper.specs.declared.marks.Tag.TheVariants as tags
use Rattle.tk_page.specs.Changed.{arrow, mean_waiting}
use Rattle.tk_page.proofs.changed_head.put_waiting_said.Goals as goal

abbrev said : ℕ → ℕ → List Bit
said before after =
    text (codes "Tasks that wait at a time: ") ∷ start tags.B ∷ mean before ∷ text arrow ∷ mean after ∷ close tags.B ∷ text (codes " in the mean. ") ∷ []

pub returns : goal.returns
returns c =
    subst (λ n. OnOk c.put.result (Writes c.args.paper.now c.put.new.self (said (mean_waiting Before c.args.spans.before c.args.places.now) n)))
    c.mean_waiting-after.ensures
    (subst (λ n. OnOk c.put.result (Writes c.args.paper.now c.put.new.self (said n c.mean_waiting-after.result))) c.mean_waiting-before.ensures c.put.ensures)
