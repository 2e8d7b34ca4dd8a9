use Rattle.std.proofs.Common.{sym, ◌∙◌, nat_eq}
use Rattle.tk_script.proofs.Cuts.{cut_here, cut_nowhere}
use Rattle.tk_script.proofs.pieces.cut.Goals as goal

pub returns-in-Some : goal.returns-in-Some
returns-in-Some c =
    rw (c.split_at.ensures.front, c.split_at-in-Some.ensures.back)
    (cut_here (λ b. nat_eq b c.args.byte) c.args.text.now c.in-Some.at (sym c.find.ensures ∙ c.in-Some.is))

pub returns-in-None : goal.returns-in-None
returns-in-None c = cut_nowhere (λ b. nat_eq b c.args.byte) c.args.text.now (sym c.find.ensures ∙ c.in-None.is)
