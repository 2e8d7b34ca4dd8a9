use Rattle.std.proofs.Common.{ap, ◌∙◌, ◌++◌, sym, subst}
use Rattle.tk_paper.proofs.Weaving.{IsWoven, mark_more}
use Rattle.tk_paper.proofs.paper.Paper.mark.Goals as goal

pub invariant_of-self-2 : goal.invariant_of-self-2
invariant_of-self-2 c =
    let old = c.self.inside.bytes.items in
    subst (IsWoven c.extend_from_slice.new.self.items) (sym c.after_mark-self-inside.ensures)
    (mark_more old c.extend_from_slice.new.self.items c.self.inside.place c.args.mark
    (c.in_ok-extend_from_slice.ensures.items ∙ ap (λ xs. old ++ xs) (c.as_bytes.ensures.value ∙ c.mark_text.ensures)) c.self.invariant)
