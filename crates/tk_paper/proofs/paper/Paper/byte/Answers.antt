use Rattle.std.proofs.Common.{sym, subst}
use Rattle.tk_paper.proofs.Weaving.{IsWoven, byte_more}
use Rattle.tk_paper.proofs.paper.Paper.byte.Goals as goal

pub invariant_of-self-2 : goal.invariant_of-self-2
invariant_of-self-2 c =
    let new = c.push_escaped.new.bytes.items in
    subst (IsWoven new) (sym c.after_text-self-inside.ensures)
    (byte_more c.self.inside.bytes.items new c.self.inside.place c.args.byte c.in_ok-push_escaped.ensures.ok c.self.invariant)
