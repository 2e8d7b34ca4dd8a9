use Rattle.std.proofs.Common.{sym, arith}
use Rattle.tk_explain.proofs.Cuts.{none_ended, copied, open-rest}
use Rattle.tk_explain.proofs.lines.Lines.forget_ended.Goals as goal

pub invariant_of-self : goal.invariant_of-self
invariant_of-self c = open-rest c.self.inside.bytes.items c.extend_from_slice.new.self.items
    (copied c.self.inside.bytes.items c.deref.result.now c.new-rest.result.items c.extend_from_slice.new.self.items c.self.inside.start
    c.deref.ensures.value c.new-rest.ensures.items c.in_ok-extend_from_slice.ensures.items c.self.invariant.1)

pub returns-else-self-gt0 : goal.returns-else-self-gt0
returns-else-self-gt0 c = record {
  done = rw (sym c.self.view_is) (none_ended c.self.inside.bytes.items c.self.inside.before c.self.inside.ended c.if-self-gt0.false c.self.invariant.0 (omega (arith, c.self.ranges)));
}
