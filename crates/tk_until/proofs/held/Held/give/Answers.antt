use Rattle.std.proofs.Common.{◌≤◌, ◌+◌, ◌-◌, length, take, drop, ap, sym, ◌∙◌, arith}
use Rattle.tk_until.proofs.Holding.{gives_front}
use Rattle.tk_until.proofs.held.Held.give.Goals as goal

pub returns-clause-bytes : goal.returns-clause-bytes
returns-clause-bytes c =
    let bytes = c.self.inside.bytes.items in
    let given = c.self.inside.given in
    let judged = c.self.inside.judged in
    let n = c.min-n.result in
    let low : given ≤ judged = c.self.invariant.0 in
    let mid : judged ≤ c.self.inside.searched = c.self.invariant.1 in
    let high : c.self.inside.searched ≤ length bytes = c.self.invariant.2 in
    rw (sym c.self.view_is) (gives_front bytes c.args.buf.now c.copy_from_slice.new.self given judged n (omega arith) (omega arith)
    (c.copy_from_slice.ensures.after ∙ ap (λ l. take (given + n - given) (drop given l)) c.deref.ensures.value))
