use Rattle.std.proofs.Common.{inr}
use Rattle.std.proofs.lemmas.Result.{err_from_is_err_and}
use Rattle.tk_live.proofs.Places.{get_read}
use Rattle.tk_live.proofs.interpreter.Interpreter.draw_waker.Goals as goal

pub returns-in_err-number : goal.returns-in_err-number
returns-in_err-number g c =
    let i = c.args.self.now in
    let t = c.index_mut.result.now in
    let p = err_from_is_err_and c.from_residual.result c.from_residual.ensures.1 in
    let e = c.in_err-number.ensures.err in
    rw (p.1, p.2) (inr (e.0, t, get_read i.tasks.items c.args.place t t c.requires.place c.index_mut.ensures.value, e.1))
