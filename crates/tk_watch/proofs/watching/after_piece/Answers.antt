use Rattle.std.proofs.lemmas.Result.{err_from_is_err_and}
use Rattle.tk_watch.proofs.watching.after_piece.Goals as goal

pub returns-in_err-lines-clause-steps : goal.returns-in_err-lines-clause-steps
returns-in_err-lines-clause-steps g c = λ given left new old said read w.
    let p = err_from_is_err_and c.from_residual.result c.from_residual.ensures.1 in
    rw (p.1, p.2) (c.in_err-lines.ensures.goes given left new old c.args.progress.drawn said (g.P.Pace.said c.args.pace.now) read w)

pub returns-in_err-drawn-clause-steps : goal.returns-in_err-drawn-clause-steps
returns-in_err-drawn-clause-steps g c = λ given left new old said read w.
    let p = err_from_is_err_and c.from_residual-in_err-drawn.result c.from_residual-in_err-drawn.ensures.1 in
    rw (p.1, p.2) (c.in_err-drawn.ensures.drew given new old said (c.in_ok-lines.ensures.goes given left new old c.args.progress.drawn said (g.P.Pace.said c.args.pace.now) read w))

pub returns-clause-steps : goal.returns-clause-steps
returns-clause-steps g c = λ given left new old said read w.
    c.in_ok-drawn.ensures.drew given new old said (c.in_ok-lines.ensures.goes given left new old c.args.progress.drawn said (g.P.Pace.said c.args.pace.now) read w)
