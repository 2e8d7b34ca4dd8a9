use Rattle.std.proofs.lemmas.Result.{err_from_is_err_and}
use Rattle.tk_metrics.proofs.keeping.after_piece.Goals as goal

pub returns-in_err-lines-clause-steps : goal.returns-in_err-lines-clause-steps
returns-in_err-lines-clause-steps g c = λ by given left new old read k.
    let p = err_from_is_err_and c.from_residual.result c.from_residual.ensures.1 in
    rw (p.1, p.2) (c.in_err-lines.ensures.goes by given left new c.args.progress.put old read k)

pub returns-in_err-put-clause-steps : goal.returns-in_err-put-clause-steps
returns-in_err-put-clause-steps g c = λ by given left new old read k.
    let p = err_from_is_err_and c.from_residual-in_err-put.result c.from_residual-in_err-put.ensures.1 in
    rw (p.1, p.2) (c.in_err-put.ensures by given new old (c.in_ok-lines.ensures.goes by given left new c.args.progress.put old read k))

pub returns-clause-steps : goal.returns-clause-steps
returns-clause-steps g c = λ by given left new old read k.
    c.in_ok-put.ensures by given new old (c.in_ok-lines.ensures.goes by given left new c.args.progress.put old read k)
