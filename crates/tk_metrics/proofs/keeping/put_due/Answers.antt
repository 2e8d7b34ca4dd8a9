use Rattle.std.proofs.lemmas.Result.{err_from_is_err_and}
use Rattle.tk_metrics.proofs.keeping.put_due.Goals as goal

pub try_now-requires : goal.try_now-requires
try_now-requires g c = c.is_new.ensures c.if-not-is_new.false

pub returns : goal.returns
returns g c = λ by given left old k. c.in_ok-put.ensures by given left old k

pub returns-in_err-put : goal.returns-in_err-put
returns-in_err-put g c = λ by given left old k.
    let p = err_from_is_err_and c.from_residual.result c.from_residual.ensures.1 in
    rw (p.1, p.2) (c.in_err-put.ensures by given left old k)
