use Rattle.std.proofs.lemmas.Result.{err_from_is_err_and}
use Rattle.tk_client.proofs.client.Client.step.Goals as goal

pub returns-in_err-hold-clause-step : goal.returns-in_err-hold-clause-step
returns-in_err-hold-clause-step g c =
    let p = err_from_is_err_and c.from_residual.result c.from_residual.ensures.1 in
    rw (p.1, p.2) (record { stopped = c.in_err-hold.ensures.stopped; none = c.in_err-hold.ensures.none; kept = c.in_err-hold.ensures.kept })
