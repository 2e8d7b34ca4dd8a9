use Rattle.std.proofs.lemmas.Result.{err_from_is_err_and}
use Rattle.std.proofs.Common.{subst, sym}
use Rattle.tk_live.specs.Transfer.{IsScript}
use Rattle.tk_live.proofs.Whole.{read_fails, read_runs}
use Rattle.tk_live.proofs.script.run_script.Goals as goal

pub returns-in_err-script : goal.returns-in_err-script
returns-in_err-script g c =
    let p = err_from_is_err_and c.from_residual.result c.from_residual.ensures.1 in
    record { run = rw (p.1, p.2) (read_fails (g.G.Gate.answers c.args.gate.now) _ _ c.in_err-script.field-0.0 c.in_err-script.ensures.err) }

pub returns : goal.returns
returns g c =
    let known = g.I.Read.remaining c.args.reader.now in
    let is : IsScript known c.as_slice.result.now = subst (λ xs. IsScript known xs) (sym c.as_slice.ensures.value) c.in_ok-script.ensures.ok in
    record { run = (c.run.ensures.0, read_runs (g.G.Gate.answers c.args.gate.now) known c.as_slice.result.now c.run.result c.run.ensures.0 is c.run.ensures.1, c.run.ensures.2) }
