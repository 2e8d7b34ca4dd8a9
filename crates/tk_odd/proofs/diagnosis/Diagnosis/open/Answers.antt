use Rattle.std.proofs.Common.{◌≡◌, sym, subst}
use Rattle.tk_stream.specs.Tables.{TablesView}
use Rattle.tk_odd.specs.Keeping.{Keeps}
use Rattle.tk_odd.specs.declared.rows.Rows.{Rows}
use Rattle.tk_odd.proofs.DiagnosisLemmas.{on_ok}
use Rattle.tk_odd.proofs.diagnosis.Diagnosis.open.Goals as goal

pub returns-clause-opens : goal.returns-clause-opens
returns-clause-opens c = λ before leads k.
    let tables = c.args.tables.now in
    let kept = c.in_ok-follow.ensures before leads k in
    on_ok _ _ c.begin_step.result
    (λ begun. record { standing = begun tables; rows = subst (λ (r : Rows). Keeps tables r) (sym c.begin_step.ensures.rows) kept })
    (c.begin_step.ensures.begins kept)
