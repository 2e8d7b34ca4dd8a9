use Rattle.std.proofs.Common.{◌≡◌, sym, subst, ◌∙◌}
use Rattle.tk_stream.specs.Tables.{TablesView, empty_tables}
use Rattle.tk_odd.specs.Keeping.{Keeps}
use Rattle.tk_odd.specs.declared.rows.Rows.{Rows}
use Rattle.tk_reading.specs.Shown.{last_shown}
use Rattle.tk_odd.proofs.DiagnosisLemmas.{follows_first, on_ok}
use Rattle.tk_odd.proofs.diagnosis.Diagnosis.begin_with.Goals as goal

pub returns-clause-begins : goal.returns-clause-begins
returns-clause-begins c = λ shown leads h.
    let tables = c.args.tables.now in
    let last = last_shown empty_tables shown in
    let kept = subst (λ (r : Rows). Keeps last r) (sym (c.over.ensures.rows ∙ c.replace-rows.ensures.value)) h.rows in
    on_ok _ _ c.open.result (follows_first last tables c.over.result c.open.new.self c.over.ensures.nothing) (c.open.ensures.opens last leads kept)
