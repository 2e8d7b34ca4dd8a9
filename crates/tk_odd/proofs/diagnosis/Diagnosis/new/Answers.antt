use Rattle.std.proofs.Common.{◌≡◌, sym, subst}
use Rattle.tk_stream.specs.Tables.{empty_tables}
use Rattle.tk_odd.specs.Keeping.{Keeps}
use Rattle.tk_odd.specs.declared.rows.Rows.{Rows}
use Rattle.tk_odd.proofs.DiagnosisLemmas.{follows_none}
use Rattle.tk_odd.proofs.diagnosis.Diagnosis.new.Goals as goal

pub returns-clause-nothing : goal.returns-clause-nothing
returns-clause-nothing c = follows_none c.over.result c.over.ensures.nothing (subst (λ (r : Rows). Keeps empty_tables r) (sym c.over.ensures.rows) c.new.ensures)
