use Rattle.std.proofs.Common.{◌≡◌, [], ◌∷◌, ◌++◌, List, Result, Ok, Err, ap, sym, subst, ◌∙◌}
use Rattle.std.specs.Prelude.{OnOk}
use Rattle.tk_stream.specs.Tables.{TablesView, empty_tables}
use Rattle.tk_odd.specs.Diagnosis.{Standing, after_line, standing_of}
use Rattle.tk_odd.specs.Inner.{Follows, Goes, standing_in}
use Rattle.tk_odd.specs.Keeping.{Keeps}
use Rattle.tk_odd.specs.declared.diagnosis.Diagnosis.{Diagnosis}
use Rattle.tk_odd.specs.declared.limits.Limits.{Limits}
use Rattle.tk_odd.proofs.DiagnosisLemmas.{follows_more, on_ok}
use Rattle.tk_odd.proofs.diagnosis.Diagnosis.note.Goals as goal

pub returns-clause-follows : goal.returns-clause-follows
returns-clause-follows c = λ shown leads h.
    let old = c.args.self.now in
    let new = c.after_line.new.self in
    on_ok _ _ c.after_line.result (follows_more shown c.args.tables.now old new c.after_line.ensures.limits h) (c.after_line.ensures.line _ leads h.rows)
