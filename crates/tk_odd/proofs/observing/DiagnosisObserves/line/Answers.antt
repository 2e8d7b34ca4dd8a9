use Rattle.std.proofs.Common.{List, ◌≡◌, OnOk, ◌∙◌}
use Rattle.tk_client.specs.Changes.{Timed}
use Rattle.tk_odd.specs.Inner.{Follows}
use Rattle.tk_odd.specs.declared.diagnosis.Diagnosis.{Diagnosis}
use Rattle.tk_reading.specs.Shown.{tables_of}
use Rattle.tk_reading.proofs.ShownLemmas.{leads, seen_more}
use Rattle.tk_odd.proofs.DiagnosisLemmas.{both_ok}
use Rattle.tk_odd.proofs.observing.DiagnosisObserves.line.Goals as goal

pub returns : goal.returns
returns c = λ from seen few is h.
    let d : Diagnosis = c.note.new.self in
    let now : Timed = (c.args.tables.now, c.args._times.now) in
    both_ok _ _ c.note.result
    (seen_more (λ xs. Follows xs d) c.note.result seen now (c.note.ensures.follows (tables_of seen) (leads seen now c.args.change.now is) h.0))
    (c.note.ensures.limits ∙ h.1)
