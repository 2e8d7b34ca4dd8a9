use Rattle.std.proofs.Common.{List, ◌≡◌, OnOk, ◌∙◌}
use Rattle.tk_client.specs.Changes.{Timed}
use Rattle.tk_odd.specs.Inner.{FollowsSpan}
use Rattle.tk_odd.specs.declared.span.Span.{Span}
use Rattle.tk_reading.specs.Shown.{tables_of}
use Rattle.tk_reading.proofs.ShownLemmas.{leads, seen_more}
use Rattle.tk_odd.proofs.DiagnosisLemmas.{three_ok}
use Rattle.tk_odd.proofs.observing.SpanObserves.line.Goals as goal

pub returns : goal.returns
returns c = λ from seen few is h.
    let s : Span = c.note.new.self in
    let now : Timed = (c.args.tables.now, c.args._times.now) in
    three_ok _ _ _ c.note.result
    (seen_more (λ xs. FollowsSpan xs s) c.note.result seen now (c.note.ensures.follows (tables_of seen) (leads seen now c.args.change.now is) h.0))
    (c.note.ensures.since ∙ h.1) (c.note.ensures.limits ∙ h.2)
