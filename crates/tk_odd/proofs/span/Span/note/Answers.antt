use Rattle.std.proofs.Common.{◌≡◌, [], ◌∷◌, ◌++◌, List, sym, subst, ◌∙◌}
use Rattle.std.specs.Prelude.{OnOk}
use Rattle.tk_odd.specs.Inner.{Follows}
use Rattle.tk_odd.specs.Span.{span_of}
use Rattle.tk_stream.specs.Tables.{TablesView}
use Rattle.tk_odd.proofs.SpanLemmas.{begins_span, goes_on_span, leads_on}
use Rattle.tk_odd.proofs.span.Span.note.Goals as goal

pub returns-then-is_early-clause-follows : goal.returns-then-is_early-clause-follows
returns-then-is_early-clause-follows c = λ shown leads h.
    let since = c.args.self.now.since in
    let tables = c.args.tables.now in
    let d = c.begin_with.new.self in
    subst (λ (xs : List TablesView). OnOk c.begin_with.result (Follows xs d)) (begins_span since shown tables (sym c.is_early.ensures ∙ c.if-is_early.true))
    (c.begin_with.ensures.begins (span_of since shown) (leads_on since shown tables c.args.change.now leads) h)

pub returns-clause-follows : goal.returns-clause-follows
returns-clause-follows c = λ shown leads h.
    let since = c.args.self.now.since in
    let tables = c.args.tables.now in
    let d = c.note.new.self in
    subst (λ (xs : List TablesView). OnOk c.note.result (Follows xs d)) (goes_on_span since shown tables (sym c.is_early.ensures ∙ c.if-is_early.false))
    (c.note.ensures.follows (span_of since shown) (leads_on since shown tables c.args.change.now leads) h)
