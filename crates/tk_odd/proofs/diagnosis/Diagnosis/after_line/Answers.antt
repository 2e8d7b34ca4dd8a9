use Rattle.std.proofs.Common.{◌≡◌, ap, sym, subst, ◌∙◌}
use Rattle.tk_odd.specs.declared.limits.Limits.{Limits}
use Rattle.tk_odd.specs.declared.rows.Rows.{Rows}
use Rattle.tk_odd.specs.Diagnosis.{ends}
use Rattle.tk_odd.specs.Inner.{standing_in}
use Rattle.tk_odd.specs.Keeping.{Keeps}
use Rattle.tk_stream.specs.Tables.{TablesView, empty_tables}
use Rattle.tk_odd.proofs.DiagnosisLemmas.{line_ends, line_goes_on, line_opens, on_ok}
use Rattle.tk_odd.proofs.diagnosis.Diagnosis.after_line.Goals as goal

pub returns-then-self-eq0-clause-line : goal.returns-then-self-eq0-clause-line
returns-then-self-eq0-clause-line c = λ before leads k.
    on_ok _ _ c.open.result (line_opens c.args.self.now.limits before c.args.tables.now c.args.self.now c.open.new.self c.if-self-eq0.true) (c.open.ensures.opens before leads k)

pub returns-then-not-over-clause-line : goal.returns-then-not-over-clause-line
returns-then-not-over-clause-line c = λ before leads k.
    line_goes_on c.args.self.now.limits before c.args.tables.now c.args.self.now c.go_on.new.self c.if-self-eq0.false (sym (c.is_over-over.ensures before) ∙ c.if-not-over.true) (c.in_ok-go_on.ensures.goes_on before leads k)

pub returns-clause-line : goal.returns-clause-line
returns-clause-line c = λ before leads k.
    let old = c.args.self.now in
    let tables = c.args.tables.now in
    let mid = c.go_on.new.self in
    let over = c.end_step.new.self in
    let goes = c.in_ok-go_on.ensures.goes_on before leads k in
    let ended : standing_in empty_tables over ≡ ends old.limits (standing_in empty_tables mid) tables =
    c.in_ok-end_step.ensures.ends ∙ ap (λ (l : Limits). ends l (standing_in empty_tables mid) tables) c.go_on.ensures.limits in
    on_ok _ _ c.begin_step.result
    (λ begun. line_ends old.limits before tables old mid over c.begin_step.new.self c.if-self-eq0.false (sym (c.is_over-over.ensures before) ∙ c.if-not-over.false) goes ended c.end_step.ensures.rows begun c.begin_step.ensures.rows)
    (c.begin_step.ensures.begins (subst (λ (r : Rows). Keeps tables r) (sym c.end_step.ensures.rows) goes.rows))
