use Rattle.std.proofs.Common.{◌≡◌, ◌≤◌, None, Some, true, take, set, slice_get, refl, sym, ap, ◌∙◌, subst, arith}
use Rattle.std.proofs.lemmas.List.{length-set}
use Rattle.std.specs.Prelude.{option_map}
use Rattle.tk_stream.specs.Fronts.{as_told, with_rows}
use Rattle.tk_stream.proofs.FrontLemmas.{same_row_again, stays_told, kept_where_marked, nothing_past, kept_now_in, marked, marks_stay}
use Rattle.tk_stream.proofs.told.rows.ToldRows.set.Goals.{else-i-self-via-then-i-self+else-not-index, else-i-self-via-else-i-self}
use Rattle.tk_stream.proofs.told.rows.ToldRows.set.Goals as goal

pub returns-then-has_row-clause-table : goal.returns-then-has_row-clause-table
returns-then-has_row-clause-table g c =
    sym (same_row_again g.T.Item.with_row c.args.row.now c.args.table.now c.args.i c.unwrap-item.result.now (sym (ap (option_map (λ t. t.now)) c.unwrap-item.ensures) ∙ c.at.ensures) (c.has_row.ensures.own c.if-has_row.true))

pub returns-then-not-index-clause-told : goal.returns-then-not-index-clause-told
returns-then-not-index-clause-told g c =
    let w = g.T.Item.with_row in
    let t = c.self.inside in
    let item = c.unwrap-item.result.now in
    let kept = c.index_mut.result.now in
    ap (λ xs. with_rows (as_told w) xs (take t.count (set t.rows.items c.args.i (Some c.row-before.result)))) c.set.ensures
    ∙ kept_now_in w c.args.row.now g.met.T.Item.last_row c.args.table.now t.rows.items t.count c.args.i item c.row-before.result kept
    (sym (ap (option_map (λ t. t.now)) c.unwrap-item.ensures) ∙ c.at.ensures) (subst (λ r. w item r ≡ item) (sym c.row-before.ensures) (g.met.T.Item.own_row item))
    c.self.invariant.0 c.if-i-self.true c.index_mut.ensures.value
    (sym (marked t.rows.items t.marks.items c.args.i c.index.result.now kept c.self.invariant.1 (omega (arith, c.if-i-self.true, c.self.invariant.0)) c.index.ensures c.index_mut.ensures.value) ∙ c.if-not-index.true)
    ∙ ap (λ v. with_rows (as_told w) c.args.table.now v.rows) c.self.view_is

pub invariant_of-self : goal.invariant_of-self
invariant_of-self g c =
    let t = c.self.inside in (
      subst (λ n. t.count ≤ n) (sym (length-set t.rows.items c.args.i (Some c.row-before.result))) c.self.invariant.0,
      marks_stay t.rows.items t.marks.items c.args.i true (Some c.row-before.result) c.self.invariant.1 refl,
    )

pub returns-else-i-self-clause-told : goal.returns-else-i-self-clause-told
returns-else-i-self-clause-told g c =
    let t = c.self.inside in
    let free : slice_get c.args.self.now.rows c.args.i ≡ Some None → ⊥ =
    subst (λ v. slice_get v.rows c.args.i ≡ Some None → ⊥) c.self.view_is
    (elim c.else-i-self.branch [
      | else-i-self-via-then-i-self+else-not-index w ↦ kept_where_marked g.T.Item.with_row c.args.row.now t.rows.items t.marks.items t.count c.args.i w.index.result.now c.self.invariant.0 w.if-i-self.true c.self.invariant.1 w.index.ensures w.if-not-index.false
      | else-i-self-via-else-i-self w ↦ nothing_past g.T.Item.with_row c.args.row.now t.rows.items t.count c.args.i c.self.invariant.0 w.if-i-self.false
    ]) in
    ap (λ xs. with_rows (as_told g.T.Item.with_row) xs c.args.self.now.rows) c.set.ensures
    ∙ stays_told g.T.Item.with_row c.args.row.now g.met.T.Item.last_row c.args.table.now c.args.self.now.rows c.args.i free
