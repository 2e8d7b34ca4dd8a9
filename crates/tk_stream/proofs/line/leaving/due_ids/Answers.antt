use Rattle.std.proofs.Common.{◌≡◌, ◌++◌, false, Some, None, map, filter, take, get_or, slice_get, add-one, ap, ap₂, sym, subst, ◌∙◌, arith}
use Rattle.std.specs.Prelude.{option_map}
use Rattle.std.proofs.lemmas.List.{take_all}
use Rattle.tk_stream.specs.Fronts.{as_told, with_rows}
use Rattle.tk_stream.specs.Kept.{kept}
use Rattle.tk_stream.specs.Retention.{is_due}
use Rattle.tk_stream.specs.Tables.{is_among}
use Rattle.tk_stream.proofs.FrontLemmas.{keeps_told, distinct_old}
use Rattle.tk_stream.proofs.PruneLemmas.{told_there, few_told, kept_next, once_front, some_there}
use Rattle.tk_stream.proofs.line.leaving.due_ids.Goals as goal

pub unwrap-item-requires : goal.unwrap-item-requires
unwrap-item-requires g c =
    some_there (λ t. t.now) c.at.result c.args.table.now c.loop-i.i c.at.ensures (omega (arith, c.loop-i-test.true, c.count-i-end.ensures.count, c.requires))

pub keep_key-requires : goal.keep_key-requires
keep_key-requires g c =
    let item = c.unwrap-item.result.now in
    let keeps = keeps_told g.T.Item.id_of g.T.Item.with_row g.met.T.Item.keeps_id in
    let rows = c.args.told.now.rows in
    let i = c.loop-i.i in
    let o = as_told g.T.Item.with_row item (get_or rows i None) in
    let told = with_rows (as_told g.T.Item.with_row) c.args.table.now rows in
    let at : Some item ≡ slice_get c.args.table.now i = sym (ap (option_map (λ t. t.now)) c.unwrap-item.ensures) ∙ c.at.ensures in
    let there = told_there g.T.Item.with_row c.args.table.now rows i item at (omega (arith, c.loop-i-test.true, c.count-i-end.ensures.count)) in
    let once = distinct_old g.T.Item.id_of (as_told g.T.Item.with_row) keeps c.args.table.now rows c.len.ensures.distinct in
    ap (λ ks. is_among ks (g.T.Item.id_of item)) c.loop-i.invariant.keys
    ∙ subst (λ id. is_among (map g.T.Item.id_of (filter (λ x. is_due c.args.retention c.args.now (g.T.Closes.closed_in (g.T.Item.row_of x))) (take i told))) id ≡ false) (keeps item (get_or rows i None))
    (once_front g.T.Item.id_of (λ x. is_due c.args.retention c.args.now (g.T.Closes.closed_in (g.T.Item.row_of x))) told i o once there)

pub loop-i-preserved : goal.loop-i-preserved
loop-i-preserved g c =
    let item = c.unwrap-item.result.now in
    let rows = c.args.told.now.rows in
    let i = c.loop-i.i in
    let row = get_or rows i None in
    let o = as_told g.T.Item.with_row item row in
    let told = with_rows (as_told g.T.Item.with_row) c.args.table.now rows in
    let at : Some item ≡ slice_get c.args.table.now i = sym (ap (option_map (λ t. t.now)) c.unwrap-item.ensures) ∙ c.at.ensures in
    let there = told_there g.T.Item.with_row c.args.table.now rows i item at (omega (arith, c.loop-i-test.true, c.count-i-end.ensures.count)) in
    let leaves = c.is_due-leaves.ensures ∙ ap (is_due c.args.retention c.args.now) c.closed.ensures in
    record {
      ids = rw add-one (c.in_ok-keep_id.ensures
          ∙ ap₂ (λ zs z. zs ++ z) c.loop-i.invariant.ids (ap₂ kept leaves (sym (keeps_told g.T.Closes.typed_id g.T.Item.with_row g.met.T.Closes.keeps_typed_id item row)))
          ∙ sym (kept_next g.T.Closes.typed_id (λ x. is_due c.args.retention c.args.now (g.T.Closes.closed_in (g.T.Item.row_of x))) told i o there));
      keys = rw add-one (c.in_ok-keep_key.ensures
          ∙ ap₂ (λ zs z. zs ++ z) c.loop-i.invariant.keys (ap₂ kept leaves (sym (keeps_told g.T.Item.id_of g.T.Item.with_row g.met.T.Item.keeps_id item row)))
          ∙ sym (kept_next g.T.Item.id_of (λ x. is_due c.args.retention c.args.now (g.T.Closes.closed_in (g.T.Item.row_of x))) told i o there));
    }

pub returns-clause-ids : goal.returns-clause-ids
returns-clause-ids g c =
    let all = take_all c.loop-i.i (with_rows (as_told g.T.Item.with_row) c.args.table.now c.args.told.now.rows)
    (omega (arith, c.loop-i-test.false, c.count-i-end.ensures.count, few_told (as_told g.T.Item.with_row) c.args.table.now c.args.told.now.rows)) in
    c.loop-i.invariant.ids ∙ ap (λ xs. map g.T.Closes.typed_id (filter (λ item. is_due c.args.retention c.args.now (g.T.Closes.closed_in (g.T.Item.row_of item))) xs)) all

pub returns-clause-keys : goal.returns-clause-keys
returns-clause-keys g c =
    let all = take_all c.loop-i.i (with_rows (as_told g.T.Item.with_row) c.args.table.now c.args.told.now.rows)
    (omega (arith, c.loop-i-test.false, c.count-i-end.ensures.count, few_told (as_told g.T.Item.with_row) c.args.table.now c.args.told.now.rows)) in
    c.loop-i.invariant.keys ∙ ap (λ xs. map g.T.Item.id_of (filter (λ item. is_due c.args.retention c.args.now (g.T.Closes.closed_in (g.T.Item.row_of item))) xs)) all
