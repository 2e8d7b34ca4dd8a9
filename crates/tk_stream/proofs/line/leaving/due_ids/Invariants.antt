use Rattle.std.proofs.Common.{◌≡◌, map, filter, take}
use Rattle.tk_stream.specs.Fronts.{as_told, with_rows}
use Rattle.tk_stream.specs.Retention.{is_due, due_ids}
use Rattle.tk_stream.proofs.line.leaving.due_ids.Given as goal

-- the ids of those that are due among the first items, as they were told
abbrev pub invariant-loop-i : goal.invariant-loop-i
invariant-loop-i g l = record {
  ids : l.ids.items ≡ map g.T.Closes.typed_id (filter (λ item. is_due l.retention l.now (g.T.Closes.closed_in (g.T.Item.row_of item))) (take l.i (with_rows (as_told g.T.Item.with_row) l.table l.told.rows)));
  keys : l.keys.keys ≡ due_ids g.T.Item.id_of (λ item. g.T.Closes.closed_in (g.T.Item.row_of item)) l.retention l.now (take l.i (with_rows (as_told g.T.Item.with_row) l.table l.told.rows));
}
