use Rattle.std.proofs.Common.{◌≡◌, take}
use Rattle.tk_screen.specs.Rankings.{kept}
use Rattle.tk_frame.specs.Queries.{ranked_from, op_key}
use Rattle.tk_frame.proofs.ranks.top_ops.Given as goal

-- the first of the items so far
abbrev pub invariant-loop-place : goal.invariant-loop-place
invariant-loop-place l = record {
  items : l.top.items ≡ kept l.rows (ranked_from op_key 0 (take l.place l.tables.ops));
  room : l.top.room ≡ l.rows;
}
