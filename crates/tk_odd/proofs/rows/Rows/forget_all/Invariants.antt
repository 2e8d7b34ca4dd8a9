use Rattle.std.proofs.Common.{◌≡◌, ℕ, None, false, take, map, cond}
use Rattle.tk_client.specs.Changes.{left_id}
use Rattle.tk_stream.specs.Tables.{is_among}
use Rattle.tk_odd.specs.Keeping.{kept_row}
use Rattle.tk_odd.proofs.rows.Rows.forget_all.Given as goal

-- those so far are forgotten
abbrev pub invariant-loop-one : goal.invariant-loop-one
invariant-loop-one l = record {
  rows : (other : ℕ) → kept_row l.self.rows.entries other ≡ cond (is_among (map left_id (take l.one-index l.left)) other) None (kept_row l.initial.self.rows.entries other);
  lasting : (other : ℕ) → is_among l.self.lasting.keys other ≡ cond (is_among (map left_id (take l.one-index l.left)) other) false (is_among l.initial.self.lasting.keys other);
}
