use Rattle.std.proofs.Common.{◌≡◌, ℕ, take, cond}
use Rattle.tk_stream.specs.Tables.{is_among}
use Rattle.tk_odd.specs.Keeping.{kept_row, lasts_in, row_in}
use Rattle.tk_odd.proofs.rows.Rows.keep_all.Given as goal

-- those so far are kept
abbrev pub invariant-loop-id : goal.invariant-loop-id
invariant-loop-id l = record {
  rows : (other : ℕ) → kept_row l.self.rows.entries other ≡ cond (is_among (take l.id-index l.told) other) (row_in l.tables other) (kept_row l.initial.self.rows.entries other);
  lasting : (other : ℕ) → is_among l.self.lasting.keys other ≡ cond (is_among (take l.id-index l.told) other) (lasts_in l.tables other) (is_among l.initial.self.lasting.keys other);
}
