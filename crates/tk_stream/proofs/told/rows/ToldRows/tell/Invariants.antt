use Rattle.std.proofs.Common.{◌≡◌, None, map, take, length}
use Rattle.std.specs.Prelude.{is_some}
use Rattle.tk_stream.proofs.told.rows.ToldRows.tell.Given as goal

abbrev pub invariant-loop-i : goal.invariant-loop-i
invariant-loop-i g l = (length l.self-inside.rows.items ≡ l.fn.self.room) × (l.self-inside.marks.items ≡ map is_some l.self-inside.rows.items) × (take l.i l.self-inside.rows.items ≡ map (λ x. None) (take l.i l.table))
