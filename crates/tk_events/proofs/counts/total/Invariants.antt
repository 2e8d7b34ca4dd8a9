use Rattle.std.proofs.Common.{◌≡◌, ◌≢◌, ℕ, ◌*◌, ◌<◌, ◌≤◌, length, slice_index}
use Rattle.std.specs.List.{All}
use Rattle.tk_events.specs.Counts.{word_of, total_of, most}
use Rattle.tk_events.proofs.counts.total.Given as goal

abbrev pub invariant-loop-p : goal.invariant-loop-p
invariant-loop-p l = record {
  own : l.seat.table_id ≡ l.initial.seat.table_id;
  rest : l.seat.me ≡ (record l.initial.seat.me.0 { seen = l.seat.me.0.seen }, l.initial.seat.me.1);
  size : length l.seat.me.0.seen ≡ 3 * l.adders;
  sum : l.sum ≡ total_of l.kind l.p l.seat.me.0.seen;
  ahead : (i : ℕ) → 3 * l.p ≤ i → slice_index l.seat.me.0.seen i ≡ slice_index l.initial.seat.me.0.seen i;
  reached : total_of l.kind l.p l.initial.seat.me.0.seen ≤ l.sum;
  others : (j : ℕ) → j < 3 → j ≢ l.kind → total_of j l.adders l.seat.me.0.seen ≡ total_of j l.adders l.initial.seat.me.0.seen;
  exact : All (λ t. 0 < t.number → t.number ≤ l.p → slice_index l.seat.me.0.seen (word_of t.number l.kind) ≡ slice_index t.counts l.kind) l.initial.seat.me.0.known;
  bound : l.sum ≤ l.p * most;
}
