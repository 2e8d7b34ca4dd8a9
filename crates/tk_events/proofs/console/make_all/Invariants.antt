use Rattle.std.proofs.Common.{◌≡◌, Some, []}
use Rattle.std.specs.Arc.{arc_value}
use Rattle.crossbeam_queue.specs.Passes.{view, IsSamePass, ruled_capacity}
use Rattle.tk_events.specs.Counts.{first as first_count}
use Rattle.tk_events.specs.Buffer.{first, limits as limited}
use Rattle.tk_events.specs.Handles.{new_recordings, place}
use Rattle.tk_events.specs.Parts.{making, counting}
use Rattle.tk_events.proofs.console.make_all.Given as goal

abbrev pub invariant-loop-k : goal.invariant-loop-k
invariant-loop-k l = record {
  own : IsSamePass l.initial.pass l.pass;
  taker : view l.pass ≡ making l.k (limited (Some l.recorders) first);
  seat : (l.seat.table_id ≡ l.initial.seat.table_id) × (l.seat.me ≡ (counting l.k (first_count l.recorders), []));
  made : l.all.items ≡ new_recordings (place (arc_value l.buffer).table.shared.table_id (arc_value l.counts).shared.table_id) (ruled_capacity (arc_value l.buffer)) l.recorders l.limit l.k;
}
