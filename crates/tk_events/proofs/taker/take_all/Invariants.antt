use Rattle.std.proofs.Common.{◌≡◌}
use Rattle.std.specs.List.{All}
use Rattle.crossbeam_queue.specs.Passes.{view, IsSamePass}
use Rattle.tk_events.specs.Handles.{HasOwnIds, offers_of_all}
use Rattle.tk_events.specs.Parts.{knowing, IsReading}
use Rattle.tk_events.proofs.taker.take_all.Given as goal

abbrev pub invariant-loop-retired : goal.invariant-loop-retired
invariant-loop-retired l = record {
  own : IsSamePass l.initial.pass l.pass;
  known : view l.pass ≡ knowing (view l.initial.pass) (offers_of_all l.yielded);
  own_ids : All HasOwnIds (offers_of_all l.yielded);
  reading : IsReading l.counts.shared.table_id l.counts.shared.key l.seat (view l.pass);
  seen : l.seat.me.0.seen ≡ l.initial.seat.me.0.seen;
}
