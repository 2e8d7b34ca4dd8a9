use Rattle.std.proofs.Common.{◌*◌, ◌≤◌}
use Rattle.tk_reading.specs.Reads.{Seen}
use Rattle.tk_reading.proofs.reading.read_stream.Given as goal

-- what was read so far
abbrev pub invariant-loop : goal.invariant-loop
invariant-loop g l = record {
  reading : Seen (g.O.Observes.saw l.fn.observer) (g.R.Read.remaining l.fn.reader) (g.R.Read.remaining l.reader) l.lines l.client l.observer;
  few : l.lines ≤ 65536 * l.counter;
}
