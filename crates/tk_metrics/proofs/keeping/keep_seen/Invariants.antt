use Rattle.std.proofs.Common.{◌*◌, ◌≤◌}
use Rattle.tk_metrics.specs.Kept.{Kept}
use Rattle.tk_metrics.proofs.keeping.keep_seen.Given as goal

-- what was read and put so far
abbrev pub invariant-loop : goal.invariant-loop
invariant-loop g l = record {
  kept : Kept l.path l.fn.seen.leavers.by l.lints (g.R.Read.remaining l.fn.reader) (g.R.Read.remaining l.reader) l.progress.lines l.progress.put l.client l.seen
      (g.P.Place.texts l.fn.place) (g.P.Place.texts l.place);
  few : l.progress.lines ≤ 65536 * l.counter;
}
