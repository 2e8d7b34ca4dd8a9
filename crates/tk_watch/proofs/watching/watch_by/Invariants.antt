use Rattle.std.proofs.Common.{◌*◌, ◌≤◌, []}
use Rattle.tk_watch.specs.Watching.{Watching}
use Rattle.tk_watch.proofs.watching.watch_by.Given as goal

-- what was read and drawn so far
abbrev pub invariant-loop : goal.invariant-loop
invariant-loop g l = record {
  watching :
      Watching l.screen (g.R.Read.remaining l.fn.reader) (g.R.Read.remaining l.reader) l.progress.lines l.progress.drawn [] l.course (g.W.Write.contents l.fn.writer) (g.W.Write.contents l.writer)
      (g.P.Pace.said l.fn.pace) (g.P.Pace.said l.pace);
  few : l.progress.lines ≤ 65536 * l.counter;
}
