use Rattle.std.proofs.Common.{◌*◌, ◌≤◌}
use Rattle.tk_watch.specs.Keying.{Keying}
use Rattle.tk_watch.proofs.keyed.watch_by.Given as goal

-- what came and was drawn so far
abbrev pub invariant-loop : goal.invariant-loop
invariant-loop g l = record {
  keying : Keying l.screen (g.S.Source.to_come l.fn.source) (g.S.Source.to_come l.source) l.session (g.W.Write.contents l.fn.writer) (g.W.Write.contents l.writer);
  few : l.session.lines ≤ 65536 * l.counter;
}
