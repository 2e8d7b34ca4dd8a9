use Rattle.std.proofs.Common.{None, subst}
use Rattle.tk_watch.specs.Watches.{Watches}
use Rattle.taskscope.proofs.watches.watch.Goals as goal

pub returns-clause-does : goal.returns-clause-does
returns-clause-does g c = record {
  outcome = c.watch_stream.result;
  told = c.tell_outcome.ensures;
  part = c.screen_of-screen.result.query.filter;
  is_text = c.screen_of-screen.ensures.filter;
  watches =
      subst (λ s. Watches s (g.I.Read.remaining c.args.input.now) (g.I.Read.remaining c.watch_stream.new.reader) c.watch_stream.result (g.O.Write.contents c.args.output.now) (g.O.Write.contents c.watch_stream.new.writer) None None)
      c.screen_of-screen.ensures.shows c.watch_stream.ensures;
}
