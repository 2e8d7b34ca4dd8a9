use Rattle.std.proofs.Common.{subst}
use Rattle.tk_watch.specs.Keyed.{WatchesKeys}
use Rattle.taskscope.proofs.Outcomes.{none_heard}
use Rattle.taskscope.proofs.watches.watch_at_keys.Goals as goal

pub returns-in-Ok-clause-does : goal.returns-in-Ok-clause-does
returns-in-Ok-clause-does g c = record {
  outcome = c.watch_terminal.result;
  told = c.tell_outcome.ensures;
  part = c.screen_of-screen.result.query.filter;
  is_text = c.screen_of-screen.ensures.filter;
  given = c.watch_terminal.ensures.0;
  left = c.watch_terminal.ensures.1;
  watches =
      subst (λ s. WatchesKeys s c.watch_terminal.ensures.0 c.watch_terminal.ensures.1 c.watch_terminal.result (g.O.Write.contents c.args.output.now) (g.O.Write.contents c.watch_terminal.new.writer))
      c.screen_of-screen.ensures.shows c.watch_terminal.ensures.2;
}

pub returns-in-Err-clause-does : goal.returns-in-Err-clause-does
returns-in-Err-clause-does g c =
    none_heard c.args.options.now c.args.filter.now c.args.terminal (g.O.Write.contents c.args.output.now) c.tell_unopened.result c.tell_unopened.ensures
