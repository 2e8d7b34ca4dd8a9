use Rattle.std.proofs.Common.{None}
use Rattle.tk_watch.proofs.KeyLemmas.{none_came}
use Rattle.tk_keys.proofs.terminal.watch_terminal.Goals as goal

pub returns-in_default : goal.returns-in_default
returns-in_default g c = (None, None, none_came c.args.screen.now None (g.W.Write.contents c.args.writer.now))

pub returns-then-is_err : goal.returns-then-is_err
returns-then-is_err g c = (None, None, none_came c.args.screen.now None (g.W.Write.contents c.args.writer.now))
