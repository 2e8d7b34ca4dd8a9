use Rattle.tk_watch.proofs.KeyLemmas.{none_came}
use Rattle.tk_watch.proofs.keyed.watch_keys.Goals as goal

pub returns-in_default : goal.returns-in_default
returns-in_default g c = none_came c.args.screen.now (g.S.Source.to_come c.args.source.now) (g.W.Write.contents c.args.writer.now)
