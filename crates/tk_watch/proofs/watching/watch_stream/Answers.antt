use Rattle.tk_watch.proofs.WatchLemmas.{none_drawn}
use Rattle.tk_watch.proofs.watching.watch_stream.Goals as goal

pub returns-in-Err : goal.returns-in-Err
returns-in-Err g c = none_drawn c.args.screen.now (g.R.Read.remaining c.args.reader.now) (g.W.Write.contents c.args.writer.now)
