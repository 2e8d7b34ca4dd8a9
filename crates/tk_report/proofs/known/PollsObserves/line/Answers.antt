use Rattle.tk_report.proofs.KnownLemmas.{follows_seen}
use Rattle.tk_report.proofs.known.PollsObserves.line.Goals as goal

pub returns : goal.returns
returns c = λ from seen few is h. follows_seen seen (c.args.tables.now, c.args._times.now) c.args.self.now.tasks.entries _ c.in_ok-self.ensures h
