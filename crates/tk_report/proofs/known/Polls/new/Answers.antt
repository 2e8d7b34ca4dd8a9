use Rattle.tk_report.proofs.KnownLemmas.{follows_none}
use Rattle.tk_report.proofs.known.Polls.new.Goals as goal

pub returns : goal.returns
returns c = follows_none c.new.result.entries c.new.ensures.empty
