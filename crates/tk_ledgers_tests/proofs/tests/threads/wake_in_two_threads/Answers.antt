use Rattle.tk_ledgers_tests.proofs.UseLemmas.{both_wakes}
use Rattle.tk_ledgers_tests.proofs.tests.threads.wake_in_two_threads.Goals as goal

pub returns : goal.returns
returns g c = record {
  both = both_wakes c.args.one c.args.two c.join-first.result.0 c.join-first.result.1 c.args.inspector.now.token.view c.learn.new.self.token.view c.learn-2.new.self.token.view c.read.result
      c.join-first.ensures.first.1 c.join-first.ensures.second.1 c.learn.ensures.joined c.learn-2.ensures.joined c.read.ensures.least;
}
