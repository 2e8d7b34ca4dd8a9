use Rattle.tk_client.proofs.NotedLemmas.{among-insert}
use Rattle.tk_client.proofs.change.add_told.Goals as goal

pub returns-clause-told : goal.returns-clause-told
returns-clause-told c = among-insert c.args.ids.now.keys c.insert.new.self.keys c.args.id c.in_ok-insert.ensures.keys
