use Rattle.tk_core.specs.TaskMeaning.{task_meaning}
use Rattle.tk_ledgers.proofs.CallersLemmas.{handing_out_keeps_live}
use Rattle.tk_ledgers_tests.proofs.tests.callers.hands_out.Goals as goal

pub part-requires-2 : goal.part-requires-2
part-requires-2 g c = (handing_out_keeps_live task_meaning c.args.callers.now.token c.part.new.self.token c.in-Ok.first.token c.args.one c.in-Ok.ensures.ok).0 c.args.two c.requires.apart c.requires.two
