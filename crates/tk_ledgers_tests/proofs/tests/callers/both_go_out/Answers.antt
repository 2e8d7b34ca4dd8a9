use Rattle.std.proofs.Common.{Some, refl, inr, ap}
use Rattle.tk_core.specs.declared.reply.Reply.TheVariants.{Number}
use Rattle.tk_core.specs.declared.task.call.TaskCall.TheVariants.{CloneWaker}
use Rattle.tk_core.specs.TaskMeaning.{task_meaning}
use Rattle.tk_ledgers.proofs.CallersLemmas.{calls_keep_live, drawn_is_new}
use Rattle.tk_ledgers_tests.proofs.tests.callers.both_go_out.Goals as goal

pub hands_out-requires-clause-one : goal.hands_out-requires-clause-one
hands_out-requires-clause-one g c κs within = (calls_keep_live task_meaning c.args.callers.now.token c.clone_waker.new.self.token c.args.one CloneWaker (Number c.in-Ok.two) c.in-Ok.ensures.ok).1 c.args.one c.requires (inr refl)

pub hands_out-requires-clause-two : goal.hands_out-requires-clause-two
hands_out-requires-clause-two g c κs within = (calls_keep_live task_meaning c.args.callers.now.token c.clone_waker.new.self.token c.args.one CloneWaker (Number c.in-Ok.two) c.in-Ok.ensures.ok).0 c.in-Ok.two refl

pub hands_out-requires-clause-apart : goal.hands_out-requires-clause-apart
hands_out-requires-clause-apart g c κs within same =
    drawn_is_new task_meaning c.args.callers.now.token c.clone_waker.new.self.token c.args.one CloneWaker (Number c.in-Ok.two) c.args.one c.in-Ok.ensures.ok (ap Some same) c.requires
