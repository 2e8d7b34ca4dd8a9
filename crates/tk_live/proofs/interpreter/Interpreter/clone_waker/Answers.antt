use Rattle.std.proofs.Common.{None, refl, ap, sym, subst}
use Rattle.tk_core.specs.declared.task.call.TaskCall.TheVariants.{CloneWaker}
use Rattle.tk_core.specs.declared.reply.Refusal.TheVariants.{HandlesSpent}
use Rattle.tk_core.specs.TaskMeaning.{task_meaning}
use Rattle.tk_script.specs.Commands as said
use Rattle.tk_live.specs.Items.{IsTask}
use Rattle.tk_live.specs.Pasts.{is_closed}
use Rattle.tk_live.specs.Stops.{IsReply, if_there, opening_of}
use Rattle.tk_live.proofs.OnTasks.{no_task}
use Rattle.tk_live.proofs.OnWakers.{draw_did}
use Rattle.tk_live.proofs.Standing.{open_there}
use Rattle.tk_live.proofs.interpreter.Interpreter.clone_waker.Goals as goal

pub returns-in-Some : goal.returns-in-Some
returns-in-Some g c line =
    let i = c.args.self.now in
    let n = c.args.task in
    let found = c.in-Some.ensures.some in
    draw_did i _ line n c.in-Some.place (said.clone n) c.draw_waker.result found.0 c.draw_waker.ensures (λ settings k kept sent stands.
    let there = open_there IsTask is_closed (λ t. t.closed) (λ m p t h. h.is_closed) k.pasts.tasks i.tasks.items n found.2.0 stands.holds.tasks_are.tasks_are found.2.1 found.2.2 in record {
      past = there.0;
      goes = ap (λ o. if_there o None) there.3;
      steps = refl;
      takes_memory = tt;
      is = there.1;
      may_fail = λ reply. subst (λ o. IsReply task_meaning (opening_of o) CloneWaker HandlesSpent) (sym there.3) reply;
    })

pub returns-in-None : goal.returns-in-None
returns-in-None g c line = no_task c.args.self.now line c.args.task (said.clone c.args.task) c.in-None.ensures.none (λ k e. ap (λ o. if_there o None) e)
