use Rattle.std.proofs.Common.{None, ap, sym, subst, ◌∙◌}
use Rattle.std.specs.Option.{option_map_or}
use Rattle.tk_core.specs.declared.task.call.TaskCall.TheVariants.{CloneWaker}
use Rattle.tk_core.specs.declared.reply.Refusal.TheVariants.{HandlesSpent}
use Rattle.tk_core.specs.TaskMeaning.{task_meaning}
use Rattle.tk_script.specs.Commands as said
use Rattle.tk_live.specs.Items.{IsTask}
use Rattle.tk_live.specs.Named.{made_item}
use Rattle.tk_live.specs.Pasts.{waker_drawn}
use Rattle.tk_live.specs.Stops.{IsReply, if_there, opening_of}
use Rattle.tk_live.proofs.Places.{at_place, each_made}
use Rattle.tk_live.proofs.OnWakers.{draw_did, no_waker, waker_at, woken_told}
use Rattle.tk_live.proofs.Standing.{calling}
use Rattle.tk_live.proofs.interpreter.Interpreter.again.Goals as goal

pub returns-in-Some : goal.returns-in-Some
returns-in-Some g c line =
    let i = c.args.self.now in
    let w = c.args.number in
    let a = c.in-Some.waker in
    let live = sym c.live_waker.ensures ∙ c.in-Some.is in
    let at = waker_at i c.requires w a live in
    draw_did i _ line a.task _ (said.again w) c.draw_waker.result at.is c.draw_waker.ensures (λ settings k kept sent stands.
    let told = woken_told i.wakers.items k.pasts.wakers w a stands.holds.tasks_are.wakers_are live in
    let there = each_made IsTask k.pasts.tasks i.tasks.items a.task at.task stands.holds.tasks_are.tasks_are (at_place a.task _ i.tasks.items at.is ∙ at.stood) in record {
      past = there.0;
      goes = ap (λ o. if_there o None) told;
      steps = ap (λ o. calling k (option_map_or (λ n. waker_drawn n k.pasts) o k.pasts)) told;
      takes_memory = tt;
      is = there.1;
      may_fail = λ reply. subst (λ o. IsReply task_meaning (opening_of o) CloneWaker HandlesSpent) (sym (ap (λ o. option_map_or (λ n. made_item n k.pasts.tasks) o None) told ∙ there.1)) reply;
    })

pub returns-in-None : goal.returns-in-None
returns-in-None g c line = no_waker c.args.self.now line c.args.number (said.again c.args.number) (sym c.live_waker.ensures ∙ c.in-None.is) (λ k e. ap (λ o. if_there o None) e)

pub draw_waker-requires-clause-place : goal.draw_waker-requires-clause-place
draw_waker-requires-clause-place g c = (waker_at c.args.self.now c.requires c.args.number c.in-Some.waker (sym c.live_waker.ensures ∙ c.in-Some.is)).within
