use Rattle.std.proofs.Common.{false, None, refl, ap, sym, ◌∙◌, arith}
use Rattle.tk_core.specs.declared.task.call.TaskCall.TheVariants.{WakeVal}
use Rattle.tk_script.specs.Commands as said
use Rattle.tk_live.specs.Stops.{if_there}
use Rattle.tk_live.proofs.OnWakers.{waker_ended, no_waker, waker_at, waker_read}
use Rattle.tk_live.proofs.interpreter.Interpreter.wake.Goals as goal

pub returns : goal.returns
returns g c line =
    let i = c.args.self.now in
    let w = c.args.number in
    let a = c.in-Some.waker in
    let live = sym c.live_waker.ensures ∙ c.in-Some.is in
    let at = waker_at i c.requires w a live in
    let read = waker_read i.tasks.items a c.index_mut.result.now at c.index_mut.ensures.value in
    waker_ended i _ line w _ a (said.wake w c.args.moment) (WakeVal c.args.moment false) c.index_mut.result.now c.wake.new.self read.0 live at.is refl c.spend_waker.ensures c.wake.ensures.spent c.wake.ensures.did (λ k e. ap (λ o. if_there o None) e) (λ k. refl) refl

pub returns-in_default : goal.returns-in_default
returns-in_default g c line = no_waker c.args.self.now line c.args.number (said.wake c.args.number c.args.moment) (sym c.live_waker.ensures ∙ c.in_default.is) (λ k e. ap (λ o. if_there o None) e)

pub index_mut-requires : goal.index_mut-requires
index_mut-requires g c =
    let at = waker_at c.args.self.now c.requires c.args.number c.in-Some.waker (sym c.live_waker.ensures ∙ c.in-Some.is) in
    omega (arith, at.within, c.args.self.now.tasks.ok.0)

pub wake-requires : goal.wake-requires
wake-requires g c =
    let at = waker_at c.args.self.now c.requires c.args.number c.in-Some.waker (sym c.live_waker.ensures ∙ c.in-Some.is) in
    (waker_read c.args.self.now.tasks.items c.in-Some.waker c.index_mut.result.now at c.index_mut.ensures.value).1
