use Rattle.std.proofs.Common.{◌≡◌, false, Some, refl, ap}
use Rattle.std.specs.Prelude.{option_map}
use Rattle.tk_script.specs.Commands as said
use Rattle.tk_live.specs.Pasts.{is_polled, polls_of}
use Rattle.tk_live.specs.Stops.{unless_polled}
use Rattle.tk_live.proofs.OnTasks.{task_did, no_task}
use Rattle.tk_live.proofs.Places.{item_read}
use Rattle.tk_live.proofs.interpreter.Interpreter.polls.Goals as goal

pub polls-requires-clause-open : goal.polls-requires-clause-open
polls-requires-clause-open g c = (item_read (λ t. t.closed ≡ false) c.args.self.now.tasks.items c.args.task c.in-Some.place c.index_mut.result.now c.in-Some.ensures.some c.index_mut.ensures.value).1

pub returns-in-Some : goal.returns-in-Some
returns-in-Some g c line =
    let i = c.args.self.now in
    let at = item_read (λ t. t.closed ≡ false) i.tasks.items c.args.task c.in-Some.place c.index_mut.result.now c.in-Some.ensures.some c.index_mut.ensures.value in
    task_did i _ line c.args.task c.in-Some.place (said.polls c.args.task c.args.count c.args.moment c.args.run c.args.every) (polls_of c.args.count c.args.moment c.args.run c.args.every) (λ p. unless_polled (Some (is_polled p)))
    c.index_mut.result.now c.polls.new.self c.polls.result at.0 c.in-Some.ensures.some.0 at.1 refl c.polls.ensures.same c.polls.ensures.did (λ k p e. ap (λ o. unless_polled (option_map is_polled o)) e) (λ k. refl) refl

pub returns-in-None : goal.returns-in-None
returns-in-None g c line =
    no_task c.args.self.now line c.args.task (said.polls c.args.task c.args.count c.args.moment c.args.run c.args.every) c.in-None.ensures.none (λ k e. ap (λ o. unless_polled (option_map is_polled o)) e)
