use Rattle.std.proofs.Common.{◌≡◌, ◌+◌, ◌∷◌, ◌++◌, [], length, refl, inl, Err, ap, sym, ◌∙◌}
use Rattle.tk_core.specs.declared.task.call.TaskCall.TheVariants.{Enlist}
use Rattle.tk_events.specs.Handles.{offers_made}
use Rattle.tk_events.specs.Items.{opening_as, owner_view}
use Rattle.tk_live.specs.Runs.{numbers_of}
use Rattle.tk_live.proofs.Making.{has_times, is_new_task, known_ledger, task_made}
use Rattle.tk_live.proofs.Recording.{unspent}
use Rattle.tk_live.proofs.interpreter.Interpreter.make_task.Goals as goal

pub returns-in-Ok-task_counting : goal.returns-in-Ok-task_counting
returns-in-Ok-task_counting g c settings k kept sent stands =
    let i = c.args.self.now in
    let e = c.in-Ok-task_counting.ensures in
    let left : offers_made i.recorder ≡ i.recorder.limit → ⊥ = λ h. let bad = e.spent.1 h in absurd cc in
    let owner = c.in-Ok-task_counting.owner in
    let item = c.item_of.result in
    let kept_is = c.item_of.ensures in
    let one = task_made i _ settings k kept sent stands e.same left c.in-Ok-task_counting._became e.alone c.in-Ok.spec owner item c.args.line c.args.created c.args.kind c.args.name.now e.kept e.refused c.in-Ok.ensures (λ timed. has_times _ owner.times e.times (stands.times_is ∙ timed)) (known_ledger item.times owner.times kept_is.times)
    (λ n at. is_new_task item owner k.waits_said c.args.created n kept_is.id kept_is.token kept_is.open at (e.owner ∙ ap (λ w. owner_view Enlist (opening_as w c.args.created)) stands.waits_said) kept_is.times kept_is.task _ e.times) e.id (ap (λ k. k.ledger) kept_is.token) refl (c.push_reserved.ensures.items ∙ ap (λ l. l ++ item ∷ []) c.in_default-reserve.ensures.items) in
    (unspent i.recorder settings.capacity (numbers_of k.pasts) k kept stands.offered left, one.0 ∷ [], one.1)
