use Rattle.std.proofs.Common.{◌≡◌, false, None, inl, inr, refl, ap, sym, ◌∙◌, subst}
use Rattle.tk_core.specs.declared.op.call.OpCall.TheVariants.{SetTask}
use Rattle.tk_ids.specs.Ids.{id_of}
use Rattle.tk_script.specs.Commands as said
use Rattle.tk_live.specs.Items.{IsTask, OpDid}
use Rattle.tk_live.specs.Stops.{if_there}
use Rattle.tk_live.proofs.Places.{each_there, item_read}
use Rattle.tk_live.proofs.OnOps.{op_did, no_op}
use Rattle.tk_live.proofs.Standing.{is_there, isnt_there}
use Rattle.tk_live.proofs.interpreter.Interpreter.set_task.Goals as goal

pub set_task-requires : goal.set_task-requires
set_task-requires g c = (item_read (λ o. o.closed ≡ false) c.args.self.now.ops.items c.args.op c.in-Some.place c.index_mut.result.now c.in-Some.ensures.some c.index_mut.ensures.value).1

pub returns-in-Ok : goal.returns-in-Ok
returns-in-Ok g c line =
    let i = c.args.self.now in
    let n = c.args.op in
    let t = c.args.task in
    let at = item_read (λ o. o.closed ≡ false) i.ops.items n c.in-Some.place c.index_mut.result.now c.in-Some.ensures.some c.index_mut.ensures.value in
    op_did i _ line n c.in-Some.place (said.op_task n t) (SetTask (id_of 1 t)) (λ p. None) c.index_mut.result.now c.set_task.new.self c.set_task.result at.0 c.in-Some.ensures.some.0 at.1 refl c.set_task.ensures.same
    (subst (λ id. OpDid (λ p. None) (SetTask id) c.index_mut.result.now c.set_task.new.self c.set_task.result) c.in-Ok.ensures.ok c.set_task.ensures.did)
    (λ settings k kept sent p stands e. is_there _ _ (each_there IsTask k.pasts.tasks i.tasks.items t stands.holds.tasks_are.tasks_are ∙ sym c.if-not-is_made.ensures.made) ∙ ap (λ o. if_there o None) e) (λ k. refl) refl

pub returns-in-Err : goal.returns-in-Err
returns-in-Err g c line settings k kept sent stands = inr c.in-Err.ensures.err

pub returns-then-not-is_made : goal.returns-then-not-is_made
returns-then-not-is_made g c line settings k kept sent stands =
    inl (isnt_there _ _ (each_there IsTask k.pasts.tasks c.args.self.now.tasks.items c.args.task stands.holds.tasks_are.tasks_are ∙ sym c.if-not-is_made.ensures.made))

pub returns-in_default : goal.returns-in_default
returns-in_default g c line = no_op c.args.self.now line c.args.op (said.op_task c.args.op c.args.task) c.in_default.ensures.none
    (λ settings k kept sent stands e. is_there _ _ (each_there IsTask k.pasts.tasks c.args.self.now.tasks.items c.args.task stands.holds.tasks_are.tasks_are ∙ sym c.if-not-is_made.ensures.made) ∙ ap (λ o. if_there o None) e)
