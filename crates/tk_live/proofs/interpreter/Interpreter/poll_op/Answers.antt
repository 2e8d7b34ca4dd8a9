use Rattle.std.proofs.Common.{◌≡◌, ◌∷◌, ◌++◌, [], Ok, inl, refl, ap, sym, ◌∙◌}
use Rattle.tk_live.specs.Items.{IsTask, IsResource, IsOp}
use Rattle.tk_events.specs.Handles.{offers_made}
use Rattle.tk_live.specs.Runs.{numbers_of}
use Rattle.tk_live.proofs.Making.{poll_made}
use Rattle.tk_live.proofs.Places.{each_there}
use Rattle.tk_live.proofs.Recording.{unspent, spent, is_there, isnt_there}
use Rattle.tk_live.proofs.interpreter.Interpreter.poll_op.Goals.{then-not-is_made-via-then-not-is_made, then-not-is_made-via-else-not-is_made+then-not-is_made-2, then-not-is_made-via-else-not-is_made+else-not-is_made-2+then-not-is_made-3}
use Rattle.tk_live.proofs.interpreter.Interpreter.poll_op.Goals as goal

pub returns-in-Ok-poll_op : goal.returns-in-Ok-poll_op
returns-in-Ok-poll_op g c line settings k kept sent stands =
    let i = c.args.self.now in
    let e = c.in-Ok-poll_op.ensures in
    let left : offers_made i.recorder ≡ i.recorder.limit → ⊥ = λ h. let bad = e.spent.1 h in absurd cc in
    let r_is = each_there IsResource k.pasts.resources i.resources.items c.args.resource stands.holds.resources_are ∙ sym c.if-not-is_made.ensures.made in
    let o_is = each_there IsOp k.pasts.ops i.ops.items c.args.op stands.holds.ops_are ∙ sym c.if-not-is_made-2.ensures.made in
    let t_is = each_there IsTask k.pasts.tasks i.tasks.items c.args.task stands.holds.tasks_are.tasks_are ∙ sym c.if-not-is_made-3.ensures.made in
    let one = poll_made i _ settings k kept sent stands e.same left c.in-Ok-poll_op._became (λ h. e.alone (ap (λ b. Ok b) h)) c.in-Ok-poll_of.poll line c.args.resource c.args.op c.args.task c.args.name.now c.args.ready
    (λ h. e.kept (ap (λ b. Ok b) h)) (λ h. e.refused (ap (λ b. Ok b) h)) (c.in-Ok-poll_of.ensures.0 ∙ c.in-Ok.ensures.1, c.in-Ok-poll_of.ensures.4) refl in
    (is_there _ _ r_is ∙ (is_there _ _ o_is ∙ (is_there _ _ t_is ∙ unspent i.recorder settings.capacity (numbers_of k.pasts) k kept stands.offered left)), one.0 ∷ [], one.1)

pub returns-in-Err : goal.returns-in-Err
returns-in-Err g c line settings k kept sent stands =
    let i = c.args.self.now in
    let e = c.in-Err.ensures in
    let r_is = each_there IsResource k.pasts.resources i.resources.items c.args.resource stands.holds.resources_are ∙ sym c.if-not-is_made.ensures.made in
    let o_is = each_there IsOp k.pasts.ops i.ops.items c.args.op stands.holds.ops_are ∙ sym c.if-not-is_made-2.ensures.made in
    let t_is = each_there IsTask k.pasts.tasks i.tasks.items c.args.task stands.holds.tasks_are.tasks_are ∙ sym c.if-not-is_made-3.ensures.made in
    inl (is_there _ _ r_is ∙ (is_there _ _ o_is ∙ (is_there _ _ t_is ∙ spent i.recorder settings.capacity (numbers_of k.pasts) k kept stands.offered (e.spent.0 refl))))

pub returns-then-not-is_made : goal.returns-then-not-is_made
returns-then-not-is_made g c line settings k kept sent stands =
    let i = c.args.self.now in
    let r_is = each_there IsResource k.pasts.resources i.resources.items c.args.resource stands.holds.resources_are ∙ sym c.is_made.ensures.made in
    let o_is = each_there IsOp k.pasts.ops i.ops.items c.args.op stands.holds.ops_are in
    let t_is = each_there IsTask k.pasts.tasks i.tasks.items c.args.task stands.holds.tasks_are.tasks_are in
    elim c.then-not-is_made.branch [
      | then-not-is_made-via-then-not-is_made w ↦ inl (isnt_there _ _ (r_is ∙ w.if-not-is_made.true))
      | then-not-is_made-via-else-not-is_made+then-not-is_made-2 w ↦ inl (is_there _ _ (r_is ∙ w.if-not-is_made.false) ∙ isnt_there _ _ (o_is ∙ sym w.is_made-else-not-is_made.ensures.made ∙ w.if-not-is_made-2.true))
      | then-not-is_made-via-else-not-is_made+else-not-is_made-2+then-not-is_made-3 w ↦ inl (is_there _ _ (r_is ∙ w.if-not-is_made.false) ∙ (is_there _ _ (o_is ∙ sym w.is_made-else-not-is_made.ensures.made ∙ w.if-not-is_made-2.false)
          ∙ isnt_there _ _ (t_is ∙ sym w.is_made-else-not-is_made-2.ensures.made ∙ w.if-not-is_made-3.true)))
    ]
