use Rattle.std.proofs.Common.{ap, sym, subst, refl, ◌∙◌}
use Rattle.tk_core.specs.declared.task.call.TaskCall.TheVariants.{CloneWaker}
use Rattle.tk_core.specs.declared.reply.Reply.TheVariants.{Number}
use Rattle.tk_core.specs.TaskMeaning.{task_meaning}
use Rattle.tk_core.specs.Laws.TaskLaws.{numbers_are_new}
use Rattle.tk_cell.specs.Roles.{IsMadeBy}
use Rattle.tk_cell.proofs.RoleLemmas.{drawn_held, drawn_made}
use Rattle.tk_base_tests.proofs.tests.cells.threads.clone_waker.Goals as goal

pub split-token-requires-clause-held : goal.split-token-requires-clause-held
split-token-requires-clause-held g c = drawn_held task_meaning c.args.owner.now.view CloneWaker (Number c.in-Number.number) c.call.new.token.view c.in-Number.ensures.entry c.in-Number.number refl

pub invariant_of-result : goal.invariant_of-result
invariant_of-result g c =
    let given = c.split-token.ensures.given in (
      ap (λ k. k.ledger) given ∙ (c.call.ensures.own ∙ (c.requires.own ∙ sym c.in-Ok.ensures)),
      subst (λ k. IsMadeBy task_meaning CloneWaker k.view) (sym given)
          (drawn_made task_meaning c.args.owner.now.view CloneWaker (Number c.in-Number.number) c.call.new.token.view c.in-Number.ensures.entry c.in-Number.number refl numbers_are_new),
    )
