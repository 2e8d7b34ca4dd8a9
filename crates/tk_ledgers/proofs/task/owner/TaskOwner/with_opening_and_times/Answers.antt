use Rattle.std.proofs.Common.{ap, ◌∙◌}
use Rattle.tk_core.specs.declared.reply.Reply.{Reply}
use Rattle.tk_core.specs.declared.times.row.TimesRow.{TimesRow}
use Rattle.tk_core.specs.declared.times.call.TimesCall.{TimesCall}
use Rattle.tk_cell.specs.declared.view.View.{View}
use Rattle.tk_cell.specs.Views.{Known}
use Rattle.tk_ledgers.proofs.PollLemmas.{none_yet}
use Rattle.tk_ledgers.proofs.TaskPollLemmas.{task_polls}
use Rattle.tk_ledgers.proofs.TimedLemmas.{no_polls_yet}
use Rattle.tk_ledgers.proofs.task.owner.TaskOwner.with_opening_and_times.Goals as goal

pub invariant_of-result : goal.invariant_of-result
invariant_of-result g c =
    let unseen = ap (λ (t : Known _ _ _). t.view.seen) (c.new-3.ensures ∙ c.in_ok-ledger.ensures) in
    let e = c.in_ok-timed.ensures in (
      none_yet task_polls c.new-3.result.view unseen,
      no_polls_yet c.args.id c.new-3.result.view c.in_ok-timed.timed unseen e.id e.started
          (ap (λ (v : View TimesRow TimesCall (Reply TimesRow)). v.caller) e.opened)
          (ap (λ (v : View TimesRow TimesCall (Reply TimesRow)). v.seen) e.opened),
    )
