use Rattle.std.proofs.Common.{ℕ, refl, subst}
use Rattle.tk_core.specs.declared.reply.Reply.TheVariants.{Done}
use Rattle.tk_core.specs.declared.task.call.TaskCall.TheVariants.{PollEnd}
use Rattle.tk_live.specs.Items.{AddsTo}
use Rattle.tk_live.specs.declared.items.TaskItem.{TaskItem}
use Rattle.tk_live.proofs.Calling.{adds_ledger, busy_did, busy_didnt, ends_time, is_same_task}
use Rattle.tk_live.proofs.items.TaskItem.end.Goals as goal

pub returns-in-Ok-clause-did : goal.returns-in-Ok-clause-did
returns-in-Ok-clause-did g c =
    let old : TaskItem = c.args.self.now in
    let new : TaskItem = record old { callers = c.end_poll.new.self; times = c.add_time.new.times } in
    busy_did old new (PollEnd c.args.moment) c.requires c.in-Ok.ensures.ok.0 c.in-Ok.ensures.ok.1 c.end_poll.ensures.id refl (ends_time c.args.moment old new (subst (λ (t : ℕ). AddsTo old.times t c.add_time.new.times) c.saturating_sub.ensures c.add_time.ensures) refl)

pub returns-in-Ok-clause-same : goal.returns-in-Ok-clause-same
returns-in-Ok-clause-same g c =
    let old : TaskItem = c.args.self.now in
    is_same_task old (record old { callers = c.end_poll.new.self; times = c.add_time.new.times }) 0 (PollEnd c.args.moment) Done c.in-Ok.ensures.ok.1 refl c.end_poll.ensures.id c.end_poll.ensures.ledger
    (adds_ledger old.times _ c.add_time.new.times c.add_time.ensures)

pub returns-in-Err-clause-did : goal.returns-in-Err-clause-did
returns-in-Err-clause-did g c =
    let old : TaskItem = c.args.self.now in
    busy_didnt old (record old { callers = c.end_poll.new.self }) (PollEnd c.args.moment) c.requires c.in-Err.refusal c.in-Err.ensures.err.0 c.in-Err.ensures.err.1
