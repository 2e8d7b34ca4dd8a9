use Rattle.std.proofs.Common.{◌≡◌, false, None, ◌⊎◌, sym, subst}
use Rattle.tk_stream.specs.Tables.{task_with}
use Rattle.tk_events.specs.declared.event.Event.TheVariants as events
use Rattle.tk_aggregator.specs.Aggregates.{Aggregating, TakesIn}
use Rattle.tk_aggregator.proofs.StandingLemmas.{whole}
use Rattle.tk_aggregator.proofs.TakeInLemmas.{task_put_stands, task_put_takes, times_after_task, takes_none}
use Rattle.tk_aggregator.proofs.aggregator.Aggregator.put_untimed.Goals as goal

pub invariant_of-self-2 : goal.invariant_of-self-2
invariant_of-self-2 g c =
    let a = c.self.inside in
    let k = c.in_ok-put_task.ensures.ok in (
      task_put_stands a.tables a.told a.tasks.items a.resources.items a.ops.items a.held a.last c.self.invariant.0 c.put_task.new.told.tasks.room c.put_task.new.tables c.put_task.new.told c.put_task.new.handles.items c.put_task.ensures.told
          c.args.info c.args.handle k.0 k.1 c.requires.agrees k.2 k.3 k.4 c.in_ok-put_task.ensures.room,
      times_after_task a.tables c.args.info k.0 c.put_task.new.tables k.3 a.timing c.self.invariant.1,
    )

pub returns-clause-ok : goal.returns-clause-ok
returns-clause-ok g c =
    let a = c.self.inside in
    let k = c.in_ok-put_task.ensures.ok in
    subst (λ old. TakesIn old (events.Task c.args.info c.args.handle) (whole c.put_task.new.tables c.put_task.new.told c.put_task.new.handles.items a.resources.items a.ops.items a.held a.last a.broken a.retention a.timing)) c.self.view_is
    (task_put_takes a.tables a.told a.tasks.items a.resources.items a.ops.items a.held a.last c.self.invariant.0 c.put_task.new.told.tasks.room c.put_task.new.tables c.put_task.new.told c.put_task.new.handles.items c.put_task.ensures.told
    c.args.info c.args.handle k.0 k.1 c.requires.agrees k.2 k.3 k.4 c.in_ok-put_task.ensures.room a.broken a.retention a.timing a.timing
    (subst (λ (x : Aggregating). task_with c.args.info.id x.tables.tasks ≡ None) (sym c.self.view_is) c.requires.absent)
    (takes_none c.args.info.id c.args.handle.times a.timing (subst (λ (x : Aggregating). (x.timing.reads ≡ false) ⊎ (c.args.handle.times ≡ None)) (sym c.self.view_is) c.requires.untimed)))
