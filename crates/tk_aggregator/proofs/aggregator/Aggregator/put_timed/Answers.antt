use Rattle.std.proofs.Common.{◌≡◌, true, None, Some, refl, sym, ◌∙◌, subst}
use Rattle.tk_events.specs.declared.event.Event.TheVariants as events
use Rattle.tk_ledgers.specs.Handles.{sight_with}
use Rattle.tk_stream.specs.Tables.{TablesView, task_with}
use Rattle.tk_stream.specs.Times.{times_shown}
use Rattle.tk_aggregator.specs.Aggregates.{Aggregating, TakesIn}
use Rattle.tk_aggregator.specs.Standing.{TimesStand}
use Rattle.tk_aggregator.specs.Timing.{ReadTimes, timing_with}
use Rattle.tk_aggregator.proofs.HandledLemmas.{pairs-count}
use Rattle.tk_aggregator.proofs.StandingLemmas.{whole}
use Rattle.tk_aggregator.proofs.TakeInLemmas.{task_put_stands, task_put_takes, task_kept_stands, task_kept, times_with_task, takes_one, opened_count, opened_told, same_reading}
use Rattle.tk_aggregator.proofs.TimingLemmas.{unknown_absent, filled, cancelled}
use Rattle.tk_aggregator.proofs.aggregator.Aggregator.put_timed.Given.{Over}
use Rattle.tk_aggregator.proofs.aggregator.Aggregator.put_timed.Goals as goal

pub open-requires-clause-absent : goal.open-requires-clause-absent
open-requires-clause-absent g c =
    let a = c.self.inside in
    unknown_absent a.tables.tasks c.args.info.id a.timing.shown c.self.invariant.1.known (subst (λ (x : Aggregating). task_with c.args.info.id x.tables.tasks ≡ None) (sym c.self.view_is) c.requires.absent)

pub open-requires-clause-in_step : goal.open-requires-clause-in_step
open-requires-clause-in_step g c = pairs-count ReadTimes _ _ c.self.invariant.1.pairs

pub fill-requires : goal.fill-requires
fill-requires g c = opened_count c.self.inside.timing c.open.new.self c.args.info.id (pairs-count ReadTimes _ _ c.self.invariant.1.pairs) c.in-Ok.ensures.ok

pub cancel-requires : goal.cancel-requires
cancel-requires g c = opened_told c.self.inside.timing c.open.new.self c.args.info.id (pairs-count ReadTimes _ _ c.self.invariant.1.pairs) c.see.ensures.few c.in-Ok.ensures.ok

-- the histogram is the one that its reader read
read_in : (g : Over) (c : goal.After-fill g) → c.fill.new.self ≡ timing_with (c.args.info.id, times_shown c.fill.ensures.0) c.fill.ensures.1 c.self.inside.timing
read_in g c =
    let k = c.fill.ensures in
    filled c.self.inside.timing c.open.new.self c.fill.new.self c.args.info.id (times_shown k.0) k.1 (pairs-count ReadTimes _ _ c.self.invariant.1.pairs) c.in-Ok.ensures.ok k.3

pub invariant_of-self-in-Ok-put_task : goal.invariant_of-self-in-Ok-put_task
invariant_of-self-in-Ok-put_task g c =
    let a = c.self.inside in
    let k = c.in-Ok-put_task.ensures.ok in
    let read = c.fill.ensures in (
      task_put_stands a.tables a.told a.tasks.items a.resources.items a.ops.items a.held a.last c.self.invariant.0 c.put_task.new.told.tasks.room c.put_task.new.tables c.put_task.new.told c.put_task.new.handles.items c.put_task.ensures.told
          c.args.info c.args.handle k.0 k.1 c.requires.agrees k.2 k.3 k.4 c.in-Ok-put_task.ensures.room,
      times_with_task a.tables c.args.info k.0 c.put_task.new.tables k.3 a.timing c.fill.new.self c.args.reader read.0 read.1 c.requires.task read.2 (read_in g c) c.self.invariant.1,
    )

pub returns-in-Ok-put_task-clause-ok : goal.returns-in-Ok-put_task-clause-ok
returns-in-Ok-put_task-clause-ok g c =
    let a = c.self.inside in
    let k = c.in-Ok-put_task.ensures.ok in
    let read = c.fill.ensures in
    let handle = sight_with c.args.handle.id c.args.handle.token (Some c.args.reader.token) in
    subst (λ old. TakesIn old (events.Task c.args.info handle) (whole c.put_task.new.tables c.put_task.new.told c.put_task.new.handles.items a.resources.items a.ops.items a.held a.last a.broken a.retention c.fill.new.self)) c.self.view_is
    (task_put_takes a.tables a.told a.tasks.items a.resources.items a.ops.items a.held a.last c.self.invariant.0 c.put_task.new.told.tasks.room c.put_task.new.tables c.put_task.new.told c.put_task.new.handles.items c.put_task.ensures.told
    c.args.info handle k.0 k.1 c.requires.agrees (same_reading c.args.handle (Some c.args.reader.token) k.0 k.1 k.2) k.3 k.4 c.in-Ok-put_task.ensures.room a.broken a.retention a.timing c.fill.new.self
    (subst (λ (x : Aggregating). task_with c.args.info.id x.tables.tasks ≡ None) (sym c.self.view_is) c.requires.absent)
    (takes_one c.args.info.id c.args.reader.token a.timing c.fill.new.self c.args.reader read.0 read.1 (subst (λ (x : Aggregating). x.timing.reads ≡ true) (sym c.self.view_is) c.requires.reads) c.requires.task refl read.2 (read_in g c)))

-- at want of memory
cancelled_to : (g : Over) (c : goal.After-with_times-in-Err g) → c.cancel.new.self ≡ c.self.inside.timing
cancelled_to g c = cancelled c.self.inside.timing c.open.new.self c.cancel.new.self c.args.info.id (pairs-count ReadTimes _ _ c.self.invariant.1.pairs) c.in-Ok.ensures.ok c.cancel.ensures

pub invariant_of-self-in-Err : goal.invariant_of-self-in-Err
invariant_of-self-in-Err g c =
    let a = c.self.inside in
    let k = c.in-Err.ensures.err in (
      task_kept_stands a.tables a.told a.tasks.items a.resources.items a.ops.items a.held a.last c.self.invariant.0 c.put_task.new.told.tasks.room c.put_task.new.tables c.put_task.new.told c.put_task.new.handles.items c.put_task.ensures.told k.0 k.1 c.put_task.ensures.kept_room,
      subst (λ (t : TablesView). TimesStand t.tasks c.cancel.new.self) (sym k.0) (subst (TimesStand a.tables.tasks) (sym (cancelled_to g c)) c.self.invariant.1),
    )

pub returns-in-Err-clause-err : goal.returns-in-Err-clause-err
returns-in-Err-clause-err g c =
    let a = c.self.inside in
    let k = c.in-Err.ensures.err in
    task_kept a.tables c.put_task.new.tables a.told c.put_task.new.told c.put_task.new.told.tasks.room a.tasks.items c.put_task.new.handles.items a.resources.items a.ops.items a.held a.last a.broken a.retention
    a.timing c.cancel.new.self c.put_task.ensures.told k.0 k.1 (cancelled_to g c)
    ∙ c.self.view_is
