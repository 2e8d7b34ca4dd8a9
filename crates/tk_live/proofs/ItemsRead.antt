-- What stands after all items were read.
use Rattle.std.proofs.Common.{◌≡◌, List, length, Option, Some, sym, ap, ◌∙◌, subst}
use Rattle.std.specs.Prelude.{map}
use Rattle.std.specs.List.{AllByRecursion}
use Rattle.tk_events.specs.declared.event.Shown.{Shown}
use Rattle.tk_events.specs.declared.event.Shown.TheVariants.{MadeTask, MadeResource, MadeOp, Polled}
use Rattle.tk_events.specs.declared.item.Offer.{Offer}
use Rattle.tk_ledgers.specs.Ops.{OpSight}
use Rattle.tk_ledgers.specs.Resources.{ResourceSight}
use Rattle.tk_ledgers.specs.Tasks.{TaskSight}
use Rattle.tk_stream.specs.Lines.{task_info, resource_info, op_info}
use Rattle.tk_stream.specs.Tables.{task_id, resource_id, op_id}
use Rattle.tk_stream.specs.Times.{times_id}
use Rattle.tk_stream.specs.declared.tables.op.Op.{Op}
use Rattle.tk_stream.specs.declared.tables.resource.Resource.{Resource}
use Rattle.tk_stream.specs.declared.tables.task.Task.{Task}
use Rattle.tk_aggregator.specs.Absorbing.{infos_of}
use Rattle.tk_aggregator.specs.Aggregates.{Aggregating, IsSound, IsSameStream, ReadTask, ReadResource, ReadOp}
use Rattle.tk_live.specs.Items.{EachFrom, Holds, AreWakers, IsTask, IsResource, IsOp, IsSameTask, IsSameResource, IsSameOp, times_ledger_of}
use Rattle.tk_live.specs.Pasts.{TaskPast, Pasts, IsTaskRow, IsResourceRow, IsOpRow}
use Rattle.tk_live.specs.Ran.{IsCalledTask, IsCalledResource, IsCalledOp, AreCalled, IsPolledTask}
use Rattle.tk_live.specs.Read.{AreSame, AreReadTo, AreItemsRead}
use Rattle.tk_live.specs.Runs.{IsTaskLedger, IsResourceLedger, IsOpLedger, OffersLedger, AreLinked}
use Rattle.tk_live.specs.declared.interpreter.Interpreter.{Interpreter}
use Rattle.tk_live.specs.declared.items.OpItem.{OpItem}
use Rattle.tk_live.specs.declared.items.ResourceItem.{ResourceItem}
use Rattle.tk_live.specs.declared.items.TaskItem.{TaskItem}
use Rattle.tk_live.specs.declared.items.WakerItem.{WakerItem}
use Rattle.tk_live.proofs.Reading.{same_task_ids, task_then}
use Rattle.tk_live.proofs.Rows.{all_read, all_so, of_items, same_length, still_of}
use Rattle.tk_live.proofs.TimesRead.{all_polled}

module _ (i m : Interpreter) (read : AreItemsRead i m) where
  abbrev a : Aggregating
  a = i.aggregator

  abbrev b : Aggregating
  b = m.aggregator

  -- the tasks are the same, of which the hands made the same calls
  pub same_tasks : AreSame IsSameTask i.tasks.items m.tasks.items
  same_tasks n x named =
      let first = read.tasks.same n x named in
      let second = read.times.same n first.0 first.1 in
      (second.0, second.1, task_then x first.0 second.0 first.2 second.2)

  tasks_kept : (ps : List TaskPast) → EachFrom IsTask 1 ps i.tasks.items → EachFrom IsTask 1 ps m.tasks.items
  tasks_kept ps each = read.times.hands ps (read.tasks.hands ps each)

  -- each kind of items is as it was read
  tasks_shown : b.tables.tasks ≡ read.tasks_then.tables.tasks
  tasks_shown = ap (λ (x : Aggregating). x.tables.tasks) read.times.rest ∙ (ap (λ (x : Aggregating). x.tables.tasks) read.ops.rest ∙ (ap (λ (x : Aggregating). x.tables.tasks) read.resources.rest))

  resources_shown : b.tables.resources ≡ read.resources_then.tables.resources
  resources_shown = ap (λ (x : Aggregating). x.tables.resources) read.times.rest ∙ (ap (λ (x : Aggregating). x.tables.resources) read.ops.rest)

  ops_shown : b.tables.ops ≡ read.ops_then.tables.ops
  ops_shown = ap (λ (x : Aggregating). x.tables.ops) read.times.rest

  tasks_read : b.tasks ≡ read.tasks_then.tasks
  tasks_read = ap (λ (x : Aggregating). x.tasks) read.times.rest ∙ (ap (λ (x : Aggregating). x.tasks) read.ops.rest ∙ (ap (λ (x : Aggregating). x.tasks) read.resources.rest))

  resources_read : b.resources ≡ read.resources_then.resources
  resources_read = ap (λ (x : Aggregating). x.resources) read.times.rest ∙ (ap (λ (x : Aggregating). x.resources) read.ops.rest)

  ops_read : b.ops ≡ read.ops_then.ops
  ops_read = ap (λ (x : Aggregating). x.ops) read.times.rest

  -- and nothing else changed
  pub stream_stays : IsSameStream a b
  stream_stays = record {
    told = ap (λ (x : Aggregating). x.told) read.times.rest ∙ (ap (λ (x : Aggregating). x.told) read.ops.rest ∙ (ap (λ (x : Aggregating). x.told) read.resources.rest ∙ (ap (λ (x : Aggregating). x.told) read.tasks.rest)));
    last = ap (λ (x : Aggregating). x.last) read.times.rest ∙ (ap (λ (x : Aggregating). x.last) read.ops.rest ∙ (ap (λ (x : Aggregating). x.last) read.resources.rest ∙ (ap (λ (x : Aggregating). x.last) read.tasks.rest)));
    broken = ap (λ (x : Aggregating). x.broken) read.times.rest ∙ (ap (λ (x : Aggregating). x.broken) read.ops.rest ∙ (ap (λ (x : Aggregating). x.broken) read.resources.rest ∙ (ap (λ (x : Aggregating). x.broken) read.tasks.rest)));
    now = ap (λ (x : Aggregating). x.tables.now) read.times.rest ∙ (ap (λ (x : Aggregating). x.tables.now) read.ops.rest ∙ (ap (λ (x : Aggregating). x.tables.now) read.resources.rest ∙ (ap (λ (x : Aggregating). x.tables.now) read.tasks.rest)));
    retention = ap (λ (x : Aggregating). x.retention) read.times.rest ∙ (ap (λ (x : Aggregating). x.retention) read.ops.rest ∙ (ap (λ (x : Aggregating). x.retention) read.resources.rest ∙ (ap (λ (x : Aggregating). x.retention) read.tasks.rest)));
    reads = ap (λ (x : Aggregating). x.timing.reads) read.times.rest ∙ (ap (λ (x : Aggregating). x.timing.reads) read.ops.rest ∙ (ap (λ (x : Aggregating). x.timing.reads) read.resources.rest ∙ (ap (λ (x : Aggregating). x.timing.reads) read.tasks.rest)));
    times_told = ap (λ (x : Aggregating). x.timing.told) read.times.rest ∙ (ap (λ (x : Aggregating). x.timing.told) read.ops.rest ∙ (ap (λ (x : Aggregating). x.timing.told) read.resources.rest ∙ (ap (λ (x : Aggregating). x.timing.told) read.tasks.rest)));
  }

  pub held_stays : b.held ≡ a.held
  held_stays = ap (λ (x : Aggregating). x.held) read.times.rest ∙ (ap (λ (x : Aggregating). x.held) read.ops.rest ∙ (ap (λ (x : Aggregating). x.held) read.resources.rest ∙ (ap (λ (x : Aggregating). x.held) read.tasks.rest)))

  pub dropped_stays : b.tables.dropped ≡ a.tables.dropped
  dropped_stays =
      ap (λ (x : Aggregating). x.tables.dropped) read.times.rest ∙ (ap (λ (x : Aggregating). x.tables.dropped) read.ops.rest
      ∙ (ap (λ (x : Aggregating). x.tables.dropped) read.resources.rest ∙ ap (λ (x : Aggregating). x.tables.dropped) read.tasks.rest))

  task_infos_stay : map task_info b.tables.tasks ≡ map task_info a.tables.tasks
  task_infos_stay = ap (map task_info) tasks_shown ∙ read.tasks.infos

  pub infos_stay : infos_of b.tables ≡ infos_of a.tables
  infos_stay =
      let resources = ap (map resource_info) resources_shown ∙ (read.resources.infos ∙ ap (λ (x : Aggregating). map resource_info x.tables.resources) read.tasks.rest) in
      let ops = ap (map op_info) ops_shown ∙ (read.ops.infos ∙ (ap (λ (x : Aggregating). map op_info x.tables.ops) read.resources.rest ∙ ap (λ (x : Aggregating). map op_info x.tables.ops) read.tasks.rest)) in
      let counts = ap (λ (x : Aggregating). x.tables.counts) read.times.rest ∙ (ap (λ (x : Aggregating). x.tables.counts) read.ops.rest ∙ (ap (λ (x : Aggregating). x.tables.counts) read.resources.rest ∙ (ap (λ (x : Aggregating). x.tables.counts) read.tasks.rest))) in
      λ k. record { tasks = task_infos_stay k; resources = resources k; ops = ops k; counts = counts k }

  pub times_stay : map times_id a.timing.shown ≡ map task_id a.tables.tasks → map times_id b.timing.shown ≡ map task_id b.tables.tasks
  times_stay each =
      read.times.ids
      ∙ ((ap (λ (x : Aggregating). map times_id x.timing.shown) read.ops.rest ∙ (ap (λ (x : Aggregating). map times_id x.timing.shown) read.resources.rest ∙ (ap (λ (x : Aggregating). map times_id x.timing.shown) read.tasks.rest)))
      ∙ (each ∙ sym (same_task_ids a.tables.tasks b.tables.tasks task_infos_stay)))

  -- who reads is of the items
  tasks_are_of : AllByRecursion (λ (s : TaskSight). IsTaskLedger m.tasks.items s.id s.token.ledger) b.tasks
  tasks_are_of =
      let now = all_so (λ (s : TaskSight). IsTaskLedger read.items_then s.id s.token.ledger) (λ (s : TaskSight). IsTaskLedger m.tasks.items s.id s.token.ledger) (λ s is.
      still_of (λ (x : TaskItem). x.callers.token.ledger) IsSameTask (λ x y same. same.ledger) read.items_then m.tasks.items read.times.same s.id s.token.ledger is) read.tasks_then.tasks read.tasks.readers in
      subst (λ (ss : List TaskSight). AllByRecursion (λ (s : TaskSight). IsTaskLedger m.tasks.items s.id s.token.ledger) ss) (sym tasks_read) now

  resources_are_of : AllByRecursion (λ (s : ResourceSight). IsResourceLedger m.resources.items s.id s.token.ledger) b.resources
  resources_are_of = subst (λ (ss : List ResourceSight). AllByRecursion (λ (s : ResourceSight). IsResourceLedger m.resources.items s.id s.token.ledger) ss) (sym resources_read) read.resources.readers

  ops_are_of : AllByRecursion (λ (s : OpSight). IsOpLedger m.ops.items s.id s.token.ledger) b.ops
  ops_are_of = subst (λ (ss : List OpSight). AllByRecursion (λ (s : OpSight). IsOpLedger m.ops.items s.id s.token.ledger) ss) (sym ops_read) read.ops.readers

  -- each row is that of what was called on its item
  tasks_are_called : (ps : Pasts) → Holds i.tasks.items i.wakers.items i.resources.items i.ops.items ps → IsSound b → AllByRecursion (IsCalledTask ps) b.tables.tasks
  tasks_are_called ps holds sound =
      let each = holds.tasks_are.tasks_are in
      let rows = subst (λ (ts : List Task). AreReadTo task_id (λ p t. IsTaskRow p t.row) (length a.tables.tasks) ps.tasks ts) (sym tasks_shown) (read.tasks.rows ps.tasks each) in
      let many = same_length task_info b.tables.tasks a.tables.tasks task_infos_stay in
      let of = of_items task_id (λ (s : TaskSight). s.id) (λ (s : TaskSight). s.token.ledger) (λ (x : TaskItem). x.callers.token.ledger) ReadTask (λ t s p. p.0) m.tasks.items b.tables.tasks b.tasks sound.tasks tasks_are_of in
      all_read task_id (λ p t. IsTaskRow p t.row) (IsCalledTask ps) ps.tasks m.tasks.items IsTask (tasks_kept ps.tasks each) (λ t n p id past row. record { number = n; id = id; past = p; is_past = past; row = row }) b.tables.tasks (length a.tables.tasks) many of rows

  resources_are_called : (ps : Pasts) → Holds i.tasks.items i.wakers.items i.resources.items i.ops.items ps → IsSound b → AllByRecursion (IsCalledResource ps) b.tables.resources
  resources_are_called ps holds sound =
      let each = holds.resources_are in
      let rows = subst (λ (ts : List Resource). AreReadTo resource_id (λ p t. IsResourceRow p t.row) (length read.tasks_then.tables.resources) ps.resources ts) (sym resources_shown) (read.resources.rows ps.resources each) in
      let many = same_length resource_info b.tables.resources read.tasks_then.tables.resources (ap (map resource_info) resources_shown ∙ read.resources.infos) in
      let of = of_items resource_id (λ (s : ResourceSight). s.id) (λ (s : ResourceSight). s.token.ledger) (λ (x : ResourceItem). x.callers.token.ledger) ReadResource (λ t s p. p.0) m.resources.items b.tables.resources b.resources sound.resources resources_are_of in
      all_read resource_id (λ p t. IsResourceRow p t.row) (IsCalledResource ps) ps.resources m.resources.items IsResource (read.resources.hands ps.resources each) (λ t n p id past row. record { number = n; id = id; past = p; is_past = past; row = row }) b.tables.resources (length read.tasks_then.tables.resources) many of rows

  ops_are_called : (ps : Pasts) → Holds i.tasks.items i.wakers.items i.resources.items i.ops.items ps → IsSound b → AllByRecursion (IsCalledOp ps) b.tables.ops
  ops_are_called ps holds sound =
      let each = holds.ops_are in
      let rows = subst (λ (ts : List Op). AreReadTo op_id (λ p t. IsOpRow p t.row) (length read.resources_then.tables.ops) ps.ops ts) (sym ops_shown) (read.ops.rows ps.ops each) in
      let many = same_length op_info b.tables.ops read.resources_then.tables.ops (ap (map op_info) ops_shown ∙ read.ops.infos) in
      let of = of_items op_id (λ (s : OpSight). s.id) (λ (s : OpSight). s.token.ledger) (λ (x : OpItem). x.callers.token.ledger) ReadOp (λ t s p. p.0) m.ops.items b.tables.ops b.ops sound.ops ops_are_of in
      all_read op_id (λ p t. IsOpRow p t.row) (IsCalledOp ps) ps.ops m.ops.items IsOp (read.ops.hands ps.ops each) (λ t n p id past row. record { number = n; id = id; past = p; is_past = past; row = row }) b.tables.ops (length read.resources_then.tables.ops) many of rows

  -- and each histogram that of its task's polls
  pub are_polled : (ps : Pasts) → Holds i.tasks.items i.wakers.items i.resources.items i.ops.items ps → IsSound b → AllByRecursion (IsPolledTask ps) b.timing.shown
  are_polled ps holds sound =
      let many = same_length times_id b.timing.shown read.ops_then.timing.shown read.times.ids in
      all_polled ps read.items_then m.tasks.items read.times.same read.times.many (read.tasks.hands ps.tasks holds.tasks_are.tasks_are) b.timing.shown b.timing.readers (length read.ops_then.timing.shown) many sound.times read.times.readers read.times.rows

  pub are_called : (ps : Pasts) → Holds i.tasks.items i.wakers.items i.resources.items i.ops.items ps → IsSound b → AreCalled ps b.tables
  are_called ps holds sound = record { tasks = tasks_are_called ps holds sound; resources = resources_are_called ps holds sound; ops = ops_are_called ps holds sound }

  -- the hands are kept of the same items
  wakers_stay : (wakers : List (Option WakerItem)) → AreWakers i.tasks.items wakers → AreWakers m.tasks.items wakers
  wakers_stay wakers are = record {
    live = λ w x named.
        let there = are.live w x named in
        let now = same_tasks x.task there.0 there.1 in
        (now.0, now.1, now.2.live x.number there.2);
    apart = are.apart;
  }

  pub still_holds : (ps : Pasts) → Holds i.tasks.items i.wakers.items i.resources.items i.ops.items ps → Holds m.tasks.items i.wakers.items m.resources.items m.ops.items ps
  still_holds ps holds = record {
    tasks_are = record {
      tasks_are = tasks_kept ps.tasks holds.tasks_are.tasks_are;
      wakers_are = holds.tasks_are.wakers_are;
      are_live = wakers_stay i.wakers.items holds.tasks_are.are_live;
    };
    resources_are = read.resources.hands ps.resources holds.resources_are;
    ops_are = read.ops.hands ps.ops holds.ops_are;
  }

  -- and offers and readers are of them
  offer_stays : (e : Shown) → OffersLedger i.tasks.items i.resources.items i.ops.items e → OffersLedger m.tasks.items m.resources.items m.ops.items e
  offer_stays (MadeTask info ledger caller times) is = (
    still_of (λ (x : TaskItem). x.callers.token.ledger) IsSameTask (λ x y same. same.ledger) i.tasks.items m.tasks.items same_tasks info.id ledger is.0,
    λ histogram of. still_of times_ledger_of IsSameTask (λ x y same. same.times) i.tasks.items m.tasks.items same_tasks info.id (Some histogram) (is.1 histogram of),
  )
  offer_stays (MadeResource info ledger caller) is = still_of (λ (x : ResourceItem). x.callers.token.ledger) IsSameResource (λ x y same. same.ledger) i.resources.items m.resources.items read.resources.same info.id ledger is
  offer_stays (MadeOp info ledger caller) is = still_of (λ (x : OpItem). x.callers.token.ledger) IsSameOp (λ x y same. same.ledger) i.ops.items m.ops.items read.ops.same info.id ledger is
  offer_stays (Polled op) is = tt

  pub still_linked : (kept : List Offer) → AllByRecursion (λ (o : Offer). OffersLedger i.tasks.items i.resources.items i.ops.items o.event) kept → AreLinked m.tasks.items m.resources.items m.ops.items kept b
  still_linked kept offers = record {
    offers = all_so (λ (o : Offer). OffersLedger i.tasks.items i.resources.items i.ops.items o.event) (λ (o : Offer). OffersLedger m.tasks.items m.resources.items m.ops.items o.event) (λ o is. offer_stays o.event is) kept offers;
    task_readers = tasks_are_of;
    times_readers = read.times.readers;
    resource_readers = resources_are_of;
    op_readers = ops_are_of;
  }
