-- One reading beside a hand keeps what holds inside, and changes one row alone.
use Rattle.std.proofs.Common.{◌≡◌, ℕ, zero, suc, List, [], ◌∷◌, Some, None, set, refl, sym, ap, ap₂, ◌∙◌, subst}
use Rattle.std.specs.Prelude.{Bool, Option, slice_get}
use Rattle.tk_core.specs.declared.op.row.OpRow.{OpRow}
use Rattle.tk_core.specs.declared.resource.row.ResourceRow.{ResourceRow}
use Rattle.tk_core.specs.declared.task.row.TaskRow.{TaskRow}
use Rattle.tk_core.specs.OpMeaning.{op_meaning}
use Rattle.tk_core.specs.ResourceMeaning.{resource_meaning}
use Rattle.tk_core.specs.TaskMeaning.{task_meaning}
use Rattle.tk_events.specs.declared.event.Event.{Event}
use Rattle.tk_ledgers.specs.Ops.{OpSight}
use Rattle.tk_ledgers.specs.Resources.{ResourceSight}
use Rattle.tk_ledgers.specs.Tasks.{TaskSight}
use Rattle.tk_ledgers.specs.Times.{TimesSight, added_times}
use Rattle.tk_stream.specs.Applied.{Kind, task_kind, BeginWith}
use Rattle.tk_stream.specs.Fronts.{ToldView, task_at, resource_at, op_at, told_tables}
use Rattle.tk_stream.specs.Tables.{TablesView, changed_at}
use Rattle.tk_stream.specs.Times.{TaskTimes, times_with}
use Rattle.tk_stream.specs.declared.tables.times.PollTimes.{PollTimes}
use Rattle.tk_stream.specs.declared.tables.op.Op.{Op}
use Rattle.tk_stream.specs.declared.tables.resource.Resource.{Resource}
use Rattle.tk_stream.specs.declared.tables.task.Task.{Task}
use Rattle.tk_aggregator.specs.Aggregates.{Pairs, Aggregating, ReadTask, ReadResource, ReadOp}
use Rattle.tk_aggregator.specs.Beside.{IsAfter, ReadsBeside, ReadsTaskBeside, ReadsResourceBeside, ReadsOpBeside, StaysHand}
use Rattle.tk_aggregator.specs.Readings.{Reads, OnlyReads, task_ledger, resource_ledger, op_ledger}
use Rattle.tk_aggregator.specs.Standing.{IsStanding, TimesStand, ResourceFits, OpFits, TellsSame}
use Rattle.tk_aggregator.specs.Timing.{TimingView, ReadTimes, ReadsTimesBeside, times_ledger, times_of}
use Rattle.tk_aggregator.proofs.BesideLemmas.{handled_at, pairs_changed}
use Rattle.tk_aggregator.proofs.HandleLemmas.{reads_read, task_reads, resource_reads, op_reads, still_reads, task_draws_none, resource_draws_none, op_draws_none}
use Rattle.tk_aggregator.proofs.HandledLemmas.{Both, TasksStand, ResourcesStand, OpsStand, tasks_handled, resources_handled, ops_handled, tasks_stand, resources_stand, ops_stand}
use Rattle.tk_aggregator.proofs.StandingLemmas.{whole}
use Rattle.tk_aggregator.proofs.TimingLemmas.{AreKnown, known_later, times_reads}

module _ {Item Handle : Type 0} (P : Item → Handle → Type 0) where
  -- the item of the handle at a place
  pairs_at : (xs : List Item) (ss : List Handle) (i : ℕ) (s : Handle) → Pairs P xs ss → slice_get ss i ≡ Some s → (x : Item) × P x s
  pairs_at [] [] i s all is = absurd cc
  pairs_at [] (t ∷ ss) i s all is = absurd all
  pairs_at (x ∷ xs) [] i s all is = absurd all
  pairs_at (x ∷ xs) (t ∷ ss) zero s all is = let same : t ≡ s = cc in (x, subst (λ (u : Handle). P x u) same all.0)
  pairs_at (x ∷ xs) (t ∷ ss) (suc i) s all is = pairs_at xs ss i s all.1 is

begins_all : {Item Info Stats : Type 0} (k : Kind Item Info Stats) (xs : List Item) → BeginWith k xs xs
begins_all k [] = tt
begins_all k (x ∷ xs) = (refl, begins_all k xs)

pub begins_changed : {Item Info Stats : Type 0} (k : Kind Item Info Stats) (change : Item → Item) → ((x : Item) → k.info_of x ≡ k.info_of (change x)) → (xs : List Item) (i : ℕ) → BeginWith k xs (changed_at change xs i)
begins_changed k change same [] i = tt
begins_changed k change same (x ∷ xs) zero = (same x, begins_all k xs)
begins_changed k change same (x ∷ xs) (suc i) = (refl, begins_changed k change same xs i)

-- ---- a task

module _ (shown : TablesView) (telling : ToldView) (tasks : List TaskSight) (resources : List ResourceSight) (ops : List OpSight) (held : Option Event) (last : ℕ) (stands : IsStanding shown telling tasks resources ops held last)
    (now : TablesView) (view : ToldView) (place : ℕ) (row : TaskRow) (hand hand_then reader read : TaskSight) (hs : List TaskSight) (there : slice_get tasks place ≡ Some reader) (beside : ReadsBeside task_ledger hand reader row hand_then read)
    (e_hs : hs ≡ set tasks place read) (e : now ≡ record shown { tasks = changed_at (λ x. task_at x row) shown.tasks place }) (alone : view ≡ record telling { tasks = view.tasks })
    (alike : TellsSame task_at shown.tasks telling.tasks now.tasks view.tasks) where
  task_now : TasksStand shown telling tasks resources ops held last (changed_at (λ x. task_at x row) shown.tasks place) view.tasks (set tasks place read)
  task_now =
      let reading = beside.reading in
      let same : TellsSame task_at shown.tasks telling.tasks (changed_at (λ x. task_at x row) shown.tasks place) view.tasks = subst (λ (t : TablesView). TellsSame task_at shown.tasks telling.tasks t.tasks view.tasks) e alike in
      tasks_stand shown telling tasks resources ops held last stands (changed_at (λ x. task_at x row) shown.tasks place) view.tasks (set tasks place read)
      (handled_at task_at ReadTask shown.tasks telling.tasks tasks (tasks_handled shown telling tasks resources ops held last stands) place row reader read view.tasks there
      (λ x p. (reading.id ∙ p.0, reads_read task_ledger task_reads reader row read reading, still_reads task_ledger task_draws_none reader row read p.2 reading)) same)
      same.same

  pub task_at_stands : IsStanding now view hs resources ops held last
  task_at_stands =
      subst (λ (t : TablesView). IsStanding t view hs resources ops held last) (sym e)
      (subst (λ (v : ToldView). IsStanding (record shown { tasks = changed_at (λ x. task_at x row) shown.tasks place }) v hs resources ops held last) (sym alone)
      (subst (λ (l : List TaskSight). IsStanding (record shown { tasks = changed_at (λ x. task_at x row) shown.tasks place }) (record telling { tasks = view.tasks }) l resources ops held last) (sym e_hs) task_now.0))

  task_only : OnlyReads task_ledger reader
  task_only = (pairs_at ReadTask shown.tasks tasks place reader stands.tasks there).1.2

  pub task_stays_hand : StaysHand task_meaning hand hand_then
  task_stays_hand = record { id = beside.id; ledger = beside.ledger; live = beside.live; called = λ opening calls has. (beside.called task_only opening calls has).0 }

  pub task_reads_beside : (broken : Bool) (retention : Option ℕ) (timing : TimingView) → ReadsTaskBeside hand (whole shown telling tasks resources ops held last broken retention timing) (whole now view hs resources ops held last broken retention timing) (Some place)
  task_reads_beside broken retention timing = (
    row,
    (reader, read, there, beside.reading, e_hs),
    λ opening calls has. (beside.called task_only opening calls has).1,
    λ i. record {
      tables = e i;
      told = (ap₂ told_tables alone e ∙ task_now.1) i;
      tasks = hs;
      resources = resources;
      ops = ops;
      held = held;
      last = last;
      broken = broken;
      retention = retention;
      timing = timing;
    },
  )

-- ---- a resource

module _ (shown : TablesView) (telling : ToldView) (tasks : List TaskSight) (resources : List ResourceSight) (ops : List OpSight) (held : Option Event) (last : ℕ) (stands : IsStanding shown telling tasks resources ops held last)
    (now : TablesView) (view : ToldView) (place : ℕ) (row : ResourceRow) (hand hand_then reader read : ResourceSight) (hs : List ResourceSight) (there : slice_get resources place ≡ Some reader) (beside : ReadsBeside resource_ledger hand reader row hand_then read)
    (e_hs : hs ≡ set resources place read) (e : now ≡ record shown { resources = changed_at (λ x. resource_at x row) shown.resources place }) (alone : view ≡ record telling { resources = view.resources })
    (alike : TellsSame resource_at shown.resources telling.resources now.resources view.resources) where
  resource_now : ResourcesStand shown telling tasks resources ops held last (changed_at (λ x. resource_at x row) shown.resources place) view.resources (set resources place read)
  resource_now =
      let reading = beside.reading in
      let same : TellsSame resource_at shown.resources telling.resources (changed_at (λ x. resource_at x row) shown.resources place) view.resources = subst (λ (t : TablesView). TellsSame resource_at shown.resources telling.resources t.resources view.resources) e alike in
      resources_stand shown telling tasks resources ops held last stands (changed_at (λ x. resource_at x row) shown.resources place) view.resources (set resources place read)
      (handled_at resource_at (Both ReadResource ResourceFits) shown.resources telling.resources resources (resources_handled shown telling tasks resources ops held last stands) place row reader read view.resources there
      (λ x p. ((reading.id ∙ p.0.0, reads_read resource_ledger resource_reads reader row read reading, still_reads resource_ledger resource_draws_none reader row read p.0.2 reading), (reading.id ∙ p.1.0, (p.1.1.0, reading.entry.same_opening ∙ p.1.1.1, p.1.1.2)))) same)
      same.same

  pub resource_at_stands : IsStanding now view tasks hs ops held last
  resource_at_stands =
      subst (λ (t : TablesView). IsStanding t view tasks hs ops held last) (sym e)
      (subst (λ (v : ToldView). IsStanding (record shown { resources = changed_at (λ x. resource_at x row) shown.resources place }) v tasks hs ops held last) (sym alone)
      (subst (λ (l : List ResourceSight). IsStanding (record shown { resources = changed_at (λ x. resource_at x row) shown.resources place }) (record telling { resources = view.resources }) tasks l ops held last) (sym e_hs) resource_now.0))

  resource_only : OnlyReads resource_ledger reader
  resource_only = (pairs_at ReadResource shown.resources resources place reader stands.resources there).1.2

  pub resource_stays_hand : StaysHand resource_meaning hand hand_then
  resource_stays_hand = record { id = beside.id; ledger = beside.ledger; live = beside.live; called = λ opening calls has. (beside.called resource_only opening calls has).0 }

  pub resource_reads_beside : (broken : Bool) (retention : Option ℕ) (timing : TimingView) → ReadsResourceBeside hand (whole shown telling tasks resources ops held last broken retention timing) (whole now view tasks hs ops held last broken retention timing) (Some place)
  resource_reads_beside broken retention timing = (
    row,
    (reader, read, there, beside.reading, e_hs),
    λ opening calls has. (beside.called resource_only opening calls has).1,
    λ i. record {
      tables = e i;
      told = (ap₂ told_tables alone e ∙ resource_now.1) i;
      tasks = tasks;
      resources = hs;
      ops = ops;
      held = held;
      last = last;
      broken = broken;
      retention = retention;
      timing = timing;
    },
  )

-- ---- an async operation

module _ (shown : TablesView) (telling : ToldView) (tasks : List TaskSight) (resources : List ResourceSight) (ops : List OpSight) (held : Option Event) (last : ℕ) (stands : IsStanding shown telling tasks resources ops held last)
    (now : TablesView) (view : ToldView) (place : ℕ) (row : OpRow) (hand hand_then reader read : OpSight) (hs : List OpSight) (there : slice_get ops place ≡ Some reader) (beside : ReadsBeside op_ledger hand reader row hand_then read)
    (e_hs : hs ≡ set ops place read) (e : now ≡ record shown { ops = changed_at (λ x. op_at x row) shown.ops place }) (alone : view ≡ record telling { ops = view.ops })
    (alike : TellsSame op_at shown.ops telling.ops now.ops view.ops) where
  op_now : OpsStand shown telling tasks resources ops held last (changed_at (λ x. op_at x row) shown.ops place) view.ops (set ops place read)
  op_now =
      let reading = beside.reading in
      let same : TellsSame op_at shown.ops telling.ops (changed_at (λ x. op_at x row) shown.ops place) view.ops = subst (λ (t : TablesView). TellsSame op_at shown.ops telling.ops t.ops view.ops) e alike in
      ops_stand shown telling tasks resources ops held last stands (changed_at (λ x. op_at x row) shown.ops place) view.ops (set ops place read)
      (handled_at op_at (Both ReadOp OpFits) shown.ops telling.ops ops (ops_handled shown telling tasks resources ops held last stands) place row reader read view.ops there
      (λ x p. ((reading.id ∙ p.0.0, reads_read op_ledger op_reads reader row read reading, still_reads op_ledger op_draws_none reader row read p.0.2 reading), (reading.id ∙ p.1.0, (p.1.1.0, reading.entry.same_opening ∙ p.1.1.1, p.1.1.2)))) same)
      same.same

  pub op_at_stands : IsStanding now view tasks resources hs held last
  op_at_stands =
      subst (λ (t : TablesView). IsStanding t view tasks resources hs held last) (sym e)
      (subst (λ (v : ToldView). IsStanding (record shown { ops = changed_at (λ x. op_at x row) shown.ops place }) v tasks resources hs held last) (sym alone)
      (subst (λ (l : List OpSight). IsStanding (record shown { ops = changed_at (λ x. op_at x row) shown.ops place }) (record telling { ops = view.ops }) tasks resources l held last) (sym e_hs) op_now.0))

  op_only : OnlyReads op_ledger reader
  op_only = (pairs_at ReadOp shown.ops ops place reader stands.ops there).1.2

  pub op_stays_hand : StaysHand op_meaning hand hand_then
  op_stays_hand = record { id = beside.id; ledger = beside.ledger; live = beside.live; called = λ opening calls has. (beside.called op_only opening calls has).0 }

  pub op_reads_beside : (broken : Bool) (retention : Option ℕ) (timing : TimingView) → ReadsOpBeside hand (whole shown telling tasks resources ops held last broken retention timing) (whole now view tasks resources hs held last broken retention timing) (Some place)
  op_reads_beside broken retention timing = (
    row,
    (reader, read, there, beside.reading, e_hs),
    λ opening calls has. (beside.called op_only opening calls has).1,
    λ i. record {
      tables = e i;
      told = (ap₂ told_tables alone e ∙ op_now.1) i;
      tasks = tasks;
      resources = resources;
      ops = hs;
      held = held;
      last = last;
      broken = broken;
      retention = retention;
      timing = timing;
    },
  )

-- ---- a histogram, beside its owner

known_changed : (tasks : List Task) (xs : List TaskTimes) (i : ℕ) (times : PollTimes) → AreKnown tasks xs → AreKnown tasks (changed_at (λ x. times_with x times) xs i)
known_changed tasks [] i times known = tt
known_changed tasks (x ∷ xs) zero times known = (known.0, known.1)
known_changed tasks (x ∷ xs) (suc i) times known = (known.0, known_changed tasks xs i times known.1)

-- it is of the same task, and its reader read it
pub times_at_stand : (tasks : List Task) (owner : TimesSight) (t u : TimingView) (place : Option ℕ) → ReadsTimesBeside owner t u place → TimesStand tasks t → TimesStand tasks u
times_at_stand tasks owner t u None reads stands = subst (λ (x : TimingView). TimesStand tasks x) (sym reads) stands
times_at_stand tasks owner t u (Some i) reads stands =
    let times = times_of (added_times owner.token) in
    let read = reads.3 in
    subst (λ (x : TimingView). TimesStand tasks x) (sym reads.4) (record {
      pairs = pairs_changed ReadTimes t.shown t.readers i (λ x. times_with x times) reads.0 reads.1 stands.pairs reads.2
          (λ x p. (read.2.id ∙ p.0, (read.0, read.1, reads_read times_ledger times_reads reads.0 read.0 reads.1 read.2)));
      known = known_changed tasks t.shown i times stands.known;
    })

-- histograms stay those of the tasks
pub task_at_times : (shown now : TablesView) (place : ℕ) (row : TaskRow) → now ≡ record shown { tasks = changed_at (λ x. task_at x row) shown.tasks place } → (t : TimingView) → TimesStand shown.tasks t → TimesStand now.tasks t
task_at_times shown now place row e t stands = subst (λ (x : TablesView). TimesStand x.tasks t) (sym e) (record {
  pairs = stands.pairs;
  known = known_later shown.tasks (changed_at (λ x. task_at x row) shown.tasks place) t.shown (begins_changed task_kind (λ x. task_at x row) (λ x. refl) shown.tasks place) stands.known;
})
