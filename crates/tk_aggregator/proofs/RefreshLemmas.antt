-- Reading the handles of each kind keeps what holds inside, and changes rows alone.
use Rattle.std.proofs.Common.{◌≡◌, ℕ, List, [], ◌∷◌, length, Bool, refl, sym, ap, ap₂, ◌∙◌, subst, arith}
use Rattle.std.specs.Prelude.{Option, map}
use Rattle.tk_core.specs.declared.op.row.OpRow.{OpRow}
use Rattle.tk_core.specs.declared.resource.row.ResourceRow.{ResourceRow}
use Rattle.tk_core.specs.declared.task.row.TaskRow.{TaskRow}
use Rattle.tk_events.specs.declared.event.Event.{Event}
use Rattle.tk_ledgers.specs.Ops.{OpSight}
use Rattle.tk_ledgers.specs.Resources.{ResourceSight}
use Rattle.tk_ledgers.specs.Tasks.{TaskSight}
use Rattle.tk_aggregator.specs.Absorbing.{infos_of}
use Rattle.tk_aggregator.proofs.TimingLemmas.{AreKnown, known_later, known_rows, readers_read}
use Rattle.tk_aggregator.specs.Aggregates.{Pairs, Aggregating, IsSound, IsLaterOf, IsSameStream, ReadTask, ReadResource, ReadOp, ReadsTasks, ReadsResources, ReadsOps, ReadsHistograms, Refreshes}
use Rattle.tk_stream.specs.Applied.{Kind, task_kind, resource_kind, op_kind, counts_kind, times_kind, BeginWith}
use Rattle.tk_stream.specs.Fronts.{ToldView, with_rows, task_at, resource_at, op_at, told_tables}
use Rattle.tk_aggregator.specs.Readings.{ReadAll, Reads, task_ledger, resource_ledger, op_ledger}
use Rattle.tk_aggregator.specs.Standing.{IsStanding, ResourceFits, OpFits, TellsSame, TimesStand}
use Rattle.tk_stream.specs.Tables.{TablesView}
use Rattle.tk_stream.specs.declared.tables.op.Op.{Op}
use Rattle.tk_stream.specs.declared.tables.resource.Resource.{Resource}
use Rattle.tk_stream.specs.declared.tables.task.Task.{Task}
use Rattle.tk_aggregator.proofs.HandleLemmas.{reads_read, task_reads, resource_reads, op_reads, still_reads, task_draws_none, resource_draws_none, op_draws_none, all_later}
use Rattle.tk_aggregator.proofs.HandledLemmas.{Both, TasksStand, ResourcesStand, OpsStand, pairs-count, rows-count, holds_read, tasks_handled, resources_handled, ops_handled, tasks_stand, resources_stand, ops_stand}
use Rattle.tk_aggregator.proofs.StandingLemmas.{whole}
use Rattle.tk_aggregator.specs.Timing.{TimingView, times_ledger, ReadTimes, ReadsTimes}
use Rattle.tk_stream.specs.Times.{times_shown, times_with}
use Rattle.std.proofs.lemmas.List.{length-map}

pub begins_rows : {Item Info Stats Row : Type 0} (k : Kind Item Info Stats) (with_row : Item → Row → Item) → ((x : Item) (r : Row) → k.info_of x ≡ k.info_of (with_row x r))
    → (xs : List Item) (rs : List Row) → length xs ≡ length rs → BeginWith k xs (with_rows with_row xs rs)
begins_rows k with_row same [] rs e = tt
begins_rows k with_row same (x ∷ xs) [] e = absurd (omega (arith, e))
begins_rows k with_row same (x ∷ xs) (r ∷ rs) e = (same x r, begins_rows k with_row same xs rs (omega (arith, e)))

pub begins_itself : {Item Info Stats : Type 0} (k : Kind Item Info Stats) (xs : List Item) → BeginWith k xs xs
begins_itself k [] = tt
begins_itself k (x ∷ xs) = (refl, begins_itself k xs)

pub map_rows : {Item Info Row : Type 0} (info_of : Item → Info) (with_row : Item → Row → Item) → ((x : Item) (r : Row) → info_of (with_row x r) ≡ info_of x)
    → (xs : List Item) (rs : List Row) → length xs ≡ length rs → map info_of (with_rows with_row xs rs) ≡ map info_of xs
map_rows info_of with_row same [] [] e = refl
map_rows info_of with_row same [] (r ∷ rs) e = refl
map_rows info_of with_row same (x ∷ xs) [] e = absurd (omega (arith, e))
map_rows info_of with_row same (x ∷ xs) (r ∷ rs) e = ap₂ (λ y ys. y ∷ ys) (same x r) (map_rows info_of with_row same xs rs (omega (arith, e)))

-- ---- what holds inside where each handle of a kind read

module _ (shown : TablesView) (telling : ToldView) (tasks : List TaskSight) (resources : List ResourceSight) (ops : List OpSight) (held : Option Event) (last : ℕ) (stands : IsStanding shown telling tasks resources ops held last)
    (now : TablesView) (view : ToldView) where
  module _ (rows : List TaskRow) (read : List TaskSight) (each : ReadAll task_ledger tasks rows read) (e : now ≡ record shown { tasks = with_rows task_at shown.tasks rows }) (alone : view ≡ record telling { tasks = view.tasks })
      (alike : TellsSame task_at shown.tasks telling.tasks now.tasks view.tasks) where
    tasks_now : TasksStand shown telling tasks resources ops held last (with_rows task_at shown.tasks rows) view.tasks read
    tasks_now =
        holds_read task_at ReadTask shown.tasks telling.tasks tasks (tasks_handled shown telling tasks resources ops held last stands) (TasksStand shown telling tasks resources ops held last) (tasks_stand shown telling tasks resources ops held last stands)
        (Reads task_ledger) (λ x s r t p q. (q.id ∙ p.0, reads_read task_ledger task_reads s r t q, still_reads task_ledger task_draws_none s r t p.2 q)) rows read view.tasks each (subst (λ (t : TablesView). TellsSame task_at shown.tasks telling.tasks t.tasks view.tasks) e alike)

    pub tasks_standing : IsStanding now view read resources ops held last
    tasks_standing =
        subst (λ (t : TablesView). IsStanding t view read resources ops held last) (sym e)
        (subst (λ (v : ToldView). IsStanding (record shown { tasks = with_rows task_at shown.tasks rows }) v read resources ops held last) (sym alone) tasks_now.0)

    pub tasks_read : (broken : Bool) (retention : Option ℕ) (timing : TimingView) → ReadsTasks (whole shown telling tasks resources ops held last broken retention timing) (whole now view read resources ops held last broken retention timing)
    tasks_read broken retention timing = (rows, each, λ i. record { tables = e i; told = (ap₂ told_tables alone e ∙ tasks_now.1) i; tasks = read; resources = resources; ops = ops; held = held; last = last; broken = broken; retention = retention; timing = timing })

  module _ (rows : List ResourceRow) (read : List ResourceSight) (each : ReadAll resource_ledger resources rows read) (e : now ≡ record shown { resources = with_rows resource_at shown.resources rows }) (alone : view ≡ record telling { resources = view.resources })
      (alike : TellsSame resource_at shown.resources telling.resources now.resources view.resources) where
    resources_now : ResourcesStand shown telling tasks resources ops held last (with_rows resource_at shown.resources rows) view.resources read
    resources_now =
        holds_read resource_at (Both ReadResource ResourceFits) shown.resources telling.resources resources (resources_handled shown telling tasks resources ops held last stands) (ResourcesStand shown telling tasks resources ops held last) (resources_stand shown telling tasks resources ops held last stands)
        (Reads resource_ledger) (λ x s r t p q. ((q.id ∙ p.0.0, reads_read resource_ledger resource_reads s r t q, still_reads resource_ledger resource_draws_none s r t p.0.2 q), (q.id ∙ p.1.0, (p.1.1.0, q.entry.same_opening ∙ p.1.1.1, p.1.1.2)))) rows read view.resources each (subst (λ (t : TablesView). TellsSame resource_at shown.resources telling.resources t.resources view.resources) e alike)

    pub resources_standing : IsStanding now view tasks read ops held last
    resources_standing =
        subst (λ (t : TablesView). IsStanding t view tasks read ops held last) (sym e)
        (subst (λ (v : ToldView). IsStanding (record shown { resources = with_rows resource_at shown.resources rows }) v tasks read ops held last) (sym alone) resources_now.0)

    pub resources_read : (broken : Bool) (retention : Option ℕ) (timing : TimingView) → ReadsResources (whole shown telling tasks resources ops held last broken retention timing) (whole now view tasks read ops held last broken retention timing)
    resources_read broken retention timing = (rows, each, λ i. record { tables = e i; told = (ap₂ told_tables alone e ∙ resources_now.1) i; tasks = tasks; resources = read; ops = ops; held = held; last = last; broken = broken; retention = retention; timing = timing })

  module _ (rows : List OpRow) (read : List OpSight) (each : ReadAll op_ledger ops rows read) (e : now ≡ record shown { ops = with_rows op_at shown.ops rows }) (alone : view ≡ record telling { ops = view.ops })
      (alike : TellsSame op_at shown.ops telling.ops now.ops view.ops) where
    ops_now : OpsStand shown telling tasks resources ops held last (with_rows op_at shown.ops rows) view.ops read
    ops_now =
        holds_read op_at (Both ReadOp OpFits) shown.ops telling.ops ops (ops_handled shown telling tasks resources ops held last stands) (OpsStand shown telling tasks resources ops held last) (ops_stand shown telling tasks resources ops held last stands)
        (Reads op_ledger) (λ x s r t p q. ((q.id ∙ p.0.0, reads_read op_ledger op_reads s r t q, still_reads op_ledger op_draws_none s r t p.0.2 q), (q.id ∙ p.1.0, (p.1.1.0, q.entry.same_opening ∙ p.1.1.1, p.1.1.2)))) rows read view.ops each (subst (λ (t : TablesView). TellsSame op_at shown.ops telling.ops t.ops view.ops) e alike)

    pub ops_standing : IsStanding now view tasks resources read held last
    ops_standing =
        subst (λ (t : TablesView). IsStanding t view tasks resources read held last) (sym e)
        (subst (λ (v : ToldView). IsStanding (record shown { ops = with_rows op_at shown.ops rows }) v tasks resources read held last) (sym alone) ops_now.0)

    pub ops_read : (broken : Bool) (retention : Option ℕ) (timing : TimingView) → ReadsOps (whole shown telling tasks resources ops held last broken retention timing) (whole now view tasks resources read held last broken retention timing)
    ops_read broken retention timing = (rows, each, λ i. record { tables = e i; told = (ap₂ told_tables alone e ∙ ops_now.1) i; tasks = tasks; resources = resources; ops = read; held = held; last = last; broken = broken; retention = retention; timing = timing })

-- histograms stay those of the tasks that were read
pub tasks_times : (shown now : TablesView) (tasks : List TaskSight) (rows : List TaskRow) (read : List TaskSight) → Pairs ReadTask shown.tasks tasks → ReadAll task_ledger tasks rows read
    → now ≡ record shown { tasks = with_rows task_at shown.tasks rows } → (t : TimingView) → TimesStand shown.tasks t → TimesStand now.tasks t
tasks_times shown now tasks rows read pairs each e t stands =
    subst (λ (x : TablesView). TimesStand x.tasks t) (sym e) (record {
      pairs = stands.pairs;
      known = known_later shown.tasks (with_rows task_at shown.tasks rows) t.shown
          (begins_rows task_kind task_at (λ x q. refl) shown.tasks rows (sym (pairs-count ReadTask shown.tasks tasks pairs) ∙ rows-count (Reads task_ledger) tasks rows read each)) stands.known;
    })

-- histograms that were read are of the same tasks
pub times_read : (tasks : List Task) (t u : TimingView) → ReadsTimes t u → TimesStand tasks t → TimesStand tasks u
times_read tasks t u reads stands = record {
  pairs = readers_read t u stands.pairs reads;
  known = subst (λ (x : TimingView). AreKnown tasks x.shown) (sym reads.2) (known_rows tasks t.shown (map times_shown reads.0) stands.known);
}

-- ---- all of them

pub refreshes : (a b c d e : Aggregating) → ReadsTasks a b → ReadsResources b c → ReadsOps c d → ReadsHistograms d e → Refreshes a e
refreshes a b c d e tasks resources ops times =
    let e_tasks : e.tasks ≡ b.tasks = ap (λ x. x.tasks) times.1 ∙ ap (λ x. x.tasks) ops.2 ∙ ap (λ x. x.tasks) resources.2 in
    let e_resources : e.resources ≡ c.resources = ap (λ x. x.resources) times.1 ∙ ap (λ x. x.resources) ops.2 in
    let e_ops : e.ops ≡ d.ops = ap (λ x. x.ops) times.1 in
    let d_timing : d.timing ≡ a.timing = ap (λ x. x.timing) ops.2 ∙ ap (λ x. x.timing) resources.2 ∙ ap (λ x. x.timing) tasks.2 in
    record {
      task_rows = tasks.0;
      resource_rows = resources.0;
      op_rows = ops.0;
      tasks = subst (λ ts. ReadAll task_ledger a.tasks tasks.0 ts) (sym e_tasks) tasks.1;
      resources = subst (λ ss. ReadAll resource_ledger ss resources.0 e.resources) (ap (λ x. x.resources) tasks.2) (subst (λ ts. ReadAll resource_ledger b.resources resources.0 ts) (sym e_resources) resources.1);
      ops = subst (λ ss. ReadAll op_ledger ss ops.0 e.ops) (ap (λ x. x.ops) resources.2 ∙ ap (λ x. x.ops) tasks.2) (subst (λ ts. ReadAll op_ledger c.ops ops.0 ts) (sym e_ops) ops.1);
      times = subst (λ (t : TimingView). ReadsTimes t e.timing) d_timing times.0;
      now =
          times.1
          ∙ ap (λ (x : Aggregating). record x { timing = e.timing })
          (ops.2
          ∙ ap (λ (x : Aggregating). record x { tables = record x.tables { ops = with_rows op_at x.tables.ops ops.0 }; ops = d.ops })
          (resources.2 ∙ ap (λ (x : Aggregating). record x { tables = record x.tables { resources = with_rows resource_at x.tables.resources resources.0 }; resources = c.resources }) tasks.2))
          ∙ (λ i. record a {
            tables = record a.tables {
              tasks = with_rows task_at a.tables.tasks tasks.0;
              resources = with_rows resource_at a.tables.resources resources.0;
              ops = with_rows op_at a.tables.ops ops.0;
            };
            tasks = sym e_tasks i;
            resources = sym e_resources i;
            ops = sym e_ops i;
            timing = e.timing;
          });
    }

module _ (a d : Aggregating) (sound : IsSound a) (r : Refreshes a d) where
  task_count : length a.tables.tasks ≡ length r.task_rows
  task_count = sym (pairs-count ReadTask a.tables.tasks a.tasks sound.tasks) ∙ rows-count (Reads task_ledger) a.tasks r.task_rows d.tasks r.tasks

  resource_count : length a.tables.resources ≡ length r.resource_rows
  resource_count = sym (pairs-count ReadResource a.tables.resources a.resources sound.resources) ∙ rows-count (Reads resource_ledger) a.resources r.resource_rows d.resources r.resources

  op_count : length a.tables.ops ≡ length r.op_rows
  op_count = sym (pairs-count ReadOp a.tables.ops a.ops sound.ops) ∙ rows-count (Reads op_ledger) a.ops r.op_rows d.ops r.ops

  times_count : length a.timing.shown ≡ length (map times_shown r.times.0)
  times_count = sym (pairs-count ReadTimes a.timing.shown a.timing.readers sound.times) ∙ rows-count (Reads times_ledger) a.timing.readers r.times.0 d.timing.readers r.times.1 ∙ sym (length-map r.times.0 times_shown)

  pub refreshes_later : IsLaterOf a d
  refreshes_later = record {
    items = record {
      tasks = subst (λ (x : Aggregating). BeginWith task_kind a.tables.tasks x.tables.tasks) (sym r.now) (begins_rows task_kind task_at (λ x q. refl) a.tables.tasks r.task_rows task_count);
      resources = subst (λ (x : Aggregating). BeginWith resource_kind a.tables.resources x.tables.resources) (sym r.now) (begins_rows resource_kind resource_at (λ x q. refl) a.tables.resources r.resource_rows resource_count);
      ops = subst (λ (x : Aggregating). BeginWith op_kind a.tables.ops x.tables.ops) (sym r.now) (begins_rows op_kind op_at (λ x q. refl) a.tables.ops r.op_rows op_count);
      counts = subst (λ (x : Aggregating). BeginWith counts_kind a.tables.counts x.tables.counts) (sym r.now) (begins_itself counts_kind a.tables.counts);
    };
    tasks = all_later task_ledger a.tasks r.task_rows d.tasks r.tasks;
    resources = all_later resource_ledger a.resources r.resource_rows d.resources r.resources;
    ops = all_later op_ledger a.ops r.op_rows d.ops r.ops;
    times = subst (λ (t : TimingView). BeginWith times_kind a.timing.shown t.shown) (sym r.times.2) (begins_rows times_kind times_with (λ x q. refl) a.timing.shown (map times_shown r.times.0) times_count);
    readers = all_later times_ledger a.timing.readers r.times.0 d.timing.readers r.times.1;
  }

  pub refreshes_infos : infos_of d.tables ≡ infos_of a.tables
  refreshes_infos = ap (λ (x : Aggregating). infos_of x.tables) r.now ∙ (λ i. record {
    tasks = map_rows (λ (t : Task). t.info) task_at (λ x q. refl) a.tables.tasks r.task_rows task_count i;
    resources = map_rows (λ (t : Resource). t.info) resource_at (λ x q. refl) a.tables.resources r.resource_rows resource_count i;
    ops = map_rows (λ (t : Op). t.info) op_at (λ x q. refl) a.tables.ops r.op_rows op_count i;
    counts = a.tables.counts;
  })

  pub refreshes_stays : IsSameStream a d
  refreshes_stays = record { told = ap (λ x. x.told) r.now; last = ap (λ x. x.last) r.now; broken = ap (λ x. x.broken) r.now; now = ap (λ x. x.tables.now) r.now; retention = ap (λ x. x.retention) r.now; reads = ap (λ (t : TimingView). t.reads) r.times.2; times_told = ap (λ (t : TimingView). t.told) r.times.2 }
