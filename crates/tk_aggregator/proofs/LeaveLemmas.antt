-- What leaves takes its handles along, and what stays stands as it stood.
use Rattle.std.proofs.Common.{◌≡◌, ℕ, ◌+◌, ◌^◌, ◌<◌, ◌≤◌, List, length, Bool, true, false, refl, sym, ap, ◌∙◌, subst, arith}
use Rattle.std.specs.Prelude.{Option, None, Some, is_some, filter}
use Rattle.std.proofs.lemmas.List.Sums.{length-filter, count_by-le-length}
use Rattle.tk_events.specs.declared.event.Event.{Event}
use Rattle.tk_ids.specs.declared.info.Dropped.{Dropped}
use Rattle.tk_ledgers.specs.Ops.{OpSight}
use Rattle.tk_ledgers.specs.Resources.{ResourceSight}
use Rattle.tk_ledgers.specs.Tasks.{TaskSight}
use Rattle.tk_aggregator.specs.Aggregates.{Aggregating, Pairs, ReadTask, ReadResource, ReadOp, without, pruned, left_at, due_at, leaving_at, untimed_at, having_told}
use Rattle.tk_aggregator.specs.Standing.{IsStanding, TimesStand, ResourceFits, OpFits}
use Rattle.tk_stream.specs.Applied.{without_gone}
use Rattle.tk_stream.specs.Fronts.{ToldView, told_tables, FitsIn, HaveRoom}
use Rattle.tk_stream.specs.Lines.{LineView, GoneView, none_gone}
use Rattle.tk_stream.specs.Retention.{line_pruned, prune}
use Rattle.tk_stream.specs.Streams.{line_untimed}
use Rattle.tk_stream.specs.Times.{times_id}
use Rattle.tk_ledgers.specs.Times.{TimesSight}
use Rattle.tk_stream.specs.Tables.{TablesView, task_id, resource_id, op_id, staying}
use Rattle.tk_stream.proofs.GoneLemmas.{staying_all}
use Rattle.tk_aggregator.proofs.PairLemmas.{pairs_stay}
use Rattle.tk_aggregator.proofs.StandingLemmas.{whole}
use Rattle.tk_aggregator.proofs.TimingLemmas.{known_stay, readers_stay}
use Rattle.tk_aggregator.specs.Timing.{TimingView, timing_told}

-- no more stay than there were
fewer : {A : Type 0} (p : A → Bool) (xs : List A) (room : ℕ) → length xs ≤ room → length (filter p xs) ≤ room
fewer p xs room le =
    let a = length-filter p xs in
    let b = count_by-le-length p xs in
    omega (arith, a, b, le)

-- ---- after a line

-- the tables that are told
pub told_of : (shown : TablesView) (gone : GoneView) (moment : ℕ) (removed : TablesView) (dropped : Dropped) (now : TablesView) → removed ≡ without_gone shown gone → dropped ≡ removed.dropped → now ≡ record removed { dropped = dropped; now = moment }
    → now ≡ record (without_gone shown gone) { now = moment }
told_of shown gone moment removed dropped now is same told =
    told ∙ ap (λ d. record removed { dropped = d; now = moment }) same ∙ ap (λ (t : TablesView). record t { now = moment }) is

module _ (shown : TablesView) (telling : ToldView) (tasks : List TaskSight) (resources : List ResourceSight) (ops : List OpSight) (held : Option Event) (last : ℕ) (stands : IsStanding shown telling tasks resources ops held last)
    (gone : GoneView) (moment : ℕ) (now : TablesView) (is : now ≡ record (without_gone shown gone) { now = moment }) where
  -- there is room to tell what stays
  pub less_room : HaveRoom telling now
  less_room = subst (λ (t : TablesView). HaveRoom telling t) (sym is) (record {
    tasks = fewer _ shown.tasks telling.tasks.room stands.room.tasks;
    resources = fewer _ shown.resources telling.resources.room stands.room.resources;
    ops = fewer _ shown.ops telling.ops.room stands.room.ops;
    counts = stands.room.counts;
  })

  module _ (task_handles : List TaskSight) (resource_handles : List ResourceSight) (op_handles : List OpSight)
      (tasks_are : task_handles ≡ staying (λ (s : TaskSight). s.id) gone.tasks tasks)
      (resources_are : resource_handles ≡ staying (λ (s : ResourceSight). s.id) gone.resources resources)
      (ops_are : op_handles ≡ staying (λ (s : OpSight). s.id) gone.ops ops) (tells : ToldView) where
    task_pairs : Pairs ReadTask now.tasks task_handles
    task_pairs =
        subst (λ (hs : List TaskSight). Pairs ReadTask now.tasks hs) (sym tasks_are)
        (subst (λ (t : TablesView). Pairs ReadTask t.tasks (staying (λ (s : TaskSight). s.id) gone.tasks tasks)) (sym is)
        (pairs_stay ReadTask task_id (λ (s : TaskSight). s.id) (λ x s p. p.0) gone.tasks shown.tasks tasks stands.tasks))

    resource_pairs : Pairs ReadResource now.resources resource_handles
    resource_pairs =
        subst (λ (hs : List ResourceSight). Pairs ReadResource now.resources hs) (sym resources_are)
        (subst (λ (t : TablesView). Pairs ReadResource t.resources (staying (λ (s : ResourceSight). s.id) gone.resources resources)) (sym is)
        (pairs_stay ReadResource resource_id (λ (s : ResourceSight). s.id) (λ x s p. p.0) gone.resources shown.resources resources stands.resources))

    op_pairs : Pairs ReadOp now.ops op_handles
    op_pairs =
        subst (λ (hs : List OpSight). Pairs ReadOp now.ops hs) (sym ops_are)
        (subst (λ (t : TablesView). Pairs ReadOp t.ops (staying (λ (s : OpSight). s.id) gone.ops ops)) (sym is)
        (pairs_stay ReadOp op_id (λ (s : OpSight). s.id) (λ x s p. p.0) gone.ops shown.ops ops stands.ops))

    resource_fits : Pairs ResourceFits now.resources resource_handles
    resource_fits =
        subst (λ (hs : List ResourceSight). Pairs ResourceFits now.resources hs) (sym resources_are)
        (subst (λ (t : TablesView). Pairs ResourceFits t.resources (staying (λ (s : ResourceSight). s.id) gone.resources resources)) (sym is)
        (pairs_stay ResourceFits resource_id (λ (s : ResourceSight). s.id) (λ x s p. p.0) gone.resources shown.resources resources stands.resources_fit))

    op_fits : Pairs OpFits now.ops op_handles
    op_fits =
        subst (λ (hs : List OpSight). Pairs OpFits now.ops hs) (sym ops_are)
        (subst (λ (t : TablesView). Pairs OpFits t.ops (staying (λ (s : OpSight). s.id) gone.ops ops)) (sym is)
        (pairs_stay OpFits op_id (λ (s : OpSight). s.id) (λ x s p. p.0) gone.ops shown.ops ops stands.ops_fit))

    pub told_stands : FitsIn tells now → HaveRoom tells now → last < 2 ^ 63 → IsStanding now tells task_handles resource_handles op_handles held (last + 1)
    told_stands fits room below = record {
      tasks = task_pairs;
      resources = resource_pairs;
      ops = op_pairs;
      resources_fit = resource_fits;
      ops_fit = op_fits;
      fits = fits;
      room = room;
      held = stands.held;
      first = λ zero. absurd (omega (arith, zero));
      numbered = omega (arith, below);
    }

    pub told_is : told_tables tells now ≡ now → (broken : Bool) (retention : Option ℕ) (timing : TimingView)
        → whole now tells task_handles resource_handles op_handles held (last + 1) false retention (timing_told gone.tasks timing) ≡ having_told (without (whole shown telling tasks resources ops held last broken retention timing) gone) moment
    told_is all broken retention timing = λ i. record {
      tables = is i;
      told = (all ∙ is) i;
      tasks = tasks_are i;
      resources = resources_are i;
      ops = ops_are i;
      held = held;
      last = last + 1;
      broken = false;
      retention = retention;
      timing = timing_told gone.tasks timing;
    }

-- histograms that stay are of tasks that stay
pub times_left : (shown : TablesView) (gone : GoneView) (moment : ℕ) (now : TablesView) → now ≡ record (without_gone shown gone) { now = moment } → (t u : TimingView) → u ≡ timing_told gone.tasks t → TimesStand shown.tasks t → TimesStand now.tasks u
times_left shown gone moment now is t u told stands =
    subst (λ (x : TablesView). TimesStand x.tasks u) (sym is) (subst (TimesStand (without_gone shown gone).tasks) (sym told) (record {
      pairs = readers_stay gone.tasks t.shown t.readers stands.pairs;
      known = known_stay shown.tasks gone.tasks t.shown stands.known;
    }))

-- ---- what leaves with a line

without_none : (a : Aggregating) → without a none_gone ≡ a
without_none a = λ i. record a {
  tables = record a.tables { tasks = staying_all task_id a.tables.tasks i; resources = staying_all resource_id a.tables.resources i; ops = staying_all op_id a.tables.ops i };
  tasks = staying_all (λ (s : TaskSight). s.id) a.tasks i;
  resources = staying_all (λ (s : ResourceSight). s.id) a.resources i;
  ops = staying_all (λ (s : OpSight). s.id) a.ops i;
  timing = record a.timing { shown = staying_all times_id a.timing.shown i; readers = staying_all (λ (s : TimesSight). s.id) a.timing.readers i };
}

pub left_is : (snapshot : Bool) (a : Aggregating) (now : ℕ) → without a (leaving_at snapshot a now) ≡ left_at snapshot a now
left_is true a now = without_none a
left_is false a now = by a.retention
  where
    by : (o : Option ℕ) → without a (due_at o a.told now) ≡ pruned o a now
    by None = without_none a
    by (Some retention) = refl

-- the line that leads to what stays
pub pruned_line_is : (a : Aggregating) (now retention : ℕ) → a.retention ≡ Some retention → line_pruned a.told (prune (record a.tables { now = now }) a.told now retention) (a.last + 1) ≡ untimed_at false a now
pruned_line_is a now retention is = ap line_by (sym is)
  where
    line_by : Option ℕ → LineView
    line_by o = line_untimed a.told (record { tables = record (pruned o a now).tables { now = now }; seq = a.last + 1; snapshot = false; removes = is_some o; told = None })
