-- The readers of an aggregator that took events in are of the items that were offered.
use Rattle.std.proofs.Common.{◌≡◌, ℕ, Bool, true, false, List, [], ◌∷◌, ◌++◌, Option, Some, None, refl, sym, ap, ◌∙◌, subst}
use Rattle.std.specs.List.{AllByRecursion}
use Rattle.atomic_table.specs.Seated.{TableId}
use Rattle.tk_events.specs.Handles.{Taking}
use Rattle.tk_events.specs.Offers.{shown, times_ledger as histogram_of}
use Rattle.tk_events.specs.declared.event.Event.{Event}
use Rattle.tk_events.specs.declared.event.Event.TheVariants as events
use Rattle.tk_events.specs.declared.event.Shown.{Shown}
use Rattle.tk_events.specs.declared.item.Offer.{Offer}
use Rattle.tk_ledgers.specs.Ops.{OpSight}
use Rattle.tk_ledgers.specs.Resources.{ResourceSight}
use Rattle.tk_ledgers.specs.Handles.{KnownTimes}
use Rattle.tk_ledgers.specs.Tasks.{TaskSight}
use Rattle.tk_ledgers.specs.Times.{TimesSight}
use Rattle.tk_stream.specs.Tables.{task_with, resource_with, op_with}
use Rattle.tk_stream.specs.Times.{TaskTimes, times_id, times_shown}
use Rattle.tk_stream.specs.declared.tables.op.Op.{Op}
use Rattle.tk_stream.specs.declared.tables.resource.Resource.{Resource}
use Rattle.tk_stream.specs.declared.tables.task.Task.{Task}
use Rattle.tk_aggregator.specs.Aggregates.{Aggregating, Gathers, IsSound, Pairs, ReadTask, ReadResource, ReadOp, TakesIn, TakesAllIn, TakesTimes, free, held_events}
use Rattle.tk_aggregator.specs.Timing.{ReadTimes, TimingView}
use Rattle.tk_aggregator.proofs.FollowLemmas.{TakesWhere, by_case}
use Rattle.tk_live.specs.Runs.{IsTaskLedger, IsTimesLedger, IsResourceLedger, IsOpLedger, OffersLedger}
use Rattle.tk_live.specs.declared.items.OpItem.{OpItem}
use Rattle.tk_live.specs.declared.items.ResourceItem.{ResourceItem}
use Rattle.tk_live.specs.declared.items.TaskItem.{TaskItem}
use Rattle.tk_live.proofs.Histograms.{all_last, all_first, all_mapped, mapped_all}

-- pairs with one more
pairs_push : {X Y : Type 0} (P : X → Y → Type 0) (xs : List X) (ys : List Y) (x : X) (y : Y) → Pairs P xs ys → P x y → Pairs P (xs ++ x ∷ []) (ys ++ y ∷ [])
pairs_push P [] [] x y pairs p = (p, tt)
pairs_push P [] (w ∷ ys) x y pairs p = absurd pairs
pairs_push P (z ∷ xs) [] x y pairs p = absurd pairs
pairs_push P (z ∷ xs) (w ∷ ys) x y pairs p = (pairs.0, pairs_push P xs ys x y pairs.1 p)

-- what holds of the ids of shown items and of their readers' ledgers holds of the readers' ids, and the other way round
module _ {X Y : Type 0} (id : X → ℕ) (reader_id : Y → ℕ) (ledger : Y → TableId) (Read : X → Y → Type 0) (reads_id : (x : X) (y : Y) → Read x y → reader_id y ≡ id x) (P : ℕ → TableId → Type 0) where
  to_pairs : (xs : List X) (ys : List Y) → Pairs Read xs ys → AllByRecursion (λ (y : Y). P (reader_id y) (ledger y)) ys → Pairs (λ (x : X) (y : Y). P (id x) (ledger y)) xs ys
  to_pairs [] [] pairs all = tt
  to_pairs [] (y ∷ ys) pairs all = absurd pairs
  to_pairs (x ∷ xs) [] pairs all = absurd pairs
  to_pairs (x ∷ xs) (y ∷ ys) pairs all = (subst (λ (n : ℕ). P n (ledger y)) (reads_id x y pairs.0) all.0, to_pairs xs ys pairs.1 all.1)

  of_pairs : (xs : List X) (ys : List Y) → Pairs Read xs ys → Pairs (λ (x : X) (y : Y). P (id x) (ledger y)) xs ys → AllByRecursion (λ (y : Y). P (reader_id y) (ledger y)) ys
  of_pairs xs [] pairs all = tt
  of_pairs [] (y ∷ ys) pairs all = absurd pairs
  of_pairs (x ∷ xs) (y ∷ ys) pairs all = (subst (λ (n : ℕ). P n (ledger y)) (sym (reads_id x y pairs.0)) all.0, of_pairs xs ys pairs.1 all.1)

module _ (tasks : List TaskItem) (resources : List ResourceItem) (ops : List OpItem) where
  -- of each item that is shown the id, and of its reader the ledger, are those of an item
  record ArePaired (a : Aggregating) : Type 0 where
    pub of_tasks : Pairs (λ (t : Task) (s : TaskSight). IsTaskLedger tasks t.info.id s.token.ledger) a.tables.tasks a.tasks
    pub of_resources : Pairs (λ (r : Resource) (s : ResourceSight). IsResourceLedger resources r.info.id s.token.ledger) a.tables.resources a.resources
    pub of_ops : Pairs (λ (o : Op) (s : OpSight). IsOpLedger ops o.info.id s.token.ledger) a.tables.ops a.ops
    pub of_times : Pairs (λ (t : TaskTimes) (s : TimesSight). IsTimesLedger tasks (times_id t) s.token.ledger) a.timing.shown a.timing.readers

  abbrev ArePairedTimes : TimingView → Type 0
  ArePairedTimes t = Pairs (λ (t : TaskTimes) (s : TimesSight). IsTimesLedger tasks (times_id t) s.token.ledger) t.shown t.readers

  -- a task's histogram was taken in, if it has one
  takes_histogram : (id : ℕ) (times : Option KnownTimes) (old new : TimingView) → TakesTimes id times old new → ((histogram : TableId) → histogram_of times ≡ Some histogram → IsTimesLedger tasks id histogram) → ArePairedTimes old → ArePairedTimes new
  takes_histogram id None old new takes of are = subst ArePairedTimes (sym takes) are
  takes_histogram id (Some known) old new takes of are = by old.reads takes
    where
      by : (b : Bool) → TakesWhere id known old new b → ArePairedTimes new
      by true t = subst ArePairedTimes (sym t.3) (pairs_push _ old.shown old.readers (id, times_shown t.0) t.1 are (subst (λ (l : TableId). IsTimesLedger tasks id l) (sym t.2.ledger) (of known.ledger refl)))
      by false same = subst ArePairedTimes (sym same) are

  -- an event more was taken in
  takes_one : (old : Aggregating) (e : Event) (new : Aggregating) → TakesIn old e new → OffersLedger tasks resources ops (shown e) → ArePaired old → ArePaired new
  takes_one old (events.Task info handle) new p is are =
      by_case (task_with info.id old.tables.tasks) _ _ (ArePaired new) (λ q. Unit {0}) p.0 p.1
      (λ x there q. subst ArePaired (sym q) are)
      (λ none q. subst ArePaired (sym q.3) (record {
        of_tasks = pairs_push _ old.tables.tasks old.tasks (record { info = info; row = q.0 }) q.1 are.of_tasks (subst (λ (l : TableId). IsTaskLedger tasks info.id l) (sym q.2.ledger) is.0);
        of_resources = are.of_resources;
        of_ops = are.of_ops;
        of_times = takes_histogram info.id handle.times old.timing new.timing q.4 is.1 are.of_times;
      }))
      tt
  takes_one old (events.Resource info handle) new p is are =
      by_case (resource_with info.id old.tables.resources) _ _ (ArePaired new) (λ q. Unit {0}) p.0 p.1
      (λ x there q. subst ArePaired (sym q) are)
      (λ none q. subst ArePaired (sym q.3) (record {
        of_tasks = are.of_tasks;
        of_resources = pairs_push _ old.tables.resources old.resources (record { info = info; row = q.0 }) q.1 are.of_resources (subst (λ (l : TableId). IsResourceLedger resources info.id l) (sym q.2.ledger) is);
        of_ops = are.of_ops;
        of_times = are.of_times;
      }))
      tt
  takes_one old (events.Op info handle) new p is are =
      by_case (op_with info.id old.tables.ops) _ _ (ArePaired new) (λ q. Unit {0}) p.0 p.1
      (λ x there q. subst ArePaired (sym q) are)
      (λ none q. subst ArePaired (sym q.3) (record {
        of_tasks = are.of_tasks;
        of_resources = are.of_resources;
        of_ops = pairs_push _ old.tables.ops old.ops (record { info = info; row = q.0 }) q.1 are.of_ops (subst (λ (l : TableId). IsOpLedger ops info.id l) (sym q.2.ledger) is);
        of_times = are.of_times;
      }))
      tt
  takes_one old (events.Poll op) new p is are = subst ArePaired (sym p) (record { of_tasks = are.of_tasks; of_resources = are.of_resources; of_ops = are.of_ops; of_times = are.of_times })

  takes_all : (old : Aggregating) (es : List Event) (new : Aggregating) → TakesAllIn old es new → AllByRecursion (λ (e : Event). OffersLedger tasks resources ops (shown e)) es → ArePaired old → ArePaired new
  takes_all old [] new all of are = subst ArePaired (sym all) are
  takes_all old (e ∷ es) new all of are = takes_all all.0 es new all.2 of.1 (takes_one old e all.0 all.1 of.0 are)

  -- who reads is of an item
  abbrev pub AreReaders : Aggregating → Type 0
  AreReaders a = AllByRecursion (λ (s : TaskSight). IsTaskLedger tasks s.id s.token.ledger) a.tasks
      × AllByRecursion (λ (s : ResourceSight). IsResourceLedger resources s.id s.token.ledger) a.resources
      × AllByRecursion (λ (s : OpSight). IsOpLedger ops s.id s.token.ledger) a.ops
      × AllByRecursion (λ (s : TimesSight). IsTimesLedger tasks s.id s.token.ledger) a.timing.readers

  -- the readers after events were taken in, where the offers that were taken are of items
  pub gathered_readers : (a b : Aggregating) (t u : Taking) (taken : List Event) → Gathers a t taken b u → a.held ≡ None → IsSound a → Pairs ReadTask b.tables.tasks b.tasks → Pairs ReadResource b.tables.resources b.resources → Pairs ReadOp b.tables.ops b.ops → Pairs ReadTimes b.timing.shown b.timing.readers
      → AllByRecursion (λ (o : Offer). OffersLedger tasks resources ops o.event) u.taken → AreReaders a → AreReaders b
  gathered_readers a b t u taken g none sound later_tasks later_resources later_ops later_times offers are =
      let Of : Shown → Type 0 = OffersLedger tasks resources ops in
      let both : AllByRecursion (λ (o : Offer). Of o.event) (t.taken ++ g.offers) = subst (λ (x : Taking). AllByRecursion (λ (o : Offer). Of o.event) x.taken) g.taker offers in
      let came : AllByRecursion (λ (e : Event). Of (shown e)) g.came =
      mapped_all shown Of g.came (subst (λ (l : List Shown). AllByRecursion Of l) g.are_offered (all_mapped (λ (o : Offer). o.event) Of g.offers (all_last (λ (o : Offer). Of o.event) t.taken g.offers both))) in
      let in_order : g.came ≡ taken ++ held_events b.held = ap (λ h. held_events h ++ g.came) (sym none) ∙ g.in_order in
      let of_taken = all_first (λ (e : Event). Of (shown e)) taken (held_events b.held) (subst (λ (l : List Event). AllByRecursion (λ (e : Event). Of (shown e)) l) in_order came) in
      let before : ArePaired (free a) = record {
        of_tasks = to_pairs (λ (t : Task). t.info.id) (λ (s : TaskSight). s.id) (λ (s : TaskSight). s.token.ledger) ReadTask (λ t s p. p.0) (IsTaskLedger tasks) a.tables.tasks a.tasks sound.tasks are.0;
        of_resources = to_pairs (λ (r : Resource). r.info.id) (λ (s : ResourceSight). s.id) (λ (s : ResourceSight). s.token.ledger) ReadResource (λ t s p. p.0) (IsResourceLedger resources) a.tables.resources a.resources sound.resources are.1;
        of_ops = to_pairs (λ (o : Op). o.info.id) (λ (s : OpSight). s.id) (λ (s : OpSight). s.token.ledger) ReadOp (λ t s p. p.0) (IsOpLedger ops) a.tables.ops a.ops sound.ops are.2;
        of_times = to_pairs times_id (λ (s : TimesSight). s.id) (λ (s : TimesSight). s.token.ledger) ReadTimes (λ t s p. p.0) (IsTimesLedger tasks) a.timing.shown a.timing.readers sound.times are.3;
      } in
      let after = takes_all (free a) taken (free b) g.taken_in of_taken before in (
        of_pairs (λ (t : Task). t.info.id) (λ (s : TaskSight). s.id) (λ (s : TaskSight). s.token.ledger) ReadTask (λ t s p. p.0) (IsTaskLedger tasks) b.tables.tasks b.tasks later_tasks after.of_tasks,
        of_pairs (λ (r : Resource). r.info.id) (λ (s : ResourceSight). s.id) (λ (s : ResourceSight). s.token.ledger) ReadResource (λ t s p. p.0) (IsResourceLedger resources) b.tables.resources b.resources later_resources after.of_resources,
        of_pairs (λ (o : Op). o.info.id) (λ (s : OpSight). s.id) (λ (s : OpSight). s.token.ledger) ReadOp (λ t s p. p.0) (IsOpLedger ops) b.tables.ops b.ops later_ops after.of_ops,
        of_pairs times_id (λ (s : TimesSight). s.id) (λ (s : TimesSight). s.token.ledger) ReadTimes (λ t s p. p.0) (IsTimesLedger tasks) b.timing.shown b.timing.readers later_times after.of_times,
      )
