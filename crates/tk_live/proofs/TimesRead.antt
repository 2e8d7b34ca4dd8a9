-- Readings of histograms beside their owners: what they leave of the tasks and of the aggregator.
use Rattle.std.proofs.Common.{◌≡◌, ℕ, ◌+◌, ◌<◌, List, [], ◌∷◌, length, Option, Some, None, refl, sym, ap, ◌∙◌, subst, arith}
use Rattle.std.specs.Prelude.{map, nat_eq, option_map, slice_get, slice_set}
use Rattle.std.specs.List.{AllByRecursion, IsDistinct}
use Rattle.std.proofs.lemmas.List.{take_all}
use Rattle.atomic_table.specs.Seated.{TableId}
use Rattle.tk_ids.specs.Ids.{id_of}
use Rattle.tk_ledgers.specs.Times.{TimesSight, added_times, runs_of}
use Rattle.tk_stream.specs.Places.{place_with}
use Rattle.tk_stream.specs.Times.{TaskTimes, times_id, times_with}
use Rattle.tk_aggregator.specs.Aggregates.{Aggregating, IsSound, Pairs}
use Rattle.tk_aggregator.specs.Timing.{AreOfOwner, ReadTimes, ReadsTimesBeside, TimingView, times_of}
use Rattle.tk_live.specs.Items.{EachFrom, IsTask, IsSameTask, times_ledger_of}
use Rattle.tk_live.specs.Named.{made_item}
use Rattle.tk_live.specs.Pasts.{TaskPast, Pasts, outside_blocks}
use Rattle.tk_live.specs.Ran.{IsPolledTask}
use Rattle.tk_live.specs.Read.{AreSame, HasNumber, IsRead, AreReadTo, AreTimesRead, ReadsOwned, ShowsAdded}
use Rattle.tk_live.specs.Runs.{IsTimesLedger}
use Rattle.tk_live.specs.declared.items.TaskItem.{TaskItem}
use Rattle.tk_live.proofs.Places.{at_place, each_made, get_some, length-set, made_place, made_some, within}
use Rattle.tk_live.proofs.Reading.{task_itself, task_then}
use Rattle.tk_live.proofs.Rows.{all_put, all_so, all_themselves, changed_too, each_goes_on, has_number, its_item, its_ledger, its_place, map_changed, next_too, of_items, row_read, same_length, same_more, some_same, still_of}

-- what an owner's ledger is
abbrev ledger_in : Option TimesSight → Option TableId
ledger_in times = option_map (λ (o : TimesSight). o.token.ledger) times

none_some : {X : Type 0} (x : X) → None ≡ Some x → ⊥
none_some x e = cc

-- none is read yet
pub no_times_read : (a : Aggregating) (xs : List TaskItem) → AllByRecursion (λ (s : TimesSight). IsTimesLedger xs s.id s.token.ledger) a.timing.readers → AreTimesRead 0 a xs a xs
no_times_read a xs readers = record {
  same = all_themselves IsSameTask task_itself xs;
  many = refl;
  hands = λ ps each. each;
  rows = tt;
  ids = refl;
  readers = readers;
  rest = refl;
}

-- what a reading leaves of the aggregator: the next histogram is read, the others are as they were
record Leaves (P : ℕ → TableId → Type 0) (i : ℕ) (xs : List TaskItem) (a b : Aggregating) : Type 0 where
  pub rows : AreReadTo times_id ShowsAdded (i + 1) xs b.timing.shown
  pub ids : map times_id b.timing.shown ≡ map times_id a.timing.shown
  pub readers : AllByRecursion (λ (s : TimesSight). P s.id s.token.ledger) a.timing.readers → AllByRecursion (λ (s : TimesSight). P s.id s.token.ledger) b.timing.readers
  pub rest : b ≡ record a { timing = record a.timing { shown = b.timing.shown; readers = b.timing.readers } }

-- the aggregator's next histogram has its task's number, and there is a task of it
module _ (i : ℕ) (first a : Aggregating) (xs ys : List TaskItem) (read : AreTimesRead i first xs a ys) (sound : IsSound a) where
  histograms_numbered : AllByRecursion (λ (t : TaskTimes). (n : ℕ) × (x : TaskItem) × (times_id t ≡ id_of 1 n) × (made_item n ys ≡ Some x)) a.timing.shown
  histograms_numbered = of_items times_id (λ (s : TimesSight). s.id) (λ (s : TimesSight). Some s.token.ledger) times_ledger_of ReadTimes (λ t s p. p.0) ys a.timing.shown a.timing.readers sound.times read.readers

  pub next_histogram : i < length first.timing.shown → (place : ℕ) × HasNumber times_id a.timing.shown i (place + 1)
  next_histogram lt = has_number times_id ys a.timing.shown histograms_numbered i (omega (arith, lt, same_length times_id a.timing.shown first.timing.shown read.ids))

  pub its_task : (k : ℕ) → HasNumber times_id a.timing.shown i (k + 1) → (x : TaskItem) × (slice_get ys k ≡ Some x)
  its_task k next = its_item times_id ys a.timing.shown histograms_numbered i k next

-- the next one, of the task at a place
module _ (i : ℕ) (first a : Aggregating) (xs ys : List TaskItem) (read : AreTimesRead i first xs a ys) (k : ℕ) (x : TaskItem) (at : slice_get ys k ≡ Some x) (ps : List TaskPast) (each : EachFrom IsTask 1 ps xs) where
  named : made_item (k + 1) ys ≡ Some x
  named = at_place (k + 1) k ys refl ∙ at

  -- it is of the number after its place, by the text
  now_past : (p : TaskPast) × (made_item (k + 1) ps ≡ Some p) × IsTask (k + 1) p x
  now_past = each_made IsTask ps ys (k + 1) x (read.hands ps each) named

  -- and so was the one that stood there
  stood : (z : TaskItem) × (made_item (k + 1) xs ≡ Some z)
  stood = let lt = within ys k x at in let there = get_some xs k (omega (arith, lt, read.many)) in (there.0, at_place (k + 1) k xs refl ∙ there.1)

  past : (p : TaskPast) × (made_item (k + 1) ps ≡ Some p) × IsTask (k + 1) p stood.0
  past = each_made IsTask ps xs (k + 1) stood.0 each stood.1

  same_past : past.0 ≡ now_past.0
  same_past = some_same (sym past.1 ∙ now_past.1)

  -- of the same histogram
  same_times : times_ledger_of x ≡ times_ledger_of stood.0
  same_times =
      let now = read.same (k + 1) stood.0 stood.1 in
      ap times_ledger_of (sym (some_same (sym now.1 ∙ named))) ∙ now.2.times

  -- the aggregator's next histogram is of this task, and no two are of one
  module _ (next : HasNumber times_id a.timing.shown i (k + 1)) (distinct : IsDistinct nat_eq (map times_id a.timing.shown)) where
    module _ (owner : TimesSight) (has : x.times ≡ Some owner) where
      owner_number : owner.id ≡ id_of 1 (k + 1)
      owner_number = (now_past.2.times owner has).0

      -- who reads its histogram is of it
      pub owner_may_read : AreOfOwner owner a.timing.readers
      owner_may_read =
          all_so (λ (s : TimesSight). IsTimesLedger ys s.id s.token.ledger) (λ (s : TimesSight). s.id ≡ owner.id → s.token.ledger ≡ owner.token.ledger) (λ s is same.
          some_same (its_ledger times_ledger_of ys k x s.id (Some s.token.ledger) at (same ∙ owner_number) is ∙ ap ledger_in has)) a.timing.readers read.readers

      -- the one that stood there had the same times
      shows_added : ShowsAdded stood.0 (times_with next.0 (times_of (added_times owner.token)))
      shows_added o is =
          ap times_of ((now_past.2.times owner has).1 ∙ (ap (λ (p : TaskPast). runs_of (outside_blocks p.called)) (sym same_past) ∙ sym (past.2.times o is).1))

      -- it was read
      module _ (b : Aggregating) (reads : ReadsTimesBeside owner a.timing b.timing (place_with times_id owner.id a.timing.shown)) (is : b ≡ record a { timing = b.timing }) where
        owned : ReadsTimesBeside owner a.timing b.timing (Some i)
        owned = subst (λ (o : Option ℕ). ReadsTimesBeside owner a.timing b.timing o) (its_place times_id owner.id a.timing.shown i next.0 next.1 (next.2 ∙ sym owner_number) distinct) reads

        owned_rows : AreReadTo times_id ShowsAdded (i + 1) xs b.timing.shown
        owned_rows =
            let shown : IsRead times_id ShowsAdded xs (times_with next.0 (times_of (added_times owner.token))) = row_read times_id ShowsAdded (k + 1) xs stood.0 (times_with next.0 (times_of (added_times owner.token))) next.2 stood.1 shows_added in
            subst (λ (t : TimingView). AreReadTo times_id ShowsAdded (i + 1) xs t.shown) (sym owned.4)
            (changed_too (IsRead times_id ShowsAdded xs) (λ t. times_with t (times_of (added_times owner.token))) a.timing.shown i next.0 next.1 shown read.rows)

        owned_ids : map times_id b.timing.shown ≡ map times_id a.timing.shown
        owned_ids = ap (λ (t : TimingView). map times_id t.shown) owned.4 ∙ map_changed times_id (λ t. times_with t (times_of (added_times owner.token))) (λ t. refl) a.timing.shown i

        owned_readers : (P : ℕ → TableId → Type 0) → AllByRecursion (λ (s : TimesSight). P s.id s.token.ledger) a.timing.readers → AllByRecursion (λ (s : TimesSight). P s.id s.token.ledger) b.timing.readers
        owned_readers P all =
            let r = owned in
            let kept = r.3.2 in
            subst (λ (t : TimingView). AllByRecursion (λ (s : TimesSight). P s.id s.token.ledger) t.readers) (sym r.4)
            (all_put (λ (s : TimesSight). P s.id s.token.ledger) a.timing.readers i r.0 r.1 r.2 (λ p. subst (λ (ledger : TableId). P r.1.id ledger) (sym kept.ledger) (subst (λ (id : ℕ). P id r.0.token.ledger) (sym kept.id) p)) all)

        owned_timing : b.timing ≡ record a.timing { shown = b.timing.shown; readers = b.timing.readers }
        owned_timing = subst (λ (t : TimingView). t ≡ record a.timing { shown = t.shown; readers = t.readers }) (sym owned.4) refl

        owned_leaves : (P : ℕ → TableId → Type 0) → Leaves P i xs a b
        owned_leaves P = record {
          rows = owned_rows;
          ids = owned_ids;
          readers = owned_readers P;
          rest = is ∙ ap (λ (t : TimingView). record a { timing = t }) owned_timing;
        }

    -- it has none
    module _ (b : Aggregating) (none : x.times ≡ None) (same : b ≡ a) where
      stood_none : (o : TimesSight) → stood.0.times ≡ Some o → ⊥
      stood_none o has = none_some o.token.ledger (sym (ap ledger_in none) ∙ (same_times ∙ ap ledger_in has))

      unowned_rows : AreReadTo times_id ShowsAdded (i + 1) xs a.timing.shown
      unowned_rows =
          let shown : IsRead times_id ShowsAdded xs next.0 = row_read times_id ShowsAdded (k + 1) xs stood.0 next.0 next.2 stood.1 (λ o has. absurd (stood_none o has)) in
          next_too (IsRead times_id ShowsAdded xs) a.timing.shown i next.0 next.1 shown read.rows

      unowned_leaves : (P : ℕ → TableId → Type 0) → Leaves P i xs a b
      unowned_leaves P = subst (λ (c : Aggregating). Leaves P i xs a c) (sym same) (record {
        rows = unowned_rows;
        ids = refl;
        readers = λ all. all;
        rest = refl;
      })

    -- whether it has one or not
    module _ (b : Aggregating) (new : Option TimesSight) (reads : ReadsOwned x.times a b new) where
      abbrev y : TaskItem
      y = record x { times = new }

      leaves : (P : ℕ → TableId → Type 0) → Leaves P i xs a b
      leaves P = by x.times refl reads
        where
          by : (o : Option TimesSight) → x.times ≡ o → ReadsOwned o a b new → Leaves P i xs a b
          by None none r = unowned_leaves b none r.0 P
          by (Some owner) has r = owned_leaves owner has b r.1.0 r.1.1 P

      -- the times that were added are the same
      same_added : (o : TimesSight) → new ≡ Some o → (was : TimesSight) × (x.times ≡ Some was) × (o.id ≡ was.id) × (added_times o.token ≡ added_times was.token)
      same_added o is = by x.times refl reads
        where
          by : (t : Option TimesSight) → x.times ≡ t → ReadsOwned t a b new → (was : TimesSight) × (x.times ≡ Some was) × (o.id ≡ was.id) × (added_times o.token ≡ added_times was.token)
          by None none r = absurd (none_some o (sym r.1 ∙ is))
          by (Some owner) has r =
              let same : o ≡ r.0 = some_same (sym is ∙ r.2) in
              (owner, has, ap (λ (s : TimesSight). s.id) same ∙ r.3.id, ap (λ (s : TimesSight). added_times s.token) same ∙ r.3.added)

      same_ledger : times_ledger_of y ≡ times_ledger_of x
      same_ledger = by x.times refl reads
        where
          by : (t : Option TimesSight) → x.times ≡ t → ReadsOwned t a b new → ledger_in new ≡ ledger_in x.times
          by None none r = ap ledger_in (r.1 ∙ sym none)
          by (Some owner) has r = ap ledger_in r.2 ∙ (ap (λ l. Some l) r.3.ledger ∙ sym (ap ledger_in has))

      times_go_on : (n : ℕ) (p : TaskPast) → IsTask n p x → IsTask n p y
      times_go_on n p it = record {
        id = it.id;
        calls = it.calls;
        order = it.order;
        called = it.called;
        polled = it.polled;
        closed = it.closed;
        is_closed = it.is_closed;
        times = λ o is. let w = same_added o is in let before = it.times w.0 w.1 in (w.2 ∙ before.0, w.3 ∙ before.1);
        started = it.started;
      }

      now_same : IsSameTask x y
      now_same = record { id = refl; ledger = refl; times = same_ledger; live = λ k live. live }

      pub one_histogram_more : (zs : List TaskItem) → zs ≡ slice_set ys k y → AreTimesRead (i + 1) first xs b zs
      one_histogram_more zs set = subst (λ (zs : List TaskItem). AreTimesRead (i + 1) first xs b zs) (sym set) (record {
        same = same_more IsSameTask task_itself task_then xs ys k x y read.same at now_same;
        many = length-set ys k y ∙ read.many;
        hands = λ qs those. each_goes_on IsTask 1 qs ys k x y at (λ p it. times_go_on (1 + k) p it) (read.hands qs those);
        rows = (leaves (IsTimesLedger (slice_set ys k y))).rows;
        ids = (leaves (IsTimesLedger (slice_set ys k y))).ids ∙ read.ids;
        readers = (leaves (IsTimesLedger (slice_set ys k y))).readers (all_so (λ (s : TimesSight). IsTimesLedger ys s.id s.token.ledger) (λ (s : TimesSight). IsTimesLedger (slice_set ys k y) s.id s.token.ledger) (λ s is.
            still_of times_ledger_of IsSameTask (λ z w same. same.times) ys (slice_set ys k y) (same_more IsSameTask task_itself task_then ys ys k x y (all_themselves IsSameTask task_itself ys) at now_same) s.id (Some s.token.ledger) is) a.timing.readers read.readers);
        rest = (leaves (IsTimesLedger (slice_set ys k y))).rest ∙ ap (λ (c : Aggregating). record c { timing = record c.timing { shown = b.timing.shown; readers = b.timing.readers } }) read.rest;
      })

-- ---- all were read

-- a task whose histogram has a ledger has an owner
has_owner : (o : Option TimesSight) (ledger : TableId) → ledger_in o ≡ Some ledger → (w : TimesSight) × (o ≡ Some w)
has_owner None ledger e = absurd (none_some ledger e)
has_owner (Some w) ledger e = (w, refl)

-- then each histogram is that of its task's polls
module _ (ps : Pasts) (xs ys : List TaskItem) (same : AreSame IsSameTask xs ys) (many : length ys ≡ length xs) (each : EachFrom IsTask 1 ps.tasks xs) where
  polled_one : (t : TaskTimes) (s : TimesSight) → s.id ≡ times_id t → IsTimesLedger ys s.id s.token.ledger
      → IsRead times_id ShowsAdded xs t → IsPolledTask ps t
  polled_one t s reader it shows =
      let n = it.0 in
      let place = made_place n ys it.1 it.3 in
      let low = within ys place.0 it.1 place.2 in
      let x = made_some n xs (omega (arith, place.1)) (omega (arith, low, place.1, many)) in
      let now = same n x.0 x.1 in
      let is_now : now.0 ≡ it.1 = some_same (sym now.1 ∙ it.3) in
      let ledger : times_ledger_of x.0 ≡ Some s.token.ledger = sym now.2.times ∙ (ap times_ledger_of is_now ∙ it.4) in
      let owner = has_owner x.0.times s.token.ledger ledger in
      let id : times_id t ≡ id_of 1 n = sym reader ∙ it.2 in
      let there = each_made IsTask ps.tasks xs n x.0 each x.1 in
      record {
        number = n;
        id = id;
        past = there.0;
        is_past = there.1;
        times = shows n x.0 id x.1 owner.0 owner.1 ∙ ap times_of (there.2.times owner.0 owner.1).1;
      }

  each_polled : (ts : List TaskTimes) (ss : List TimesSight) → Pairs ReadTimes ts ss → AllByRecursion (λ (s : TimesSight). IsTimesLedger ys s.id s.token.ledger) ss → AllByRecursion (IsRead times_id ShowsAdded xs) ts → AllByRecursion (IsPolledTask ps) ts
  each_polled [] [] pairs all rows = tt
  each_polled [] (s ∷ ss) pairs all rows = absurd pairs
  each_polled (t ∷ ts) [] pairs all rows = absurd pairs
  each_polled (t ∷ ts) (s ∷ ss) pairs all rows = (polled_one t s pairs.0.0 all.0 rows.0, each_polled ts ss pairs.1 all.1 rows.1)

  pub all_polled : (ts : List TaskTimes) (ss : List TimesSight) (count : ℕ) → length ts ≡ count → Pairs ReadTimes ts ss → AllByRecursion (λ (s : TimesSight). IsTimesLedger ys s.id s.token.ledger) ss
      → AreReadTo times_id ShowsAdded count xs ts → AllByRecursion (IsPolledTask ps) ts
  all_polled ts ss count all_there pairs all rows =
      each_polled ts ss pairs all (subst (λ (us : List TaskTimes). AllByRecursion (IsRead times_id ShowsAdded xs) us) (take_all count ts (omega (arith, all_there))) rows)
