-- Histograms that are added up, one after the other, and from line to line.
use Rattle.std.proofs.Common.{◌≡◌, ℕ, zero, suc, ◌+◌, ◌≤◌, ◌<◌, List, [], ◌∷◌, ◌++◌, length, take, drop, map, filter, get_or, slice_get, Bool, true, false, not, is_some, cond, Option, Some, None, refl, ap, ap₂, sym, subst, ◌∙◌, append_assoc, append-nil, add-one, arith}
use Rattle.std.specs.Prelude.{flat_map, option_and_then, option_map}
use Rattle.std.specs.Option.{option_map_or}
use Rattle.std.proofs.lemmas.List.{take_all}
use Rattle.std.proofs.lemmas.List.Sums.{fold-append}
use Rattle.tk_core.specs.Lists.{capped}
use Rattle.tk_core.specs.Percentiles.{total_of}
use Rattle.tk_report.specs.Timed.{sums_from}
use Rattle.tk_series.specs.Series.{series_of, with_value}
use Rattle.tk_series.proofs.SeriesLemmas.{series_of-more}
use Rattle.tk_stream.specs.Tables.{TablesView, item_with, task_with}
use Rattle.tk_stream.specs.Times.{TaskTimes, times_id}
use Rattle.tk_stream.specs.declared.tables.task.Task.{Task}
use Rattle.tk_stream.specs.declared.tables.times.PollTimes.{PollTimes}
use Rattle.tk_client.specs.Changes.{Timed, left_as, tasks_beside, untimed}
use Rattle.tk_client.specs.declared.change.LeftTask.{LeftTask}
use Rattle.tk_reading.specs.Shown.{last_timed}
use Rattle.tk_metrics.specs.Histograms.{bucket_key, buckets_from, counted, counts_in, gone_histogram, histogram, left_histogram, plus_counted, sum_in, task_histogram, times_left, times_series, times_since, with_all}
use Rattle.tk_metrics.specs.Stays.{stays}
use Rattle.tk_metrics.specs.Timed.{AddsThere, Agrees, HoldTimes, TakesLeft, left_times}
use Rattle.tk_metrics.specs.Keys.{labels_in}
use Rattle.tk_metrics.specs.declared.keys.Keys.{Keys}
use Rattle.tk_metrics.specs.declared.counted.Counted.{Counted}
use Rattle.tk_metrics.specs.declared.family.Timing.{Timing}
use Rattle.tk_metrics.specs.declared.family.Timing.TheVariants.{Polls, Waits}
use Rattle.tk_metrics.specs.declared.histograms.Histograms.{Histograms}
use Rattle.tk_metrics.proofs.LatestLemmas.{all_same}

-- ---- one number after the other

pub all_more : (s xs ys : List (List ℕ × Counted)) → with_all s (xs ++ ys) ≡ with_all (with_all s xs) ys
all_more s xs ys = fold-append (λ t x. with_value plus_counted x.0 x.1 t) s xs ys

pub series_all : (xs ys : List (List ℕ × Counted)) → series_of plus_counted (xs ++ ys) ≡ with_all (series_of plus_counted xs) ys
series_all xs [] = ap (series_of plus_counted) (append-nil xs)
series_all xs (y ∷ ys) =
    ap (series_of plus_counted) (sym (append_assoc xs (y ∷ []) ys))
    ∙ series_all (xs ++ y ∷ []) ys
    ∙ ap (λ s. with_all s ys) (series_of-more plus_counted y.0 y.1 xs)

-- ---- the numbers of items

module _ {A : Type 0} (e : A → List (List ℕ × Counted)) where
  next : (xs : List A) (i : ℕ) → flat_map e (take (suc i) xs) ≡ flat_map e (take i xs) ++ option_map_or e (slice_get xs i) []
  next [] zero = refl
  next [] (suc i) = refl
  next (y ∷ xs) zero = append-nil (e y)
  next (y ∷ xs) (suc i) = ap (λ ys. e y ++ ys) (next xs i) ∙ sym (append_assoc (e y) (flat_map e (take i xs)) (option_map_or e (slice_get xs i) []))

  more : (xs : List A) (i : ℕ) → flat_map e (take (i + 1) xs) ≡ flat_map e (take i xs) ++ option_map_or e (slice_get xs i) []
  more xs i = rw add-one (next xs i)

  -- those of one item more were added
  pub next_added : (s a b : List (List ℕ × Counted)) (xs : List A) (i : ℕ) → a ≡ with_all s (flat_map e (take i xs)) → b ≡ with_all a (option_map_or e (slice_get xs i) [])
      → b ≡ with_all s (flat_map e (take (i + 1) xs))
  next_added s a b xs i g h =
      h ∙ ap (λ t. with_all t (option_map_or e (slice_get xs i) [])) g
      ∙ sym (all_more s (flat_map e (take i xs)) (option_map_or e (slice_get xs i) []))
      ∙ ap (λ ys. with_all s ys) (sym (more xs i))

  -- those of all were
  pub all_added : (s a : List (List ℕ × Counted)) (xs : List A) (i n : ℕ) → n ≡ length xs → n ≤ i → a ≡ with_all s (flat_map e (take i xs)) → a ≡ with_all s (flat_map e xs)
  all_added s a xs i n is past g = subst (λ ys. a ≡ with_all s (flat_map e ys)) (take_all i xs (subst (λ m. m ≤ i) is past)) g

-- ---- the buckets of a histogram

-- from a place on there is the count at it, and those after it
from_place : (counts : List ℕ) (i x : ℕ) → i < length counts → x ≡ get_or counts i 0 → drop i counts ≡ x ∷ drop (i + 1) counts
from_place counts i x h at = rw add-one (by counts i h at)
  where
    by : (ys : List ℕ) (j : ℕ) → j < length ys → x ≡ get_or ys j 0 → drop j ys ≡ x ∷ drop (suc j) ys
    by [] j g e = absurd (omega (arith, g))
    by (y ∷ ys) zero g e = ap (λ z. z ∷ ys) (sym e)
    by (y ∷ ys) (suc j) g e = by ys j (omega (arith, g)) e

-- the counts up to it add up
pub up_to : (counts : List ℕ) (i x : ℕ) → i < length counts → x ≡ get_or counts i 0 → total_of (take (i + 1) counts) ≡ total_of (take i counts) + x
up_to counts i x h at = rw add-one (by counts i h at)
  where
    by : (ys : List ℕ) (j : ℕ) → j < length ys → x ≡ get_or ys j 0 → total_of (take (suc j) ys) ≡ total_of (take j ys) + x
    by [] j g e = absurd (omega (arith, g))
    by (y ∷ ys) zero g e = let same : x ≡ y = e in omega (arith, same)
    by (y ∷ ys) (suc j) g e = let more = by ys j (omega (arith, g)) e in omega (arith, more)

-- one bucket more was added
pub bucket_more : (labels counts : List ℕ) (i x seen : ℕ) (s t : List (List ℕ × Counted)) → i < length counts → x ≡ get_or counts i 0
    → seen ≡ capped (total_of (take (i + 1) counts)) → t ≡ with_all s ((bucket_key labels i, counted seen) ∷ [])
    → with_all t (buckets_from labels (i + 1) (sums_from (total_of (take (i + 1) counts)) (drop (i + 1) counts)))
    ≡ with_all s (buckets_from labels i (sums_from (total_of (take i counts)) (drop i counts)))
bucket_more labels counts i x seen s t h at is added =
    let before = total_of (take i counts) in
    let sum : total_of (take (i + 1) counts) ≡ before + x = up_to counts i x h at in
    let rest = buckets_from labels (i + 1) (sums_from (before + x) (drop (i + 1) counts)) in
    let same : counted seen ≡ counted (before + x) =
    ap (λ n. record { number = n; is_time = false }) (let most : capped seen ≡ capped (before + x) = omega (arith, is, sum) in most) in
    ap (λ n. with_all t (buckets_from labels (i + 1) (sums_from n (drop (i + 1) counts)))) sum
    ∙ ap (λ u. with_all u rest) (added ∙ ap (λ c. with_all s ((bucket_key labels i, c) ∷ [])) same)
    ∙ ap (λ ys. with_all s (buckets_from labels i (sums_from before ys))) (sym (from_place counts i x h at))

-- ---- tasks that left

-- the histogram that a task left with is the one that stood beside the tables
left_is : (timing : Timing) (by : Keys) (times : List TaskTimes) (t : Task) → left_histogram timing by (left_as times t) ≡ task_histogram timing by times t
left_is timing by times t =
    ap (λ o. option_map_or (λ counts. histogram (labels_in by t) counts (sum_in timing t.row)) o []) (either (item_with times_id t.info.id times))
  where
    either : (o : Option TaskTimes) → option_and_then (λ (x : PollTimes). counts_in timing x) (option_map (λ (x : TaskTimes). x.1) o) ≡ option_and_then (λ (x : TaskTimes). counts_in timing x.1) o
    either None = refl
    either (Some x) = refl

left_are : (timing : Timing) (by : Keys) (times : List TaskTimes) (new : TablesView) (ts : List Task)
    → flat_map (left_histogram timing by) (map (left_as times) (filter (λ (t : Task). not (is_some (task_with t.info.id new.tasks))) ts)) ≡ flat_map (gone_histogram timing by times new) ts
left_are timing by times new [] = refl
left_are timing by times new (t ∷ ts) = either (not (is_some (task_with t.info.id new.tasks))) (left_are timing by times new ts)
  where
    others : List Task
    others = filter (λ (u : Task). not (is_some (task_with u.info.id new.tasks))) ts

    either : (b : Bool) → flat_map (left_histogram timing by) (map (left_as times) others) ≡ flat_map (gone_histogram timing by times new) ts
        → flat_map (left_histogram timing by) (map (left_as times) (cond b (t ∷ others) others)) ≡ cond b (task_histogram timing by times t) [] ++ flat_map (gone_histogram timing by times new) ts
    either true more = ap₂ (λ x xs. x ++ xs) (left_is timing by times t) more
    either false more = more

left-times : (timing : Timing) (by : Keys) (before : Timed) (now : TablesView) → left_times timing by (map (left_as before.1) (tasks_beside before.0 now)) ≡ times_left timing by before now
left-times timing by before now = ap (λ xs. cond (stays by.by) xs []) (left_are timing by before.1 now before.0.tasks)

-- ---- from line to line

pub times_more : (timing : Timing) (by : Keys) (old : Timed) (timed : List Timed) (t : Timed)
    → times_since timing by old (timed ++ t ∷ []) ≡ times_since timing by old timed ++ times_left timing by (last_timed old timed) t.0
times_more timing by old [] t = append-nil (times_left timing by old t.0)
times_more timing by old (s ∷ timed) t =
    ap (λ xs. times_left timing by old s.0 ++ xs) (times_more timing by s timed t)
    ∙ sym (append_assoc (times_left timing by old s.0) (times_since timing by s timed) (times_left timing by (last_timed s timed) t.0))

pub last_timed_more : (old : Timed) (timed : List Timed) (t : Timed) → last_timed old (timed ++ t ∷ []) ≡ t
last_timed_more old [] t = refl
last_timed_more old (s ∷ timed) t = last_timed_more s timed t

taken : (timing : Timing) (by : Keys) (timed : List Timed) (t : Timed) (left : List LeftTask) (was now : List (List ℕ × Counted))
    → left ≡ map (left_as (last_timed untimed timed).1) (tasks_beside (last_timed untimed timed).0 t.0)
    → was ≡ series_of plus_counted (times_since timing by untimed timed) → now ≡ with_all was (left_times timing by left)
    → now ≡ series_of plus_counted (times_since timing by untimed (timed ++ t ∷ []))
taken timing by timed t left was now is h takes =
    takes
    ∙ ap (λ s. with_all s (left_times timing by left)) h
    ∙ ap (λ xs. with_all (series_of plus_counted (times_since timing by untimed timed)) xs) (ap (left_times timing by) is ∙ left-times timing by (last_timed untimed timed) t.0)
    ∙ sym (series_all (times_since timing by untimed timed) (times_left timing by (last_timed untimed timed) t.0))
    ∙ ap (series_of plus_counted) (sym (times_more timing by untimed timed t))

pub holds_more : (by : Keys) (timed : List Timed) (t : Timed) (left : List LeftTask) (was now : Histograms)
    → left ≡ map (left_as (last_timed untimed timed).1) (tasks_beside (last_timed untimed timed).0 t.0) → HoldTimes by timed was → TakesLeft by left was now
    → HoldTimes by (timed ++ t ∷ []) now
holds_more by timed t left was now is h takes = record {
  polls = taken Polls by timed t left was.polls now.polls is h.polls takes.polls;
  waits = taken Waits by timed t left was.waits now.waits is h.waits takes.waits;
}

-- ---- those that are there

-- what is known as it was last told are the histograms that stand beside the tables
known : (timing : Timing) (by : Keys) (last : Timed) (times : List TaskTimes) → Agrees last times
    → flat_map (task_histogram timing by times) last.0.tasks ≡ flat_map (task_histogram timing by last.1) last.0.tasks
known timing by last times agrees =
    all_same (task_histogram timing by times) (task_histogram timing by last.1) last
    (λ t there. ap (λ o. option_map_or (λ counts. histogram (labels_in by t) counts (sum_in timing t.row)) (option_and_then (λ (x : TaskTimes). counts_in timing x.1) o) []) (agrees t.info.id there))

pub adds_same : (by : Keys) (last : Timed) (tables : TablesView) (times : List TaskTimes) (was now : Histograms) → tables ≡ last.0 → Agrees last times
    → AddsThere by (tables, times) was now → AddsThere by last was now
adds_same by last tables times was now same agrees adds = record {
  polls = adds.polls ∙ ap (λ (t : TablesView). with_all was.polls (flat_map (task_histogram Polls by times) t.tasks)) same ∙ ap (with_all was.polls) (known Polls by last times agrees);
  waits = adds.waits ∙ ap (λ (t : TablesView). with_all was.waits (flat_map (task_histogram Waits by times) t.tasks)) same ∙ ap (with_all was.waits) (known Waits by last times agrees);
}

there : (timing : Timing) (by : Keys) (timed : List Timed) (last : Timed) (was now : List (List ℕ × Counted)) → last ≡ last_timed untimed timed
    → was ≡ series_of plus_counted (times_since timing by untimed timed) → now ≡ with_all was (flat_map (task_histogram timing by last.1) last.0.tasks)
    → now ≡ times_series timing by timed
there timing by timed last was now is h adds =
    adds
    ∙ (λ i. with_all (h i) (flat_map (task_histogram timing by (is i).1) (is i).0.tasks))
    ∙ sym (series_all (times_since timing by untimed timed) (flat_map (task_histogram timing by (last_timed untimed timed).1) (last_timed untimed timed).0.tasks))

-- those that are held, and those that are there, are all
pub all_polls : (by : Keys) (timed : List Timed) (last : Timed) (was now : Histograms) → last ≡ last_timed untimed timed → HoldTimes by timed was → AddsThere by last was now
    → now.polls ≡ times_series Polls by timed
all_polls by timed last was now is h adds = there Polls by timed last was.polls now.polls is h.polls adds.polls

pub all_waits : (by : Keys) (timed : List Timed) (last : Timed) (was now : Histograms) → last ≡ last_timed untimed timed → HoldTimes by timed was → AddsThere by last was now
    → now.waits ≡ times_series Waits by timed
all_waits by timed last was now is h adds = there Waits by timed last was.waits now.waits is h.waits adds.waits
