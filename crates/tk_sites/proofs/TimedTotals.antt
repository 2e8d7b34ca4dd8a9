-- What the histograms of places hold in all.
use Rattle.std.proofs.Common.{◌≡◌, ◌≤◌, ◌<◌, ℕ, zero, suc, ◌+◌, List, [], ◌∷◌, ◌++◌, map, get_or, replicate, Option, Some, None, refl, ap, ap₂, sym, ◌∙◌, arith}
use Rattle.std.specs.Prelude.{sum_by}
use Rattle.std.specs.Option.{option_map_or}
use Rattle.std.proofs.lemmas.List.Sums.{sum_by-append, sum_by-cons}
use Rattle.tk_stream.specs.Tables.{TablesView}
use Rattle.tk_stream.specs.Times.{TaskTimes}
use Rattle.tk_stream.specs.declared.tables.task.Task.{Task}
use Rattle.tk_stream.specs.declared.tables.times.PollTimes.{PollTimes}
use Rattle.tk_stream.specs.declared.tables.times.WaitTimes.{WaitTimes}
use Rattle.tk_client.specs.Changes.{Timed, tasks_beside, untimed}
use Rattle.tk_client.specs.declared.change.LeftTask.{LeftTask}
use Rattle.tk_series.specs.Limited.{all_shown, sum_of}
use Rattle.tk_series.specs.Totals.{AddsUp}
use Rattle.tk_series.proofs.SumLemmas.{all_adds}
use Rattle.tk_sites.specs.Laws.{most}
use Rattle.tk_sites.specs.Site.{room}
use Rattle.tk_sites.specs.TimedLaws.{all_times, polls_in, site_polls, site_waits, times_left, waits_in}
use Rattle.tk_sites.specs.TimedSites.{came_times, left_times, there_times, timed_changes, timed_changes_since, timed_sites, times_with, who_left}
use Rattle.tk_sites.specs.Times.{plus_times, times_of, untold, waits_of}
use Rattle.tk_sites.specs.declared.times.SiteTimes.{SiteTimes}
use Rattle.tk_sites.proofs.TimesLemmas.{count_at}
use Rattle.tk_sites.proofs.TotalLemmas.{sum-none, sum-same}

-- ---- sums over lists

sum-mapped : {A B : Type 0} (f : B → ℕ) (h : A → B) (xs : List A) → sum_by f (map h xs) ≡ sum_by (λ (a : A). f (h a)) xs
sum-mapped f h [] = refl
sum-mapped {A} {B} f h (x ∷ xs) = sum_by-cons f (h x) (map h xs) ∙ ap (λ n. f (h x) + n) (sum-mapped f h xs) ∙ sym (sum_by-cons (λ (a : A). f (h a)) x xs)

-- a number of places that adds up one of tasks
module _ (number : SiteTimes → ℕ) (of_task : Option PollTimes → ℕ) (none : number untold ≡ 0) (each : (o : Option PollTimes) → number (times_of o) ≡ of_task o) where
  over-came : (ts : List Task) → sum_of number (map came_times ts) ≡ 0
  over-came ts =
      sum-mapped (λ (y : List ℕ × SiteTimes). number y.1) came_times ts
      ∙ sum-same (λ (t : Task). number untold) (λ (t : Task). 0) (λ t. none) ts
      ∙ sum-none ts

  over-left : (ls : List LeftTask) → sum_of number (map left_times ls) ≡ sum_by of_task (map (λ (l : LeftTask). l.times) ls)
  over-left ls =
      sum-mapped (λ (y : List ℕ × SiteTimes). number y.1) left_times ls
      ∙ sum-same (λ (l : LeftTask). number (times_of l.times)) (λ (l : LeftTask). of_task l.times) (λ l. each l.times) ls
      ∙ sym (sum-mapped of_task (λ (l : LeftTask). l.times) ls)

  over-there : (times : List TaskTimes) (ts : List Task) → sum_of number (map (there_times times) ts) ≡ sum_by of_task (map (λ (t : Task). times_with times t.info.id) ts)
  over-there times ts =
      sum-mapped (λ (y : List ℕ × SiteTimes). number y.1) (there_times times) ts
      ∙ sum-same (λ (t : Task). number (times_of (times_with times t.info.id))) (λ (t : Task). of_task (times_with times t.info.id)) (λ t. each (times_with times t.info.id)) ts
      ∙ sym (sum-mapped of_task (λ (t : Task). times_with times t.info.id) ts)

  over-changes : (old new : Timed) → sum_of number (timed_changes old new) ≡ sum_by of_task (map (λ (l : LeftTask). l.times) (who_left old new))
  over-changes old new =
      sum_by-append (λ (y : List ℕ × SiteTimes). number y.1) (map came_times (tasks_beside new.0 old.0)) (map left_times (who_left old new))
      ∙ ap₂ (λ a b. a + b) (over-came (tasks_beside new.0 old.0)) (over-left (who_left old new))
      ∙ omega arith

  over-since : (old : Timed) (seen : List Timed) → sum_of number (timed_changes_since old seen) ≡ sum_by of_task (times_left old seen)
  over-since old [] = refl
  over-since old (new ∷ seen) =
      sum_by-append (λ (y : List ℕ × SiteTimes). number y.1) (timed_changes old new) (timed_changes_since new seen)
      ∙ ap₂ (λ a b. a + b) (over-changes old new) (over-since new seen)
      ∙ sym (sum_by-append of_task (map (λ (l : LeftTask). l.times) (who_left old new)) (times_left new seen))

  over-all : (seen : List Timed) (tables : TablesView) (times : List TaskTimes)
      → sum_of number (timed_changes_since untimed seen ++ map (there_times times) tables.tasks) ≡ sum_by of_task (all_times seen tables times)
  over-all seen tables times =
      sum_by-append (λ (y : List ℕ × SiteTimes). number y.1) (timed_changes_since untimed seen) (map (there_times times) tables.tasks)
      ∙ ap₂ (λ a b. a + b) (over-since untimed seen) (over-there times tables.tasks)
      ∙ sym (sum_by-append of_task (times_left untimed seen) (map (λ (t : Task). times_with times t.info.id) tables.tasks))

  shown : (seen : List Timed) (tables : TablesView) (times : List TaskTimes) → AddsUp most plus_times number → sum_by of_task (all_times seen tables times) ≤ most
      → all_shown number (timed_sites seen tables times) ≡ sum_by of_task (all_times seen tables times)
  shown seen tables times adds fits =
      let is = over-all seen tables times in
      all_adds most plus_times number adds room (timed_changes_since untimed seen ++ map (there_times times) tables.tasks) (omega (arith, is, fits)) ∙ is

-- ---- buckets

no-counts : (n i : ℕ) → get_or {A = ℕ} (replicate n 0) i 0 ≡ 0
no-counts zero i = refl
no-counts (suc n) zero = refl
no-counts (suc n) (suc i) = no-counts n i

each-polls : (bucket : ℕ) (o : Option PollTimes) → site_polls bucket (times_of o) ≡ polls_in bucket o
each-polls bucket None = no-counts 14 bucket
each-polls bucket (Some t) = refl

each-waits : (bucket : ℕ) (o : Option PollTimes) → site_waits bucket (times_of o) ≡ waits_in bucket o
each-waits bucket None = no-counts 14 bucket
each-waits bucket (Some t) = by t.waits
  where
    by : (w : Option WaitTimes) → get_or (waits_of w).counts bucket 0 ≡ option_map_or (λ (x : WaitTimes). get_or x.counts bucket 0) w 0
    by None = no-counts 14 bucket
    by (Some w) = refl

pub polls_shown : (bucket : ℕ) (seen : List Timed) (tables : TablesView) (times : List TaskTimes) → bucket < 14 → sum_by (polls_in bucket) (all_times seen tables times) ≤ most
    → all_shown (site_polls bucket) (timed_sites seen tables times) ≡ sum_by (polls_in bucket) (all_times seen tables times)
polls_shown bucket seen tables times lt fits =
    shown (site_polls bucket) (polls_in bucket) (no-counts 14 bucket) (each-polls bucket) seen tables times (λ a b. count_at bucket a.polls.counts b.polls.counts lt) fits

pub waits_shown : (bucket : ℕ) (seen : List Timed) (tables : TablesView) (times : List TaskTimes) → bucket < 14 → sum_by (waits_in bucket) (all_times seen tables times) ≤ most
    → all_shown (site_waits bucket) (timed_sites seen tables times) ≡ sum_by (waits_in bucket) (all_times seen tables times)
waits_shown bucket seen tables times lt fits =
    shown (site_waits bucket) (waits_in bucket) (no-counts 14 bucket) (each-waits bucket) seen tables times (λ a b. count_at bucket a.waits.counts b.waits.counts lt) fits
