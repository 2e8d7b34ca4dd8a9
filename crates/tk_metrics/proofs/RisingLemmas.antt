-- No count of tasks falls.
use Rattle.std.proofs.Common.{◌≡◌, ◌≤◌, ℕ, ◌+◌, ◌-◌, ◌^◌, min, List, [], ◌∷◌, ◌++◌, map, filter, Bool, true, false, cond, not, is_some, nat_eq, Option, Some, None, refl, sym, ap, subst, ◌∙◌, arith}
use Rattle.std.specs.Prelude.{IfSome, flat_map, sum_by}
use Rattle.std.specs.Cmp.{nat_eq_equiv}
use Rattle.std.specs.List.{AllByRecursion, IsDistinct}
use Rattle.std.specs.Option.{option_map_or}
use Rattle.std.specs.Str.{bytes_eq}
use Rattle.std.proofs.lemmas.List.Sums.{sum_by-append, sum_by-cons}
use Rattle.tk_series.specs.Totals.{AddsUp, AreWithin, number_at, sum_at}
use Rattle.tk_series.proofs.TotalLemmas.{adds_up}
use Rattle.tk_stream.specs.Tables.{AreDistinct, TablesView, empty_tables, task_id, task_with}
use Rattle.tk_stream.specs.Times.{TaskTimes}
use Rattle.tk_stream.specs.declared.tables.task.Task.{Task}
use Rattle.tk_metrics.specs.Families.{count_kind}
use Rattle.tk_metrics.specs.Leaving.{gone_in, tasks_between, tasks_left}
use Rattle.tk_metrics.specs.Stays.{stays}
use Rattle.tk_client.specs.Changes.{Timed, untimed}
use Rattle.tk_reading.specs.Shown.{last_timed}
use Rattle.tk_metrics.specs.Histograms.{all_times, gone_histogram, plus_counted, task_histogram, times_left, times_since}
use Rattle.tk_metrics.specs.Metrics.{count_of}
use Rattle.tk_metrics.specs.Rising.{GoesOn, GoOn, HistogramGoesOn, TimesGoOn, added, number_of, shown_after, tables_after, times_after}
use Rattle.tk_metrics.specs.Entries.{left_task, task_entry}
use Rattle.tk_metrics.specs.Sums.{plus, sums_left, sums_of}
use Rattle.tk_metrics.specs.Keys.{own_or_others}
use Rattle.tk_metrics.specs.declared.keys.Keys.{Keys}
use Rattle.tk_metrics.specs.declared.family.Count.{Count}
use Rattle.tk_metrics.specs.declared.family.Count.TheVariants.{Polls, Busy, Scheduled, Wakes, SelfWakes, WakerClones, WakerDrops, OpenPoll, OpenWait, Waiting}
use Rattle.tk_metrics.specs.declared.family.FamilyKind.TheVariants.{Counter}
use Rattle.tk_metrics.specs.declared.family.Timing.{Timing}
use Rattle.tk_metrics.proofs.HistogramLemmas.{last_timed_more, times_more}
use Rattle.tk_metrics.proofs.LeavingLemmas.{tasks_more}
use Rattle.tk_reading.proofs.ShownLemmas.{last_more}

-- what lasts is in no counter
same_count : (count : Count) → count_kind count ≡ Counter → (now : ℕ) (t : Task) → count_of count (sums_of now t.row) ≡ count_of count (sums_left t.row)
same_count Polls is now t = refl
same_count Busy is now t = refl
same_count Scheduled is now t = refl
same_count Wakes is now t = refl
same_count SelfWakes is now t = refl
same_count WakerClones is now t = refl
same_count WakerDrops is now t = refl
same_count OpenPoll is now t = absurd (cc)
same_count OpenWait is now t = absurd (cc)
same_count Waiting is now t = absurd (cc)

-- counters are added up
counters_add : (count : Count) → count_kind count ≡ Counter → AddsUp (2 ^ 64 - 1) plus (count_of count)
counters_add Polls is a b = refl
counters_add Busy is a b = refl
counters_add Scheduled is a b = refl
counters_add Wakes is a b = refl
counters_add SelfWakes is a b = refl
counters_add WakerClones is a b = refl
counters_add WakerDrops is a b = refl
counters_add OpenPoll is a b = absurd (cc)
counters_add OpenWait is a b = absurd (cc)
counters_add Waiting is a b = absurd (cc)

-- ---- each id once

-- no other task has an id that is taken
no_other : (id key n : ℕ) (ts : List Task) → AllByRecursion (λ y. nat_eq id y ≡ false) (map task_id ts) → nat_eq id key ≡ true
    → sum_by (λ t. cond (nat_eq (task_id t) key) n 0) ts ≡ 0
no_other id key n [] others is = refl
no_other id key n (t ∷ ts) others is =
    let differs : nat_eq (task_id t) key ≡ false = nat_eq_equiv.symm (task_id t) key ∙ sym (nat_eq_equiv.congr id key (task_id t) is) ∙ others.0 in
    sum_by-cons (λ t. cond (nat_eq (task_id t) key) n 0) t ts ∙ rw (differs, no_other id key n ts others.1 is) refl

-- at most one task has it
at_most_one : (key n : ℕ) (ts : List Task) → IsDistinct nat_eq (map task_id ts) → sum_by (λ t. cond (nat_eq (task_id t) key) n 0) ts ≤ n
unfolding IsDistinct
at_most_one key n [] distinct = omega arith
at_most_one key n (t ∷ ts) distinct = rw (sum_by-cons (λ t. cond (nat_eq (task_id t) key) n 0) t ts) (by (nat_eq (task_id t) key) refl (at_most_one key n ts distinct.1))
  where
    by : (b : Bool) → nat_eq (task_id t) key ≡ b → sum_by (λ t. cond (nat_eq (task_id t) key) n 0) ts ≤ n
        → cond b n 0 + sum_by (λ t. cond (nat_eq (task_id t) key) n 0) ts ≤ n
    by true is rest = rw (no_other (task_id t) key n ts distinct.0 is) (omega arith)
    by false is rest = omega (arith, rest)

-- sums of what is less are less
less_sum : (f g h : Task → ℕ) → ((t : Task) → f t ≤ g t + h t) → (ts : List Task) → sum_by f ts ≤ sum_by g ts + sum_by h ts
less_sum f g h less [] = omega arith
less_sum f g h less (t ∷ ts) =
    let one = less t in
    let more = less_sum f g h less ts in
    rw (sum_by-cons f t ts, sum_by-cons g t ts, sum_by-cons h t ts) (omega (arith, one, more))

no_sum : (ts : List Task) → sum_by (λ (t : Task). 0) ts ≡ 0
no_sum [] = refl
no_sum (t ∷ ts) = sum_by-cons (λ (t : Task). 0) t ts ∙ omega (arith, no_sum ts)

module _ (of to : Task → ℕ) (G : Task → Task → Type 0) where
  -- each of these tasks that is among others goes on there
  abbrev AllGo : List Task → List Task → Type 0
  AllGo [] new = Unit {0}
  AllGo (t ∷ ts) new = IfSome (task_with t.info.id new) (G t) × AllGo ts new

  -- what is there of a task among others
  abbrev there : List Task → Task → ℕ
  there us t = option_map_or to (task_with (task_id t) us) 0

  -- tasks find no more than there is
  found : (ts us : List Task) → IsDistinct nat_eq (map task_id ts) → sum_by (there us) ts ≤ sum_by to us
  found ts [] distinct = rw (no_sum ts) (omega arith)
  found ts (u ∷ us) distinct =
      let one = at_most_one (task_id u) (to u) ts distinct in
      let rest = found ts us distinct in
      let both = less_sum (there (u ∷ us)) (λ t. cond (nat_eq (task_id t) (task_id u)) (to u) 0) (there us) (λ t. either (nat_eq (task_id t) (task_id u)) (task_with (task_id t) us)) ts in
      rw (sum_by-cons to u us) (omega (arith, one, rest, both))
    where
      either : (b : Bool) (o : Option Task) → option_map_or to (cond b (Some u) o) 0 ≤ cond b (to u) 0 + option_map_or to o 0
      either true o = omega arith
      either false o = omega arith

  -- those of some tasks that others lack
  abbrev left_of : List Task → List Task → List Task
  left_of new ts = filter (λ (t : Task). not (is_some (task_with t.info.id new))) ts

  -- a task has left, or is there and goes on
  remain : (ts : List Task) (new : List Task) → ((t u : Task) → G t u → of t ≤ to u) → AllGo ts new
      → sum_by of ts ≤ sum_by of (filter (λ (t : Task). not (is_some (task_with t.info.id new))) ts) + sum_by (there new) ts
  remain [] new rises on = omega arith
  remain (t ∷ ts) new rises on = rw (sum_by-cons of t ts, sum_by-cons (there new) t ts) (either (task_with t.info.id new) on.0 (remain ts new rises on.1))
    where
      either : (o : Option Task) → IfSome o (G t) → sum_by of ts ≤ sum_by of (left_of new ts) + sum_by (there new) ts
          → of t + sum_by of ts ≤ sum_by of (cond (not (is_some o)) (t ∷ left_of new ts) (left_of new ts)) + (option_map_or to o 0 + sum_by (there new) ts)
      either None go more = rw (sum_by-cons of t (left_of new ts)) (omega (arith, more))
      either (Some u) go more = let one = rises t u go in omega (arith, one, more)

  -- nothing falls
  pub none_falls : (ts us : List Task) → IsDistinct nat_eq (map task_id ts) → ((t u : Task) → G t u → of t ≤ to u) → AllGo ts us
      → sum_by of ts ≤ sum_by of (filter (λ (t : Task). not (is_some (task_with t.info.id us))) ts) + sum_by to us
  none_falls ts us distinct rises on =
      let one = remain ts us rises on in
      let two = found ts us distinct in
      omega (arith, one, two)

module _ (by : Keys) (stay : stays by.by ≡ true) (count : Count) (labels : List ℕ) (is : count_kind count ≡ Counter) where
  -- the number of a task in the series of these labels
  abbrev own : Task → ℕ
  own t = number_at (count_of count) labels (left_task by t)

  there_sum : (now : ℕ) (ts : List Task) → sum_at (count_of count) labels (map (task_entry by now) ts) ≡ sum_by own ts
  there_sum now [] = refl
  there_sum now (t ∷ ts) =
      sum_by-cons (number_at (count_of count) labels) (task_entry by now t) (map (task_entry by now) ts)
      ∙ ap (λ n. n + sum_at (count_of count) labels (map (task_entry by now) ts)) (ap (λ n. cond (bytes_eq labels (left_task by t).0) n 0) (same_count count is now t))
      ∙ ap (λ n. own t + n) (there_sum now ts)
      ∙ sym (sum_by-cons own t ts)

  left_sum : (ts : List Task) → sum_at (count_of count) labels (map (left_task by) ts) ≡ sum_by own ts
  left_sum [] = refl
  left_sum (t ∷ ts) =
      sum_by-cons (number_at (count_of count) labels) (left_task by t) (map (left_task by) ts) ∙ ap (λ n. own t + n) (left_sum ts) ∙ sym (sum_by-cons own t ts)

  rises : (t u : Task) → GoesOn by.by t u → own t ≤ own u
  rises t u go = subst (λ l. own t ≤ cond (bytes_eq labels l) (count_of count (sums_left u.row)) 0) (sym (ap (λ l. option_map_or (own_or_others by.by l) by.names l) go.labels)) (each (bytes_eq labels (left_task by t).0) (go.counts count))
    where
      each : (b : Bool) {m n : ℕ} → m ≤ n → cond b m 0 ≤ cond b n 0
      each true less = less
      each false less = omega arith

  -- the sum of all that is added up
  added_sum : (shown : List TablesView)
      → sum_at (count_of count) labels (added by shown) ≡ sum_at (count_of count) labels (gone_in by shown).tasks + sum_by own (tables_after shown).tasks
  added_sum shown =
      sum_by-append (number_at (count_of count) labels) (gone_in by shown).tasks (map (task_entry by (tables_after shown).now) (tables_after shown).tasks)
      ∙ ap (λ n. sum_at (count_of count) labels (gone_in by shown).tasks + n) (there_sum (tables_after shown).now (tables_after shown).tasks)

  all_go : (ts us : List Task) → GoOn by.by ts us → AllGo own own (GoesOn by.by) ts us
  all_go [] us on = tt
  all_go (t ∷ ts) us on = (on.0, all_go ts us on.1)

  -- what has left stays
  all_left : (old new : TablesView) → tasks_left by old new ≡ map (left_task by) (tasks_between old new)
  all_left old new = ap (λ b. cond b (map (left_task by) (tasks_between old new)) []) stay

  -- and with a line more
  added_more : (shown : List TablesView) (tables : TablesView)
      → sum_at (count_of count) labels (added by (shown ++ tables ∷ []))
      ≡ (sum_at (count_of count) labels (gone_in by shown).tasks + sum_by own (tasks_between (tables_after shown) tables)) + sum_by own tables.tasks
  added_more shown tables =
      added_sum (shown ++ tables ∷ [])
      ∙ ap (λ (t : TablesView). sum_at (count_of count) labels (gone_in by (shown ++ tables ∷ [])).tasks + sum_by own t.tasks) (last_more empty_tables shown tables)
      ∙ ap (λ n. n + sum_by own tables.tasks)
      (ap (sum_at (count_of count) labels) (tasks_more by empty_tables shown tables ∙ ap (λ xs. (gone_in by shown).tasks ++ xs) (all_left (tables_after shown) tables))
      ∙ sum_by-append (number_at (count_of count) labels) (gone_in by shown).tasks (map (left_task by) (tasks_between (tables_after shown) tables))
      ∙ ap (λ n. sum_at (count_of count) labels (gone_in by shown).tasks + n) (left_sum (tasks_between (tables_after shown) tables)))

  pub no_fall : (shown : List TablesView) (tables : TablesView) → AreDistinct (tables_after shown) → GoOn by.by (tables_after shown).tasks tables.tasks
      → AreWithin (2 ^ 64 - 1) (count_of count) (added by shown) → AreWithin (2 ^ 64 - 1) (count_of count) (added by (shown ++ tables ∷ []))
      → shown_after by count labels shown ≤ shown_after by count labels (shown ++ tables ∷ [])
  no_fall shown tables distinct on fits fit =
      let gone = sum_at (count_of count) labels (gone_in by shown).tasks in
      let before = sum_by own (tables_after shown).tasks in
      let left = sum_by own (tasks_between (tables_after shown) tables) in
      let now = sum_by own tables.tasks in
      let adds = counters_add count is in
      let first = adds_up (2 ^ 64 - 1) plus (count_of count) labels adds (added by shown) fits ∙ ap (λ n. min n (2 ^ 64 - 1)) (added_sum shown) in
      let then = adds_up (2 ^ 64 - 1) plus (count_of count) labels adds (added by (shown ++ tables ∷ [])) fit ∙ ap (λ n. min n (2 ^ 64 - 1)) (added_more shown tables) in
      let less : before ≤ left + now = none_falls own own (GoesOn by.by) (tables_after shown).tasks tables.tasks distinct.tasks rises (all_go (tables_after shown).tasks tables.tasks on) in
      subst (λ n. n ≤ shown_after by count labels (shown ++ tables ∷ [])) (sym first) (subst (λ n. min (gone + before) (2 ^ 64 - 1) ≤ n) (sym then) (capped_less gone before left now less))
    where
      capped_less : (gone before left now : ℕ) → before ≤ left + now → min (gone + before) (2 ^ 64 - 1) ≤ min ((gone + left) + now) (2 ^ 64 - 1)
      capped_less gone before left now less = omega (arith, less)

-- ---- histograms

-- numbers of a histogram are added up
counted_adds : AddsUp (2 ^ 64 - 1) plus_counted number_of
counted_adds a b = refl

module _ (timing : Timing) (by : Keys) (stay : stays by.by ≡ true) (key : List ℕ) where
  -- the number of a task's histogram under a key
  abbrev at_key : List TaskTimes → Task → ℕ
  at_key times t = sum_at number_of key (task_histogram timing by times t)

  there_times : (times : List TaskTimes) (ts : List Task) → sum_at number_of key (flat_map (task_histogram timing by times) ts) ≡ sum_by (at_key times) ts
  there_times times [] = refl
  there_times times (t ∷ ts) =
      sum_by-append (number_at number_of key) (task_histogram timing by times t) (flat_map (task_histogram timing by times) ts)
      ∙ ap (λ n. at_key times t + n) (there_times times ts)
      ∙ sym (sum_by-cons (at_key times) t ts)

  -- those that the next tables have no more
  abbrev lacking : TablesView → List Task → List Task
  lacking new ts = filter (λ (t : Task). not (is_some (task_with t.info.id new.tasks))) ts

  gone_times : (times : List TaskTimes) (new : TablesView) (ts : List Task) → sum_at number_of key (flat_map (gone_histogram timing by times new) ts) ≡ sum_by (at_key times) (lacking new ts)
  gone_times times new [] = refl
  gone_times times new (t ∷ ts) =
      sum_by-append (number_at number_of key) (gone_histogram timing by times new t) (flat_map (gone_histogram timing by times new) ts)
      ∙ ap (λ n. sum_at number_of key (gone_histogram timing by times new t) + n) (gone_times times new ts)
      ∙ either (not (is_some (task_with t.info.id new.tasks)))
    where
      either : (b : Bool) → sum_at number_of key (cond b (task_histogram timing by times t) []) + sum_by (at_key times) (lacking new ts) ≡ sum_by (at_key times) (cond b (t ∷ lacking new ts) (lacking new ts))
      either true = sym (sum_by-cons (at_key times) t (lacking new ts))
      either false = omega arith

  all_times_left : (old : Timed) (new : TablesView) → times_left timing by old new ≡ flat_map (gone_histogram timing by old.1 new) old.0.tasks
  all_times_left old new = ap (λ b. cond b (flat_map (gone_histogram timing by old.1 new) old.0.tasks) []) stay

  times_sum : (timed : List Timed)
      → sum_at number_of key (all_times timing by timed) ≡ sum_at number_of key (times_since timing by untimed timed) + sum_by (at_key (last_timed untimed timed).1) (last_timed untimed timed).0.tasks
  times_sum timed =
      sum_by-append (number_at number_of key) (times_since timing by untimed timed) (flat_map (task_histogram timing by (last_timed untimed timed).1) (last_timed untimed timed).0.tasks)
      ∙ ap (λ n. sum_at number_of key (times_since timing by untimed timed) + n) (there_times (last_timed untimed timed).1 (last_timed untimed timed).0.tasks)

  times_sum_more : (timed : List Timed) (t : Timed)
      → sum_at number_of key (all_times timing by (timed ++ t ∷ []))
      ≡ (sum_at number_of key (times_since timing by untimed timed) + sum_by (at_key (last_timed untimed timed).1) (lacking t.0 (last_timed untimed timed).0.tasks)) + sum_by (at_key t.1) t.0.tasks
  times_sum_more timed t =
      times_sum (timed ++ t ∷ [])
      ∙ ap (λ (u : Timed). sum_at number_of key (times_since timing by untimed (timed ++ t ∷ [])) + sum_by (at_key u.1) u.0.tasks) (last_timed_more untimed timed t)
      ∙ ap (λ n. n + sum_by (at_key t.1) t.0.tasks)
      (ap (sum_at number_of key) (times_more timing by untimed timed t ∙ ap (λ xs. times_since timing by untimed timed ++ xs) (all_times_left (last_timed untimed timed) t.0))
      ∙ sum_by-append (number_at number_of key) (times_since timing by untimed timed) (flat_map (gone_histogram timing by (last_timed untimed timed).1 t.0) (last_timed untimed timed).0.tasks)
      ∙ ap (λ n. sum_at number_of key (times_since timing by untimed timed) + n) (gone_times (last_timed untimed timed).1 t.0 (last_timed untimed timed).0.tasks))

  all_goes : (old new : Timed) (ts : List Task) → TimesGoOn timing by old.1 new ts → AllGo (at_key old.1) (at_key new.1) (HistogramGoesOn timing by old.1 new.1) ts new.0.tasks
  all_goes old new [] on = tt
  all_goes old new (t ∷ ts) on = (on.0, all_goes old new ts on.1)

  pub no_time_falls : (timed : List Timed) (t : Timed) → AreDistinct (last_timed untimed timed).0 → TimesGoOn timing by (last_timed untimed timed).1 t (last_timed untimed timed).0.tasks
      → AreWithin (2 ^ 64 - 1) number_of (all_times timing by timed) → AreWithin (2 ^ 64 - 1) number_of (all_times timing by (timed ++ t ∷ []))
      → times_after timing by key timed ≤ times_after timing by key (timed ++ t ∷ [])
  no_time_falls timed t distinct on fits fit =
      let last = last_timed untimed timed in
      let gone = sum_at number_of key (times_since timing by untimed timed) in
      let before = sum_by (at_key last.1) last.0.tasks in
      let left = sum_by (at_key last.1) (lacking t.0 last.0.tasks) in
      let now = sum_by (at_key t.1) t.0.tasks in
      let first = adds_up (2 ^ 64 - 1) plus_counted number_of key counted_adds (all_times timing by timed) fits ∙ ap (λ n. min n (2 ^ 64 - 1)) (times_sum timed) in
      let then = adds_up (2 ^ 64 - 1) plus_counted number_of key counted_adds (all_times timing by (timed ++ t ∷ [])) fit ∙ ap (λ n. min n (2 ^ 64 - 1)) (times_sum_more timed t) in
      let less : before ≤ left + now = none_falls (at_key last.1) (at_key t.1) (HistogramGoesOn timing by last.1 t.1) last.0.tasks t.0.tasks distinct.tasks (λ a b go. go key) (all_goes last t last.0.tasks on) in
      subst (λ n. n ≤ times_after timing by key (timed ++ t ∷ [])) (sym first) (subst (λ n. min (gone + before) (2 ^ 64 - 1) ≤ n) (sym then) (capped_more gone before left now less))
    where
      capped_more : (gone before left now : ℕ) → before ≤ left + now → min (gone + before) (2 ^ 64 - 1) ≤ min ((gone + left) + now) (2 ^ 64 - 1)
      capped_more gone before left now less = omega (arith, less)
