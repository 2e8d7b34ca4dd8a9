-- The histograms that an aggregator tells lead from those that it told to those that it shows, and their readers stay in step.
use Rattle.std.proofs.Common.{◌≡◌, ℕ, List, [], ◌∷◌, ◌++◌, length, take, Bool, true, false, cond, nat_eq, Option, Some, None, refl, ap, ap₂, sym, subst, ◌∙◌, true≢false}
use Rattle.std.specs.Prelude.{map, filter, not, is_none, is_some, IsSome, unwrap_or, option_map, option_and_then, if◌then◌else◌}
use Rattle.std.specs.List.{AllByRecursion, IsDistinct}
use Rattle.std.specs.Option.{option_map_or}
use Rattle.std.proofs.Math.Seq.{take-append_seam}
use Rattle.std.proofs.lemmas.Bool.{eqb-true, eq-eqb}
use Rattle.std.proofs.lemmas.Option.{same_Some}
use Rattle.tk_core.specs.Fold.{row_after, reply_after}
use Rattle.tk_core.specs.Laws.TimesLaws as times_laws
use Rattle.tk_core.specs.Times.{opening_row}
use Rattle.tk_core.specs.declared.reply.Reply.TheVariants.{Shown}
use Rattle.tk_core.specs.declared.times.row.TimesRow.{TimesRow}
use Rattle.tk_ids.specs.declared.info.TaskInfo.{TaskInfo}
use Rattle.tk_ledgers.specs.Times.{TimesSight}
use Rattle.tk_stream.specs.Applied.{task_kind, times_kind, new_items, items_told, told_item, times_told, times_after, BeginWith}
use Rattle.tk_stream.specs.Fronts.{with_rows}
use Rattle.tk_stream.specs.Lines.{LineView, is_new, is_told, new_infos, told_times, times_of, gone_of, with_times}
use Rattle.tk_stream.specs.Ranges.{AreTimes}
use Rattle.tk_stream.specs.Retention.{stats_without}
use Rattle.tk_stream.specs.Streams.{Sending, AreToldOf, line_sent, line_untimed, tables_sent, times_sent}
use Rattle.tk_stream.specs.Tables.{TablesView, task_id, task_with, item_with, changed_at, is_among, staying}
use Rattle.tk_stream.specs.Times.{TaskTimes, times_id, times_shown, times_with, same_times, all_times}
use Rattle.tk_stream.specs.declared.tables.task.Task.{Task}
use Rattle.tk_stream.specs.declared.tables.times.PollTimes.{PollTimes}
use Rattle.tk_stream.proofs.AppliedLemmas.{IsKind, leads}
use Rattle.tk_stream.proofs.GoneLemmas.{once_kept}
use Rattle.tk_stream.proofs.LinesLemmas.{IsFound, each_found, map-same}
use Rattle.tk_stream.proofs.TimesLemmas.{times_agree}
use Rattle.tk_stream.proofs.PruneLemmas.{once_begin, all_filter}
use Rattle.tk_aggregator.specs.Aggregates.{Pairs}
use Rattle.tk_aggregator.specs.Readings.{Reads}
use Rattle.tk_aggregator.specs.Timing.{TimingView, times_ledger, ReadTimes, ReadsTimes, timing_opened, timing_with, told_by, timing_told}
use Rattle.tk_aggregator.proofs.HandleLemmas.{ReadsFold, reads_read}
use Rattle.tk_aggregator.proofs.PairLemmas.{pair_more, pairs_stay, pairs_read}
use Rattle.tk_aggregator.proofs.ReadingLemmas.{changed_here}

-- ---- a histogram is told whole

pub times_are : IsKind times_kind all_times same_times
times_are = record {
  ids = λ t. refl;
  keys = λ t. refl;
  whole = λ t. refl;
  agrees = λ a b e same. times_agree a b same;
}

-- the tests of a line between histograms
abbrev differs : List TaskTimes → TaskTimes → Bool
differs old = is_told times_id same_times old

abbrev is_first : List TaskTimes → TaskTimes → Bool
is_first old = is_new times_id old

-- each that is new is told
new_told : (old xs : List TaskTimes) → filter (is_first old) (filter (differs old) xs) ≡ filter (is_first old) xs
new_told old [] = refl
new_told old (x ∷ xs) = by (item_with times_id x.0 old) refl (new_told old xs)
  where
    known : (y : TaskTimes) (b : Bool) → item_with times_id x.0 old ≡ Some y → filter (is_first old) (filter (differs old) xs) ≡ filter (is_first old) xs
        → filter (is_first old) (cond b (x ∷ filter (differs old) xs) (filter (differs old) xs)) ≡ filter (is_first old) xs
    known y true e rest = rw e rest
    known y false e rest = rest

    by : (o : Option TaskTimes) → item_with times_id x.0 old ≡ o → filter (is_first old) (filter (differs old) xs) ≡ filter (is_first old) xs
        → filter (is_first old) (cond (option_map_or (λ before. not (same_times before x)) o true) (x ∷ filter (differs old) xs) (filter (differs old) xs))
        ≡ cond (is_none o) (x ∷ filter (is_first old) xs) (filter (is_first old) xs)
    by None e rest = rw e (ap (λ ys. x ∷ ys) rest)
    by (Some y) e rest = known y (not (same_times y x)) e rest

-- and has what is told of it
made : (stats zs : List TaskTimes) → AllByRecursion (IsFound times_id stats) zs → new_items times_kind stats (map times_id zs) ≡ Some zs
made stats [] all = refl
made stats (z ∷ zs) all =
    ap₂ (λ o r. option_and_then (λ item. option_map (λ items. item ∷ items) r) (option_map (λ (t : TaskTimes). t) o)) all.0 (made stats zs all.1)

-- what a line tells between histograms leads from the old to the new
pub times_lead : (old new : List TaskTimes) → IsDistinct nat_eq (map times_id old) → IsDistinct nat_eq (map times_id new) → BeginWith times_kind old new → times_told old (told_times old new) ≡ new
times_lead old new once_old once_new begin =
    let kept : List TaskTimes = filter (differs old) new in
    let news : List TaskTimes = filter (is_first old) kept in
    let stats : told_times old new ≡ kept = map-same kept in
    let infos : new_infos times_id times_id old new ≡ map times_id news = ap (map times_id) (sym (new_told old new)) in
    let items : new_items times_kind kept (map times_id news) ≡ Some news =
    made kept news (all_filter (IsFound times_id kept) (is_first old) kept (each_found times_id kept (once_kept times_id (differs old) new once_new))) in
    ap (times_told old) stats
    ∙ same_Some (times_told old kept) new
    (sym (ap (option_map (λ xs. map (told_item times_kind kept) old ++ xs)) items)
    ∙ ap₂ (λ is ss. items_told times_kind old is ss) (sym infos) (sym stats)
    ∙ leads times_kind all_times same_times times_are old new once_old once_new begin)

-- ---- where some leave

-- what stays is found as before
module _ {Item : Type 0} (id_of : Item → ℕ) (gone : List ℕ) where
  pub found_still : (id : ℕ) (xs : List Item) → is_among gone id ≡ false → item_with id_of id (staying id_of gone xs) ≡ item_with id_of id xs
  found_still id [] h = refl
  found_still id (x ∷ xs) h = by (is_among gone (id_of x)) refl (nat_eq id (id_of x)) refl (found_still id xs h)
    where
      by : (out : Bool) → is_among gone (id_of x) ≡ out → (here : Bool) → nat_eq id (id_of x) ≡ here → item_with id_of id (staying id_of gone xs) ≡ item_with id_of id xs
          → item_with id_of id (cond (not out) (x ∷ staying id_of gone xs) (staying id_of gone xs)) ≡ cond here (Some x) (item_with id_of id xs)
      by true is true same e = absurd (cc (is, h, ap (is_among gone) (eqb-true id (id_of x) same)))
      by true is false same e = e
      by false is true same e = rw same refl
      by false is false same e = rw same e

module _ (gone : List ℕ) where
  begin_less : (xs ys : List TaskTimes) → BeginWith times_kind xs ys → BeginWith times_kind (staying times_id gone xs) (staying times_id gone ys)
  begin_less [] ys begin = tt
  begin_less (x ∷ xs) [] begin = absurd begin
  begin_less (x ∷ xs) (y ∷ ys) begin = by (is_among gone x.0) (is_among gone y.0) (ap (is_among gone) begin.0) (begin_less xs ys begin.1)
    where
      by : (a b : Bool) → a ≡ b → BeginWith times_kind (staying times_id gone xs) (staying times_id gone ys)
          → BeginWith times_kind (cond (not a) (x ∷ staying times_id gone xs) (staying times_id gone xs)) (cond (not b) (y ∷ staying times_id gone ys) (staying times_id gone ys))
      by true true e rest = rest
      by false false e rest = (begin.0, rest)
      by true false e rest = absurd cc
      by false true e rest = absurd cc

  -- what is told of those that stay
  told_less : (old xs : List TaskTimes) → stats_without times_id gone (filter (differs old) xs) ≡ filter (differs (staying times_id gone old)) (staying times_id gone xs)
  told_less old [] = refl
  told_less old (x ∷ xs) = by (is_among gone x.0) refl (told_less old xs)
    where
      left : List TaskTimes
      left = staying times_id gone old

      leaves : (b : Bool) → is_among gone x.0 ≡ true → stats_without times_id gone (cond b (x ∷ filter (differs old) xs) (filter (differs old) xs)) ≡ stats_without times_id gone (filter (differs old) xs)
      leaves true e = rw e refl
      leaves false e = refl

      stays : (b : Bool) → is_among gone x.0 ≡ false → stats_without times_id gone (filter (differs old) xs) ≡ filter (differs left) (staying times_id gone xs)
          → stats_without times_id gone (cond b (x ∷ filter (differs old) xs) (filter (differs old) xs)) ≡ cond b (x ∷ filter (differs left) (staying times_id gone xs)) (filter (differs left) (staying times_id gone xs))
      stays true e rest = rw e (ap (λ ys. x ∷ ys) rest)
      stays false e rest = rest

      by : (out : Bool) → is_among gone x.0 ≡ out → stats_without times_id gone (filter (differs old) xs) ≡ filter (differs left) (staying times_id gone xs)
          → stats_without times_id gone (cond (differs old x) (x ∷ filter (differs old) xs) (filter (differs old) xs)) ≡ filter (differs left) (cond (not out) (x ∷ staying times_id gone xs) (staying times_id gone xs))
      by true e rest = leaves (differs old x) e ∙ rest
      by false e rest =
          stays (differs old x) e rest
          ∙ ap (λ o. cond (option_map_or (λ before. not (same_times before x)) o true) (x ∷ filter (differs left) (staying times_id gone xs)) (filter (differs left) (staying times_id gone xs))) (sym (found_still times_id gone x.0 old e))

  less_times : (old xs : List TaskTimes) → stats_without times_id gone (told_times old xs) ≡ told_times (staying times_id gone old) (staying times_id gone xs)
  less_times old xs =
      ap (stats_without times_id gone) (map-same (filter (differs old) xs)) ∙ told_less old xs ∙ sym (map-same (filter (differs (staying times_id gone old)) (staying times_id gone xs)))

-- ---- lines

-- a line with which some tasks leave leads from the histograms that were told to those that stay. A snapshot stands for itself: nothing was told before it
pub told_leads : (told shown : List TaskTimes) (gone : List ℕ) (l : LineView) → IsDistinct nat_eq (map times_id shown) → BeginWith times_kind told shown
    → times_of l ≡ stats_without times_id gone (told_times told shown) → (gone_of l).tasks ≡ gone → times_after told l ≡ staying times_id gone shown
told_leads told shown gone l once begin tells leave =
    let stay : TaskTimes → Bool = λ t. not (is_among gone (times_id t)) in
    ap₂ (λ ids times. times_told (staying times_id ids told) times) leave (tells ∙ less_times gone told shown)
    ∙ times_lead (staying times_id gone told) (staying times_id gone shown)
    (once_kept times_id stay told (once_begin times_kind all_times same_times times_are told shown begin once)) (once_kept times_id stay shown once) (begin_less gone told shown begin)

-- so does the line that an aggregator sends, as a snapshot or not, also where none are read
pub line_leads : (snapshot : Bool) (t : TimingView) (gone : List ℕ) (l : LineView) → IsDistinct nat_eq (map times_id t.shown) → BeginWith times_kind t.told t.shown → (t.reads ≡ false → t.shown ≡ [])
    → l.task_times ≡ told_by snapshot t gone → (gone_of l).tasks ≡ gone → times_after (if snapshot then [] else t.told) l ≡ (timing_told gone t).told
line_leads snapshot t gone l once begin unread tells leave = told_leads base t.shown gone l once (begins snapshot) (told t.reads refl tells) leave
  where
    base : List TaskTimes
    base = if snapshot then [] else t.told

    begins : (b : Bool) → BeginWith times_kind (if b then [] else t.told) t.shown
    begins true = tt
    begins false = begin

    told : (r : Bool) → t.reads ≡ r → l.task_times ≡ (if r then Some (stats_without times_id gone (told_times base t.shown)) else None) → times_of l ≡ stats_without times_id gone (told_times base t.shown)
    told true e is = ap (λ o. unwrap_or o []) is
    told false e is = ap (λ o. unwrap_or o []) is ∙ sym (ap (λ xs. stats_without times_id gone (told_times base xs)) (unread e))

-- the histograms that a line tells are those that were sent
pub sent_times : (before : TablesView) (s : Sending) → (line_sent before s).task_times ≡ s.told
sent_times before s = by s.told s.removes s.snapshot
  where
    by : (told : Option (List TaskTimes)) (removes snapshot : Bool) → (line_sent before (record s { told = told; removes = removes; snapshot = snapshot })).task_times ≡ told
    by (Some times) removes snapshot = refl
    by None true true = refl
    by None true false = refl
    by None false true = refl
    by None false false = refl

-- and it says the same is gone
pub sent_gone : (before : TablesView) (s : Sending) → gone_of (line_sent before s) ≡ gone_of (line_untimed before s)
sent_gone before s = by s.told
  where
    by : (told : Option (List TaskTimes)) → gone_of (option_map_or (λ times. with_times times (line_untimed before s)) told (line_untimed before s)) ≡ gone_of (line_untimed before s)
    by (Some times) = refl
    by None = refl

-- the histograms that a stream leads to with one line more
pub times_more : (times : List TaskTimes) (before : TablesView) (ss : List Sending) (s : Sending)
    → times_sent times before (ss ++ s ∷ []) ≡ times_after (if s.snapshot then [] else times_sent times before ss) (line_sent (tables_sent before ss) s)
times_more times before [] s = refl
times_more times before (x ∷ ss) s = times_more (times_after (if x.snapshot then [] else times) (line_sent before x)) x.tables ss s

-- ---- histograms of tasks that are there

-- each is of one of these tasks
abbrev pub AreKnown : List Task → List TaskTimes → Type 0
AreKnown tasks times = AllByRecursion (λ t. IsSome (task_with t.0 tasks)) times

-- a task that isn't there has none
pub unknown_absent : (tasks : List Task) (id : ℕ) (times : List TaskTimes) → AreKnown tasks times → task_with id tasks ≡ None → item_with times_id id times ≡ None
unknown_absent tasks id [] known none = refl
unknown_absent tasks id (t ∷ times) known none = by (nat_eq id t.0) refl (unknown_absent tasks id times known.1 none)
  where
    by : (b : Bool) → nat_eq id t.0 ≡ b → item_with times_id id times ≡ None → cond b (Some t) (item_with times_id id times) ≡ None
    by true same rest = absurd (true≢false (sym known.0 ∙ ap is_some (ap (λ n. task_with n tasks) (sym (eqb-true id t.0 same)) ∙ none)))
    by false same rest = rest

-- a task that was there is there where others stand after it, or its row is another
there_later : (id : ℕ) (tasks now : List Task) → BeginWith task_kind tasks now → IsSome (task_with id tasks) → IsSome (task_with id now)
there_later id [] now begin there = absurd (true≢false (sym there))
there_later id (x ∷ tasks) [] begin there = absurd begin
there_later id (x ∷ tasks) (y ∷ now) begin there = by (nat_eq id x.info.id) (nat_eq id y.info.id) (ap (λ (i : TaskInfo). nat_eq id i.id) begin.0) there (there_later id tasks now begin.1)
  where
    by : (b c : Bool) → b ≡ c → IsSome (cond b (Some x) (task_with id tasks)) → (IsSome (task_with id tasks) → IsSome (task_with id now)) → IsSome (cond c (Some y) (task_with id now))
    by b true e some rest = refl
    by true false e some rest = absurd cc
    by false false e some rest = rest some

pub known_later : (tasks now : List Task) (times : List TaskTimes) → BeginWith task_kind tasks now → AreKnown tasks times → AreKnown now times
known_later tasks now [] begin known = tt
known_later tasks now (t ∷ times) begin known = (there_later t.0 tasks now begin known.0, known_later tasks now times begin known.1)

there_last : (id : ℕ) (tasks : List Task) (task : Task) → task.info.id ≡ id → IsSome (task_with id (tasks ++ task ∷ []))
there_last id [] task is = rw (eq-eqb id task.info.id (sym is)) refl
there_last id (x ∷ tasks) task is = by (nat_eq id x.info.id) (there_last id tasks task is)
  where
    by : (b : Bool) → IsSome (task_with id (tasks ++ task ∷ [])) → IsSome (cond b (Some x) (task_with id (tasks ++ task ∷ [])))
    by true rest = refl
    by false rest = rest

pub begin_more : (tasks : List Task) (task : Task) → BeginWith task_kind tasks (tasks ++ task ∷ [])
begin_more [] task = tt
begin_more (x ∷ tasks) task = (refl, begin_more tasks task)

known_push : (tasks : List Task) (id : ℕ) (new : PollTimes) (times : List TaskTimes) → AreKnown tasks times → IsSome (task_with id tasks) → AreKnown tasks (times ++ (id, new) ∷ [])
known_push tasks id new [] known there = (there, tt)
known_push tasks id new (t ∷ times) known there = (known.0, known_push tasks id new times known.1 there)

-- one more task, with its histogram
pub known_more : (tasks : List Task) (task : Task) (new : PollTimes) (times : List TaskTimes) → AreKnown tasks times → AreKnown (tasks ++ task ∷ []) (times ++ (task.info.id, new) ∷ [])
known_more tasks task new times known =
    known_push (tasks ++ task ∷ []) task.info.id new times (known_later tasks (tasks ++ task ∷ []) times (begin_more tasks task) known) (there_last task.info.id tasks task refl)

-- other histograms of the same tasks
pub known_rows : (tasks : List Task) (times : List TaskTimes) (rows : List PollTimes) → AreKnown tasks times → AreKnown tasks (with_rows times_with times rows)
known_rows tasks times [] known = tt
known_rows tasks [] (r ∷ rows) known = tt
known_rows tasks (t ∷ times) (r ∷ rows) known = (known.0, known_rows tasks times rows known.1)

none_gone_out : (gone : List ℕ) (xs : List TaskTimes) → AllByRecursion (λ t. is_among gone (times_id t) ≡ false) (staying times_id gone xs)
none_gone_out gone [] = tt
none_gone_out gone (x ∷ xs) = by (is_among gone x.0) refl (none_gone_out gone xs)
  where
    by : (out : Bool) → is_among gone x.0 ≡ out → AllByRecursion (λ t. is_among gone (times_id t) ≡ false) (staying times_id gone xs)
        → AllByRecursion (λ t. is_among gone (times_id t) ≡ false) (cond (not out) (x ∷ staying times_id gone xs) (staying times_id gone xs))
    by true e rest = rest
    by false e rest = (e, rest)

still_known : (tasks : List Task) (gone : List ℕ) (xs : List TaskTimes) → AllByRecursion (λ t. is_among gone (times_id t) ≡ false) xs → AreKnown tasks xs → AreKnown (staying task_id gone tasks) xs
still_known tasks gone [] out known = tt
still_known tasks gone (x ∷ xs) out known = (subst (λ o. IsSome o) (sym (found_still task_id gone x.0 tasks out.0)) known.0, still_known tasks gone xs out.1 known.1)

-- those of tasks that stay
pub known_stay : (tasks : List Task) (gone : List ℕ) (times : List TaskTimes) → AreKnown tasks times → AreKnown (staying task_id gone tasks) (staying times_id gone times)
known_stay tasks gone times known =
    still_known tasks gone (staying times_id gone times) (none_gone_out gone times) (all_filter (λ t. IsSome (task_with t.0 tasks)) (λ t. not (is_among gone (times_id t))) times known)

module _ (tables left : TablesView) (gone : List ℕ) (is : left.tasks ≡ staying task_id gone tables.tasks) where
  -- those of tasks that stay may be told with the tables that are left
  pub stay_fit : (times : List TaskTimes) → AreToldOf tables times → AreToldOf left (staying times_id gone times)
  stay_fit times fit =
      let stay : TaskTimes → Bool = λ t. not (is_among gone (times_id t)) in
      record {
        each = all_filter AreTimes stay times fit.each;
        known = subst (λ (tasks : List Task). AreKnown tasks (staying times_id gone times)) (sym is) (known_stay tables.tasks gone times fit.known);
        once = once_kept times_id stay times fit.once;
      }

  -- so may those of them that are new since they were told, or others now
  pub told_fit : (told shown : List TaskTimes) → AreToldOf tables shown → AreToldOf left (stats_without times_id gone (told_times told shown))
  told_fit told shown fit = stay_fit (told_times told shown) (subst (AreToldOf tables) (sym (map-same (filter (differs told) shown))) (record {
    each = all_filter AreTimes (differs told) shown fit.each;
    known = all_filter (λ t. IsSome (task_with t.0 tables.tasks)) (differs told) shown fit.known;
    once = once_kept times_id (differs told) shown fit.once;
  }))

-- ---- readers stay in step

pub times_reads : ReadsFold times_ledger
unfolding reply_after row_after
times_reads opening h legal = ap Shown (sym (times_laws.legal_fold opening h legal))

-- one that read
pub one_reads : (task : ℕ) (s : TimesSight) (row : TimesRow) (t : TimesSight) → s.id ≡ task → Reads times_ledger s row t → ReadTimes (task, times_shown row) t
one_reads task s row t is reading = (reading.id ∙ is, (row, refl, reads_read times_ledger times_reads s row t reading))

-- where some leave
pub readers_stay : (gone : List ℕ) (times : List TaskTimes) (readers : List TimesSight) → Pairs ReadTimes times readers
    → Pairs ReadTimes (staying times_id gone times) (staying (λ (s : TimesSight). s.id) gone readers)
readers_stay gone times readers all = pairs_stay ReadTimes times_id (λ (s : TimesSight). s.id) (λ x s p. p.0) gone times readers all

-- where there is one more
pub readers_more : (times : List TaskTimes) (readers : List TimesSight) (task : ℕ) (s : TimesSight) (row : TimesRow) (t : TimesSight) → Pairs ReadTimes times readers → s.id ≡ task → Reads times_ledger s row t
    → Pairs ReadTimes (times ++ (task, times_shown row) ∷ []) (readers ++ t ∷ [])
readers_more times readers task s row t all is reading = pair_more ReadTimes times readers (task, times_shown row) t all (one_reads task s row t is reading)

-- rows that are shown
rows_shown : (times : List TaskTimes) (rows : List TimesRow) → with_rows times_with times (map times_shown rows) ≡ with_rows (λ t row. times_with t (times_shown row)) times rows
rows_shown times [] = refl
rows_shown [] (r ∷ rows) = refl
rows_shown (t ∷ times) (r ∷ rows) = ap (λ xs. times_with t (times_shown r) ∷ xs) (rows_shown times rows)

-- where each read
pub readers_read : (old new : TimingView) → Pairs ReadTimes old.shown old.readers → ReadsTimes old new → Pairs ReadTimes new.shown new.readers
readers_read old new all reads =
    subst (λ (xs : List TaskTimes). Pairs ReadTimes xs new.readers) (sym (ap (λ (t : TimingView). t.shown) reads.2 ∙ rows_shown old.shown reads.0))
    (pairs_read ReadTimes (λ t row. times_with t (times_shown row)) (Reads times_ledger) (λ x s row t p reading. one_reads x.0 s row t p.0 reading) old.shown old.readers reads.0 new.readers all reads.1)

-- ---- a histogram that is taken in

-- opened and filled it is one more
pub filled : (before opened after : TimingView) (task : ℕ) (times : PollTimes) (read : TimesSight) → length before.readers ≡ length before.shown → opened ≡ timing_opened task before
    → after ≡ record opened { shown = changed_at (λ t. times_with t times) opened.shown (length opened.readers); readers = opened.readers ++ read ∷ [] }
    → after ≡ timing_with (task, times) read before
filled before opened after task times read step is e =
    e ∙ ap (λ (t : TimingView). record t { shown = changed_at (λ x. times_with x times) t.shown (length t.readers); readers = t.readers ++ read ∷ [] }) is
    ∙ ap (λ (xs : List TaskTimes). record before { shown = xs; readers = before.readers ++ read ∷ [] }) (changed_here (λ x. times_with x times) before.shown (task, times_shown opening_row) [] (length before.readers) (sym step))

-- opened and cancelled it is none
pub cancelled : (before opened after : TimingView) (task : ℕ) → length before.readers ≡ length before.shown → opened ≡ timing_opened task before
    → after ≡ record opened { shown = take (length opened.readers) opened.shown } → after ≡ before
cancelled before opened after task step is e =
    e ∙ ap (λ (t : TimingView). record t { shown = take (length t.readers) t.shown }) is
    ∙ ap (λ (xs : List TaskTimes). record before { shown = xs }) (ap (λ n. take n (before.shown ++ (task, times_shown opening_row) ∷ [])) step ∙ take-append_seam before.shown ((task, times_shown opening_row) ∷ []))
