-- Labels stand by themselves for good, or never do.
use Rattle.std.proofs.Common.{◌≡◌, ℕ, zero, suc, ◌<◌, List, [], ◌∷◌, ◌++◌, map, filter, length, get_or, slice_get, not, is_some, Bool, true, false, true≢false, cond, ◌||◌, Option, Some, None, refl, sym, subst, ap, ap₂, ◌∙◌, append_assoc, append-nil, arith}
use Rattle.std.specs.Prelude.{flat_map, option_map}
use Rattle.std.specs.List.{AllByRecursion, IsDistinct, list_any}
use Rattle.std.specs.Option.{option_map_or}
use Rattle.std.specs.Prelude.{nat_eq}
use Rattle.std.specs.Str.{bytes_eq}
use Rattle.std.specs.Cmp.Lexicographic.{nat_list_eq_equiv}
use Rattle.std.proofs.lemmas.List.{map-append}
use Rattle.std.proofs.lemmas.List.Folds.{list_any-append}
use Rattle.tk_client.specs.Changes.{Timed, has_task, left_as, tasks_beside, untimed}
use Rattle.tk_client.specs.declared.change.LeftTask.{LeftTask}
use Rattle.tk_client.proofs.IdLemmas.{own}
use Rattle.tk_reading.specs.Shown.{last_shown, tables_of}
use Rattle.tk_series.specs.Limited.{LimitedView, limited, names_of}
use Rattle.tk_series.specs.Series.{is_seen, series_of}
use Rattle.tk_series.specs.Totals.{shown_at}
use Rattle.tk_series.proofs.NameLemmas.{named_stands}
use Rattle.tk_stream.specs.Tables.{TablesView, empty_tables, task_id, task_with}
use Rattle.tk_stream.specs.Times.{TaskTimes}
use Rattle.tk_stream.specs.declared.tables.task.Task.{Task}
use Rattle.tk_metrics.specs.Blame.{plus_tally}
use Rattle.tk_metrics.specs.Entries.{left_task, task_entry}
use Rattle.tk_metrics.specs.Histograms.{counts_with, gone_histogram, histogram, sum_in, task_histogram, times_left, times_since}
use Rattle.tk_metrics.specs.Keys.{came_name, endless, keys_after, labels_in, left_name, names_between, names_since, others_labels, own_or_others, room_of}
use Rattle.tk_metrics.specs.declared.keys.Keys.{Keys}
use Rattle.tk_metrics.specs.KeysKept.{AreThere}
use Rattle.tk_metrics.specs.Leaving.{tasks_between, tasks_left, tasks_since}
use Rattle.tk_metrics.specs.Metrics.{count_of}
use Rattle.tk_metrics.specs.Rising.{AreKnown, shown_after, tables_after}
use Rattle.tk_metrics.specs.Stays.{stays}
use Rattle.tk_metrics.specs.Sums.{plus, sums_left, sums_of, task_labels}
use Rattle.tk_metrics.specs.declared.apart.Apart.{Apart}
use Rattle.tk_metrics.specs.declared.blame.Tally.{Tally}
use Rattle.tk_metrics.specs.declared.by.By.{By}
use Rattle.tk_metrics.specs.declared.family.Count.{Count}
use Rattle.tk_metrics.specs.declared.family.Timing.{Timing}

-- ---- what is known

abbrev pub with_names : By → Option (LimitedView Tally) → Keys
with_names by names = record { by = by; names = names }

abbrev by_of : Keys → By
by_of keys = keys.by

abbrev names_in : Keys → Option (LimitedView Tally)
names_in keys = keys.names

-- none, of which so many may stand by themselves
abbrev pub no_names : ℕ → LimitedView Tally
no_names room = record { room = room; first = []; rest = None }

pub names_more : (by : By) (old : TablesView) (shown : List TablesView) (t : TablesView)
    → names_since by old (shown ++ t ∷ []) ≡ names_since by old shown ++ names_between by (last_shown old shown) t
names_more by old [] t = append-nil (names_between by old t)
names_more by old (s ∷ shown) t =
    ap (λ xs. names_between by old s ++ xs) (names_more by s shown t)
    ∙ sym (append_assoc (names_between by old s) (names_since by s shown) (names_between by (last_shown s shown) t))

-- ---- labels among others

seen_left : (l : List ℕ) (xs ys : List (List ℕ × Tally)) → is_seen (names_of xs) l ≡ true → is_seen (names_of (xs ++ ys)) l ≡ true
seen_left l xs ys there =
    ap (λ ns. is_seen ns l) (map-append (λ (x : List ℕ × Tally). x.0) xs ys) ∙ list_any-append (bytes_eq l) (names_of xs) (names_of ys) ∙ ap (λ b. b || is_seen (names_of ys) l) there

seen_right : (l : List ℕ) (xs ys : List (List ℕ × Tally)) → is_seen (names_of ys) l ≡ true → is_seen (names_of (xs ++ ys)) l ≡ true
seen_right l xs ys there =
    ap (λ ns. is_seen ns l) (map-append (λ (x : List ℕ × Tally). x.0) xs ys) ∙ list_any-append (bytes_eq l) (names_of xs) (names_of ys) ∙ by (is_seen (names_of xs) l)
  where
    by : (b : Bool) → (b || is_seen (names_of ys) l) ≡ true
    by true = refl
    by false = there

all_by : (P Q : Task → Type 0) → ((u : Task) → P u → Q u) → (ts : List Task) → AllByRecursion P ts → AllByRecursion Q ts
all_by P Q by [] all = tt
all_by P Q by (t ∷ ts) all = (by t all.0, all_by P Q by ts all.1)

-- those that left are known
named_more : (by : By) (t : Task) (us ts : List Task) → AllByRecursion (λ (u : Task). is_seen (names_of (map (left_name by) ts)) (task_labels by u) ≡ true) us
    → AllByRecursion (λ (u : Task). is_seen (names_of (map (left_name by) (t ∷ ts))) (task_labels by u) ≡ true) us
named_more by t us ts = all_by (λ (u : Task). is_seen (names_of (map (left_name by) ts)) (task_labels by u) ≡ true) (λ (u : Task). is_seen (names_of (map (left_name by) (t ∷ ts))) (task_labels by u) ≡ true)
    (λ u there. seen_right (task_labels by u) (left_name by t ∷ []) (map (left_name by) ts) there) us

all_named : (by : By) (ts : List Task) → AllByRecursion (λ (u : Task). is_seen (names_of (map (left_name by) ts)) (task_labels by u) ≡ true) ts
all_named by [] = tt
all_named by (t ∷ ts) =
    (ap (λ b. b || is_seen (names_of (map (left_name by) ts)) (task_labels by t)) (nat_list_eq_equiv.refl (task_labels by t)), named_more by t ts ts (all_named by ts))

-- ---- a line more

module _ (apart : Apart) (shown : List TablesView) (t : TablesView) where
  abbrev was : Keys
  was = keys_after apart shown

  abbrev now : Keys
  now = keys_after apart (shown ++ t ∷ [])

  abbrev names : List (List ℕ × Tally)
  names = names_since apart.by empty_tables shown

  -- a task has the same labels as before
  abbrev Same : Task → Type 0
  Same u = labels_in now u ≡ labels_in was u

  -- so has each whose own labels are among these
  abbrev SameOf : List (List ℕ × Tally) → Type 0
  SameOf xs = (u : Task) → is_seen (names_of xs) (task_labels apart.by u) ≡ true → Same u

  pub same_labels : SameOf names
  same_labels u known = by (room_of apart)
    where
      l : List ℕ
      l = task_labels apart.by u

      more : List (List ℕ × Tally)
      more = names_between apart.by (last_shown empty_tables shown) t

      by : (o : Option ℕ) → option_map_or (own_or_others apart.by l) (option_map (λ room. limited room plus_tally (names_since apart.by empty_tables (shown ++ t ∷ []))) o) l
          ≡ option_map_or (own_or_others apart.by l) (option_map (λ room. limited room plus_tally names) o) l
      by None = refl
      by (Some room) =
          ap (λ b. cond b l (others_labels apart.by))
          (ap (λ xs. is_seen (names_of (limited room plus_tally xs).first) l) (names_more apart.by empty_tables shown t)
          ∙ named_stands plus_tally room l names more known)

  -- ---- tasks

  tasks_same : (ts : List Task) → AllByRecursion Same ts → map (left_task now) ts ≡ map (left_task was) ts
  tasks_same [] all = refl
  tasks_same (u ∷ us) all = ap₂ (λ l xs. (l, sums_left u.row) ∷ xs) all.0 (tasks_same us all.1)

  -- of tasks that left and are known
  all_same : (xs : List (List ℕ × Tally)) (ts : List Task) → SameOf xs → AllByRecursion (λ (u : Task). is_seen (names_of xs) (task_labels apart.by u) ≡ true) ts → AllByRecursion Same ts
  all_same xs ts same = all_by (λ (u : Task). is_seen (names_of xs) (task_labels apart.by u) ≡ true) Same same ts

  left_known : (old new : TablesView) (rest : List (List ℕ × Tally)) → SameOf (names_between apart.by old new ++ rest) → AllByRecursion Same (tasks_beside old new)
  left_known old new rest same =
      all_same (map (left_name apart.by) (tasks_beside old new)) (tasks_beside old new)
      (λ u there. same u (seen_left (task_labels apart.by u) (names_between apart.by old new) rest
      (seen_right (task_labels apart.by u) (map (came_name apart.by) (tasks_beside new old)) (map (left_name apart.by) (tasks_beside old new)) there)))
      (all_named apart.by (tasks_beside old new))

  rest_known : (old new : TablesView) (rest : List (List ℕ × Tally)) → SameOf (names_between apart.by old new ++ rest) → SameOf rest
  rest_known old new rest same u there = same u (seen_right (task_labels apart.by u) (names_between apart.by old new) rest there)

  gone_from : (old : TablesView) (some : List TablesView) → SameOf (names_since apart.by old some) → tasks_since now old some ≡ tasks_since was old some
  gone_from old [] same = refl
  gone_from old (new ∷ some) same =
      let rest = names_since apart.by new some in
      ap₂ (λ xs ys. xs ++ ys)
      (ap (λ xs. cond (stays apart.by) xs []) (tasks_same (tasks_beside old new) (left_known old new rest same)))
      (gone_from new some (rest_known old new rest same))

  pub gone_same : tasks_since now empty_tables shown ≡ tasks_since was empty_tables shown
  gone_same = gone_from empty_tables shown same_labels

  entries_same : (at : ℕ) (ts : List Task) → AllByRecursion Same ts → map (task_entry now at) ts ≡ map (task_entry was at) ts
  entries_same at [] all = refl
  entries_same at (u ∷ us) all = ap₂ (λ l xs. (l, sums_of at u.row) ∷ xs) all.0 (entries_same at us all.1)

  -- what was shown is shown the same
  pub shown_same : AreKnown apart.by shown → (count : Count) (labels : List ℕ) → shown_after now count labels shown ≡ shown_after was count labels shown
  shown_same known count labels =
      let last = tables_after shown in
      ap (λ xs. shown_at (count_of count) labels (series_of plus xs))
      (ap₂ (λ xs ys. xs ++ ys) gone_same (entries_same last.now last.tasks (all_same names last.tasks same_labels known)))

  -- ---- histograms

  task_same : (timing : Timing) (times : List TaskTimes) (u : Task) → Same u → task_histogram timing now times u ≡ task_histogram timing was times u
  task_same timing times u same = ap (λ l. option_map_or (λ counts. histogram l counts (sum_in timing u.row)) (counts_with timing times u.info.id) []) same

  histograms_same : (timing : Timing) (times : List TaskTimes) (new : TablesView) (ts : List Task)
      → AllByRecursion Same (filter (λ (u : Task). not (is_some (task_with u.info.id new.tasks))) ts)
      → flat_map (gone_histogram timing now times new) ts ≡ flat_map (gone_histogram timing was times new) ts
  histograms_same timing times new [] all = refl
  histograms_same timing times new (u ∷ us) all = by (not (is_some (task_with u.info.id new.tasks))) all (histograms_same timing times new us)
    where
      others : List Task
      others = filter (λ (v : Task). not (is_some (task_with v.info.id new.tasks))) us

      by : (b : Bool) → AllByRecursion Same (cond b (u ∷ others) others)
          → (AllByRecursion Same others → flat_map (gone_histogram timing now times new) us ≡ flat_map (gone_histogram timing was times new) us)
          → cond b (task_histogram timing now times u) [] ++ flat_map (gone_histogram timing now times new) us
          ≡ cond b (task_histogram timing was times u) [] ++ flat_map (gone_histogram timing was times new) us
      by true every more = ap₂ (λ xs ys. xs ++ ys) (task_same timing times u every.0) (more every.1)
      by false every more = more every

  times_from : (timing : Timing) (old : Timed) (timed : List Timed) → SameOf (names_since apart.by old.0 (tables_of timed)) → times_since timing now old timed ≡ times_since timing was old timed
  times_from timing old [] same = refl
  times_from timing old (new ∷ timed) same =
      let rest = names_since apart.by new.0 (tables_of timed) in
      ap₂ (λ xs ys. xs ++ ys)
      (ap (λ xs. cond (stays apart.by) xs []) (histograms_same timing old.1 new.0 old.0.tasks (left_known old.0 new.0 rest same)))
      (times_from timing new timed (rest_known old.0 new.0 rest same))

  pub times_same : (timing : Timing) (timed : List Timed) → shown ≡ tables_of timed → times_since timing now untimed timed ≡ times_since timing was untimed timed
  times_same timing timed is = times_from timing untimed timed (subst (λ xs. SameOf (names_since apart.by empty_tables xs)) is same_labels)

-- ---- how they are kept

-- before the first line there are none
limited-none : (room : ℕ) → limited room plus_tally [] ≡ (no_names room)
limited-none zero = refl
limited-none (suc room) = refl

pub keys_first : (apart : Apart) (room : ℕ) (first : LimitedView Tally) → first ≡ no_names room → Some room ≡ room_of apart → with_names apart.by (Some first) ≡ keys_after apart []
keys_first apart room first none is =
    ap (λ n. with_names apart.by (Some n)) (none ∙ sym (limited-none room)) ∙ ap (λ o. with_names apart.by (option_map (λ r. limited r plus_tally []) o)) is

pub keys_endless : (apart : Apart) → None ≡ room_of apart → endless apart.by ≡ keys_after apart []
keys_endless apart is = ap (λ o. with_names apart.by (option_map (λ r. limited r plus_tally []) o)) is

module _ (apart : Apart) (shown : List TablesView) (t : TablesView) (by : By) where
  abbrev since : List (List ℕ × Tally)
  since = names_since apart.by empty_tables shown

  abbrev then : List (List ℕ × Tally)
  then = names_since apart.by empty_tables (shown ++ t ∷ [])

  abbrev names_by : List (List ℕ × Tally) → Option ℕ → Option (LimitedView Tally)
  names_by xs o = option_map (λ room. limited room plus_tally xs) o

  -- without an end there is nothing to know
  pub noted_none : with_names by None ≡ keys_after apart shown → with_names by None ≡ keys_after apart (shown ++ t ∷ [])
  noted_none is = λ i. with_names (ap by_of is i) (none (room_of apart) (ap names_in is) i)
    where
      none : (o : Option ℕ) → None ≡ names_by since o → None ≡ names_by then o
      none None e = refl
      none (Some room) e = absurd (true≢false (sym (ap is_some e)))

  -- with one the labels of the line are
  pub noted_some : (old new : LimitedView Tally) → with_names by (Some old) ≡ keys_after apart shown
      → ((room : ℕ) → old ≡ limited room plus_tally since → new ≡ limited room plus_tally (since ++ names_between by (last_shown empty_tables shown) t))
      → with_names by (Some new) ≡ keys_after apart (shown ++ t ∷ [])
  noted_some old new is adds = λ i. with_names (ap by_of is i) (some (room_of apart) (ap names_in is) i)
    where
      some : (o : Option ℕ) → Some old ≡ names_by since o → Some new ≡ names_by then o
      some None e = absurd (true≢false (ap is_some e))
      some (Some room) e =
          let same : old ≡ limited room plus_tally since = cc in
          ap Some (adds room same
          ∙ ap (λ b. limited room plus_tally (since ++ names_between b (last_shown empty_tables shown) t)) (ap by_of is)
          ∙ ap (limited room plus_tally) (sym (names_more apart.by empty_tables shown t)))

all-kept : {X : Type 0} (P : X → Type 0) (p : X → Bool) (xs : List X) → AllByRecursion P xs → AllByRecursion P (filter p xs)
all-kept P p [] all = tt
all-kept P p (x ∷ xs) all = by (p x) (all-kept P p xs all.1)
  where
    by : (b : Bool) → AllByRecursion P (filter p xs) → AllByRecursion P (cond b (x ∷ filter p xs) (filter p xs))
    by true rest = (all.0, rest)
    by false rest = rest

-- those that came are found by their ids
pub found : (t others : TablesView) → IsDistinct nat_eq (map task_id t.tasks) → AreThere t (tasks_beside t others)
found t others once = all-kept _ (λ (x : Task). not (has_task others x.info.id)) t.tasks (own task_id t.tasks once)

-- the task of an id is the one at its place
pub at-place : (tables : TablesView) (tasks : List Task) (i d : ℕ) → AreThere tables tasks → i < length (map task_id tasks) → task_with (get_or (map task_id tasks) i d) tables.tasks ≡ slice_get tasks i
at-place tables [] i d there lt = absurd (omega (arith, lt))
at-place tables (t ∷ tasks) zero d there lt = there.0
at-place tables (t ∷ tasks) (suc i) d there lt = at-place tables tasks i d there.1 (omega (arith, lt))

-- of those that left stands what they were
pub names-left : (by : By) (times : List TaskTimes) (ts : List Task) → map (λ (l : LeftTask). left_name by l.task) (map (left_as times) ts) ≡ map (left_name by) ts
names-left by times [] = refl
names-left by times (t ∷ ts) = ap (λ xs. left_name by t ∷ xs) (names-left by times ts)
