-- The courses of tasks, line by line.
use Rattle.std.proofs.Common.{◌≡◌, ℕ, suc, ◌+◌, ◌≤◌, ◌⊎◌, inl, inr, List, [], ◌∷◌, ◌++◌, length, slice_get, Bool, true, false, cond, Option, Some, None, refl, ap, sym, ◌∙◌, append-nil, length-append, arith, subst, nat_eq, not}
use Rattle.std.specs.Prelude.{flat_map, fold, reverse, take_while, unwrap_or}
use Rattle.std.specs.List.{last_or, prefix_len}
use Rattle.std.specs.Option.{option_map_or}
use Rattle.std.proofs.lemmas.Grind.{flat_map-append}
use Rattle.std.proofs.lemmas.List.{length-map, length-reverse, length-take, map-append, reverse-append}
use Rattle.std.proofs.lemmas.List.Sums.{length-filter, take_while-cons}
use Rattle.indexmap.specs.IndexMap.{get}
use Rattle.tk_core.specs.Lists.{capped}
use Rattle.tk_core.specs.declared.task.row.TaskRow.{TaskRow}
use Rattle.tk_client.specs.Changes.{ChangeView, Leads, left_as, tasks_beside}
use Rattle.tk_client.specs.declared.change.LeftTask.{LeftTask}
use Rattle.tk_stream.specs.Tables.{TablesView, empty_tables, task_with}
use Rattle.tk_stream.specs.declared.tables.task.Task.{Task}
use Rattle.tk_paper.specs.Courses.{IsCourse, no_items}
use Rattle.tk_reading.specs.Shown.{last_shown}
use Rattle.tk_page.specs.Courses.{AreKept, TellOf, courses_of}
use Rattle.tk_page.specs.Kept.{AreTracks, FollowsAt, Tells, caught_up, first_of, gain_of, gone_from, gone_of, has_task, last_of, latest, left_in, moments_of, run_of, sample_in, samples_more, samples_of, total_more, total_of, totals_from, totals_of}
use Rattle.tk_page.specs.Samples.{nothing, plus, sample_of}
use Rattle.tk_page.specs.declared.history.History.{History}
use Rattle.tk_page.specs.declared.track.Track.{Track}
use Rattle.tk_page.specs.declared.tracks.Tracks.{Tracks}
use Rattle.tk_page.specs.declared.sample.Sample.{Sample}

-- ---- the samples with one line more

run_snoc : (id : ℕ) (shown : List TablesView) (tables : TablesView) → run_of id (shown ++ tables ∷ []) ≡ cond (has_task id tables) (run_of id shown ++ tables ∷ []) []
run_snoc id shown tables =
    ap (λ xs. reverse (take_while (has_task id) xs)) (reverse-append shown (tables ∷ []))
    ∙ ap reverse (take_while-cons (has_task id) tables (reverse shown))
    ∙ by (has_task id tables)
  where
    by : (b : Bool) → reverse (cond b (tables ∷ take_while (has_task id) (reverse shown)) []) ≡ cond b (run_of id shown ++ tables ∷ []) []
    by true = reverse-append (tables ∷ []) (take_while (has_task id) (reverse shown))
    by false = refl

pub samples_snoc : (id : ℕ) (shown : List TablesView) (tables : TablesView) → samples_of id (shown ++ tables ∷ []) ≡ samples_more id tables (samples_of id shown)
samples_snoc id shown tables = ap (flat_map (sample_in id)) (run_snoc id shown tables) ∙ by (has_task id tables)
  where
    by : (b : Bool) → flat_map (sample_in id) (cond b (run_of id shown ++ tables ∷ []) []) ≡ cond b (samples_of id shown ++ sample_in id tables) []
    by true = flat_map-append (sample_in id) (run_of id shown) (tables ∷ []) ∙ ap (λ xs. samples_of id shown ++ xs) (append-nil (sample_in id tables))
    by false = refl

one_at_most : (id : ℕ) (tables : TablesView) → length (sample_in id tables) ≤ 1
one_at_most id tables = by (task_with id tables.tasks)
  where
    by : (o : Option Task) → length (option_map_or (λ t. sample_of t.row tables.now ∷ []) o []) ≤ 1
    by None = omega arith
    by (Some t) = omega arith

few_of : (id : ℕ) (xs : List TablesView) → length (flat_map (sample_in id) xs) ≤ length xs
few_of id [] = omega arith
few_of id (x ∷ xs) = omega (arith, one_at_most id x, few_of id xs, length-append (sample_in id x) (flat_map (sample_in id) xs))

-- a task has no more samples than there are lines
pub few_samples : (id : ℕ) (shown : List TablesView) → length (samples_of id shown) ≤ length shown
few_samples id shown =
    let front = take_while (has_task id) (reverse shown) in
    let n = prefix_len (has_task id) (reverse shown) in
    omega (arith, few_of id (run_of id shown), length-reverse front, length-take n (reverse shown), length-reverse shown)

-- ---- the last of a list

pub last_push : {A : Type 0} (o : Option A) (xs : List A) (x : A) → last_or o (xs ++ x ∷ []) ≡ Some x
last_push o [] x = refl
last_push o (y ∷ ys) x = last_push (Some y) ys x

-- the last of a list after an item is that of the list, or the item
last_after : {A : Type 0} (a d : A) (xs : List A) → unwrap_or (last_or (Some a) xs) d ≡ unwrap_or (last_or None xs) a
last_after a d [] = refl
last_after a d (x ∷ xs) = last_after x d xs ∙ sym (last_after x a xs)

-- a list is empty, or has a last item
snoc_of : {A : Type 0} (xs : List A) → (xs ≡ []) ⊎ ((ys : List A) × (y : A) × (xs ≡ ys ++ y ∷ []))
snoc_of [] = inl refl
snoc_of {A} (x ∷ xs) = by (snoc_of xs)
  where
    by : (xs ≡ []) ⊎ ((ys : List A) × (y : A) × (xs ≡ ys ++ y ∷ [])) → (x ∷ xs ≡ []) ⊎ ((ys : List A) × (y : A) × (x ∷ xs ≡ ys ++ y ∷ []))
    by (inl e) = inr ([], x, ap (λ zs. x ∷ zs) e)
    by (inr h) = inr (x ∷ h.0, h.1, ap (λ zs. x ∷ zs) h.2)

-- ---- what all tasks gained

totals_push : (total : Sample) (before : TablesView) (shown : List TablesView) (tables : TablesView)
    → totals_from total before (shown ++ tables ∷ [])
    ≡ totals_from total before shown ++ total_more (unwrap_or (last_or None (totals_from total before shown)) total) (unwrap_or (last_or None shown) before) tables ∷ []
unfolding totals_from
totals_push total before [] tables = refl
totals_push total before (x ∷ xs) tables =
    let now = total_more total before x in
    ap (λ ts. now ∷ ts) (totals_push now x xs tables)
    ∙ ap (λ s. now ∷ (totals_from now x xs ++ total_more s (unwrap_or (last_or None xs) x) tables ∷ [])) (sym (last_after now total (totals_from now x xs)))
    ∙ ap (λ b. now ∷ (totals_from now x xs ++ total_more (unwrap_or (last_or (Some now) (totals_from now x xs)) total) b tables ∷ [])) (sym (last_after x before xs))

-- one line more
pub totals_snoc : (shown : List TablesView) (tables : TablesView) → totals_of (shown ++ tables ∷ []) ≡ totals_of shown ++ total_more (total_of shown) (last_of shown) tables ∷ []
unfolding totals_of
totals_snoc shown tables = totals_push (nothing 0) empty_tables shown tables

total_snoc : (shown : List TablesView) (tables : TablesView) → total_of (shown ++ tables ∷ []) ≡ total_more (total_of shown) (last_of shown) tables
total_snoc shown tables =
    ap latest (totals_snoc shown tables) ∙ ap (λ o. unwrap_or o (nothing 0)) (last_push None (totals_of shown) (total_more (total_of shown) (last_of shown) tables))

length-totals_from : (total : Sample) (before : TablesView) (shown : List TablesView) → length (totals_from total before shown) ≡ length shown
unfolding totals_from
length-totals_from total before [] = refl
length-totals_from total before (x ∷ xs) = ap suc (length-totals_from (total_more total before x) x xs)

pub length-totals_of : (shown : List TablesView) → length (totals_of shown) ≡ length shown
unfolding totals_of
length-totals_of shown = length-totals_from (nothing 0) empty_tables shown

-- ---- how many left

gone_push : (before : TablesView) (shown : List TablesView) (tables : TablesView)
    → gone_from before (shown ++ tables ∷ []) ≡ gone_from before shown + left_in (unwrap_or (last_or None shown) before) tables
unfolding gone_from
gone_push before [] tables = omega arith
gone_push before (x ∷ xs) tables =
    let rest = gone_push x xs tables in
    let same = ap (λ b. left_in b tables) (last_after x before xs) in
    omega (arith, rest, same)

gone_snoc : (shown : List TablesView) (tables : TablesView) → gone_of (shown ++ tables ∷ []) ≡ gone_of shown + left_in (last_of shown) tables
unfolding gone_of
gone_snoc shown tables = gone_push empty_tables shown tables

-- as many left as a line took away
pub left_told : (before tables : TablesView) (change : ChangeView) → Leads before tables change → length change.left ≡ left_in before tables
left_told before tables change l =
    ap (λ (xs : List LeftTask). length xs) l.is.left
    ∙ length-map (tasks_beside before tables) (left_as l.times_before)
    ∙ length-filter (λ (t : Task). not (has_task t.info.id tables)) before.tasks

-- ---- the last line

-- the last of tables is what was shown last
last_is : (d : TablesView) (shown : List TablesView) → last_shown d shown ≡ unwrap_or (last_or None shown) d
last_is d [] = refl
last_is d (x ∷ xs) = last_is x xs ∙ sym (last_after x d xs)

pub leads_last : (shown : List TablesView) (tables : TablesView) (change : ChangeView) → Leads (last_shown empty_tables shown) tables change → Leads (last_of shown) tables change
leads_last shown tables change l = subst (λ (t : TablesView). Leads t tables change) (last_is empty_tables shown) l

sums_now : (gain : Task → Sample) (s : Sample) (ts : List Task) → (fold (λ r t. plus r (gain t)) s ts).now ≡ s.now
sums_now gain s [] = refl
sums_now gain s (t ∷ ts) = sums_now gain (plus s (gain t)) ts

more_now : (total : Sample) (before tables : TablesView) → (total_more total before tables).now ≡ tables.now
unfolding total_more
more_now total before tables = sums_now (gain_of before tables) (plus (nothing tables.now) total) tables.tasks

none_now : (total_of []).now ≡ (last_of []).now
unfolding totals_of totals_from
none_now = refl

-- what all gained is of the moment of the last line
pub total_now : (shown : List TablesView) → (total_of shown).now ≡ (last_of shown).now
total_now shown = by (snoc_of shown)
  where
    by : (shown ≡ []) ⊎ ((ys : List TablesView) × (y : TablesView) × (shown ≡ ys ++ y ∷ [])) → (total_of shown).now ≡ (last_of shown).now
    by (inl e) = subst (λ (ts : List TablesView). (total_of ts).now ≡ (last_of ts).now) (sym e) none_now
    by (inr h) =
        subst (λ (ts : List TablesView). (total_of ts).now ≡ (last_of ts).now) (sym h.2)
        (ap (λ (s : Sample). s.now) (total_snoc h.0 h.1)
        ∙ more_now (total_of h.0) (last_of h.0) h.1
        ∙ sym (ap (λ (o : Option TablesView). (unwrap_or o empty_tables).now) (last_push None h.0 h.1)))

-- ---- a line more

-- after a line more the history tells of it
pub tells_more : (shown : List TablesView) (tables : TablesView) (change : ChangeView) (sum : Sample) (tracks : Tracks) (old new : History) → Leads (last_of shown) tables change
    → Tells shown old → AreTracks (shown ++ tables ∷ []) tracks → sum ≡ total_more old.last (last_of shown) tables → new.moments.items ≡ old.moments.items ++ tables.now ∷ []
    → new.tracks ≡ tracks → IsCourse (totals_of shown ++ sum ∷ []) new.sums → new.last ≡ sum → new.gone ≡ capped (old.gone + length change.left) → Tells (shown ++ tables ∷ []) new
tells_more shown tables change sum tracks old new l h follow gains moments same sums last gone =
    let is : sum ≡ total_more (total_of shown) (last_of shown) tables = gains ∙ ap (λ (s : Sample). total_more s (last_of shown) tables) h.last in
    let left = left_told (last_of shown) tables change l in
    let more = gone_snoc shown tables in
    record {
      moments = moments ∙ ap (λ (ms : List ℕ). ms ++ tables.now ∷ []) h.moments ∙ sym (map-append (λ (t : TablesView). t.now) shown (tables ∷ []));
      tracks = subst (AreTracks (shown ++ tables ∷ [])) (sym same) follow;
      gone = omega (arith, gone, h.gone, left, more);
      sums = subst (λ (xs : List Sample). IsCourse xs new.sums) (sym (totals_snoc shown tables)) (subst (λ (s : Sample). IsCourse (totals_of shown ++ s ∷ []) new.sums) is sums);
      last = last ∙ is ∙ sym (total_snoc shown tables);
    }

-- before the first line
pub tells_none : (history : History) → history.moments.items ≡ [] → AreTracks [] history.tracks → history.gone ≡ 0 → IsCourse [] history.sums → history.last ≡ nothing 0 → Tells [] history
unfolding gone_of gone_from totals_of totals_from
tells_none history moments tracks gone sums last = record { moments = moments; tracks = tracks; gone = gone; sums = sums; last = last }

-- ---- what the page is told

-- of no items nothing is kept
pub none_is : IsCourse {A = Sample} [] no_items
none_is = record { few = omega arith; many = λ more. absurd (omega (arith, more)); each = λ d i h. absurd (omega (arith, h)); come = refl; short = omega arith }

none_kept : (xs kept : List Sample) → xs ≡ [] → kept ≡ [] → AreKept xs kept
none_kept xs kept none is = record { course = no_items; is = subst (λ (ys : List Sample). IsCourse ys no_items) (sym none) none_is; shows = is }

are_kept : (moments ms : List ℕ) (xs : List Sample) (now : Option TaskRow) (o : Option Track) → ms ≡ moments → FollowsAt moments xs now o
    → AreKept xs (option_map_or (λ (track : Track). (caught_up ms track).kept) o [])
are_kept moments ms xs now None is h = none_kept xs [] h.1 refl
are_kept moments ms xs now (Some track) is h =
    subst (λ (ks : List ℕ). AreKept xs (caught_up ks track).kept) (sym is) (record { course = caught_up moments track; is = h.course; shows = refl })

pub tell_of : (shown : List TablesView) (history : History) → Tells shown history → TellOf shown (courses_of history)
tell_of shown history h = record {
  lines = ap (λ (ms : List ℕ). length ms) h.moments ∙ length-map shown (λ (t : TablesView). t.now);
  first = ap (λ (ms : List ℕ). unwrap_or (slice_get ms 0) 0) h.moments ∙ by shown;
  kept = λ id. are_kept (moments_of shown) history.moments.items (samples_of id shown) _ (get nat_eq history.tracks.tasks id) h.moments (h.tracks.tasks id);
  sums = record { course = history.sums; is = h.sums; shows = refl };
  last = h.last;
  gone = h.gone;
}
  where
    by : (xs : List TablesView) → unwrap_or (slice_get (moments_of xs) 0) 0 ≡ first_of xs
    by [] = refl
    by (x ∷ xs) = refl
