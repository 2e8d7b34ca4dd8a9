-- Rows that are kept of the last line's tasks: one more, after a line, and who gains nothing.
use Rattle.std.proofs.Common.{◌≡◌, ℕ, suc, ◌+◌, ◌-◌, List, [], ◌∷◌, ◌++◌, length, map, Bool, true, false, cond, nat_eq, nat_le, max, min, Option, Some, None, slice_get, refl, ap, ap₂, sym, ◌∙◌, append_assoc, append-nil, arith, true≢false}
use Rattle.std.specs.Prelude.{filter, fold, is_some, not, option_map, ◌||◌, ◌&&◌}
use Rattle.std.specs.List.{AllByRecursion, IsDistinct}
use Rattle.std.specs.Map.{lookup}
use Rattle.std.specs.Option.{option_map_or}
use Rattle.std.proofs.lemmas.Bool.{or_parts, eqb-true, eq-eqb}
use Rattle.std.proofs.lemmas.List.{map-append}
use Rattle.std.proofs.lemmas.List.Folds.{list_any-append}
use Rattle.indexmap.specs.IndexMap.{insert_entry}
use Rattle.tk_client.proofs.IdLemmas.{flipped, itself, own}
use Rattle.tk_client.specs.Candidates.{places_by}
use Rattle.tk_client.specs.Changes.{ChangeView, Leads, has_task, is_one_of, left_as, left_id, tasks_beside}
use Rattle.tk_client.specs.Warnings.{is_spawn}
use Rattle.tk_core.specs.Lasting.{busy_until, runs_for, sched_until}
use Rattle.tk_core.specs.declared.task.row.TaskRow.{TaskRow}
use Rattle.tk_report.specs.Runs.{ended_of, ended_run}
use Rattle.tk_stream.specs.Tables.{TablesView, is_among, task_id, task_with}
use Rattle.tk_stream.specs.Times.{TaskTimes}
use Rattle.tk_stream.specs.declared.tables.task.Task.{Task}
use Rattle.tk_odd.specs.Gains.{fresh, gain_since, has_gained, waits}
use Rattle.tk_odd.specs.Keeping.{Keeps, kept_row, lasts, lasts_in, may_gain, plain_rows, row_in, with_waiter}
use Rattle.tk_odd.specs.Members.{Member, gain_of, with_gain, with_task}
use Rattle.tk_odd.specs.Waiters.{with_row}
use Rattle.tk_odd.specs.declared.kept.Kept.{Kept}
use Rattle.tk_odd.specs.declared.rows.Rows.{Rows}

-- ---- one more id

among-more : (ids : List ℕ) (id n : ℕ) → is_among (ids ++ id ∷ []) n ≡ (is_among ids n || (nat_eq n id || false))
among-more ids id n = list_any-append (λ m. nat_eq n m) ids (id ∷ [])

-- what is set for one more id, where it is set for the others
pub set_next : {V : Type 0} (of : ℕ → V) (was : V) (ids : List ℕ) (id n : ℕ)
    → cond (nat_eq id n) (of id) (cond (is_among ids n) (of n) was) ≡ cond (is_among (ids ++ id ∷ []) n) (of n) was
set_next of was ids id n = by (nat_eq id n) refl (is_among ids n) ∙ ap (λ b. cond b (of n) was) (sym (among-more ids id n))
  where
    by : (b : Bool) → nat_eq id n ≡ b → (told : Bool) → cond b (of id) (cond told (of n) was) ≡ cond (told || (nat_eq n id || false)) (of n) was
    by true e true = ap of (eqb-true id n e)
    by true e false = rw (eq-eqb n id (sym (eqb-true id n e))) (ap of (eqb-true id n e))
    by false e true = refl
    by false e false = rw (flipped id n e) refl

-- one more that is listed
pub listed_next : (was : Bool) (ids : List ℕ) (id n : ℕ) → cond (nat_eq id n) true (is_among ids n || was) ≡ (is_among (ids ++ id ∷ []) n || was)
listed_next was ids id n = by (nat_eq id n) refl (is_among ids n) ∙ ap (λ b. b || was) (sym (among-more ids id n))
  where
    by : (b : Bool) → nat_eq id n ≡ b → (told : Bool) → cond b true (told || was) ≡ ((told || (nat_eq n id || false)) || was)
    by true e true = refl
    by true e false = rw (eq-eqb n id (sym (eqb-true id n e))) refl
    by false e true = refl
    by false e false = rw (flipped id n e) refl

-- what is made of one of two
pub made_cond : {A B : Type 0} (f : A → B) (b : Bool) (x y : A) → f (cond b x y) ≡ cond b (f x) (f y)
made_cond f true x y = refl
made_cond f false x y = refl

-- ---- after a line

left-ids : (times : List TaskTimes) (ts : List Task) → map left_id (map (left_as times) ts) ≡ map task_id ts
left-ids times [] = refl
left-ids times (t ∷ ts) = ap (λ ids. t.info.id ∷ ids) (left-ids times ts)

absent : (o : Option Task) → is_some o ≡ false → o ≡ None
absent None e = refl
absent (Some t) e = absurd (true≢false e)

-- a task that is there has not left
stays : (h : ℕ → Bool) (id : ℕ) → h id ≡ true → (ts : List Task) → is_among (map task_id (filter (λ (t : Task). not (h t.info.id)) ts)) id ≡ false
stays h id there [] = refl
stays h id there (t ∷ ts) = by (h t.info.id) refl (stays h id there ts)
  where
    differs : h t.info.id ≡ false → (rest : Bool) → rest ≡ false → (c : Bool) → nat_eq id t.info.id ≡ c → (c || rest) ≡ false
    differs away rest none true same = absurd (true≢false (sym there ∙ ap h (eqb-true id t.info.id same) ∙ away))
    differs away rest none false same = none

    by : (b : Bool) → h t.info.id ≡ b → is_among (map task_id (filter (λ (x : Task). not (h x.info.id)) ts)) id ≡ false
        → is_among (map task_id (cond (not b) (t ∷ filter (λ (x : Task). not (h x.info.id)) ts) (filter (λ (x : Task). not (h x.info.id)) ts))) id ≡ false
    by true e rest = rest
    by false e rest = differs e (is_among (map task_id (filter (λ (x : Task). not (h x.info.id)) ts)) id) rest (nat_eq id t.info.id) refl

module _ {V : Type 0} (g : Option Task → V) where
  -- a task that isn't there now has left, or was never there
  leaves : (h : ℕ → Bool) (id : ℕ) → h id ≡ false → (ts : List Task)
      → cond (is_among (map task_id (filter (λ (t : Task). not (h t.info.id)) ts)) id) (g None) (g (task_with id ts)) ≡ g None
  leaves h id away [] = refl
  leaves h id away (t ∷ ts) = by (nat_eq id t.info.id) refl (h t.info.id) refl (leaves h id away ts)
    where
      by : (c : Bool) → nat_eq id t.info.id ≡ c → (b : Bool) → h t.info.id ≡ b
          → cond (is_among (map task_id (filter (λ (x : Task). not (h x.info.id)) ts)) id) (g None) (g (task_with id ts)) ≡ g None
          → cond (is_among (map task_id (cond (not b) (t ∷ filter (λ (x : Task). not (h x.info.id)) ts) (filter (λ (x : Task). not (h x.info.id)) ts))) id) (g None)
          (g (cond c (Some t) (task_with id ts)))
          ≡ g None
      by true same true there rest = absurd (true≢false (sym there ∙ ap h (sym (eqb-true id t.info.id same)) ∙ away))
      by true same false there rest = rw same refl
      by false same true there rest = rest
      by false same false there rest = rw same rest

  -- what is kept of those that a line tells of, and of the others that stayed, is what is there
  pub after_line : (before after : TablesView) (change : ChangeView) → Leads before after change → (id : ℕ)
      → cond (is_among change.told id) (g (task_with id after.tasks)) (cond (is_among (map left_id change.left) id) (g None) (g (task_with id before.tasks)))
      ≡ g (task_with id after.tasks)
  after_line before after change l id = by (is_among change.told id) refl (has_task after id) refl
    where
      left : map left_id change.left ≡ map task_id (tasks_beside before after)
      left = ap (map left_id) l.is.left ∙ left-ids l.times_before (tasks_beside before after)

      was : List ℕ → V
      was ids = cond (is_among ids id) (g None) (g (task_with id before.tasks))

      by : (b : Bool) → is_among change.told id ≡ b → (h : Bool) → has_task after id ≡ h → cond b (g (task_with id after.tasks)) (was (map left_id change.left)) ≡ g (task_with id after.tasks)
      by true told h there = refl
      by false told true there =
          ap was left
          ∙ ap (λ c. cond c (g None) (g (task_with id before.tasks))) (stays (has_task after) id there before.tasks)
          ∙ ap g (sym (l.is.same id told there).task)
      by false told false there = ap was left ∙ leaves (has_task after) id there before.tasks ∙ ap g (sym (absent (task_with id after.tasks) there))

-- ---- who gains nothing

-- a task that neither runs nor waits, and is as it was
gains_nothing : (before now : ℕ) (x : TaskRow) → lasts x ≡ false → has_gained (gain_since before now x x) ≡ false
gains_nothing before now x none =
    let p = or_parts x.polling x.scheduled none in
    let runs : runs_for x now ≡ 0 = rw p.0 refl in
    let busy : busy_until x now ≡ busy_until x before = rw p.0 refl in
    let sched : sched_until x now ≡ sched_until x before = rw p.0 (rw p.1 refl) in
    let ended : ended_run (ended_of x) x ≡ 0 = rw (itself (ended_of x).polls) refl in
    let ran : min (now - before) (busy_until x now - busy_until x before) ≡ 0 = omega (arith, busy) in
    let waited : min (now - before) (sched_until x now - sched_until x before) ≡ 0 = omega (arith, sched) in
    let longest : max (runs_for x now) (ended_run (ended_of x) x) ≡ 0 = ap₂ max runs ended in
    let g = gain_since before now x x in
    let all : g.ran + (g.waited + (g.polls + g.longest)) ≡ 0 = omega (arith, ran, waited, longest) in
    ap (nat_le 1) all

each : {X : Type 0} (P Q : X → Type 0) → ((x : X) → P x → Q x) → (xs : List X) → AllByRecursion P xs → AllByRecursion Q xs
each P Q h [] all = tt
each P Q h (x ∷ xs) all = (h x all.0, each P Q h xs all.1)

never : (b c : Bool) → c ≡ false → (b && c) ≡ false
never true c e = e
never false c e = refl

module _ (before after : TablesView) (change : ChangeView) (l : Leads before after change) (r : Rows) (k : Keeps before r) where
  same-members : (t : Task) → task_with t.info.id after.tasks ≡ Some t → may_gain change.told r.lasting.keys t ≡ false → (members : List Member) → with_task before after members t ≡ members
  same-members t found quiet members =
      let p = or_parts (is_among change.told t.info.id) (is_among r.lasting.keys t.info.id) quiet in
      let was : task_with t.info.id before.tasks ≡ Some t = sym (l.is.same t.info.id p.0 (ap is_some found)).task ∙ found in
      let idle : lasts t.row ≡ false =
      ap (λ (o : Option Task). option_map_or lasts (option_map (λ (x : Task). x.row) o) false) (sym was) ∙ sym (k.lasting t.info.id) ∙ p.1 in
      let gain : gain_of before after t ≡ gain_since before.now after.now t.row t.row =
      ap (λ (o : Option Task). gain_since before.now after.now (option_map_or (λ (x : Task). x.row) o (fresh t.row)) t.row) was in
      let none : (is_spawn t.info.kind && has_gained (gain_of before after t)) ≡ false =
      never (is_spawn t.info.kind) _ (ap has_gained gain ∙ gains_nothing before.now after.now t.row idle) in
      ap (λ b. cond b (with_gain t (gain_of before after t) members) members) none

  -- of the tasks of tables these alone may gain something
  pub others_same : IsDistinct nat_eq (map task_id after.tasks)
      → AllByRecursion (λ (t : Task). may_gain change.told r.lasting.keys t ≡ false → (members : List Member) → with_task before after members t ≡ members) after.tasks
  others_same once = each _ _ same-members after.tasks (own task_id after.tasks once)

-- ---- those at some places

module _ {S : Type 0} (f : S → Task → S) (p : Task → Bool) where
  abbrev at : List Task → S → ℕ → S
  at tasks s i = option_map_or (f s) (slice_get tasks i) s

  skipped-from : (front tasks all : List Task) (b : ℕ) → b ≡ length front → all ≡ front ++ tasks → AllByRecursion (λ (t : Task). p t ≡ false → (s : S) → f s t ≡ s) tasks → (s : S)
      → fold (at all) s (places_by p b tasks) ≡ fold f s tasks
  skipped-from front [] all b is e quiet s = refl
  skipped-from front (t ∷ ts) all b is e quiet s =
      by (p t) refl (λ (n : S). skipped-from (front ++ t ∷ []) ts all (suc b) (ap suc is ∙ sym (long front)) (e ∙ sym (append_assoc front (t ∷ []) ts)) quiet.1 n)
    where
      long : (xs : List Task) → length (xs ++ t ∷ []) ≡ suc (length xs)
      long [] = refl
      long (x ∷ xs) = ap suc (long xs)

      there : (xs : List Task) → slice_get (xs ++ t ∷ ts) (length xs) ≡ Some t
      there [] = refl
      there (x ∷ xs) = there xs

      here : at all s b ≡ f s t
      here = ap (λ (o : Option Task). option_map_or (f s) o s) (ap₂ slice_get e is ∙ there front)

      by : (c : Bool) → p t ≡ c → ((n : S) → fold (at all) n (places_by p (suc b) ts) ≡ fold f n ts)
          → fold (at all) s (cond c (b ∷ places_by p (suc b) ts) (places_by p (suc b) ts)) ≡ fold f (f s t) ts
      by true h rest = ap (λ (n : S). fold (at all) n (places_by p (suc b) ts)) here ∙ rest (f s t)
      by false h rest = rest s ∙ ap (λ (n : S). fold f n ts) (sym (quiet.0 h s))

  -- what is folded at the places of what passes a test is what is folded of all, where nothing changes by the others
  pub skipped : (tasks : List Task) → AllByRecursion (λ (t : Task). p t ≡ false → (s : S) → f s t ≡ s) tasks → (s : S)
      → fold (at tasks) s (places_by p 0 tasks) ≡ fold f s tasks
  skipped tasks quiet s = skipped-from [] tasks tasks 0 refl refl quiet s

-- ---- who waits

-- a row without how it is kept is found by the same id
pub plain_found : (id : ℕ) (rows : List (ℕ × Kept)) → lookup (nat_eq id) (plain_rows rows) ≡ kept_row rows id
plain_found id [] = refl
plain_found id (e ∷ rows) = by (nat_eq id e.0) (plain_found id rows)
  where
    by : (b : Bool) → lookup (nat_eq id) (plain_rows rows) ≡ kept_row rows id
        → cond b (Some e.1.row) (lookup (nat_eq id) (plain_rows rows)) ≡ option_map (λ (k : Kept). k.row) (cond b (Some e.1) (lookup (nat_eq id) rows))
    by true rest = refl
    by false rest = rest

put_last : (id : ℕ) (v : Kept) (rows : List (ℕ × Kept)) → lookup (nat_eq id) rows ≡ None → insert_entry nat_eq rows id v ≡ rows ++ (id, v) ∷ []
put_last id v [] none = refl
put_last id v (e ∷ rows) none = by (nat_eq id e.0) none (put_last id v rows)
  where
    by : (b : Bool) → cond b (Some e.1) (lookup (nat_eq id) rows) ≡ None → (lookup (nat_eq id) rows ≡ None → insert_entry nat_eq rows id v ≡ rows ++ (id, v) ∷ [])
        → cond b ((e.0, v) ∷ rows) (e ∷ insert_entry nat_eq rows id v) ≡ e ∷ (rows ++ (id, v) ∷ [])
    by true n more = absurd (cc)
    by false n more = ap (λ (es : List (ℕ × Kept)). e ∷ es) (more n)

none_last : (test : ℕ → Bool) (id : ℕ) (v : Kept) (rows : List (ℕ × Kept)) → lookup test rows ≡ None → test id ≡ false → lookup test (rows ++ (id, v) ∷ []) ≡ None
none_last test id v [] none other = rw other refl
none_last test id v (e ∷ rows) none other = by (test e.0) none (λ n. none_last test id v rows n other)
  where
    by : (b : Bool) → cond b (Some e.1) (lookup test rows) ≡ None → (lookup test rows ≡ None → lookup test (rows ++ (id, v) ∷ []) ≡ None)
        → cond b (Some e.1) (lookup test (rows ++ (id, v) ∷ [])) ≡ None
    by true n more = absurd (cc)
    by false n more = more n

-- tasks of which no row stands there
abbrev AreNew : List (ℕ × Kept) → List Task → Type 0
AreNew rows ts = AllByRecursion (λ (t : Task). lookup (nat_eq t.info.id) rows ≡ None) ts

still_new : (rows : List (ℕ × Kept)) (id : ℕ) (v : Kept) (ts : List Task) → AreNew rows ts → AllByRecursion (λ n. nat_eq id n ≡ false) (map task_id ts) → AreNew (rows ++ (id, v) ∷ []) ts
still_new rows id v [] new other = tt
still_new rows id v (t ∷ ts) new other = (none_last (nat_eq t.info.id) id v rows new.0 (flipped id t.info.id other.0), still_new rows id v ts new.1 other.1)

all_new : (ts : List Task) → AreNew [] ts
all_new [] = tt
all_new (t ∷ ts) = (refl, all_new ts)

waiting-from : (rows : List (ℕ × Kept)) (ts : List Task) → AreNew rows ts → IsDistinct nat_eq (map task_id ts)
    → plain_rows (fold with_waiter rows ts) ≡ plain_rows rows ++ map with_row (filter (λ (t : Task). waits t.row) ts)
unfolding IsDistinct
waiting-from rows [] new once = sym (append-nil (plain_rows rows))
waiting-from rows (t ∷ ts) new once = by (waits t.row) (λ (es : List (ℕ × Kept)) fresh. waiting-from es ts fresh once.1)
  where
    v : Kept
    v = record { row = t.row }

    last : insert_entry nat_eq rows t.info.id v ≡ rows ++ (t.info.id, v) ∷ []
    last = put_last t.info.id v rows new.0

    by : (b : Bool) → ((es : List (ℕ × Kept)) → AreNew es ts → plain_rows (fold with_waiter es ts) ≡ plain_rows es ++ map with_row (filter (λ (x : Task). waits x.row) ts))
        → plain_rows (fold with_waiter (cond b (insert_entry nat_eq rows t.info.id v) rows) ts)
        ≡ plain_rows rows ++ map with_row (cond b (t ∷ filter (λ (x : Task). waits x.row) ts) (filter (λ (x : Task). waits x.row) ts))
    by true rest =
        ap (λ (es : List (ℕ × Kept)). plain_rows (fold with_waiter es ts)) last
        ∙ rest (rows ++ (t.info.id, v) ∷ []) (still_new rows t.info.id v ts new.1 once.0)
        ∙ ap (λ xs. xs ++ map with_row (filter (λ (x : Task). waits x.row) ts)) (map-append (λ (e : ℕ × Kept). (e.0, e.1.row)) rows ((t.info.id, v) ∷ []))
        ∙ append_assoc (plain_rows rows) ((t.info.id, t.row) ∷ []) (map with_row (filter (λ (x : Task). waits x.row) ts))
    by false rest = rest rows new.1

-- the rows of those who wait, in the tables' order
pub waiting : (tasks : List Task) → IsDistinct nat_eq (map task_id tasks) → plain_rows (fold with_waiter [] tasks) ≡ map with_row (filter (λ (t : Task). waits t.row) tasks)
waiting tasks once = waiting-from [] tasks (all_new tasks) once

-- who neither runs nor waits doesn't wait
idle_waits : (x : TaskRow) → lasts x ≡ false → waits x ≡ false
idle_waits x none = rw (or_parts x.polling x.scheduled none).1 refl

module _ (tables : TablesView) (r : Rows) (k : Keeps tables r) where
  no-waiter : (t : Task) → task_with t.info.id tables.tasks ≡ Some t → is_one_of r.lasting.keys t ≡ false → (rows : List (ℕ × Kept)) → with_waiter rows t ≡ rows
  no-waiter t found out rows =
      let idle : lasts t.row ≡ false = ap (λ (o : Option Task). option_map_or lasts (option_map (λ (x : Task). x.row) o) false) (sym found) ∙ sym (k.lasting t.info.id) ∙ out in
      ap (λ b. cond b (insert_entry nat_eq rows t.info.id (record { row = t.row })) rows) (idle_waits t.row idle)

  pub others_wait_not : IsDistinct nat_eq (map task_id tables.tasks)
      → AllByRecursion (λ (t : Task). is_one_of r.lasting.keys t ≡ false → (rows : List (ℕ × Kept)) → with_waiter rows t ≡ rows) tables.tasks
  others_wait_not once = each _ _ no-waiter tables.tasks (own task_id tables.tasks once)
