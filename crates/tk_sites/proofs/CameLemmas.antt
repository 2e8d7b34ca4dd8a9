-- The place of each task that is there came with it.
use Rattle.std.proofs.Common.{◌≡◌, ◌==◌, ℕ, List, [], ◌∷◌, ◌++◌, map, filter, Bool, true, false, cond, ◌||◌, ◌&&◌, Option, Some, None, is_some, refl, ap, ap₂, sym, subst, ◌∙◌, append-nil, append_assoc}
use Rattle.std.specs.Prelude.{not, flat_map}
use Rattle.std.specs.List.{find, list_all, list_any}
use Rattle.std.specs.Option.{option_map_or}
use Rattle.std.specs.Str.{bytes_eq}
use Rattle.std.specs.Cmp.Lexicographic.{nat_list_eq_equiv}
use Rattle.std.proofs.lemmas.Map.Steps.{list_any_congr}
use Rattle.tk_series.specs.Limited.{Begins, names_of}
use Rattle.tk_series.specs.Series.{is_seen, series_of}
use Rattle.tk_stream.specs.Tables.{TablesView, empty_tables, task_with}
use Rattle.tk_stream.specs.declared.tables.task.Task.{Task}
use Rattle.tk_client.specs.declared.any_warnings.AnyWarning.{AnyWarning}
use Rattle.tk_client.specs.Changes.{tasks_beside}
use Rattle.tk_sites.specs.Laws.{AreSteady, sites_after, stays_at}
use Rattle.tk_odd.specs.Places.{place_of}
use Rattle.tk_sites.specs.Site.{room}
use Rattle.tk_reading.specs.Shown.{last_shown}
use Rattle.tk_sites.specs.Sites.{came_entry, changes, changes_since, entries_of, left_entry, there_entry, warned_entries}
use Rattle.tk_sites.specs.Sums.{plus, warned}
use Rattle.tk_sites.specs.Warned.{one_warning, warned_task}
use Rattle.tk_sites.specs.declared.sums.Sums.{Sums}
use Rattle.tk_series.proofs.NameLemmas.{both, first_begin, name_added, names_front, names_stay, still_seen}

-- ---- tests of lists

all_by : {A : Type 0} (p q : A → Bool) → ((x : A) → p x ≡ true → q x ≡ true) → (xs : List A) → list_all p xs ≡ true → list_all q xs ≡ true
all_by p q by [] all = refl
all_by p q by (x ∷ xs) all =
    let parts = both (p x) (list_all p xs) all in
    ap₂ (λ a b. a && b) (by x parts.0) (all_by p q by xs parts.1)

all_by_both : {A : Type 0} (p q r : A → Bool) → ((x : A) → p x ≡ true → q x ≡ true → r x ≡ true) → (xs : List A) → list_all p xs ≡ true → list_all q xs ≡ true
    → list_all r xs ≡ true
all_by_both p q r by [] a b = refl
all_by_both p q r by (x ∷ xs) a b =
    let ps = both (p x) (list_all p xs) a in
    let qs = both (q x) (list_all q xs) b in
    ap₂ (λ c d. c && d) (by x ps.0 qs.0) (all_by_both p q r by xs ps.1 qs.1)

all_joined : {A : Type 0} (p : A → Bool) (xs ys : List A) → list_all p xs ≡ true → list_all p ys ≡ true → list_all p (xs ++ ys) ≡ true
all_joined p [] ys a b = b
all_joined p (x ∷ xs) ys a b =
    let parts = both (p x) (list_all p xs) a in
    ap₂ (λ c d. c && d) parts.0 (all_joined p xs ys parts.1 b)

-- ---- the places of tasks

-- the place of a task is among these
abbrev pub is_placed : List (List ℕ) → Task → Bool
is_placed names t = is_seen names (place_of t.info)

-- so it is of one that is found
found_placed : (names : List (List ℕ)) (id : ℕ) (tasks : List Task) (s : Task) → list_all (is_placed names) tasks ≡ true → task_with id tasks ≡ Some s → is_seen names (place_of s.info) ≡ true
found_placed names id [] s all found = absurd (cc)
found_placed names id (t ∷ tasks) s all found = by (id == t.info.id) found (found_placed names id tasks s parts.1)
  where
    parts : (is_seen names (place_of t.info) ≡ true) × (list_all (is_placed names) tasks ≡ true)
    parts = both (is_seen names (place_of t.info)) (list_all (is_placed names) tasks) all

    by : (b : Bool) → cond b (Some t) (find (λ (u : Task). id == u.info.id) tasks) ≡ Some s → (find (λ (u : Task). id == u.info.id) tasks ≡ Some s → is_seen names (place_of s.info) ≡ true)
        → is_seen names (place_of s.info) ≡ true
    by true e more =
        let same : t ≡ s = cc in
        subst (λ (u : Task). is_seen names (place_of u.info) ≡ true) same parts.0
    by false e more = more e

-- a task was there, or it is among the entries of those that came
abbrev is_known : TablesView → List (List ℕ × Sums) → Task → Bool
is_known old entries t = is_some (task_with t.info.id old.tasks) || list_any (λ (x : List ℕ × Sums). bytes_eq (place_of t.info) x.0) entries

all_known : (old : TablesView) (more : List (List ℕ × Sums)) (tasks : List Task)
    → list_all (is_known old (map came_entry (filter (λ (t : Task). not (is_some (task_with t.info.id old.tasks))) tasks) ++ more)) tasks ≡ true
all_known old more [] = refl
all_known old more (t ∷ tasks) = by (is_some (task_with t.info.id old.tasks)) refl (all_known old more tasks)
  where
    entries : List (List ℕ × Sums)
    entries = map came_entry (filter (λ (u : Task). not (is_some (task_with u.info.id old.tasks))) tasks) ++ more

    one_more : (u : Task) → is_known old entries u ≡ true → is_known old (came_entry t ∷ entries) u ≡ true
    one_more u = at (is_some (task_with u.info.id old.tasks)) (bytes_eq (place_of u.info) (place_of t.info))
      where
        at : (a b : Bool) → (a || list_any (λ (x : List ℕ × Sums). bytes_eq (place_of u.info) x.0) entries) ≡ true → (a || (b || list_any (λ (x : List ℕ × Sums). bytes_eq (place_of u.info) x.0) entries)) ≡ true
        at true b h = refl
        at false true h = refl
        at false false h = h

    by : (b : Bool) → is_some (task_with t.info.id old.tasks) ≡ b → list_all (is_known old entries) tasks ≡ true
        → list_all (is_known old (map came_entry (cond (not b) (t ∷ filter (λ (u : Task). not (is_some (task_with u.info.id old.tasks))) tasks) (filter (λ (u : Task). not (is_some (task_with u.info.id old.tasks))) tasks)) ++ more)) (t ∷ tasks) ≡ true
    by true e rest = ap₂ (λ a b. a && b) (ap (λ a. a || list_any (λ (x : List ℕ × Sums). bytes_eq (place_of t.info) x.0) entries) e) rest
    by false e rest =
        ap₂ (λ a b. a && b) (last (is_some (task_with t.info.id old.tasks)) (bytes_eq (place_of t.info) (place_of t.info)) (nat_list_eq_equiv.refl (place_of t.info)))
        (all_by (is_known old entries) (is_known old (came_entry t ∷ entries)) one_more tasks rest)
      where
        last : (a b : Bool) → b ≡ true → (a || (b || list_any (λ (x : List ℕ × Sums). bytes_eq (place_of t.info) x.0) entries)) ≡ true
        last true b h = refl
        last false b h = ap (λ c. c || list_any (λ (x : List ℕ × Sums). bytes_eq (place_of t.info) x.0) entries) h

-- after a line the place of each task is there, where those of the tasks before it are
placed_next : (before : List (List ℕ × Sums)) (old new : TablesView) → list_all (is_placed (names_of (series_of plus before))) old.tasks ≡ true
    → list_all (stays_at old) new.tasks ≡ true → list_all (is_placed (names_of (series_of plus (before ++ changes old new)))) new.tasks ≡ true
placed_next before old new placed steady =
    all_by_both (is_known old (changes old new)) (stays_at old) (is_placed (names_of (series_of plus (before ++ changes old new)))) one new.tasks
    (all_known old (map left_entry (tasks_beside old new)) new.tasks) steady
  where
    one : (t : Task) → is_known old (changes old new) t ≡ true → stays_at old t ≡ true → is_placed (names_of (series_of plus (before ++ changes old new))) t ≡ true
    one t known stays = by (task_with t.info.id old.tasks) refl known stays
      where
        by : (o : Option Task) → task_with t.info.id old.tasks ≡ o → (is_some o || list_any (λ (x : List ℕ × Sums). bytes_eq (place_of t.info) x.0) (changes old new)) ≡ true
            → option_map_or (λ (s : Task). bytes_eq (place_of t.info) (place_of s.info)) o true ≡ true → is_seen (names_of (series_of plus (before ++ changes old new))) (place_of t.info) ≡ true
        by None e k h = name_added plus before (changes old new) (place_of t.info) k
        by (Some s) e k h =
            still_seen (names_of (series_of plus before)) (names_of (series_of plus (before ++ changes old new))) (place_of t.info) (names_front plus before (changes old new))
            (list_any_congr nat_list_eq_equiv (place_of t.info) (place_of s.info) (names_of (series_of plus before)) h ∙ found_placed (names_of (series_of plus before)) t.info.id old.tasks s placed e)

-- after many
placed_all : (before : List (List ℕ × Sums)) (old : TablesView) (shown : List TablesView) → list_all (is_placed (names_of (series_of plus before))) old.tasks ≡ true
    → AreSteady old shown → list_all (is_placed (names_of (series_of plus (before ++ changes_since old shown)))) (last_shown old shown).tasks ≡ true
placed_all before old [] placed steady = subst (λ xs. list_all (is_placed (names_of (series_of plus xs))) old.tasks ≡ true) (sym (append-nil before)) placed
placed_all before old (new ∷ shown) placed steady =
    subst (λ xs. list_all (is_placed (names_of (series_of plus xs))) (last_shown new shown).tasks ≡ true) (append_assoc before (changes old new) (changes_since new shown))
    (placed_all (before ++ changes old new) new shown (placed_next before old new placed steady.0) steady.1)

-- what is there, and warnings of it, have no place of their own
there_seen : (ns : List (List ℕ)) (tasks : List Task) → list_all (is_placed ns) tasks ≡ true → list_all (λ (x : List ℕ × Sums). is_seen ns x.0) (map there_entry tasks) ≡ true
there_seen ns [] all = refl
there_seen ns (t ∷ tasks) all =
    let parts = both (is_seen ns (place_of t.info)) (list_all (is_placed ns) tasks) all in
    ap₂ (λ a b. a && b) parts.0 (there_seen ns tasks parts.1)

pub warned_seen : (ns : List (List ℕ)) (tables : TablesView) (ws : List AnyWarning) → list_all (is_placed ns) tables.tasks ≡ true
    → list_all (λ (x : List ℕ × Sums). is_seen ns x.0) (flat_map (warned_entries tables) ws) ≡ true
warned_seen ns tables [] all = refl
warned_seen ns tables (w ∷ ws) all =
    all_joined (λ (x : List ℕ × Sums). is_seen ns x.0) (warned_entries tables w) (flat_map (warned_entries tables) ws) (by (task_with (warned_task w) tables.tasks) refl) (warned_seen ns tables ws all)
  where
    by : (o : Option Task) → task_with (warned_task w) tables.tasks ≡ o → list_all (λ (x : List ℕ × Sums). is_seen ns x.0) (option_map_or (λ (t : Task). (place_of t.info, warned (one_warning w)) ∷ []) o []) ≡ true
    by None e = refl
    by (Some t) e = ap (λ b. b && true) (found_placed ns (warned_task w) tables.tasks t all e)

-- the names of all entries are those of the tasks that came
names_came : (shown : List TablesView) (ws : List AnyWarning) → AreSteady empty_tables shown
    → names_of (series_of plus (entries_of shown (last_shown empty_tables shown) ws)) ≡ names_of (series_of plus (changes_since empty_tables shown))
names_came shown ws steady =
    let tables = last_shown empty_tables shown in
    let ns = names_of (series_of plus (changes_since empty_tables shown)) in
    let placed : list_all (is_placed ns) tables.tasks ≡ true = placed_all [] empty_tables shown refl steady in
    names_stay plus (changes_since empty_tables shown) (map there_entry tables.tasks ++ flat_map (warned_entries tables) ws)
    (all_joined (λ (x : List ℕ × Sums). is_seen ns x.0) (map there_entry tables.tasks) (flat_map (warned_entries tables) ws) (there_seen ns tables.tasks placed) (warned_seen ns tables ws placed))

changes-append : (old : TablesView) (shown more : List TablesView) → changes_since old (shown ++ more) ≡ changes_since old shown ++ changes_since (last_shown old shown) more
changes-append old [] more = refl
changes-append old (new ∷ shown) more =
    ap (λ xs. changes old new ++ xs) (changes-append new shown more) ∙ sym (append_assoc (changes old new) (changes_since new shown) (changes_since (last_shown new shown) more))

steady_front : (old : TablesView) (shown more : List TablesView) → AreSteady old (shown ++ more) → AreSteady old shown
steady_front old [] more steady = tt
steady_front old (new ∷ shown) more steady = (steady.0, steady_front new shown more steady.1)

pub names_go_on : (shown more : List TablesView) (ws vs : List AnyWarning) → AreSteady empty_tables (shown ++ more)
    → Begins (names_of (sites_after shown ws).first) (names_of (sites_after (shown ++ more) vs).first)
names_go_on shown more ws vs steady =
    let old = series_of plus (entries_of shown (last_shown empty_tables shown) ws) in
    let new = series_of plus (entries_of (shown ++ more) (last_shown empty_tables (shown ++ more)) vs) in
    first_begin plus room old new
    (subst (λ ns. Begins ns (names_of new)) (sym (names_came shown ws (steady_front empty_tables shown more steady)))
    (subst (Begins (names_of (series_of plus (changes_since empty_tables shown))))
    (ap (λ xs. names_of (series_of plus xs)) (sym (changes-append empty_tables shown more)) ∙ sym (names_came (shown ++ more) vs steady))
    (names_front plus (changes_since empty_tables shown) (changes_since (last_shown empty_tables shown) more))))
