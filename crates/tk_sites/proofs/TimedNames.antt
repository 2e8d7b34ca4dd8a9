-- Places are the same ones in the same order, whether sums, sums with what lasts or histograms are added up.
use Rattle.std.proofs.Common.{◌≡◌, ℕ, zero, suc, List, [], ◌∷◌, ◌++◌, map, take, Bool, true, false, cond, ◌||◌, ◌&&◌, refl, ap, ap₂, sym, subst, ◌∙◌, append_assoc}
use Rattle.std.specs.Prelude.{flat_map, fold, if◌then◌else◌}
use Rattle.std.specs.List.{list_all, list_any}
use Rattle.std.specs.Str.{bytes_eq}
use Rattle.std.specs.Cmp.Lexicographic.{nat_list_eq_equiv}
use Rattle.std.proofs.lemmas.List.{map-append}
use Rattle.tk_stream.specs.Tables.{TablesView, empty_tables}
use Rattle.tk_stream.specs.Times.{TaskTimes}
use Rattle.tk_stream.specs.declared.tables.task.Task.{Task}
use Rattle.tk_client.specs.Changes.{Timed, left_as, tasks_beside, untimed}
use Rattle.tk_client.specs.declared.any_warnings.AnyWarning.{AnyWarning}
use Rattle.tk_reading.specs.Shown.{tables_of}
use Rattle.tk_series.specs.Limited.{names_of}
use Rattle.tk_series.specs.Series.{is_seen, series_after, series_of, values_at}
use Rattle.tk_series.proofs.NameLemmas.{name_added, names_stay}
use Rattle.tk_odd.specs.Places.{place_of}
use Rattle.tk_sites.specs.Site.{room}
use Rattle.tk_sites.specs.Sites.{came_entry, changes, changes_since, entries_of, left_entry, sites_of, sites_until, there_entry, until_entry, warned_entries}
use Rattle.tk_sites.specs.Sums.{plus}
use Rattle.tk_sites.specs.TimedSites.{came_times, left_times, there_times, timed_changes, timed_changes_since, timed_sites, who_left}
use Rattle.tk_sites.specs.Times.{plus_times}
use Rattle.tk_sites.specs.declared.sums.Sums.{Sums}
use Rattle.tk_sites.specs.declared.times.SiteTimes.{SiteTimes}
use Rattle.tk_sites.proofs.CameLemmas.{is_placed, warned_seen}

-- ---- names alone

-- the first of each name, of names of which some were seen
abbrev once_after : List (List ℕ) → List (List ℕ) → List (List ℕ)
once_after seen [] = []
once_after seen (n ∷ ns) = if is_seen seen n then once_after seen ns else n ∷ once_after (n ∷ seen) ns

names-take : {V : Type 0} (n : ℕ) (xs : List (List ℕ × V)) → names_of (take n xs) ≡ take n (names_of xs)
names-take zero xs = refl
names-take (suc n) [] = refl
names-take (suc n) (x ∷ xs) = ap (λ ns. x.0 ∷ ns) (names-take n xs)

module _ {V : Type 0} (add : V → V → V) where
  names-once : (seen : List (List ℕ)) (xs : List (List ℕ × V)) → names_of (series_after add seen xs) ≡ once_after seen (names_of xs)
  names-once seen [] = refl
  names-once seen (x ∷ xs) = by (is_seen seen x.0) (names-once seen xs) (names-once (x.0 ∷ seen) xs)
    where
      by : (b : Bool) → names_of (series_after add seen xs) ≡ once_after seen (names_of xs)
          → names_of (series_after add (x.0 ∷ seen) xs) ≡ once_after (x.0 ∷ seen) (names_of xs)
          → names_of (cond b (series_after add seen xs) ((x.0, fold add x.1 (values_at x.0 xs)) ∷ series_after add (x.0 ∷ seen) xs))
          ≡ cond b (once_after seen (names_of xs)) (x.0 ∷ once_after (x.0 ∷ seen) (names_of xs))
      by true e f = e
      by false e f = ap (λ ns. x.0 ∷ ns) f

  names_first : (xs : List (List ℕ × V)) → names_of (take room (series_of add xs)) ≡ take room (once_after [] (names_of xs))
  names_first xs = names-take room (series_of add xs) ∙ ap (take room) (names-once [] xs)

-- ---- of what comes, leaves and is there

came-names : (ts : List Task) → names_of (map came_times ts) ≡ names_of (map came_entry ts)
came-names [] = refl
came-names (t ∷ ts) = ap (λ ns. place_of t.info ∷ ns) (came-names ts)

left-names : (times : List TaskTimes) (ts : List Task) → names_of (map left_times (map (left_as times) ts)) ≡ names_of (map left_entry ts)
left-names times [] = refl
left-names times (t ∷ ts) = ap (λ ns. place_of t.info ∷ ns) (left-names times ts)

there-names : (times : List TaskTimes) (ts : List Task) → names_of (map (there_times times) ts) ≡ names_of (map there_entry ts)
there-names times [] = refl
there-names times (t ∷ ts) = ap (λ ns. place_of t.info ∷ ns) (there-names times ts)

until-names : (now : ℕ) (ts : List Task) → names_of (map (until_entry now) ts) ≡ names_of (map there_entry ts)
until-names now [] = refl
until-names now (t ∷ ts) = ap (λ ns. place_of t.info ∷ ns) (until-names now ts)

names-both : {V : Type 0} (xs ys : List (List ℕ × V)) → names_of (xs ++ ys) ≡ names_of xs ++ names_of ys
names-both {V} xs ys = map-append (λ (x : List ℕ × V). x.0) xs ys

change-names : (old new : Timed) → names_of (timed_changes old new) ≡ names_of (changes old.0 new.0)
change-names old new =
    names-both (map came_times (tasks_beside new.0 old.0)) (map left_times (who_left old new))
    ∙ ap₂ (λ a b. a ++ b) (came-names (tasks_beside new.0 old.0)) (left-names old.1 (tasks_beside old.0 new.0))
    ∙ sym (names-both (map came_entry (tasks_beside new.0 old.0)) (map left_entry (tasks_beside old.0 new.0)))

since-names : (old : Timed) (seen : List Timed) → names_of (timed_changes_since old seen) ≡ names_of (changes_since old.0 (tables_of seen))
since-names old [] = refl
since-names old (new ∷ seen) =
    names-both (timed_changes old new) (timed_changes_since new seen)
    ∙ ap₂ (λ a b. a ++ b) (change-names old new) (since-names new seen)
    ∙ sym (names-both (changes old.0 new.0) (changes_since new.0 (tables_of seen)))

-- ---- warnings have no place of their own

own_placed : (before : List (List ℕ × Sums)) (tasks : List Task) → list_all (is_placed (names_of (series_of plus (before ++ map there_entry tasks)))) tasks ≡ true
own_placed before [] = refl
own_placed before (t ∷ tasks) =
    let names = names_of (series_of plus (before ++ map there_entry (t ∷ tasks))) in
    ap₂ (λ a b. a && b)
    (name_added plus before (map there_entry (t ∷ tasks)) (place_of t.info) (ap (λ b. b || list_any (λ (x : List ℕ × Sums). bytes_eq (place_of t.info) x.0) (map there_entry tasks)) (nat_list_eq_equiv.refl (place_of t.info))))
    (subst (λ xs. list_all (is_placed (names_of (series_of plus xs))) tasks ≡ true) (append_assoc before (there_entry t ∷ []) (map there_entry tasks)) (own_placed (before ++ there_entry t ∷ []) tasks))

-- whatever is added up of what came, what left and what is there has the places of sums, in their order
names_alike : {V : Type 0} (add : V → V → V) (xs : List (List ℕ × V)) (shown : List TablesView) (tables : TablesView) (ws : List AnyWarning)
    → names_of xs ≡ names_of (changes_since empty_tables shown ++ map there_entry tables.tasks)
    → names_of (take room (series_of add xs)) ≡ names_of (sites_of shown tables ws).first
names_alike add xs shown tables ws names =
    let since = changes_since empty_tables shown in
    let there = map there_entry tables.tasks in
    let warned = flat_map (warned_entries tables) ws in
    let ns = names_of (series_of plus (since ++ there)) in
    let all : names_of (series_of plus ((since ++ there) ++ warned)) ≡ ns = names_stay plus (since ++ there) warned (warned_seen ns tables ws (own_placed since tables.tasks)) in
    names_first add xs
    ∙ ap (λ ks. take room (once_after [] ks)) names
    ∙ ap (take room) (sym (names-once plus [] (since ++ there)) ∙ sym all ∙ ap (λ ys. names_of (series_of plus ys)) (append_assoc since there warned))
    ∙ sym (names-take room (series_of plus (entries_of shown tables ws)))

pub same_names : (seen : List Timed) (tables : TablesView) (times : List TaskTimes) (ws : List AnyWarning)
    → names_of (timed_sites seen tables times).first ≡ names_of (sites_of (tables_of seen) tables ws).first
same_names seen tables times ws =
    names_alike plus_times (timed_changes_since untimed seen ++ map (there_times times) tables.tasks) (tables_of seen) tables ws
    (names-both (timed_changes_since untimed seen) (map (there_times times) tables.tasks)
    ∙ ap₂ (λ a b. a ++ b) (since-names untimed seen) (there-names times tables.tasks)
    ∙ sym (names-both (changes_since empty_tables (tables_of seen)) (map there_entry tables.tasks)))

pub until_names : (shown : List TablesView) (tables : TablesView) (ws : List AnyWarning)
    → names_of (sites_until shown tables).first ≡ names_of (sites_of shown tables ws).first
until_names shown tables ws =
    let since = changes_since empty_tables shown in
    names_alike plus (since ++ map (until_entry tables.now) tables.tasks) shown tables ws
    (names-both since (map (until_entry tables.now) tables.tasks)
    ∙ ap (λ b. names_of since ++ b) (until-names tables.now tables.tasks)
    ∙ sym (names-both since (map there_entry tables.tasks)))
