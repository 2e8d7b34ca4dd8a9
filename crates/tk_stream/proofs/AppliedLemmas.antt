-- The line between two tables leads from the one to the other.
use Rattle.std.proofs.Common.{◌≡◌, ℕ, List, [], ◌∷◌, ◌++◌, Bool, true, false, cond, Some, None, nat_eq, refl, ap, ap₂, sym, ◌∙◌}
use Rattle.std.specs.Prelude.{map, filter, is_none, not, option_map, option_and_then}
use Rattle.std.specs.Option.{option_map_or}
use Rattle.std.specs.List.{AllByRecursion, IsDistinct}
use Rattle.std.proofs.lemmas.Bool.{eq-eqb}
use Rattle.tk_stream.specs.Rows.{same_counts}
use Rattle.tk_stream.specs.Tables.{TablesView, PollCounts, AreFit, empty_tables, counts_id, item_with}
use Rattle.tk_stream.specs.Lines.{is_new, is_told, new_infos, told_stats, task_stats_of, resource_stats_of, op_stats_of, all_counts, have_same_row, have_same_resource_row, have_same_op_row, line_between, snapshot_of, gone_ids, gone_between, with_gone}
use Rattle.tk_stream.specs.Applied.{Kind, task_kind, resource_kind, op_kind, counts_kind, told_item, new_item, new_items, items_told, items_after, counts_after, tables_after, BeginWith, GoOn, still_there, what_stays}
use Rattle.tk_stream.proofs.RowsLemmas.{same_rows, same_resource_rows, same_op_rows, same_poll_counts}
use Rattle.tk_stream.proofs.LinesLemmas.{differ, IsFound, each_found}
use Rattle.tk_stream.proofs.GoneLemmas.{staying_all, stays, same_infos, same_stats, once_kept}

itself : (n : ℕ) → nat_eq n n ≡ true
itself n = eq-eqb n n refl

-- what stands after as many items as there were
abbrev beyond : {A : Type 0} → List A → List A → List A
beyond [] ys = ys
beyond (x ∷ xs) [] = []
beyond (x ∷ xs) (y ∷ ys) = beyond xs ys

all_beyond : {A : Type 0} (P : A → Type 0) (xs ys : List A) → AllByRecursion P ys → AllByRecursion P (beyond xs ys)
all_beyond P [] ys all = all
all_beyond P (x ∷ xs) [] all = tt
all_beyond P (x ∷ xs) (y ∷ ys) all = all_beyond P xs ys all.1

-- laws of a kind, where `stats_of` is what changes of an item, and `same` says where it is the same
pub record IsKind {Item Info Stats : Type 0} (k : Kind Item Info Stats) (stats_of : Item → Stats) (same : Item → Item → Bool) : Type 0 where
  pub ids : (x : Item) → k.info_id (k.info_of x) ≡ k.id_of x
  pub keys : (x : Item) → k.stats_id (stats_of x) ≡ k.id_of x
  pub whole : (x : Item) → k.item_of (k.info_of x) (stats_of x) ≡ x
  pub agrees : (x y : Item) → k.info_of x ≡ k.info_of y → same x y ≡ true → x ≡ y

module _ {Item Info Stats : Type 0} (k : Kind Item Info Stats) (stats_of : Item → Stats) (same : Item → Item → Bool) (laws : IsKind k stats_of same) where
  pub paired_ids : (x y : Item) → k.info_of x ≡ k.info_of y → k.id_of x ≡ k.id_of y
  paired_ids x y e = sym (laws.ids x) ∙ ap k.info_id e ∙ laws.ids y

  -- ---- what is told of an item, among what is told of all

  module _ (p : Item → Bool) where
    abbrev told : List Item → List Stats
    told xs = map stats_of (filter p xs)

    abbrev TellsOf : List Stats → Item → Type 0
    TellsOf stats x = item_with k.stats_id (k.id_of x) stats ≡ cond (p x) (Some (stats_of x)) None

    none_told : (id : ℕ) (xs : List Item) → AllByRecursion (λ n. nat_eq id n ≡ false) (map k.id_of xs) → item_with k.stats_id id (told xs) ≡ None
    none_told id [] apart = refl
    none_told id (x ∷ xs) apart = by (p x) (none_told id xs apart.1)
      where
        by : (b : Bool) → item_with k.stats_id id (told xs) ≡ None → item_with k.stats_id id (map stats_of (cond b (x ∷ filter p xs) (filter p xs))) ≡ None
        by true rest = rw (laws.keys x, apart.0) rest
        by false rest = rest

    here : (x : Item) (xs : List Item) → AllByRecursion (λ n. nat_eq (k.id_of x) n ≡ false) (map k.id_of xs) → TellsOf (told (x ∷ xs)) x
    here x xs apart = by (p x) (none_told (k.id_of x) xs apart)
      where
        by : (b : Bool) → item_with k.stats_id (k.id_of x) (told xs) ≡ None
            → item_with k.stats_id (k.id_of x) (map stats_of (cond b (x ∷ filter p xs) (filter p xs))) ≡ cond b (Some (stats_of x)) None
        by true none = rw (laws.keys x, itself (k.id_of x)) refl
        by false none = none

    skipped : (x u : Item) (xs : List Item) → nat_eq (k.id_of u) (k.id_of x) ≡ false → item_with k.stats_id (k.id_of u) (told (x ∷ xs)) ≡ item_with k.stats_id (k.id_of u) (told xs)
    skipped x u xs other = by (p x)
      where
        by : (b : Bool) → item_with k.stats_id (k.id_of u) (map stats_of (cond b (x ∷ filter p xs) (filter p xs))) ≡ item_with k.stats_id (k.id_of u) (told xs)
        by true = rw (laws.keys x, other) refl
        by false = refl

    one_before : (x : Item) (us xs : List Item) → AllByRecursion (λ n. nat_eq (k.id_of x) n ≡ false) (map k.id_of us) → AllByRecursion (TellsOf (told xs)) us → AllByRecursion (TellsOf (told (x ∷ xs))) us
    one_before x [] xs apart all = tt
    one_before x (u ∷ us) xs apart all = (skipped x u xs (differ (k.id_of x) (k.id_of u) apart.0) ∙ all.0, one_before x us xs apart.1 all.1)

    each_told : (xs : List Item) → IsDistinct nat_eq (map k.id_of xs) → AllByRecursion (TellsOf (told xs)) xs
    unfolding IsDistinct
    each_told [] distinct = tt
    each_told (x ∷ xs) distinct = (here x xs distinct.0, one_before x xs xs distinct.0 (each_told xs distinct.1))

  -- ---- new items are absent from the old

  abbrev IsAbsent : List Item → Item → Type 0
  IsAbsent xs y = item_with k.id_of (k.id_of y) xs ≡ None

  nothing : (ys : List Item) → AllByRecursion (IsAbsent []) ys
  nothing [] = tt
  nothing (y ∷ ys) = (refl, nothing ys)

  also_absent : (x : Item) (xs : List Item) (id : ℕ) → k.id_of x ≡ id → (zs : List Item) → AllByRecursion (λ n. nat_eq id n ≡ false) (map k.id_of zs) → AllByRecursion (IsAbsent xs) zs → AllByRecursion (IsAbsent (x ∷ xs)) zs
  also_absent x xs id same_id [] apart all = tt
  also_absent x xs id same_id (z ∷ zs) apart all =
      let other : nat_eq (k.id_of z) (k.id_of x) ≡ false = rw same_id (differ id (k.id_of z) apart.0) in
      (ap (λ b. cond b (Some x) (item_with k.id_of (k.id_of z) xs)) other ∙ all.0, also_absent x xs id same_id zs apart.1 all.1)

  apart_beyond : (id : ℕ) (xs ys : List Item) → AllByRecursion (λ n. nat_eq id n ≡ false) (map k.id_of ys) → AllByRecursion (λ n. nat_eq id n ≡ false) (map k.id_of (beyond xs ys))
  apart_beyond id [] ys apart = apart
  apart_beyond id (x ∷ xs) [] apart = tt
  apart_beyond id (x ∷ xs) (y ∷ ys) apart = apart_beyond id xs ys apart.1

  absent : (xs ys : List Item) → BeginWith k xs ys → IsDistinct nat_eq (map k.id_of ys) → AllByRecursion (IsAbsent xs) (beyond xs ys)
  unfolding IsDistinct
  absent [] ys begin distinct = nothing ys
  absent (x ∷ xs) [] begin distinct = absurd begin
  absent (x ∷ xs) (y ∷ ys) begin distinct =
      also_absent x xs (k.id_of y) (paired_ids x y begin.0) (beyond xs ys) (apart_beyond (k.id_of y) xs ys distinct.0) (absent xs ys begin.1 distinct.1)

  -- ---- the old items, and the new ones

  not_false : (b : Bool) → not b ≡ false → b ≡ true
  not_false true e = refl
  not_false false e = absurd (cc)

  module _ (old : List Item) where
    abbrev tells : Item → Bool
    tells = is_told k.id_of same old

    found_by : (x y : Item) → k.info_of x ≡ k.info_of y → IsFound k.id_of old x → item_with k.id_of (k.id_of y) old ≡ Some x
    found_by x y e found = ap (λ id. item_with k.id_of id old) (sym (paired_ids x y e)) ∙ found

    one_pair : (stats : List Stats) (x y : Item) → k.info_of x ≡ k.info_of y → IsFound k.id_of old x → TellsOf tells stats y → told_item k stats x ≡ y
    one_pair stats x y e found is =
        ap (λ id. option_map_or (k.item_of (k.info_of x)) (item_with k.stats_id id stats) x) (paired_ids x y e)
        ∙ ap (λ o. option_map_or (k.item_of (k.info_of x)) o x) is ∙ by (tells y) refl
      where
        by : (b : Bool) → tells y ≡ b → option_map_or (k.item_of (k.info_of x)) (cond b (Some (stats_of y)) None) x ≡ y
        by true t = ap (λ info. k.item_of info (stats_of y)) e ∙ laws.whole y
        by false t =
            laws.agrees x y e (not_false (same x y) (sym (ap (λ o. option_map_or (λ before. not (same before y)) o true) (found_by x y e found)) ∙ t))

    pairs : (stats : List Stats) (xs ys : List Item) → BeginWith k xs ys → AllByRecursion (IsFound k.id_of old) xs → AllByRecursion (TellsOf tells stats) ys → map (told_item k stats) xs ++ beyond xs ys ≡ ys
    pairs stats [] ys begin found all = refl
    pairs stats (x ∷ xs) [] begin found all = absurd begin
    pairs stats (x ∷ xs) (y ∷ ys) begin found all =
        ap₂ (λ z zs. z ∷ zs) (one_pair stats x y begin.0 found.0 all.0) (pairs stats xs ys begin.1 found.1 all.1)

    -- nothing of what was there is new
    none_new : (xs ys : List Item) → BeginWith k xs ys → AllByRecursion (IsFound k.id_of old) xs → filter (is_new k.id_of old) ys ≡ filter (is_new k.id_of old) (beyond xs ys)
    none_new [] ys begin found = refl
    none_new (x ∷ xs) [] begin found = absurd begin
    none_new (x ∷ xs) (y ∷ ys) begin found =
        ap (λ b. cond b (y ∷ filter (is_new k.id_of old) ys) (filter (is_new k.id_of old) ys)) (ap is_none (found_by x y begin.0 found.0)) ∙ none_new xs ys begin.1 found.1

    all_new : (ys : List Item) → AllByRecursion (IsAbsent old) ys → filter (is_new k.id_of old) ys ≡ ys
    all_new [] all = refl
    all_new (y ∷ ys) all = rw (ap is_none all.0, all_new ys all.1) refl

    told_new : (y : Item) → IsAbsent old y → tells y ≡ true
    told_new y none = ap (λ o. option_map_or (λ before. not (same before y)) o true) none

    made : (stats : List Stats) (ys : List Item) → AllByRecursion (IsAbsent old) ys → AllByRecursion (TellsOf tells stats) ys → new_items k stats (map k.info_of ys) ≡ Some ys
    made stats [] all tell = refl
    made stats (y ∷ ys) all tell =
        let one : new_item k stats (k.info_of y) ≡ Some y =
        ap (λ id. option_map (k.item_of (k.info_of y)) (item_with k.stats_id id stats)) (laws.ids y)
        ∙ ap (option_map (k.item_of (k.info_of y))) (tell.0 ∙ ap (λ b. cond b (Some (stats_of y)) None) (told_new y all.0))
        ∙ ap Some (laws.whole y) in
        ap₂ (λ o r. option_and_then (λ item. option_map (λ items. item ∷ items) r) o) one (made stats ys all.1 tell.1)

  pub leads : (old new : List Item) → IsDistinct nat_eq (map k.id_of old) → IsDistinct nat_eq (map k.id_of new) → BeginWith k old new
      → items_told k old (new_infos k.id_of k.info_of old new) (told_stats k.id_of same stats_of old new) ≡ Some new
  leads old new once_old once_new begin =
      let stats : List Stats = told_stats k.id_of same stats_of old new in
      let found : AllByRecursion (IsFound k.id_of old) old = each_found k.id_of old once_old in
      let away : AllByRecursion (IsAbsent old) (beyond old new) = absent old new begin once_new in
      let all : AllByRecursion (TellsOf (tells old) stats) new = each_told (tells old) new once_new in
      let infos : new_infos k.id_of k.info_of old new ≡ map k.info_of (beyond old new) = ap (map k.info_of) (none_new old old new begin found ∙ all_new old (beyond old new) away) in
      ap (λ is. items_told k old is stats) infos
      ∙ ap (option_map (λ items. map (told_item k stats) old ++ items)) (made old stats (beyond old new) away (all_beyond (TellsOf (tells old) stats) old new all))
      ∙ ap Some (pairs old stats old new begin found all)

  -- a line that says of nothing that it is gone
  pub leads_all : (old new : List Item) → IsDistinct nat_eq (map k.id_of old) → IsDistinct nat_eq (map k.id_of new) → BeginWith k old new
      → items_after k old [] (new_infos k.id_of k.info_of old new) (told_stats k.id_of same stats_of old new) ≡ Some new
  leads_all old new once_old once_new begin =
      ap (λ there. items_told k there (new_infos k.id_of k.info_of old new) (told_stats k.id_of same stats_of old new)) (staying_all k.id_of old)
      ∙ leads old new once_old once_new begin

  -- a line that says what is gone
  pub leads_less : (old new : List Item) → IsDistinct nat_eq (map k.id_of old) → IsDistinct nat_eq (map k.id_of new) → BeginWith k (still_there k.id_of old new) new
      → items_after k old (gone_ids k.id_of old new) (new_infos k.id_of k.info_of old new) (told_stats k.id_of same stats_of old new) ≡ Some new
  leads_less old new once_old once_new begin =
      let there : List Item = still_there k.id_of old new in
      ap (λ xs. items_told k xs (new_infos k.id_of k.info_of old new) (told_stats k.id_of same stats_of old new)) (stays k.id_of new old)
      ∙ ap (λ is. items_told k there is (told_stats k.id_of same stats_of old new)) (same_infos k.id_of k.info_of old new once_new)
      ∙ ap (λ ss. items_told k there (new_infos k.id_of k.info_of there new) ss) (same_stats k.id_of same stats_of old new once_new)
      ∙ leads there new (once_kept k.id_of (λ x. not (is_new k.id_of new x)) old once_old) once_new begin

-- ---- tables

pub tasks_are : IsKind task_kind task_stats_of have_same_row
tasks_are = record {
  ids = λ t. refl;
  keys = λ t. refl;
  whole = λ t. refl;
  agrees = λ t u e same i. record { info = e i; row = (same_rows t.row u.row).0 same i };
}

pub resources_are : IsKind resource_kind resource_stats_of have_same_resource_row
resources_are = record {
  ids = λ r. refl;
  keys = λ r. refl;
  whole = λ r. refl;
  agrees = λ r u e same i. record { info = e i; row = (same_resource_rows r.row u.row).0 same i };
}

pub ops_are : IsKind op_kind op_stats_of have_same_op_row
ops_are = record {
  ids = λ o. refl;
  keys = λ o. refl;
  whole = λ o. refl;
  agrees = λ o u e same i. record { info = e i; row = (same_op_rows o.row u.row).0 same i };
}

pub counts_are : IsKind counts_kind all_counts same_counts
counts_are = record {
  ids = λ c. refl;
  keys = λ c. refl;
  whole = λ c. refl;
  agrees = λ c d e same. (same_poll_counts c d).0 same;
}

-- poll counts that are told and new
counts_new : (old ys : List PollCounts) → AllByRecursion (IsAbsent counts_kind all_counts same_counts counts_are old) ys → filter (is_new counts_id old) (told_stats counts_id same_counts all_counts old ys) ≡ ys
counts_new old [] all = refl
counts_new old (y ∷ ys) all =
    let is_told_one : is_told counts_id same_counts old y ≡ true = ap (λ o. option_map_or (λ before. not (same_counts before y)) o true) all.0 in
    rw (is_told_one, ap is_none all.0, counts_new old ys all.1) refl

counts_old : (old xs ys : List PollCounts) → BeginWith counts_kind xs ys → AllByRecursion (IsFound counts_id old) xs
    → filter (is_new counts_id old) (told_stats counts_id same_counts all_counts old ys) ≡ filter (is_new counts_id old) (told_stats counts_id same_counts all_counts old (beyond xs ys))
counts_old old [] ys begin found = refl
counts_old old (x ∷ xs) [] begin found = absurd begin
counts_old old (x ∷ xs) (y ∷ ys) begin found = by (is_told counts_id same_counts old y) (counts_old old xs ys begin.1 found.1)
  where
    there : is_new counts_id old y ≡ false
    there = ap is_none (ap (λ id. item_with counts_id id old) (sym begin.0) ∙ found.0)

    rest : List PollCounts
    rest = filter (is_told counts_id same_counts old) ys

    by : (b : Bool) → filter (is_new counts_id old) (map all_counts rest) ≡ filter (is_new counts_id old) (told_stats counts_id same_counts all_counts old (beyond xs ys))
        → filter (is_new counts_id old) (map all_counts (cond b (y ∷ rest) rest)) ≡ filter (is_new counts_id old) (told_stats counts_id same_counts all_counts old (beyond xs ys))
    by true e = rw there e
    by false e = e

counts_lead : (old new : List PollCounts) → IsDistinct nat_eq (map counts_id old) → IsDistinct nat_eq (map counts_id new) → BeginWith counts_kind old new
    → counts_after old (told_stats counts_id same_counts all_counts old new) ≡ new
counts_lead old new once_old once_new begin =
    let stats : List PollCounts = told_stats counts_id same_counts all_counts old new in
    let found : AllByRecursion (IsFound counts_id old) old = each_found counts_id old once_old in
    let away = absent counts_kind all_counts same_counts counts_are old new begin once_new in
    let all = each_told counts_kind all_counts same_counts counts_are (tells counts_kind all_counts same_counts counts_are old) new once_new in
    ap (λ cs. map (told_item counts_kind stats) old ++ cs) (counts_old old old new begin found ∙ counts_new old (beyond old new) away)
    ∙ pairs counts_kind all_counts same_counts counts_are old stats old new begin found all

pub lead_on : (old new : TablesView) (seq : ℕ) → AreFit old → AreFit new → GoOn old new → tables_after old (line_between old new seq) ≡ Some new
lead_on old new seq fit_old fit_new on =
    let tasks = leads_all task_kind task_stats_of have_same_row tasks_are old.tasks new.tasks fit_old.distinct.tasks fit_new.distinct.tasks on.tasks in
    let resources = leads_all resource_kind resource_stats_of have_same_resource_row resources_are old.resources new.resources fit_old.distinct.resources fit_new.distinct.resources on.resources in
    let ops = leads_all op_kind op_stats_of have_same_op_row ops_are old.ops new.ops fit_old.distinct.ops fit_new.distinct.ops on.ops in
    let counts = counts_lead old.counts new.counts fit_old.distinct.counts fit_new.distinct.counts on.counts in
    rw (tasks, resources, ops, counts) refl

-- a line that says what is gone leads on to tables without that
pub lead_on_less : (old new : TablesView) (seq : ℕ) → AreFit old → AreFit new → GoOn (what_stays old new) new → tables_after old (with_gone (gone_between old new) (line_between old new seq)) ≡ Some new
lead_on_less old new seq fit_old fit_new on =
    let tasks = leads_less task_kind task_stats_of have_same_row tasks_are old.tasks new.tasks fit_old.distinct.tasks fit_new.distinct.tasks on.tasks in
    let resources = leads_less resource_kind resource_stats_of have_same_resource_row resources_are old.resources new.resources fit_old.distinct.resources fit_new.distinct.resources on.resources in
    let ops = leads_less op_kind op_stats_of have_same_op_row ops_are old.ops new.ops fit_old.distinct.ops fit_new.distinct.ops on.ops in
    let counts = counts_lead old.counts new.counts fit_old.distinct.counts fit_new.distinct.counts on.counts in
    rw (tasks, resources, ops, counts) refl

empty_fit : AreFit empty_tables
unfolding IsDistinct
empty_fit = record { distinct = record { tasks = tt; resources = tt; ops = tt; counts = tt }; resources = tt; ops = tt }

pub snapshot_leads : (tables : TablesView) (seq : ℕ) → AreFit tables → tables_after empty_tables (snapshot_of tables seq) ≡ Some tables
snapshot_leads tables seq fit = lead_on empty_tables tables seq empty_fit fit (record { tasks = tt; resources = tt; ops = tt; counts = tt })
