-- What leaves at a moment, and the line that says so.
use Rattle.std.proofs.Common.{◌≡◌, ℕ, zero, suc, ◌≤◌, ◌<◌, List, [], ◌∷◌, ◌++◌, length, Bool, true, false, cond, Option, Some, None, nat_eq, take, slice_get, get_or, refl, ap, sym, ◌∙◌, subst, arith}
use Rattle.std.specs.Prelude.{map, filter, not, is_none, option_map, IsSome}
use Rattle.std.specs.List.{AllByRecursion, IsDistinct}
use Rattle.std.proofs.lemmas.Bool.{eqb-true, eq-eqb}
use Rattle.std.proofs.lemmas.Option.{same_Some}
use Rattle.tk_stream.specs.declared.tables.op.Op.{Op}
use Rattle.tk_stream.specs.declared.tables.resource.Resource.{Resource}
use Rattle.tk_stream.specs.declared.tables.task.Task.{Task}
use Rattle.tk_stream.specs.Applied.{Kind, task_kind, resource_kind, op_kind, counts_kind, BeginWith, GoOn, still_there, what_stays, without_gone}
use Rattle.tk_stream.specs.Fronts.{ToldView, as_told, with_rows, task_at, resource_at, op_at, counts_at, told_tables, FitsIn}
use Rattle.tk_stream.specs.Kept.{kept}
use Rattle.tk_stream.specs.Lines.{GoneView, is_new, is_told, new_infos, told_stats, gone_ids, line_between, task_stats_of, resource_stats_of, op_stats_of, all_counts, have_same_row, have_same_resource_row, have_same_op_row, task_info, resource_info, op_info}
use Rattle.tk_stream.specs.Retention.{due_of, prune, line_pruned, stats_without, told_without, is_due, task_closed, resource_closed, op_closed}
use Rattle.tk_stream.specs.Rows.{same_counts}
use Rattle.tk_stream.specs.Streams.{AreInRange}
use Rattle.tk_stream.specs.Tables.{TablesView, AreDistinct, AreFit, task_id, resource_id, op_id, counts_id, item_with, is_among, staying}
use Rattle.tk_stream.proofs.AppliedLemmas.{IsKind, paired_ids, tasks_are, resources_are, ops_are, counts_are}
use Rattle.tk_stream.proofs.GoneLemmas.{filter-same, once_kept}
use Rattle.tk_stream.proofs.LinesLemmas.{differ, all_by, all_infos, all_stats}

-- ---- one item after the other, as a loop goes over those that were told

-- the item at a place, as it was told
pub told_there : {Item Row : Type 0} (with_row : Item → Row → Item) (xs : List Item) (rs : List (Option Row)) (i : ℕ) (x : Item) → Some x ≡ slice_get xs i → i < length rs
    → Some (as_told with_row x (get_or rs i None)) ≡ slice_get (with_rows (as_told with_row) xs rs) i
told_there with_row [] rs i x at lt = absurd (cc)
told_there with_row (y ∷ xs) [] i x at lt = absurd (omega (arith, lt))
told_there with_row (y ∷ xs) (o ∷ rs) zero x at lt = ap (λ z. Some (as_told with_row z o)) (sym (same_Some y x (sym at)))
told_there with_row (y ∷ xs) (o ∷ rs) (suc i) x at lt = told_there with_row xs rs i x at (omega (arith, lt))

-- there is an item at a place of those that were told
pub some_there : {A B : Type 0} (f : A → B) (o : Option A) (xs : List B) (i : ℕ) → option_map f o ≡ slice_get xs i → i < length xs → IsSome o
some_there f (Some a) xs i at lt = refl
some_there f None [] i at lt = absurd (omega (arith, lt))
some_there f None (x ∷ xs) zero at lt = absurd (cc)
some_there f None (x ∷ xs) (suc i) at lt = some_there f None xs i at (omega (arith, lt))

-- no more were told than there are rows
pub few_told : {Item Row : Type 0} (with_row : Item → Row → Item) (xs : List Item) (rs : List Row) → length (with_rows with_row xs rs) ≤ length rs
few_told with_row xs [] = omega arith
few_told with_row [] (r ∷ rs) = omega arith
few_told with_row (x ∷ xs) (r ∷ rs) = let rest = few_told with_row xs rs in omega (arith, rest)

module _ {A B : Type 0} (f : A → B) (p : A → Bool) where
  pub kept_next : (xs : List A) (i : ℕ) (x : A) → Some x ≡ slice_get xs i → map f (filter p (take (suc i) xs)) ≡ map f (filter p (take i xs)) ++ kept (p x) (f x)
  kept_next [] i x at = absurd (cc)
  kept_next (y ∷ xs) zero x at = subst (λ z. map f (filter p (y ∷ [])) ≡ kept (p z) (f z)) (same_Some y x (sym at)) (by (p y))
    where
      by : (b : Bool) → map f (cond b (y ∷ []) []) ≡ kept b (f y)
      by true = refl
      by false = refl
  kept_next (y ∷ xs) (suc i) x at = by (p y) (kept_next xs i x at)
    where
      by : (b : Bool) → map f (filter p (take (suc i) xs)) ≡ map f (filter p (take i xs)) ++ kept (p x) (f x)
          → map f (cond b (y ∷ filter p (take (suc i) xs)) (filter p (take (suc i) xs))) ≡ map f (cond b (y ∷ filter p (take i xs)) (filter p (take i xs))) ++ kept (p x) (f x)
      by true rest = ap (λ zs. f y ∷ zs) rest
      by false rest = rest

module _ {Item : Type 0} (id_of : Item → ℕ) where
  abbrev Apart : ℕ → List Item → Type 0
  Apart id xs = AllByRecursion (λ n. nat_eq id n ≡ false) (map id_of xs)

  apart_there : (id : ℕ) (xs : List Item) (i : ℕ) (x : Item) → Apart id xs → Some x ≡ slice_get xs i → nat_eq id (id_of x) ≡ false
  apart_there id [] i x apart at = absurd (cc)
  apart_there id (y ∷ xs) zero x apart at = subst (λ z. nat_eq id (id_of z) ≡ false) (same_Some y x (sym at)) apart.0
  apart_there id (y ∷ xs) (suc i) x apart at = apart_there id xs i x apart.1 at

  -- ---- which ids are among those of some of the items

  module _ (p : Item → Bool) where
    abbrev ids : List Item → List ℕ
    ids xs = map id_of (filter p xs)

    other : (y : Item) (xs : List Item) (id : ℕ) → nat_eq id (id_of y) ≡ false → is_among (ids (y ∷ xs)) id ≡ is_among (ids xs) id
    other y xs id apart = by (p y)
      where
        by : (b : Bool) → is_among (map id_of (cond b (y ∷ filter p xs) (filter p xs))) id ≡ is_among (ids xs) id
        by true = rw apart refl
        by false = refl

    -- an item is not among those before it
    pub once_front : (xs : List Item) (i : ℕ) (x : Item) → IsDistinct nat_eq (map id_of xs) → Some x ≡ slice_get xs i → is_among (ids (take i xs)) (id_of x) ≡ false
    unfolding IsDistinct
    once_front [] i x once at = absurd (cc)
    once_front (y ∷ xs) zero x once at = refl
    once_front (y ∷ xs) (suc i) x once at =
        other y (take i xs) (id_of x) (differ (id_of y) (id_of x) (apart_there (id_of y) xs i x once.0 at)) ∙ once_front xs i x once.1 at

    apart_not_among : (id : ℕ) (xs : List Item) → Apart id xs → is_among (ids xs) id ≡ false
    apart_not_among id [] apart = refl
    apart_not_among id (x ∷ xs) apart = other x xs id apart.0 ∙ apart_not_among id xs apart.1

    absent_not_among : (id : ℕ) (xs : List Item) → is_none (item_with id_of id xs) ≡ true → is_among (ids xs) id ≡ false
    absent_not_among id [] absent = refl
    absent_not_among id (x ∷ xs) absent = by (nat_eq id (id_of x)) refl (absent_not_among id xs)
      where
        by : (same : Bool) → nat_eq id (id_of x) ≡ same → (is_none (item_with id_of id xs) ≡ true → is_among (ids xs) id ≡ false) → is_among (ids (x ∷ xs)) id ≡ false
        by true e rest = absurd (cc (e, absent))
        by false e rest = other x xs id e ∙ rest (sym (ap (λ b. is_none (cond b (Some x) (item_with id_of id xs))) e) ∙ absent)

    -- an item is among them exactly where the test holds
    abbrev IsMarked : List Item → Item → Type 0
    IsMarked xs x = is_among (ids xs) (id_of x) ≡ p x

    first_marked : (x : Item) (xs : List Item) → Apart (id_of x) xs → IsMarked (x ∷ xs) x
    first_marked x xs apart = by (p x)
      where
        by : (b : Bool) → is_among (map id_of (cond b (x ∷ filter p xs) (filter p xs))) (id_of x) ≡ b
        by true = rw (eq-eqb (id_of x) (id_of x) refl) refl
        by false = apart_not_among (id_of x) xs apart

    later_marked : (x : Item) (us xs : List Item) → Apart (id_of x) us → AllByRecursion (IsMarked xs) us → AllByRecursion (IsMarked (x ∷ xs)) us
    later_marked x [] xs apart all = tt
    later_marked x (u ∷ us) xs apart all = (other x xs (id_of u) (differ (id_of x) (id_of u) apart.0) ∙ all.0, later_marked x us xs apart.1 all.1)

    each_marked : (xs : List Item) → IsDistinct nat_eq (map id_of xs) → AllByRecursion (IsMarked xs) xs
    unfolding IsDistinct
    each_marked [] once = tt
    each_marked (x ∷ xs) once = (first_marked x xs once.0, later_marked x xs xs once.0 (each_marked xs once.1))

  -- ---- what is found where some have left

  found_staying : (gone : List ℕ) (id : ℕ) (xs : List Item) → item_with id_of id (staying id_of gone xs) ≡ cond (is_among gone id) None (item_with id_of id xs)
  found_staying gone id [] = by (is_among gone id)
    where
      by : (b : Bool) → item_with id_of id [] ≡ cond b None (item_with id_of id [])
      by true = refl
      by false = refl
  found_staying gone id (x ∷ xs) = by (is_among gone (id_of x)) refl (nat_eq id (id_of x)) refl (found_staying gone id xs)
    where
      by : (out : Bool) → is_among gone (id_of x) ≡ out → (same : Bool) → nat_eq id (id_of x) ≡ same
          → item_with id_of id (staying id_of gone xs) ≡ cond (is_among gone id) None (item_with id_of id xs)
          → item_with id_of id (cond (not out) (x ∷ staying id_of gone xs) (staying id_of gone xs)) ≡ cond (is_among gone id) None (cond same (Some x) (item_with id_of id xs))
      by true e true f rest =
          let out : is_among gone id ≡ true = ap (is_among gone) (eqb-true id (id_of x) f) ∙ e in
          rest ∙ ap (λ b. cond b None (item_with id_of id xs)) out ∙ sym (ap (λ b. cond b None (Some x)) out)
      by true e false f rest = rest
      by false e true f rest =
          let there : is_among gone id ≡ false = ap (is_among gone) (eqb-true id (id_of x) f) ∙ e in
          ap (λ b. cond b (Some x) (item_with id_of id (staying id_of gone xs))) f ∙ sym (ap (λ b. cond b None (Some x)) there)
      by false e false f rest = ap (λ b. cond b (Some x) (item_with id_of id (staying id_of gone xs))) f ∙ rest

  -- nothing else is new where some of the old have left
  same_new : {Info : Type 0} (info_of : Item → Info) (old : List Item) (gone : List ℕ) → ((id : ℕ) → is_none (item_with id_of id old) ≡ true → is_among gone id ≡ false)
      → (xs : List Item) → new_infos id_of info_of old (staying id_of gone xs) ≡ new_infos id_of info_of old xs
  same_new info_of old gone away [] = refl
  same_new info_of old gone away (x ∷ xs) = by (is_among gone (id_of x)) refl (is_new id_of old x) refl (same_new info_of old gone away xs)
    where
      by : (out : Bool) → is_among gone (id_of x) ≡ out → (new : Bool) → is_new id_of old x ≡ new
          → new_infos id_of info_of old (staying id_of gone xs) ≡ new_infos id_of info_of old xs
          → new_infos id_of info_of old (cond (not out) (x ∷ staying id_of gone xs) (staying id_of gone xs)) ≡ map info_of (cond new (x ∷ filter (is_new id_of old) xs) (filter (is_new id_of old) xs))
      by true e true f rest = absurd (cc (e, away (id_of x) f))
      by true e false f rest = rest
      by false e true f rest = ap (λ b. map info_of (cond b (x ∷ filter (is_new id_of old) (staying id_of gone xs)) (filter (is_new id_of old) (staying id_of gone xs)))) f ∙ ap (λ zs. info_of x ∷ zs) rest
      by false e false f rest = ap (λ b. map info_of (cond b (x ∷ filter (is_new id_of old) (staying id_of gone xs)) (filter (is_new id_of old) (staying id_of gone xs)))) f ∙ rest

  -- what is told of those that stay is what is told, without that of those that left
  less_told : {Stats : Type 0} (stats_of : Item → Stats) (id_in : Stats → ℕ) → ((x : Item) → id_in (stats_of x) ≡ id_of x) → (gone : List ℕ) (tells : Item → Bool) (xs : List Item)
      → stats_without id_in gone (map stats_of (filter tells xs)) ≡ map stats_of (filter tells (staying id_of gone xs))
  less_told stats_of id_in keys gone tells [] = refl
  less_told stats_of id_in keys gone tells (x ∷ xs) = by (tells x) refl (is_among gone (id_of x)) refl (less_told stats_of id_in keys gone tells xs)
    where
      by : (told : Bool) → tells x ≡ told → (out : Bool) → is_among gone (id_of x) ≡ out
          → stats_without id_in gone (map stats_of (filter tells xs)) ≡ map stats_of (filter tells (staying id_of gone xs))
          → stats_without id_in gone (map stats_of (cond told (x ∷ filter tells xs) (filter tells xs))) ≡ map stats_of (filter tells (cond (not out) (x ∷ staying id_of gone xs) (staying id_of gone xs)))
      by true t true e rest = ap (λ n. cond (not (is_among gone n)) (stats_of x ∷ stats_without id_in gone (map stats_of (filter tells xs))) (stats_without id_in gone (map stats_of (filter tells xs)))) (keys x)
          ∙ ap (λ b. cond (not b) (stats_of x ∷ stats_without id_in gone (map stats_of (filter tells xs))) (stats_without id_in gone (map stats_of (filter tells xs)))) e ∙ rest
      by true t false e rest = ap (λ n. cond (not (is_among gone n)) (stats_of x ∷ stats_without id_in gone (map stats_of (filter tells xs))) (stats_without id_in gone (map stats_of (filter tells xs)))) (keys x)
          ∙ ap (λ b. cond (not b) (stats_of x ∷ stats_without id_in gone (map stats_of (filter tells xs))) (stats_without id_in gone (map stats_of (filter tells xs)))) e
          ∙ ap (λ zs. stats_of x ∷ zs) rest
          ∙ sym (ap (λ b. map stats_of (cond b (x ∷ filter tells (staying id_of gone xs)) (filter tells (staying id_of gone xs)))) t)
      by false t true e rest = rest
      by false t false e rest = rest ∙ sym (ap (λ b. map stats_of (cond b (x ∷ filter tells (staying id_of gone xs)) (filter tells (staying id_of gone xs)))) t)

-- ---- items of one kind that go on from those that were told

module _ {Item Info Stats : Type 0} (k : Kind Item Info Stats) (stats_of : Item → Stats) (same : Item → Item → Bool) (laws : IsKind k stats_of same) where
  paired : (x y : Item) → k.info_of x ≡ k.info_of y → k.id_of x ≡ k.id_of y
  paired = paired_ids k stats_of same laws

  abbrev IsThere : List Item → Item → Type 0
  IsThere ys x = is_none (item_with k.id_of (k.id_of x) ys) ≡ false

  there_too : (y x : Item) (ys : List Item) → IsThere ys x → IsThere (y ∷ ys) x
  there_too y x ys there = by (nat_eq (k.id_of x) (k.id_of y))
    where
      by : (b : Bool) → is_none (cond b (Some y) (item_with k.id_of (k.id_of x) ys)) ≡ false
      by true = refl
      by false = there

  each_there : (xs ys : List Item) → BeginWith k xs ys → AllByRecursion (IsThere ys) xs
  each_there [] ys begin = tt
  each_there (x ∷ xs) [] begin = absurd begin
  each_there (x ∷ xs) (y ∷ ys) begin = (
    ap (λ b. is_none (cond b (Some y) (item_with k.id_of (k.id_of x) ys))) (eq-eqb (k.id_of x) (k.id_of y) (paired x y begin.0)),
    all_by (IsThere ys) (IsThere (y ∷ ys)) (λ u there. there_too y u ys there) xs (each_there xs ys begin.1),
  )

  apart_begin : (id : ℕ) (xs ys : List Item) → BeginWith k xs ys → AllByRecursion (λ n. nat_eq id n ≡ false) (map k.id_of ys) → AllByRecursion (λ n. nat_eq id n ≡ false) (map k.id_of xs)
  apart_begin id [] ys begin apart = tt
  apart_begin id (x ∷ xs) [] begin apart = absurd begin
  apart_begin id (x ∷ xs) (y ∷ ys) begin apart = (ap (nat_eq id) (paired x y begin.0) ∙ apart.0, apart_begin id xs ys begin.1 apart.1)

  pub once_begin : (xs ys : List Item) → BeginWith k xs ys → IsDistinct nat_eq (map k.id_of ys) → IsDistinct nat_eq (map k.id_of xs)
  unfolding IsDistinct
  once_begin [] ys begin once = tt
  once_begin (x ∷ xs) [] begin once = absurd begin
  once_begin (x ∷ xs) (y ∷ ys) begin once =
      (subst (λ id. AllByRecursion (λ n. nat_eq id n ≡ false) (map k.id_of xs)) (sym (paired x y begin.0)) (apart_begin (k.id_of y) xs ys begin.1 once.0), once_begin xs ys begin.1 once.1)

  begin_staying : (gone : List ℕ) (xs ys : List Item) → BeginWith k xs ys → BeginWith k (staying k.id_of gone xs) (staying k.id_of gone ys)
  begin_staying gone [] ys begin = tt
  begin_staying gone (x ∷ xs) [] begin = absurd begin
  begin_staying gone (x ∷ xs) (y ∷ ys) begin = by (is_among gone (k.id_of x)) (is_among gone (k.id_of y)) (ap (is_among gone) (paired x y begin.0)) (begin_staying gone xs ys begin.1)
    where
      by : (a b : Bool) → a ≡ b → BeginWith k (staying k.id_of gone xs) (staying k.id_of gone ys)
          → BeginWith k (cond (not a) (x ∷ staying k.id_of gone xs) (staying k.id_of gone xs)) (cond (not b) (y ∷ staying k.id_of gone ys) (staying k.id_of gone ys))
      by true true e rest = rest
      by false false e rest = (begin.0, rest)
      by true false e rest = absurd (cc)
      by false true e rest = absurd (cc)

  module _ (p : Item → Bool) (old new : List Item) (begin : BeginWith k old new) (once : IsDistinct nat_eq (map k.id_of old)) where
    abbrev gone : List ℕ
    gone = map k.id_of (filter p old)

    abbrev left : List Item
    left = staying k.id_of gone new

    missing : (x : Item) → IsThere new x → is_new k.id_of left x ≡ is_among gone (k.id_of x)
    missing x there = ap is_none (found_staying k.id_of gone (k.id_of x) new) ∙ by (is_among gone (k.id_of x))
      where
        by : (b : Bool) → is_none (cond b None (item_with k.id_of (k.id_of x) new)) ≡ b
        by true = refl
        by false = there

    -- what the line says is gone is what leaves
    pub gone_are : gone_ids k.id_of old left ≡ gone
    gone_are = ap (map k.id_of) (filter-same (is_new k.id_of left) p old (all_by (λ x. IsThere new x × IsMarked k.id_of p old x) _ (λ x h. missing x h.0 ∙ h.1) old (both old (each_there old new begin) (each_marked k.id_of p old once))))
      where
        both : (xs : List Item) → AllByRecursion (IsThere new) xs → AllByRecursion (IsMarked k.id_of p old) xs → AllByRecursion (λ x. IsThere new x × IsMarked k.id_of p old x) xs
        both [] a b = tt
        both (x ∷ xs) a b = ((a.0, b.0), both xs a.1 b.1)

    pub infos_stay : new_infos k.id_of k.info_of old left ≡ new_infos k.id_of k.info_of old new
    infos_stay = same_new k.id_of k.info_of old gone (λ id absent. absent_not_among k.id_of p id old absent) new

    pub stats_leave : stats_without k.stats_id gone (told_stats k.id_of same stats_of old new) ≡ told_stats k.id_of same stats_of old left
    stats_leave = less_told k.id_of stats_of k.stats_id laws.keys gone (is_told k.id_of same old) new

    pub goes_on_less : BeginWith k (still_there k.id_of old left) left
    goes_on_less =
        subst (λ xs. BeginWith k xs left) (sym (filter-same (λ x. not (is_new k.id_of left x)) (λ x. not (is_among gone (k.id_of x))) old (all_by (IsThere new) _ (λ x there. ap not (missing x there)) old (each_there old new begin))))
        (begin_staying gone old new begin)

-- ---- tables

-- an item is described as it was when it was told
told_info : {Item Info Stats Row : Type 0} (k : Kind Item Info Stats) (with_row : Item → Row → Item) → ((x : Item) (r : Row) → k.info_of (with_row x r) ≡ k.info_of x)
    → (x : Item) (o : Option Row) → k.info_of (as_told with_row x o) ≡ k.info_of x
told_info k with_row same x None = refl
told_info k with_row same x (Some r) = same x r

-- the first items with other rows begin the items
rows_begin : {Item Info Stats Row : Type 0} (k : Kind Item Info Stats) (with_row : Item → Row → Item) → ((x : Item) (r : Row) → k.info_of (with_row x r) ≡ k.info_of x)
    → (xs : List Item) (rs : List Row) → length rs ≤ length xs → BeginWith k (with_rows with_row xs rs) xs
rows_begin k with_row same xs [] le = tt
rows_begin k with_row same [] (r ∷ rs) le = absurd (omega (arith, le))
rows_begin k with_row same (x ∷ xs) (r ∷ rs) le = (same x r, rows_begin k with_row same xs rs (omega (arith, le)))

-- tables go on from those that were told
pub told_begin : (telling : ToldView) (shown : TablesView) → FitsIn telling shown → GoOn (told_tables telling shown) shown
told_begin telling shown fits = record {
  tasks = rows_begin task_kind (as_told task_at) (told_info task_kind task_at (λ x r. refl)) shown.tasks telling.tasks.rows fits.tasks;
  resources = rows_begin resource_kind (as_told resource_at) (told_info resource_kind resource_at (λ x r. refl)) shown.resources telling.resources.rows fits.resources;
  ops = rows_begin op_kind (as_told op_at) (told_info op_kind op_at (λ x r. refl)) shown.ops telling.ops.rows fits.ops;
  counts = rows_begin counts_kind (as_told counts_at) (told_info counts_kind counts_at (λ x r. refl)) shown.counts telling.counts.rows fits.counts;
}

-- and no item stands twice in those
pub distinct_begin : (told tables : TablesView) → GoOn told tables → AreDistinct tables → AreDistinct told
distinct_begin told tables on once = record {
  tasks = once_begin task_kind task_stats_of have_same_row tasks_are told.tasks tables.tasks on.tasks once.tasks;
  resources = once_begin resource_kind resource_stats_of have_same_resource_row resources_are told.resources tables.resources on.resources once.resources;
  ops = once_begin op_kind op_stats_of have_same_op_row ops_are told.ops tables.ops on.ops once.ops;
  counts = once_begin counts_kind all_counts same_counts counts_are told.counts tables.counts on.counts once.counts;
}

-- the line to the tables without what leaves
pub pruned_line : (told tables : TablesView) (now retention seq : ℕ) → AreDistinct told → GoOn told tables
    → told_without (due_of told now retention) (line_between told tables seq) ≡ line_pruned told (prune tables told now retention) seq
pruned_line told tables now retention seq once on =
    let task_due : Task → Bool = λ t. is_due retention now (task_closed t) in
    let resource_due : Resource → Bool = λ r. is_due retention now (resource_closed r) in
    let op_due : Op → Bool = λ o. is_due retention now (op_closed o) in
    λ i. record {
      dropped = tables.dropped;
      gone = Some (record {
        ops = sym (gone_are op_kind op_stats_of have_same_op_row ops_are op_due told.ops tables.ops on.ops once.ops) i;
        resources = sym (gone_are resource_kind resource_stats_of have_same_resource_row resources_are resource_due told.resources tables.resources on.resources once.resources) i;
        tasks = sym (gone_are task_kind task_stats_of have_same_row tasks_are task_due told.tasks tables.tasks on.tasks once.tasks) i;
      });
      new_ops = sym (infos_stay op_kind op_stats_of have_same_op_row ops_are op_due told.ops tables.ops on.ops once.ops) i;
      new_resources = sym (infos_stay resource_kind resource_stats_of have_same_resource_row resources_are resource_due told.resources tables.resources on.resources once.resources) i;
      new_tasks = sym (infos_stay task_kind task_stats_of have_same_row tasks_are task_due told.tasks tables.tasks on.tasks once.tasks) i;
      now = tables.now;
      op_stats = stats_leave op_kind op_stats_of have_same_op_row ops_are op_due told.ops tables.ops on.ops once.ops i;
      poll_counts = told_stats counts_id same_counts all_counts told.counts tables.counts;
      resource_stats = stats_leave resource_kind resource_stats_of have_same_resource_row resources_are resource_due told.resources tables.resources on.resources once.resources i;
      seq = seq;
      snapshot = false;
      task_stats = stats_leave task_kind task_stats_of have_same_row tasks_are task_due told.tasks tables.tasks on.tasks once.tasks i;
      task_times = None;
    }

-- those tables go on from what stays of the tables before
pub pruned_goes_on : (told tables : TablesView) (now retention : ℕ) → AreDistinct told → GoOn told tables → GoOn (what_stays told (prune tables told now retention)) (prune tables told now retention)
pruned_goes_on told tables now retention once on = record {
  tasks = goes_on_less task_kind task_stats_of have_same_row tasks_are (λ t. is_due retention now (task_closed t)) told.tasks tables.tasks on.tasks once.tasks;
  resources = goes_on_less resource_kind resource_stats_of have_same_resource_row resources_are (λ r. is_due retention now (resource_closed r)) told.resources tables.resources on.resources once.resources;
  ops = goes_on_less op_kind op_stats_of have_same_op_row ops_are (λ o. is_due retention now (op_closed o)) told.ops tables.ops on.ops once.ops;
  counts = on.counts;
}

-- ---- what stays of tables is as it was

pub all_filter : {A : Type 0} (P : A → Type 0) (p : A → Bool) (xs : List A) → AllByRecursion P xs → AllByRecursion P (filter p xs)
all_filter P p [] all = tt
all_filter P p (x ∷ xs) all = by (p x) (all_filter P p xs all.1)
  where
    by : (b : Bool) → AllByRecursion P (filter p xs) → AllByRecursion P (cond b (x ∷ filter p xs) (filter p xs))
    by true rest = (all.0, rest)
    by false rest = rest

all_map_filter : {A B : Type 0} (P : B → Type 0) (f : A → B) (p : A → Bool) (xs : List A) → AllByRecursion P (map f xs) → AllByRecursion P (map f (filter p xs))
all_map_filter P f p [] all = tt
all_map_filter P f p (x ∷ xs) all = by (p x) (all_map_filter P f p xs all.1)
  where
    by : (b : Bool) → AllByRecursion P (map f (filter p xs)) → AllByRecursion P (map f (cond b (x ∷ filter p xs) (filter p xs)))
    by true rest = (all.0, rest)
    by false rest = rest

pub less_fit : (tables : TablesView) (gone : GoneView) → AreFit tables → AreFit (without_gone tables gone)
less_fit tables gone fit = record {
  distinct = record {
    tasks = once_kept task_id (λ t. not (is_among gone.tasks (task_id t))) tables.tasks fit.distinct.tasks;
    resources = once_kept resource_id (λ r. not (is_among gone.resources (resource_id r))) tables.resources fit.distinct.resources;
    ops = once_kept op_id (λ o. not (is_among gone.ops (op_id o))) tables.ops fit.distinct.ops;
    counts = fit.distinct.counts;
  };
  resources = all_filter _ (λ r. not (is_among gone.resources (resource_id r))) tables.resources fit.resources;
  ops = all_filter _ (λ o. not (is_among gone.ops (op_id o))) tables.ops fit.ops;
}

module _ {Item Info Stats : Type 0} (id_of : Item → ℕ) (info_of : Item → Info) (same : Item → Item → Bool) (stats_of : Item → Stats) (gone : List ℕ) (xs : List Item) where
  less_infos : (P : Info → Type 0) → AllByRecursion P (new_infos id_of info_of [] xs) → AllByRecursion P (new_infos id_of info_of [] (staying id_of gone xs))
  less_infos P all =
      subst (AllByRecursion P) (sym (all_infos id_of info_of (staying id_of gone xs)))
      (all_map_filter P info_of (λ x. not (is_among gone (id_of x))) xs (subst (AllByRecursion P) (all_infos id_of info_of xs) all))

  less_stats : (P : Stats → Type 0) → AllByRecursion P (told_stats id_of same stats_of [] xs) → AllByRecursion P (told_stats id_of same stats_of [] (staying id_of gone xs))
  less_stats P all =
      subst (AllByRecursion P) (sym (all_stats id_of same stats_of (staying id_of gone xs)))
      (all_map_filter P stats_of (λ x. not (is_among gone (id_of x))) xs (subst (AllByRecursion P) (all_stats id_of same stats_of xs) all))

pub less_in_range : (tables : TablesView) (gone : GoneView) → AreInRange tables → AreInRange (without_gone tables gone)
less_in_range tables gone r = record {
  dropped = r.dropped;
  gone = tt;
  new_ops = less_infos op_id op_info have_same_op_row op_stats_of gone.ops tables.ops _ r.new_ops;
  new_resources = less_infos resource_id resource_info have_same_resource_row resource_stats_of gone.resources tables.resources _ r.new_resources;
  new_tasks = less_infos task_id task_info have_same_row task_stats_of gone.tasks tables.tasks _ r.new_tasks;
  now = r.now;
  op_stats = less_stats op_id op_info have_same_op_row op_stats_of gone.ops tables.ops _ r.op_stats;
  poll_counts = r.poll_counts;
  resource_stats = less_stats resource_id resource_info have_same_resource_row resource_stats_of gone.resources tables.resources _ r.resource_stats;
  seq = r.seq;
  task_stats = less_stats task_id task_info have_same_row task_stats_of gone.tasks tables.tasks _ r.task_stats;
  task_times = tt;
}
