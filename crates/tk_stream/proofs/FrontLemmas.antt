-- What is told beside the rows that were told is what the line between the two tables tells.
use Rattle.std.proofs.Common.{◌≡◌, ℕ, zero, suc, ◌+◌, ◌≤◌, ◌<◌, List, [], ◌∷◌, ◌++◌, length, Bool, true, false, cond, nat_eq, take, drop, set, get_or, slice_get, Option, Some, None, refl, ap, ap₂, sym, ◌∙◌, subst, add-one, append_assoc, arith}
use Rattle.std.specs.Prelude.{map, filter, not, is_none, is_some}
use Rattle.std.specs.Option.{option_map_or}
use Rattle.std.specs.List.{AllByRecursion, IsDistinct}
use Rattle.std.proofs.Math.Seq.{drop-nil, take-set-lt}
use Rattle.std.proofs.lemmas.List.{take_more_set, append-nil, drop_all, get_or-take, get_or-map, get_or_default, length-take-le, map-set}
use Rattle.std.proofs.lemmas.Option.{same_Some, slice_get_read, slice_get_past}
use Rattle.tk_stream.specs.Fronts.{as_told, with_rows, is_told_beside, stats_beside}
use Rattle.tk_stream.specs.Kept.{kept}
use Rattle.tk_stream.specs.Lines.{is_new, is_told, new_infos, told_stats}
use Rattle.tk_stream.specs.Tables.{item_with, changed_at}
use Rattle.tk_stream.proofs.LinesLemmas.{IsFound, each_found, differ}

-- ---- a loop over the items

module _ {Item Info : Type 0} (info_of : Item → Info) where
  next_info : (xs : List Item) (i : ℕ) (x : Item) → Some x ≡ slice_get xs i → map info_of (drop i xs) ≡ info_of x ∷ map info_of (drop (suc i) xs)
  next_info [] i x at = absurd (cc)
  next_info (y ∷ xs) zero x at = ap (λ z. info_of z ∷ map info_of xs) (same_Some y x (sym at))
  next_info (y ∷ xs) (suc i) x at = next_info xs i x at

  pub goes_on_infos : (list : List Info) (xs : List Item) (i : ℕ) (x : Item) (total : List Info) → Some x ≡ slice_get xs i → list ++ map info_of (drop i xs) ≡ total
      → (list ++ info_of x ∷ []) ++ map info_of (drop (i + 1) xs) ≡ total
  goes_on_infos list xs i x total at so_far =
      rw add-one (append_assoc list (info_of x ∷ []) (map info_of (drop (suc i) xs)) ∙ ap (λ ys. list ++ ys) (sym (next_info xs i x at)) ∙ so_far)

module _ {Item Row Stats : Type 0} (with_row : Item → Row → Item) (same : Item → Item → Bool) (stats_of : Item → Stats) where
  abbrev beside : List Row → List Item → List Stats
  beside rs xs = stats_beside with_row same stats_of rs xs

  abbrev tells : Option Row → Item → Bool
  tells told x = is_told_beside with_row same told x

  next_stats : (rs : List Row) (xs : List Item) (i : ℕ) (x : Item) → Some x ≡ slice_get xs i
      → beside (drop i rs) (drop i xs) ≡ kept (tells (slice_get rs i) x) (stats_of x) ++ beside (drop (suc i) rs) (drop (suc i) xs)
  next_stats rs [] i x at = absurd (cc)
  next_stats (r ∷ rs) (y ∷ xs) zero x at = ap (λ z. kept (tells (Some r) z) (stats_of z) ++ beside rs xs) (same_Some y x (sym at))
  next_stats [] (y ∷ xs) zero x at = ap (λ z. stats_of z ∷ beside [] xs) (same_Some y x (sym at))
  next_stats (r ∷ rs) (y ∷ xs) (suc i) x at = next_stats rs xs i x at
  next_stats [] (y ∷ xs) (suc i) x at = rw (drop-nil i) at (next_stats [] xs i x at)

  pub goes_on_stats : (list : List Stats) (rs : List Row) (xs : List Item) (i : ℕ) (x : Item) (total : List Stats) → Some x ≡ slice_get xs i
      → list ++ beside (drop i rs) (drop i xs) ≡ total
      → (list ++ kept (tells (slice_get rs i) x) (stats_of x)) ++ beside (drop (i + 1) rs) (drop (i + 1) xs) ≡ total
  goes_on_stats list rs xs i x total at so_far =
      rw add-one (append_assoc list (kept (tells (slice_get rs i) x) (stats_of x)) (beside (drop (suc i) rs) (drop (suc i) xs)) ∙ ap (λ ys. list ++ ys) (sym (next_stats rs xs i x at)) ∙ so_far)

-- ---- the line between items with the rows that were told and the items

module _ {Item Row : Type 0} (id_of : Item → ℕ) (with_row : Item → Row → Item) (keeps_id : (x : Item) (r : Row) → id_of (with_row x r) ≡ id_of x) where
  abbrev old : List Item → List Row → List Item
  old xs rs = with_rows with_row xs rs

  -- those that had no row
  abbrev rest : List Item → List Row → List Item
  rest xs [] = xs
  rest [] (r ∷ rs) = []
  rest (x ∷ xs) (r ∷ rs) = rest xs rs

  abbrev Apart : ℕ → List Item → Type 0
  Apart id xs = AllByRecursion (λ n. nat_eq id n ≡ false) (map id_of xs)

  apart_old : (id : ℕ) (xs : List Item) (rs : List Row) → Apart id xs → Apart id (old xs rs)
  apart_old id xs [] apart = tt
  apart_old id [] (r ∷ rs) apart = tt
  apart_old id (x ∷ xs) (r ∷ rs) apart = (ap (nat_eq id) (keeps_id x r) ∙ apart.0, apart_old id xs rs apart.1)

  apart_rest : (id : ℕ) (xs : List Item) (rs : List Row) → Apart id xs → Apart id (rest xs rs)
  apart_rest id xs [] apart = apart
  apart_rest id [] (r ∷ rs) apart = tt
  apart_rest id (x ∷ xs) (r ∷ rs) apart = apart_rest id xs rs apart.1

  pub distinct_old : (xs : List Item) (rs : List Row) → IsDistinct nat_eq (map id_of xs) → IsDistinct nat_eq (map id_of (old xs rs))
  unfolding IsDistinct
  distinct_old xs [] distinct = tt
  distinct_old [] (r ∷ rs) distinct = tt
  distinct_old (x ∷ xs) (r ∷ rs) distinct = (subst (λ id. Apart id (old xs rs)) (sym (keeps_id x r)) (apart_old (id_of x) xs rs distinct.0), distinct_old xs rs distinct.1)

  abbrev IsAbsent : List Item → Item → Type 0
  IsAbsent items y = item_with id_of (id_of y) items ≡ None

  nothing : (ys : List Item) → AllByRecursion (IsAbsent []) ys
  nothing [] = tt
  nothing (y ∷ ys) = (refl, nothing ys)

  also_absent : (y : Item) (items zs : List Item) → Apart (id_of y) zs → AllByRecursion (IsAbsent items) zs → AllByRecursion (IsAbsent (y ∷ items)) zs
  also_absent y items [] apart all = tt
  also_absent y items (z ∷ zs) apart all =
      (ap (λ b. cond b (Some y) (item_with id_of (id_of z) items)) (differ (id_of y) (id_of z) apart.0) ∙ all.0, also_absent y items zs apart.1 all.1)

  absent : (xs : List Item) (rs : List Row) → IsDistinct nat_eq (map id_of xs) → AllByRecursion (IsAbsent (old xs rs)) (rest xs rs)
  unfolding IsDistinct
  absent xs [] distinct = nothing xs
  absent [] (r ∷ rs) distinct = tt
  absent (x ∷ xs) (r ∷ rs) distinct =
      also_absent (with_row x r) (old xs rs) (rest xs rs) (subst (λ id. Apart id (rest xs rs)) (sym (keeps_id x r)) (apart_rest (id_of x) xs rs distinct.0)) (absent xs rs distinct.1)

  module _ (whole : List Item) where
    abbrev AreOld : List Item → List Row → Type 0
    AreOld xs rs = AllByRecursion (IsFound id_of whole) (old xs rs) × AllByRecursion (IsAbsent whole) (rest xs rs)

    found : (x : Item) (r : Row) → IsFound id_of whole (with_row x r) → item_with id_of (id_of x) whole ≡ Some (with_row x r)
    found x r is = ap (λ id. item_with id_of id whole) (sym (keeps_id x r)) ∙ is

    module _ {Stats : Type 0} (same : Item → Item → Bool) (stats_of : Item → Stats) where
      abbrev one : Item → List Item → Bool → List Stats
      one x xs b = map stats_of (cond b (x ∷ filter (is_told id_of same whole) xs) (filter (is_told id_of same whole) xs))

      put : (x : Item) (xs : List Item) (b c : Bool) (more : List Stats) → b ≡ c → map stats_of (filter (is_told id_of same whole) xs) ≡ more → one x xs b ≡ kept c (stats_of x) ++ more
      put x xs b c more e rest_is = ap (one x xs) e ∙ by c
        where
          by : (c : Bool) → one x xs c ≡ kept c (stats_of x) ++ more
          by true = ap (λ ys. stats_of x ∷ ys) rest_is
          by false = rest_is

      same_stats : (xs : List Item) (rs : List Row) → AreOld xs rs → map stats_of (filter (is_told id_of same whole) xs) ≡ stats_beside with_row same stats_of rs xs
      same_stats [] rs are = refl
      same_stats (x ∷ xs) [] are = put x xs (is_told id_of same whole x) true _ (ap (λ o. option_map_or (λ before. not (same before x)) o true) are.1.0) (same_stats xs [] (tt, are.1.1))
      same_stats (x ∷ xs) (r ∷ rs) are = put x xs (is_told id_of same whole x) (not (same (with_row x r) x)) _ (ap (λ o. option_map_or (λ before. not (same before x)) o true) (found x r are.0.0)) (same_stats xs rs (are.0.1, are.1))

    module _ {Info : Type 0} (info_of : Item → Info) where
      all_new : (ys : List Item) → AllByRecursion (IsAbsent whole) ys → map info_of (filter (is_new id_of whole) ys) ≡ map info_of ys
      all_new [] all = refl
      all_new (y ∷ ys) all = ap (λ b. map info_of (cond b (y ∷ filter (is_new id_of whole) ys) (filter (is_new id_of whole) ys))) (ap is_none all.0) ∙ ap (λ zs. info_of y ∷ zs) (all_new ys all.1)

      same_infos : (xs : List Item) (rs : List Row) → AreOld xs rs → map info_of (filter (is_new id_of whole) xs) ≡ map info_of (drop (length rs) xs)
      same_infos xs [] are = all_new xs are.1
      same_infos [] (r ∷ rs) are = refl
      same_infos (x ∷ xs) (r ∷ rs) are =
          ap (λ b. map info_of (cond b (x ∷ filter (is_new id_of whole) xs) (filter (is_new id_of whole) xs))) (ap is_none (found x r are.0.0)) ∙ same_infos xs rs (are.0.1, are.1)

  are_old : (xs : List Item) (rs : List Row) → IsDistinct nat_eq (map id_of xs) → AreOld (old xs rs) xs rs
  are_old xs rs distinct = (each_found id_of (old xs rs) (distinct_old xs rs distinct), absent xs rs distinct)

  pub stats_are : {Stats : Type 0} (same : Item → Item → Bool) (stats_of : Item → Stats) (xs : List Item) (rs : List Row) → IsDistinct nat_eq (map id_of xs)
      → stats_beside with_row same stats_of rs xs ≡ told_stats id_of same stats_of (with_rows with_row xs rs) xs
  stats_are same stats_of xs rs distinct = sym (same_stats (old xs rs) same stats_of xs rs (are_old xs rs distinct))

  pub infos_are : {Info : Type 0} (info_of : Item → Info) (xs : List Item) (rs : List Row) → IsDistinct nat_eq (map id_of xs)
      → map info_of (drop (length rs) xs) ≡ new_infos id_of info_of (with_rows with_row xs rs) xs
  infos_are info_of xs rs distinct = sym (same_infos (old xs rs) info_of xs rs (are_old xs rs distinct))

-- ---- all is told, one item after the other

next_told : {Item Row : Type 0} (xs : List Item) (i : ℕ) → i < length xs → map {B = Option Row} (λ x. None) (take (suc i) xs) ≡ map (λ x. None) (take i xs) ++ None ∷ []
next_told [] i lt = absurd (omega (arith, lt))
next_told (x ∷ xs) zero lt = refl
next_told (x ∷ xs) (suc i) lt = ap (λ ys. None ∷ ys) (next_told xs i (omega (arith, lt)))

pub goes_on_told : {Item Row : Type 0} (rows : List (Option Row)) (xs : List Item) (i : ℕ) (row : Option Row) → row ≡ None → i < length xs → i < length rows
    → take i rows ≡ map (λ x. None) (take i xs) → take (i + 1) (set rows i row) ≡ map (λ x. None) (take (i + 1) xs)
goes_on_told rows xs i row is among within so_far =
    take_more_set rows i row within ∙ ap₂ (λ ys y. ys ++ y ∷ []) so_far is ∙ sym (rw add-one (next_told xs i among))

-- items that were told of as they are
pub all_told : {Item Row : Type 0} (with_row : Item → Row → Item) (xs : List Item) → with_rows (as_told with_row) xs (map (λ x. None) xs) ≡ xs
all_told with_row [] = refl
all_told with_row (x ∷ xs) = ap (λ ys. x ∷ ys) (all_told with_row xs)

-- an item keeps its id
pub keeps_told : {Item Row Id : Type 0} (id_of : Item → Id) (with_row : Item → Row → Item) → ((x : Item) (r : Row) → id_of (with_row x r) ≡ id_of x)
    → (x : Item) (o : Option Row) → id_of (as_told with_row x o) ≡ id_of x
keeps_told id_of with_row keeps x None = refl
keeps_told id_of with_row keeps x (Some r) = keeps x r

-- ---- a mark for each place tells whether a row is kept there

pub marked : {Row : Type 0} (items : List (Option Row)) (marks : List Bool) (i : ℕ) (mark : Bool) (row : Option Row) → marks ≡ map is_some items → i < length items
    → mark ≡ get_or marks i mark → row ≡ get_or items i row → mark ≡ is_some row
marked items marks i mark row are lt at kept = at ∙ ap (λ ms. get_or ms i mark) are ∙ get_or-map is_some items i row mark lt ∙ ap is_some (sym kept)

pub marks_stay : {Row : Type 0} (items : List (Option Row)) (marks : List Bool) (i : ℕ) (mark : Bool) (row : Option Row) → marks ≡ map is_some items → mark ≡ is_some row
    → set marks i mark ≡ map is_some (set items i row)
marks_stay items marks i mark row are is = ap₂ (λ ms m. set ms i m) are is ∙ sym (map-set is_some items i row)

-- ---- another row of one item

module _ {Item Row : Type 0} (with_row : Item → Row → Item) (row : Row) where
  abbrev now_at : List Item → ℕ → List Item
  now_at xs i = changed_at (λ x. with_row x row) xs i

  pub same_row_again : (xs : List Item) (i : ℕ) (x : Item) → Some x ≡ slice_get xs i → with_row x row ≡ x → now_at xs i ≡ xs
  same_row_again [] i x at same = refl
  same_row_again (y ∷ xs) zero x at same = ap (λ z. z ∷ xs) (subst (λ z. with_row z row ≡ z) (sym (same_Some y x (sym at))) same)
  same_row_again (y ∷ xs) (suc i) x at same = ap (λ ys. y ∷ ys) (same_row_again xs i x at same)

  abbrev told : List Item → List (Option Row) → List Item
  told xs rs = with_rows (as_told with_row) xs rs

  -- what was told of it is kept already, or nothing was
  pub stays_told : ((x : Item) (q r : Row) → with_row (with_row x q) r ≡ with_row x r) → (xs : List Item) (rs : List (Option Row)) (i : ℕ)
      → (slice_get rs i ≡ Some None → ⊥) → told (now_at xs i) rs ≡ told xs rs
  stays_told last xs [] i kept = refl
  stays_told last [] (o ∷ rs) i kept = refl
  stays_told last (x ∷ xs) (None ∷ rs) zero kept = absurd (kept refl)
  stays_told last (x ∷ xs) (Some r ∷ rs) zero kept = ap (λ y. y ∷ told xs rs) (last x row r)
  stays_told last (x ∷ xs) (o ∷ rs) (suc i) kept = ap (λ ys. as_told with_row x o ∷ ys) (stays_told last xs rs i kept)

  -- there is something at a place among the first
  there_in : (items : List (Option Row)) (count i : ℕ) (o : Option Row) → count ≤ length items → i < count → o ≡ get_or items i o → slice_get (take count items) i ≡ Some o
  there_in items count i o le lt is = slice_get_read (take count items) count i o (sym (length-take-le count items le)) lt (is ∙ sym (get_or-take count items i o lt))

  kept_in : (items : List (Option Row)) (count i : ℕ) (o : Option Row) → count ≤ length items → i < count → o ≡ get_or items i o → is_some o ≡ true → slice_get (take count items) i ≡ Some None → ⊥
  kept_in items count i o le lt is other none = absurd (cc (there_in items count i o le lt is, other, none))

  pub kept_where_marked : (items : List (Option Row)) (marks : List Bool) (count i : ℕ) (mark : Bool) → count ≤ length items → i < count → marks ≡ map is_some items
      → mark ≡ get_or marks i mark → mark ≡ true → slice_get (take count items) i ≡ Some None → ⊥
  kept_where_marked items marks count i mark le lt are at is none =
      let here = get_or_default items i None (get_or items i None) (omega (arith, lt, le)) in
      kept_in items count i (get_or items i None) le lt here (sym (marked items marks i mark (get_or items i None) are (omega (arith, lt, le)) at here) ∙ is) none

  pub nothing_past : (items : List (Option Row)) (count i : ℕ) → count ≤ length items → count ≤ i → slice_get (take count items) i ≡ Some None → ⊥
  nothing_past items count i le past none = absurd (cc (slice_get_past (take count items) i (subst (λ n. n ≤ i) (sym (length-take-le count items le)) past), none))

  -- its row was told, and is kept now
  comes_to_be_kept : ((x : Item) (q r : Row) → with_row (with_row x q) r ≡ with_row x r) → (xs : List Item) (rs : List (Option Row)) (i : ℕ) (x : Item) (before : Row)
      → Some x ≡ slice_get xs i → slice_get rs i ≡ Some None → with_row x before ≡ x → told (now_at xs i) (set rs i (Some before)) ≡ told xs rs
  comes_to_be_kept last [] rs i x before at none own = absurd (cc)
  comes_to_be_kept last (y ∷ xs) [] i x before at none own = absurd (cc)
  comes_to_be_kept last (y ∷ xs) (None ∷ rs) zero x before at none own =
      ap (λ z. z ∷ told xs rs) (last y row before ∙ subst (λ z. with_row z before ≡ z) (sym (same_Some y x (sym at))) own)
  comes_to_be_kept last (y ∷ xs) (Some r ∷ rs) zero x before at none own = absurd (cc)
  comes_to_be_kept last (y ∷ xs) (o ∷ rs) (suc i) x before at none own = ap (λ ys. as_told with_row y o ∷ ys) (comes_to_be_kept last xs rs i x before at none own)

  pub kept_now_in : ((x : Item) (q r : Row) → with_row (with_row x q) r ≡ with_row x r) → (xs : List Item) (items : List (Option Row)) (count i : ℕ) (x : Item) (before : Row) (o : Option Row)
      → Some x ≡ slice_get xs i → with_row x before ≡ x → count ≤ length items → i < count → o ≡ get_or items i o → is_some o ≡ false
      → told (now_at xs i) (take count (set items i (Some before))) ≡ told xs (take count items)
  kept_now_in last xs items count i x before o at own le lt is none =
      ap (λ rs. told (now_at xs i) rs) (take-set-lt count items i (Some before) lt)
      ∙ comes_to_be_kept last xs (take count items) i x before at (there_in items count i o le lt is ∙ ap Some (nothing_is o none)) own
    where
      nothing_is : (o : Option Row) → is_some o ≡ false → o ≡ None
      nothing_is None none = refl
      nothing_is (Some r) none = absurd (cc)

-- what is left over at the end of a loop
pub infos_done : {Item Info : Type 0} (info_of : Item → Info) (list : List Info) (xs : List Item) (i : ℕ) (total : List Info) → length xs ≤ i
    → list ++ map info_of (drop i xs) ≡ total → list ≡ total
infos_done info_of list xs i total past so_far = sym (append-nil list) ∙ ap (λ ys. list ++ map info_of ys) (sym (drop_all i xs past)) ∙ so_far

pub stats_done : {Item Row Stats : Type 0} (with_row : Item → Row → Item) (same : Item → Item → Bool) (stats_of : Item → Stats) (list : List Stats) (rs : List Row) (xs : List Item) (i : ℕ) (total : List Stats) → length xs ≤ i
    → list ++ stats_beside with_row same stats_of (drop i rs) (drop i xs) ≡ total → list ≡ total
stats_done with_row same stats_of list rs xs i total past so_far = sym (append-nil list) ∙ ap (λ ys. list ++ stats_beside with_row same stats_of (drop i rs) ys) (sym (drop_all i xs past)) ∙ so_far
