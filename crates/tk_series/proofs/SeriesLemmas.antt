-- A value more in series.
use Rattle.std.proofs.Common.{◌≡◌, ℕ, zero, suc, List, [], ◌∷◌, ◌++◌, map, filter, Bool, true, false, cond, ◌||◌, Option, Some, None, ◌+◌, ◌≤◌, length, take, slice_get, refl, ap, ap₂, sym, subst, ◌∙◌, true≢false, append-nil, append_assoc, add-one}
use Rattle.std.specs.Prelude.{fold, vec_len}
use Rattle.std.specs.List.{AllZip}
use Rattle.std.specs.Cmp.Lexicographic.{nat_list_eq_equiv}
use Rattle.std.specs.Map.{lookup}
use Rattle.std.specs.Str.{bytes_eq}
use Rattle.std.proofs.Common.{Vec, Global}
use Rattle.std.specs.Option.{option_map_or}
use Rattle.std.proofs.lemmas.List.{map-append, take_all}
use Rattle.std.proofs.lemmas.List.Elements.{filter-append}
use Rattle.std.proofs.lemmas.List.Sums.{fold-append}
use Rattle.std.proofs.lemmas.Map.Steps.{list_any_congr}
use Rattle.indexmap.specs.IndexMap.{insert_entry}
use Rattle.tk_series.specs.Series.{values_at, is_seen, series_after, series_of, with_value}

module _ {V : Type 0} (plus : V → V → V) (l : List ℕ) (v : V) where
  one : (b : Bool) → map (λ (x : List ℕ × V). x.1) (cond b ((l, v) ∷ []) []) ≡ cond b (v ∷ []) []
  one true = refl
  one false = refl

  -- the values of some labels, with one more
  values-more : (k : List ℕ) (xs : List (List ℕ × V)) → values_at k (xs ++ (l, v) ∷ []) ≡ values_at k xs ++ cond (bytes_eq k l) (v ∷ []) []
  values-more k xs =
      ap (map (λ (x : List ℕ × V). x.1)) (filter-append (λ (x : List ℕ × V). bytes_eq k x.0) xs ((l, v) ∷ []))
      ∙ map-append (λ (x : List ℕ × V). x.1) (filter (λ (x : List ℕ × V). bytes_eq k x.0) xs) (filter (λ (x : List ℕ × V). bytes_eq k x.0) ((l, v) ∷ []))
      ∙ ap (λ ys. values_at k xs ++ ys) (one (bytes_eq k l))

  pub series-more : (seen : List (List ℕ)) (xs : List (List ℕ × V))
      → series_after plus seen (xs ++ (l, v) ∷ []) ≡ cond (is_seen seen l) (series_after plus seen xs) (with_value plus l v (series_after plus seen xs))
  series-more seen [] = refl
  series-more seen (x ∷ xs) =
      by (is_seen seen x.0) refl (bytes_eq l x.0) refl (is_seen seen l) refl (series-more seen xs) (series-more (x.0 ∷ seen) xs)
    where
      by : (b : Bool) → is_seen seen x.0 ≡ b → (e : Bool) → bytes_eq l x.0 ≡ e → (s : Bool) → is_seen seen l ≡ s
          → series_after plus seen (xs ++ (l, v) ∷ []) ≡ cond (is_seen seen l) (series_after plus seen xs) (with_value plus l v (series_after plus seen xs))
          → series_after plus (x.0 ∷ seen) (xs ++ (l, v) ∷ []) ≡ cond (bytes_eq l x.0 || is_seen seen l) (series_after plus (x.0 ∷ seen) xs) (with_value plus l v (series_after plus (x.0 ∷ seen) xs))
          → cond b (series_after plus seen (xs ++ (l, v) ∷ [])) ((x.0, fold plus x.1 (values_at x.0 (xs ++ (l, v) ∷ []))) ∷ series_after plus (x.0 ∷ seen) (xs ++ (l, v) ∷ []))
          ≡ cond s (cond b (series_after plus seen xs) ((x.0, (fold plus x.1 (values_at x.0 xs))) ∷ (series_after plus (x.0 ∷ seen) xs))) (with_value plus l v (cond b (series_after plus seen xs) ((x.0, (fold plus x.1 (values_at x.0 xs))) ∷ (series_after plus (x.0 ∷ seen) xs))))
      by true p e q s r same other = same ∙ ap (λ c. cond c (series_after plus seen xs) (with_value plus l v (series_after plus seen xs))) r
      by false p true q true r same other = absurd (true≢false (sym r ∙ list_any_congr nat_list_eq_equiv l x.0 seen q ∙ p))
      by false p true q false r same other =
          ap₂ (λ a as'. (x.0, a) ∷ as')
          (ap (fold plus x.1) (values-more x.0 xs ∙ ap (λ c. values_at x.0 xs ++ cond c (v ∷ []) []) (nat_list_eq_equiv.symm x.0 l ∙ q)) ∙ fold-append plus x.1 (values_at x.0 xs) (v ∷ []))
          (other ∙ ap (λ c. cond (c || is_seen seen l) (series_after plus (x.0 ∷ seen) xs) (with_value plus l v (series_after plus (x.0 ∷ seen) xs))) q)
          ∙ sym (ap (λ c. cond c ((x.0, plus (fold plus x.1 (values_at x.0 xs)) v) ∷ (series_after plus (x.0 ∷ seen) xs)) ((x.0, (fold plus x.1 (values_at x.0 xs))) ∷ with_value plus l v (series_after plus (x.0 ∷ seen) xs))) q)
      by false p false q s r same other =
          ap₂ (λ a as'. (x.0, a) ∷ as')
          (ap (fold plus x.1) (values-more x.0 xs ∙ ap (λ c. values_at x.0 xs ++ cond c (v ∷ []) []) (nat_list_eq_equiv.symm x.0 l ∙ q) ∙ append-nil (values_at x.0 xs)))
          (other ∙ ap (λ c. cond (c || is_seen seen l) (series_after plus (x.0 ∷ seen) xs) (with_value plus l v (series_after plus (x.0 ∷ seen) xs))) q ∙ ap (λ c. cond c (series_after plus (x.0 ∷ seen) xs) (with_value plus l v (series_after plus (x.0 ∷ seen) xs))) r)
          ∙ put s
        where
          put : (s : Bool) → (x.0, (fold plus x.1 (values_at x.0 xs))) ∷ cond s (series_after plus (x.0 ∷ seen) xs) (with_value plus l v (series_after plus (x.0 ∷ seen) xs)) ≡ cond s ((x.0, (fold plus x.1 (values_at x.0 xs))) ∷ (series_after plus (x.0 ∷ seen) xs)) (with_value plus l v ((x.0, (fold plus x.1 (values_at x.0 xs))) ∷ (series_after plus (x.0 ∷ seen) xs)))
          put true = refl
          put false = sym (ap (λ c. cond c ((x.0, plus (fold plus x.1 (values_at x.0 xs)) v) ∷ (series_after plus (x.0 ∷ seen) xs)) ((x.0, (fold plus x.1 (values_at x.0 xs))) ∷ with_value plus l v (series_after plus (x.0 ∷ seen) xs))) q)

  pub series_of-more : (xs : List (List ℕ × V)) → series_of plus (xs ++ (l, v) ∷ []) ≡ with_value plus l v (series_of plus xs)
  series_of-more xs = series-more [] xs

-- the texts of the keys of a map, with their values
abbrev pub shown : {V : Type 0} → List (Vec ℕ Global × V) → List (List ℕ × V)
shown es = map (λ e. (e.0.items, e.1)) es

-- bytes that are copies are the same
same_bytes : (xs ys : List ℕ) → AllZip (λ x y. y ≡ x) xs ys → ys ≡ xs
same_bytes [] [] all = refl
same_bytes [] (y ∷ ys) all = absurd all
same_bytes (x ∷ xs) [] all = absurd all
same_bytes (x ∷ xs) (y ∷ ys) all = ap₂ (λ z zs. z ∷ zs) all.0 (same_bytes xs ys all.1)

-- entries whose keys and values are copies show the same
pub copied : {V : Type 0} (C : V → V → Type 0) → ((a b : V) → C a b → b ≡ a)
    → (es fs : List (Vec ℕ Global × V)) → AllZip (λ p q. (AllZip (λ x y. y ≡ x) p.0.items q.0.items × (vec_len q.0 ≡ vec_len p.0)) × C p.1 q.1) es fs → shown fs ≡ shown es
copied C h [] [] all = refl
copied C h [] (f ∷ fs) all = absurd all
copied C h (e ∷ es) [] all = absurd all
copied C h (e ∷ es) (f ∷ fs) all = ap₂ (λ x xs. x ∷ xs) (λ i. (same_bytes e.0.items f.0.items all.0.0.0 i, h e.1 f.1 all.0.1 i)) (copied C h es fs all.1)

module _ {V : Type 0} (plus : V → V → V) (k : Vec ℕ Global) (v : V) where
  -- a key that isn't there goes last
  pub inserted_new : (es : List (Vec ℕ Global × V)) → None ≡ lookup (λ q. bytes_eq k.items q.items) es
      → shown (insert_entry (λ p q. bytes_eq p.items q.items) es k v) ≡ with_value plus k.items v (shown es)
  inserted_new [] none = refl
  inserted_new (e ∷ es) none = by (bytes_eq k.items (e.0.items)) none (inserted_new es)
    where
      by : (b : Bool) → None ≡ cond b (Some e.1) (lookup (λ q. bytes_eq k.items q.items) es)
          → (None ≡ lookup (λ q. bytes_eq k.items q.items) es → shown (insert_entry (λ p q. bytes_eq p.items q.items) es k v) ≡ with_value plus k.items v (shown es))
          → shown (cond b ((e.0, v) ∷ es) (e ∷ insert_entry (λ p q. bytes_eq p.items q.items) es k v)) ≡ cond b ((e.0.items, plus e.1 v) ∷ shown es) ((e.0.items, e.1) ∷ with_value plus k.items v (shown es))
      by true p more = absurd (cc)
      by false p more = ap (λ xs. (e.0.items, e.1) ∷ xs) (more p)

  -- the value of one that is there is added to
  pub inserted_sum : (old : V) (es : List (Vec ℕ Global × V)) → Some old ≡ lookup (λ q. bytes_eq k.items q.items) es
      → shown (insert_entry (λ p q. bytes_eq p.items q.items) es k (plus old v)) ≡ with_value plus k.items v (shown es)
  inserted_sum old [] some = absurd (cc)
  inserted_sum old (e ∷ es) some = by (bytes_eq k.items (e.0.items)) some (inserted_sum old es)
    where
      by : (b : Bool) → Some old ≡ cond b (Some e.1) (lookup (λ q. bytes_eq k.items q.items) es)
          → (Some old ≡ lookup (λ q. bytes_eq k.items q.items) es → shown (insert_entry (λ p q. bytes_eq p.items q.items) es k (plus old v)) ≡ with_value plus k.items v (shown es))
          → shown (cond b ((e.0, plus old v) ∷ es) (e ∷ insert_entry (λ p q. bytes_eq p.items q.items) es k (plus old v))) ≡ cond b ((e.0.items, plus e.1 v) ∷ shown es) ((e.0.items, e.1) ∷ with_value plus k.items v (shown es))
      by true p more = let is : old ≡ e.1 = cc in ap (λ w. (e.0.items, plus w v) ∷ shown es) is
      by false p more = ap (λ xs. (e.0.items, e.1) ∷ xs) (more p)

-- ---- items of a list, one after the other

-- the items up to a place, and the one that stands there, if one does
pub taken_more : {A : Type 0} (xs : List A) (i : ℕ) → take (suc i) xs ≡ take i xs ++ option_map_or (λ (x : A). x ∷ []) (slice_get xs i) []
taken_more [] zero = refl
taken_more [] (suc i) = refl
taken_more (x ∷ xs) zero = refl
taken_more (x ∷ xs) (suc i) = ap (λ ys. x ∷ ys) (taken_more xs i)

module _ {A V : Type 0} (plus : V → V → V) (e : A → List ℕ × V) (before : List (List ℕ × V)) (xs : List A) where
  -- the series of these and of the items up to a place
  abbrev pub so_far : ℕ → List (List ℕ × V)
  so_far i = series_of plus (before ++ map e (take i xs))

  pub item_more : (i : ℕ) → so_far (i + 1) ≡ option_map_or (λ x. with_value plus (e x).0 (e x).1 (so_far i)) (slice_get xs i) (so_far i)
  item_more i = rw add-one (ap (λ ys. series_of plus (before ++ map e ys)) (taken_more xs i) ∙ by (slice_get xs i))
    where
      by : (o : Option A) → series_of plus (before ++ map e (take i xs ++ option_map_or (λ (x : A). x ∷ []) o [])) ≡ option_map_or (λ x. with_value plus (e x).0 (e x).1 (so_far i)) o (so_far i)
      by None = ap (λ ys. series_of plus (before ++ map e ys)) (append-nil (take i xs))
      by (Some x) =
          ap (λ ys. series_of plus (before ++ ys)) (map-append e (take i xs) (x ∷ []))
          ∙ ap (series_of plus) (sym (append_assoc before (map e (take i xs)) (e x ∷ [])))
          ∙ series_of-more plus (e x).0 (e x).1 (before ++ map e (take i xs))

  -- past the last place
  pub items_all : (i n : ℕ) → n ≡ length xs → n ≤ i → so_far i ≡ series_of plus (before ++ map e xs)
  items_all i n is past = ap (λ ys. series_of plus (before ++ map e ys)) (take_all i xs (subst (λ m. m ≤ i) is past))

-- the same of those items alone that pass a test
module _ {A V : Type 0} (plus : V → V → V) (e : A → List ℕ × V) (test : A → Bool) (before : List (List ℕ × V)) (xs : List A) where
  abbrev pub passed_so_far : ℕ → List (List ℕ × V)
  passed_so_far i = series_of plus (before ++ map e (filter test (take i xs)))

  -- an item that is there goes in where it is not one of those that stay
  pub passed_more : (i : ℕ) → passed_so_far (i + 1)
      ≡ option_map_or (λ x. cond (test x) (with_value plus (e x).0 (e x).1 (passed_so_far i)) (passed_so_far i)) (slice_get xs i) (passed_so_far i)
  passed_more i = rw add-one (ap (λ ys. series_of plus (before ++ map e (filter test ys))) (taken_more xs i) ∙ by (slice_get xs i))
    where
      one_more : (x : A) (b : Bool) → series_of plus (before ++ map e (filter test (take i xs) ++ cond b (x ∷ []) []))
          ≡ cond b (with_value plus (e x).0 (e x).1 (passed_so_far i)) (passed_so_far i)
      one_more x true =
          ap (λ ys. series_of plus (before ++ ys)) (map-append e (filter test (take i xs)) (x ∷ []))
          ∙ ap (series_of plus) (sym (append_assoc before (map e (filter test (take i xs))) (e x ∷ [])))
          ∙ series_of-more plus (e x).0 (e x).1 (before ++ map e (filter test (take i xs)))
      one_more x false = ap (λ ys. series_of plus (before ++ map e ys)) (append-nil (filter test (take i xs)))

      by : (o : Option A) → series_of plus (before ++ map e (filter test (take i xs ++ option_map_or (λ (x : A). x ∷ []) o [])))
          ≡ option_map_or (λ x. cond (test x) (with_value plus (e x).0 (e x).1 (passed_so_far i)) (passed_so_far i)) o (passed_so_far i)
      by None = ap (λ ys. series_of plus (before ++ map e (filter test ys))) (append-nil (take i xs))
      by (Some x) = ap (λ ys. series_of plus (before ++ map e ys)) (filter-append test (take i xs) (x ∷ [])) ∙ one_more x (test x)

  pub passed_all : (i n : ℕ) → n ≡ length xs → n ≤ i → passed_so_far i ≡ series_of plus (before ++ map e (filter test xs))
  passed_all i n is past = ap (λ ys. series_of plus (before ++ map e (filter test ys))) (take_all i xs (subst (λ m. m ≤ i) is past))
