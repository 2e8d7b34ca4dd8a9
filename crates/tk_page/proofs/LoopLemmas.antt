-- Loops over lists, one item more.
use Rattle.std.proofs.Common.{◌≡◌, ℕ, zero, suc, ◌+◌, ◌<◌, ◌≤◌, List, [], ◌∷◌, ◌++◌, length, min, ◌⊎◌, inl, inr, take, map, filter, slice_get, get_or, Bool, true, false, cond, nat_eq, Some, None, refl, ap, sym, ◌∙◌, append-nil, add-one, arith, subst}
use Rattle.std.specs.Prelude.{flat_map, fold, sum_by}
use Rattle.std.proofs.lemmas.Grind.{flat_map-append}
use Rattle.std.proofs.lemmas.List.{map-append, take_all}
use Rattle.std.proofs.lemmas.List.Elements.{filter-append}
use Rattle.std.proofs.lemmas.List.Folds.{flat_map-map}
use Rattle.std.proofs.lemmas.List.Sums.{fold-append, sum_by-append}
use Rattle.std.specs.List.{list_any}
use Rattle.std.specs.Option.{option_map_or}
use Rattle.std.proofs.lemmas.Bool.{cases_Bool, cases_lt}
use Rattle.std.proofs.Math.Dec.{eqb-suc-zero}
use Rattle.tk_core.specs.Lists.{capped}
use Rattle.tk_paper.specs.Pieces.{Writes}
use Rattle.tk_paper.specs.Escaping.{PaperView}
use Rattle.tk_paper.specs.Parts.{Bit}
use Rattle.tk_paper.proofs.PutLemmas.{then}

-- the items up to a place, and the one that stands there
pub take_next : {A : Type 0} (xs : List A) (i : ℕ) (x : A) → slice_get xs i ≡ Some x → take (i + 1) xs ≡ take i xs ++ x ∷ []
take_next {A = A} xs i x e = rw add-one (by xs i e)
  where
    by : (ys : List A) (k : ℕ) → slice_get ys k ≡ Some x → take (suc k) ys ≡ take k ys ++ x ∷ []
    by [] zero f = absurd (cc)
    by [] (suc k) f = absurd (cc)
    by (y ∷ ys) zero f = let is : y ≡ x = cc in ap (λ z. z ∷ []) is
    by (y ∷ ys) (suc k) f = ap (λ zs. y ∷ zs) (by ys k f)

-- an item that a loop reads
pub item_at : {A : Type 0} (xs : List A) (i : ℕ) (x : A) → i < length xs → x ≡ get_or xs i x → slice_get xs i ≡ Some x
item_at [] zero x h e = absurd (omega (arith, h))
item_at [] (suc i) x h e = absurd (omega (arith, h))
item_at (y ∷ ys) zero x h e = ap Some (sym e)
item_at (y ∷ ys) (suc i) x h e = item_at ys i x (omega (arith, h)) e

-- the parts of one item more were put
pub next_part : {A : Type 0} (f : A → List Bit) {a b c : PaperView} (xs : List A) (i : ℕ) (x : A) → slice_get xs i ≡ Some x
    → Writes a b (flat_map f (take i xs)) → Writes b c (f x) → Writes a c (flat_map f (take (i + 1) xs))
next_part f {a} {b} {c} xs i x at g h =
    subst (Writes a c)
    (sym (ap (flat_map f) (take_next xs i x at) ∙ flat_map-append f (take i xs) (x ∷ []) ∙ ap (λ ys. flat_map f (take i xs) ++ ys) (append-nil (f x)))) (then g h)

-- those of all items
pub all_parts : {A : Type 0} (f : A → List Bit) {a b : PaperView} (xs : List A) (i : ℕ) → length xs ≤ i → Writes a b (flat_map f (take i xs)) → Writes a b (flat_map f xs)
all_parts f {a} {b} xs i all h = subst (λ ys. Writes a b (flat_map f ys)) (take_all i xs all) h

-- past the end there is none
pub past_end : {A : Type 0} (xs : List A) (i : ℕ) → None ≡ slice_get xs i → length xs ≤ i
past_end [] i e = omega arith
past_end (x ∷ xs) zero e = absurd (cc)
past_end (x ∷ xs) (suc i) e = let h = past_end xs i e in omega (arith, h)

-- an item that is within the list
pub get_at : {A : Type 0} (xs : List A) (i : ℕ) (d : A) → i < length xs → slice_get xs i ≡ Some (get_or xs i d)
get_at [] i d h = absurd (omega (arith, h))
get_at (y ∷ ys) zero d h = refl
get_at (y ∷ ys) (suc i) d h = get_at ys i d (omega (arith, h))

-- no number but zero is zero
pub not_zero : (n : ℕ) → (n ≡ 0 → ⊥) → nat_eq n 0 ≡ false
not_zero zero h = absurd (h refl)
not_zero (suc n) h = eqb-suc-zero n

-- ---- what loops gather

-- those that pass, with one item more
pub filter_next : {A : Type 0} (p : A → Bool) (xs : List A) (i : ℕ) (x : A) → slice_get xs i ≡ Some x → filter p (take (i + 1) xs) ≡ filter p (take i xs) ++ cond (p x) (x ∷ []) []
filter_next p xs i x at = ap (filter p) (take_next xs i x at) ∙ filter-append p (take i xs) (x ∷ [])

-- an item more that passes
pub found_next : {R A : Type 0} (now : R → A) (p : A → Bool) (xs : List A) (i : ℕ) (r : R) (found new : List R) → Some (now r) ≡ slice_get xs i → p (now r) ≡ true
    → map now found ≡ filter p (take i xs) → new ≡ found ++ r ∷ [] → map now new ≡ filter p (take (i + 1) xs)
found_next now p xs i r found new at passes h is =
    ap (map now) is ∙ map-append now found (r ∷ []) ∙ ap (λ ys. ys ++ now r ∷ []) h
    ∙ sym (filter_next p xs i (now r) (sym at) ∙ ap (λ b. filter p (take i xs) ++ cond b (now r ∷ []) []) passes)

-- an item more that does not
pub found_same : {R A : Type 0} (now : R → A) (p : A → Bool) (xs : List A) (i : ℕ) (x : A) (found new : List R) → Some x ≡ slice_get xs i → p x ≡ false
    → map now found ≡ filter p (take i xs) → new ≡ found → map now new ≡ filter p (take (i + 1) xs)
found_same now p xs i x found new at fails h is =
    ap (map now) is ∙ h
    ∙ sym (filter_next p xs i x (sym at) ∙ ap (λ b. filter p (take i xs) ++ cond b (x ∷ []) []) fails ∙ append-nil (filter p (take i xs)))

-- a count more
pub count_next : {A : Type 0} (f : A → ℕ) (xs : List A) (i : ℕ) (x : A) (all n sum : ℕ) → Some x ≡ slice_get xs i → all ≡ capped (sum_by f (take i xs)) → n ≡ f x
    → sum ≡ capped (all + n) → sum ≡ capped (sum_by f (take (i + 1) xs))
count_next f xs i x all n sum at h is more =
    let s : sum_by f (take (i + 1) xs) ≡ sum_by f (take i xs) + sum_by f (x ∷ []) = ap (sum_by f) (take_next xs i x (sym at)) ∙ sum_by-append f (take i xs) (x ∷ []) in
    let one : sum_by f (x ∷ []) ≡ f x = omega arith in
    omega (arith, s, one, h, is, more)

-- a fold with one item more
pub fold_next : {A B : Type 0} (f : B → A → B) (b : B) (xs : List A) (i : ℕ) (x : A) → Some x ≡ slice_get xs i → fold f b (take (i + 1) xs) ≡ f (fold f b (take i xs)) x
fold_next f b xs i x at = ap (fold f b) (take_next xs i x (sym at)) ∙ fold-append f b (take i xs) (x ∷ [])

-- the parts of an item more, which a loop reads by its place
pub next_of : {A : Type 0} (f : A → List Bit) {a b c : PaperView} (xs : List A) (i : ℕ) (d : A) → i < length xs
    → Writes a b (flat_map f (take i xs)) → Writes b c (f (get_or xs i d)) → Writes a c (flat_map f (take (i + 1) xs))
next_of f xs i d h g k = next_part f xs i (get_or xs i d) (get_at xs i d h) g k

-- the parts of the items that references lead to
pub all_mapped : {R A : Type 0} (now : R → A) (f : A → List Bit) {a b : PaperView} (xs : List R) (i : ℕ) → length xs ≤ i
    → Writes a b (flat_map (λ r. f (now r)) (take i xs)) → Writes a b (flat_map f (map now xs))
all_mapped now f {a} {b} xs i all h = subst (Writes a b) (sym (flat_map-map f now xs)) (all_parts (λ r. f (now r)) xs i all h)

pub map_take : {R A : Type 0} (f : R → A) (n : ℕ) (xs : List R) → map f (take n xs) ≡ take n (map f xs)
map_take f zero [] = refl
map_take f zero (x ∷ xs) = refl
map_take f (suc n) [] = refl
map_take f (suc n) (x ∷ xs) = ap (λ ys. f x ∷ ys) (map_take f n xs)

-- so many of a list, or all
pub take_min : {A : Type 0} (xs : List A) (n k : ℕ) → n ≡ min (length xs) k → take n xs ≡ take k xs
take_min {A = A} xs n k is = by (cases_lt k (length xs))
  where
    by : (k < length xs) ⊎ (length xs ≤ k) → take n xs ≡ take k xs
    by (inl lt) = let same : n ≡ k = omega (arith, is, lt) in ap (λ m. take m xs) same
    by (inr le) = take_all n xs (omega (arith, is, le)) ∙ sym (take_all k xs le)

-- if neither an item before a place passes a test nor the one that stands there, none up to there does
pub none_more : {A : Type 0} (p : A → Bool) (xs : List A) (i : ℕ) → list_any p (take i xs) ≡ false → option_map_or p (slice_get xs i) false ≡ false → list_any p (take (i + 1) xs) ≡ false
none_more {A = A} p xs i none not = rw add-one (by xs i none not)
  where
    by : (ys : List A) (k : ℕ) → list_any p (take k ys) ≡ false → option_map_or p (slice_get ys k) false ≡ false → list_any p (take (suc k) ys) ≡ false
    by [] k none not = refl
    by (y ∷ ys) zero none not = rw not refl
    by (y ∷ ys) (suc k) none not = elim (cases_Bool (p y)) [
      | inl passes ↦ let no : true ≡ false = rw passes at none in absurd cc
      | inr fails ↦ rw fails (by ys k (rw fails at none) not)
    ]

-- if the item at a place passes it, one does
pub some_passes : {A : Type 0} (p : A → Bool) (xs : List A) (i : ℕ) → option_map_or p (slice_get xs i) false ≡ true → list_any p xs ≡ true
some_passes p [] i e = absurd cc
some_passes p (y ∷ ys) zero e = rw e refl
some_passes p (y ∷ ys) (suc i) e = elim (cases_Bool (p y)) [
  | inl passes ↦ rw passes refl
  | inr fails ↦ rw fails (some_passes p ys i e)
]
