-- What was kept of the first recordings, and of the rest.
use Rattle.std.proofs.Common.{◌≡◌, ℕ, zero, suc, ◌≤◌, Bool, true, false, List, [], ◌∷◌, ◌++◌, length, take, drop, refl, sym, ap, ◌∙◌, arith}
use Rattle.std.specs.List.{items_where_true, between}
use Rattle.std.proofs.lemmas.List.{append_cancel_left, take_all, take_rest}

-- nothing was kept of no recordings
none_kept : {X : Type 0} (ks : List Bool) (xs : List X) → xs ≡ [] → items_where_true ks xs ≡ []
none_kept {X} ks xs is = ap (items_where_true ks) is ∙ by ks
  where
    by : (ks : List Bool) → items_where_true {X = X} ks [] ≡ []
    by [] = refl
    by (k ∷ ks) = refl

-- what was kept is what was kept of the first ones and of the rest
pub kept_apart : {X : Type 0} (n : ℕ) (ks : List Bool) (xs : List X) → items_where_true ks xs ≡ items_where_true (take n ks) (take n xs) ++ items_where_true (drop n ks) (drop n xs)
kept_apart zero ks xs = refl
kept_apart (suc n) [] xs = refl
kept_apart (suc n) (k ∷ ks) [] = sym (none_kept (drop n ks) [] refl)
kept_apart {X} (suc n) (k ∷ ks) (x ∷ xs) =
    let rest = kept_apart n ks xs in
    elim k as (λ (m : Bool). items_where_true (m ∷ ks) (x ∷ xs) ≡ items_where_true (m ∷ take n ks) (x ∷ take n xs) ++ items_where_true (drop n ks) (drop n xs))
    [ true ↦ ap (λ zs. x ∷ zs) rest | false ↦ rest ]

-- from a number of recordings to all of them
to_all : {X : Type 0} (n : ℕ) (xs : List X) → between n (length xs) xs ≡ drop n xs
to_all n xs = take_rest xs n

-- what was kept after the first recordings, where these had so much
pub kept_after : {X : Type 0} (n : ℕ) (ks : List Bool) (xs came first : List X) → length ks ≡ length xs → first ≡ items_where_true (take n ks) (take n xs) → first ++ came ≡ items_where_true ks xs
    → came ≡ items_where_true (between n (length xs) ks) (between n (length xs) xs)
kept_after {X} n ks xs came first one_each taken all =
    let here : items_where_true (drop n ks) (drop n xs) ≡ items_where_true (between n (length xs) ks) (between n (length xs) xs) =
    λ i. items_where_true (sym (ap (λ m. between n m ks) (sym one_each) ∙ to_all n ks) i) (sym (to_all n xs) i) in
    append_cancel_left first came (items_where_true (drop n ks) (drop n xs)) (all ∙ kept_apart n ks xs ∙ ap (λ zs. zs ++ items_where_true (drop n ks) (drop n xs)) (sym taken)) ∙ here

-- all recordings were kept so
pub kept_all : {X : Type 0} (ks : List Bool) (xs : List X) → length ks ≡ length xs → items_where_true (take (length xs) ks) (take (length xs) xs) ≡ items_where_true ks xs
kept_all ks xs one_each =
    let few : length ks ≤ length xs = omega (arith, one_each) in
    let all : length xs ≤ length xs = omega arith in
    λ i. items_where_true (take_all (length xs) ks few i) (take_all (length xs) xs all i)
