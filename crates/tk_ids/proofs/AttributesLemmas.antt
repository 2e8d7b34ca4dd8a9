use Rattle.std.proofs.Common.{◌≡◌, ◌≢◌, ◌↔◌, IsTrue, AllPairs, ℕ, ◌-◌, ◌≤◌, Bool, true, false, not, ◌&&◌, cond, eqb, nat_le, List, [], ◌∷◌, length, map, get_or, take, drop, refl, sym, ap, ◌∙◌, arith}
use Rattle.std.proofs.Math.Seq.{take-length}
use Rattle.std.proofs.lemmas.Bool.{eqb-true, eq-eqb, le-leb, leb-true}
use Rattle.std.proofs.lemmas.Bool.Decides.{nat_tests}
use Rattle.std.proofs.lemmas.Cmp.{nat_list_eq_equiv}
use Rattle.std.proofs.lemmas.List.{length-map}
use Rattle.std.proofs.lemmas.Map.Made.{distinct_count-le, distinct_count-from_IsDistinct, IsDistinct-from_count, IsDistinct-from_AllPairs, AllPairs-from_IsDistinct}
use Rattle.std.proofs.lemmas.Slice.Eq.{bytes_eq-Decides}
use Rattle.std.specs.Bool.{Decides}
use Rattle.std.specs.Cmp.{first_so, second_so}
use Rattle.std.specs.Cmp.Derive.{both_true}
use Rattle.std.specs.List.{list_any}
use Rattle.std.specs.Set.{unique_keys}
use Rattle.std.specs.Str.{bytes_eq}
use Rattle.tk_ids.specs.Attributes.{are_distinct, are_attributes}

list_any-map : {X : Type 0} (p : List ℕ → Bool) (f : X → List ℕ) (xs : List X) → list_any p (map f xs) ≡ list_any (λ x. p (f x)) xs
list_any-map p f [] = refl
list_any-map p f (x ∷ xs) = rw (list_any-map p f xs)

-- names are distinct where the first isn't among the others, and those are distinct
are_distinct-cons : (name : List ℕ) (names : List (List ℕ)) → are_distinct (name ∷ names) ≡ (not (list_any (bytes_eq name) names) && are_distinct names)
are_distinct-cons name names =
    let few = distinct_count-le bytes_eq names in
    elim (list_any (bytes_eq name) names)
    as (λ used. eqb (length (cond used (unique_keys bytes_eq names) (name ∷ unique_keys bytes_eq names))) (length (name ∷ names)) ≡ (not used && are_distinct names))
    [ true ↦ grind (arith, nat_tests) | false ↦ grind (arith, nat_tests) ]

-- the same of the names of items, the first of which is x, where the two tests were made
pub are_distinct-front : {X : Type 0} (f : X → List ℕ) (xs : List X) (x : X) (name : List ℕ) (rest : List X) (used others : Bool)
    → 1 ≤ length xs → x ≡ get_or xs 0 x → name ≡ f x → rest ≡ take (length xs - 1) (drop 1 xs)
    → used ≡ list_any (λ y. bytes_eq name (f y)) rest → others ≡ are_distinct (map f rest)
    → (not used && others) ≡ are_distinct (map f xs)
are_distinct-front f [] x name rest used others some is named rest_is used_is others_is = absurd (omega arith)
are_distinct-front f (y ∷ ys) x name rest used others some is named rest_is used_is others_is =
    let fewer : length (y ∷ ys) - 1 ≡ length ys = omega arith in
    let all_others : rest ≡ ys = rest_is ∙ ap (λ n. take n ys) fewer ∙ take-length ys in
    let first : name ≡ f y = named ∙ ap f is in
    let used_among : used ≡ list_any (bytes_eq (f y)) (map f ys) =
    used_is ∙ ap (list_any (λ z. bytes_eq name (f z))) all_others ∙ ap (λ n. list_any (λ z. bytes_eq n (f z)) ys) first
    ∙ sym (list_any-map (bytes_eq (f y)) f ys) in
    ap (λ u. not u && others) used_among
    ∙ ap (λ b. not (list_any (bytes_eq (f y)) (map f ys)) && b) (others_is ∙ ap (λ zs. are_distinct (map f zs)) all_others)
    ∙ sym (are_distinct-cons (f y) (map f ys))

-- the test of names is a test that no two of them are equal
are_distinct-Decides : (names : List (List ℕ)) → Decides (are_distinct names) (AllPairs (λ a b. a ≢ b) names)
are_distinct-Decides names = (
  λ so. AllPairs-from_IsDistinct bytes_eq-Decides names (IsDistinct-from_count nat_list_eq_equiv names (eqb-true _ _ so)),
  λ differ. eq-eqb _ _ (distinct_count-from_IsDistinct nat_list_eq_equiv names (IsDistinct-from_AllPairs bytes_eq-Decides names differ)),
)

-- what `are_attributes` tests of the names of items
pub are_attributes-rule : {X : Type 0} (f : X → List ℕ) (xs : List X) (answer : Bool) → answer ≡ are_attributes (map f xs)
    → IsTrue answer ↔ ((length xs ≤ 6) × AllPairs (λ a b. a ≢ b) (map f xs))
are_attributes-rule f xs answer is =
    let names = map f xs in
    let len : length names ≡ length xs = length-map xs f in
    let differ = are_distinct-Decides names in (
      λ so. let tests : are_attributes names ≡ true = sym is ∙ so in
          let few : length names ≤ 6 = leb-true (length names) 6 (first_so (nat_le (length names) 6) (are_distinct names) tests) in
          (omega arith, differ.0 (second_so (nat_le (length names) 6) (are_distinct names) tests)),
      λ rule. let few : length names ≤ 6 = omega (arith, rule.0) in
          is ∙ both_true (le-leb (length names) 6 few) (differ.1 rule.1),
    )
