-- What is told of all items, and of none.
use Rattle.std.proofs.Common.{◌≡◌, ℕ, List, [], ◌∷◌, Bool, true, false, cond, Some, nat_eq, refl, ap, sym, ◌∙◌}
use Rattle.std.specs.Prelude.{map, filter, is_none, not}
use Rattle.std.specs.Option.{option_map_or}
use Rattle.std.specs.List.{AllByRecursion, IsDistinct}
use Rattle.std.proofs.lemmas.Bool.{eqb-true, eq-eqb}
use Rattle.tk_stream.specs.Tables.{item_with}
use Rattle.tk_stream.specs.Lines.{is_new, is_told, new_infos, told_stats}

-- ---- all

filter-all : {A : Type 0} (p : A → Bool) → ((x : A) → p x ≡ true) → (xs : List A) → filter p xs ≡ xs
filter-all p h [] = refl
filter-all p h (x ∷ xs) = rw (h x, filter-all p h xs) refl

pub all_infos : {Item Info : Type 0} (id_of : Item → ℕ) (info_of : Item → Info) (items : List Item) → new_infos id_of info_of [] items ≡ map info_of items
all_infos id_of info_of items = ap (map info_of) (filter-all (is_new id_of []) (λ t. refl) items)

pub all_stats : {Item Stats : Type 0} (id_of : Item → ℕ) (same : Item → Item → Bool) (stats_of : Item → Stats) (items : List Item) → told_stats id_of same stats_of [] items ≡ map stats_of items
all_stats id_of same stats_of items = ap (map stats_of) (filter-all (is_told id_of same []) (λ t. refl) items)

pub map-same : {A : Type 0} (xs : List A) → map (λ x. x) xs ≡ xs
map-same [] = refl
map-same (x ∷ xs) = ap (λ ys. x ∷ ys) (map-same xs)

-- ---- none

filter-none : {A : Type 0} (p : A → Bool) (xs : List A) → AllByRecursion (λ x. p x ≡ false) xs → filter p xs ≡ []
filter-none p [] h = refl
filter-none p (x ∷ xs) h = rw (h.0, filter-none p xs h.1) refl

pub all_by : {A : Type 0} (P Q : A → Type 0) → ((x : A) → P x → Q x) → (xs : List A) → AllByRecursion P xs → AllByRecursion Q xs
all_by P Q h [] all = tt
all_by P Q h (x ∷ xs) all = (h x all.0, all_by P Q h xs all.1)

pub differ : (a b : ℕ) → nat_eq a b ≡ false → nat_eq b a ≡ false
differ a b h = by (nat_eq b a) refl
  where
    by : (t : Bool) → nat_eq b a ≡ t → t ≡ false
    by true e = sym (eq-eqb a b (sym (eqb-true b a e))) ∙ h
    by false e = refl

module _ {Item : Type 0} (id_of : Item → ℕ) where
  -- an item is found by its id
  abbrev pub IsFound : List Item → Item → Type 0
  IsFound items x = item_with id_of (id_of x) items ≡ Some x

  found_after : (x : Item) (us xs : List Item) → AllByRecursion (λ id. nat_eq (id_of x) id ≡ false) (map id_of us) → AllByRecursion (IsFound xs) us → AllByRecursion (IsFound (x ∷ xs)) us
  found_after x [] xs apart found = tt
  found_after x (u ∷ us) xs apart found =
      (ap (λ b. cond b (Some x) (item_with id_of (id_of u) xs)) (differ (id_of x) (id_of u) apart.0) ∙ found.0, found_after x us xs apart.1 found.1)

  pub each_found : (xs : List Item) → IsDistinct nat_eq (map id_of xs) → AllByRecursion (IsFound xs) xs
  unfolding IsDistinct
  each_found [] distinct = tt
  each_found (x ∷ xs) distinct =
      (ap (λ b. cond b (Some x) (item_with id_of (id_of x) xs)) (eq-eqb (id_of x) (id_of x) refl), found_after x xs xs distinct.0 (each_found xs distinct.1))

  not_new : (xs : List Item) (x : Item) → IsFound xs x → is_new id_of xs x ≡ false
  not_new xs x found = ap is_none found

  pub no_infos : {Info : Type 0} (info_of : Item → Info) (xs : List Item) → IsDistinct nat_eq (map id_of xs) → new_infos id_of info_of xs xs ≡ []
  no_infos info_of xs distinct = ap (map info_of) (filter-none (is_new id_of xs) xs (all_by (IsFound xs) _ (not_new xs) xs (each_found xs distinct)))

  module _ (same : Item → Item → Bool) (agrees : (x : Item) → same x x ≡ true) where
    not_told : (xs : List Item) (x : Item) → IsFound xs x → is_told id_of same xs x ≡ false
    not_told xs x found = ap (λ o. option_map_or (λ before. not (same before x)) o true) found ∙ ap not (agrees x)

    pub no_stats : {Stats : Type 0} (stats_of : Item → Stats) (xs : List Item) → IsDistinct nat_eq (map id_of xs) → told_stats id_of same stats_of xs xs ≡ []
    no_stats stats_of xs distinct = ap (map stats_of) (filter-none (is_told id_of same xs) xs (all_by (IsFound xs) _ (not_told xs) xs (each_found xs distinct)))
