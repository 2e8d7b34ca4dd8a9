-- What a line says is gone, and what stays.
use Rattle.std.proofs.Common.{◌≡◌, ℕ, List, [], ◌∷◌, Bool, true, false, cond, Some, nat_eq, refl, ap, sym, ◌∙◌, true≢false}
use Rattle.std.specs.Prelude.{map, filter, is_none, not}
use Rattle.std.specs.Option.{option_map_or}
use Rattle.std.specs.List.{AllByRecursion, IsDistinct}
use Rattle.std.proofs.lemmas.Bool.{eqb-true, eq-eqb}
use Rattle.tk_stream.specs.Tables.{item_with, is_among, staying}
use Rattle.tk_stream.specs.Lines.{is_new, new_infos, told_stats, gone_ids}
use Rattle.tk_stream.specs.Applied.{still_there}
use Rattle.tk_stream.proofs.LinesLemmas.{IsFound, each_found, all_by}

pub filter-same : {A : Type 0} (p q : A → Bool) (xs : List A) → AllByRecursion (λ x. p x ≡ q x) xs → filter p xs ≡ filter q xs
filter-same p q [] same = refl
filter-same p q (x ∷ xs) same = rw (same.0, filter-same p q xs same.1) refl

module _ {Item : Type 0} (id_of : Item → ℕ) where
  -- what stays of items that are distinct is distinct
  apart_kept : (p : Item → Bool) (id : ℕ) (xs : List Item) → AllByRecursion (λ n. nat_eq id n ≡ false) (map id_of xs) → AllByRecursion (λ n. nat_eq id n ≡ false) (map id_of (filter p xs))
  apart_kept p id [] apart = tt
  apart_kept p id (x ∷ xs) apart = by (p x) (apart_kept p id xs apart.1)
    where
      by : (b : Bool) → AllByRecursion (λ n. nat_eq id n ≡ false) (map id_of (filter p xs)) → AllByRecursion (λ n. nat_eq id n ≡ false) (map id_of (cond b (x ∷ filter p xs) (filter p xs)))
      by true rest = (apart.0, rest)
      by false rest = rest

  pub once_kept : (p : Item → Bool) (xs : List Item) → IsDistinct nat_eq (map id_of xs) → IsDistinct nat_eq (map id_of (filter p xs))
  unfolding IsDistinct
  once_kept p [] once = tt
  once_kept p (x ∷ xs) once = by (p x) (once_kept p xs once.1)
    where
      by : (b : Bool) → IsDistinct nat_eq (map id_of (filter p xs)) → IsDistinct nat_eq (map id_of (cond b (x ∷ filter p xs) (filter p xs)))
      by true rest = (apart_kept p (id_of x) xs once.0, rest)
      by false rest = rest

  -- where nothing is gone, all stays
  pub staying_all : (xs : List Item) → staying id_of [] xs ≡ xs
  staying_all [] = refl
  staying_all (x ∷ xs) = ap (λ zs. x ∷ zs) (staying_all xs)

  module _ (items : List Item) where
    -- an item that is there isn't among those that are gone
    not_gone : (x : Item) (old : List Item) → is_new id_of items x ≡ false → is_among (gone_ids id_of old items) (id_of x) ≡ false
    not_gone x [] there = refl
    not_gone x (y ∷ ys) there = by (is_new id_of items y) refl (nat_eq (id_of x) (id_of y)) refl (not_gone x ys there)
      where
        by : (new : Bool) → is_new id_of items y ≡ new → (same : Bool) → nat_eq (id_of x) (id_of y) ≡ same
            → is_among (gone_ids id_of ys items) (id_of x) ≡ false
            → is_among (map id_of (cond new (y ∷ filter (is_new id_of items) ys) (filter (is_new id_of items) ys))) (id_of x) ≡ false
        by false e same f rest = rest
        by true e true f rest = absurd (true≢false (sym e ∙ ap (λ id. is_none (item_with id_of id items)) (sym (eqb-true (id_of x) (id_of y) f)) ∙ there))
        by true e false f rest = rw f rest

    -- an item is among those that are gone exactly where it isn't there
    abbrev IsRight : List Item → Item → Type 0
    IsRight old x = is_among (gone_ids id_of old items) (id_of x) ≡ is_new id_of items x

    first_right : (x : Item) (xs : List Item) → IsRight (x ∷ xs) x
    first_right x xs = by (is_new id_of items x) refl
      where
        by : (new : Bool) → is_new id_of items x ≡ new
            → is_among (map id_of (cond new (x ∷ filter (is_new id_of items) xs) (filter (is_new id_of items) xs))) (id_of x) ≡ new
        by true e = rw (eq-eqb (id_of x) (id_of x) refl) refl
        by false e = not_gone x xs e

    later_right : (x u : Item) (xs : List Item) → IsRight xs u → IsRight (x ∷ xs) u
    later_right x u xs right = by (is_new id_of items x) refl (nat_eq (id_of u) (id_of x)) refl
      where
        by : (new : Bool) → is_new id_of items x ≡ new → (same : Bool) → nat_eq (id_of u) (id_of x) ≡ same
            → is_among (map id_of (cond new (x ∷ filter (is_new id_of items) xs) (filter (is_new id_of items) xs))) (id_of u) ≡ is_new id_of items u
        by false e same f = right
        by true e true f = rw f (sym (ap (λ id. is_none (item_with id_of id items)) (eqb-true (id_of u) (id_of x) f) ∙ e))
        by true e false f = rw f right

    each_right : (xs : List Item) → AllByRecursion (IsRight xs) xs
    each_right [] = tt
    each_right (x ∷ xs) = (first_right x xs, all_by (IsRight xs) (IsRight (x ∷ xs)) (λ u right. later_right x u xs right) xs (each_right xs))

    -- what a line says is gone leaves what is still there
    pub stays : (old : List Item) → staying id_of (gone_ids id_of old items) old ≡ still_there id_of old items
    stays old = filter-same _ _ old (all_by (IsRight old) _ (λ x right. ap not right) old (each_right old))

    -- an item that is there is found among what stays where it was found before
    found_there : (id : ℕ) (old : List Item) → is_none (item_with id_of id items) ≡ false → item_with id_of id (still_there id_of old items) ≡ item_with id_of id old
    found_there id [] there = refl
    found_there id (x ∷ xs) there = by (is_new id_of items x) refl (nat_eq id (id_of x)) refl (found_there id xs there)
      where
        by : (new : Bool) → is_new id_of items x ≡ new → (same : Bool) → nat_eq id (id_of x) ≡ same
            → item_with id_of id (filter (λ item. not (is_new id_of items item)) xs) ≡ item_with id_of id xs
            → item_with id_of id (cond (not new) (x ∷ filter (λ item. not (is_new id_of items item)) xs) (filter (λ item. not (is_new id_of items item)) xs)) ≡ cond (nat_eq id (id_of x)) (Some x) (item_with id_of id xs)
        by true e true f rest = absurd (true≢false (sym e ∙ ap (λ n. is_none (item_with id_of n items)) (sym (eqb-true id (id_of x) f)) ∙ there))
        by true e false f rest = rw f rest
        by false e true f rest = rw f refl
        by false e false f rest = rw f rest

  there_now : (new : List Item) (x : Item) → IsFound id_of new x → is_none (item_with id_of (id_of x) new) ≡ false
  there_now new x found = ap is_none found

  -- so nothing else is new than what was new before, and nothing else is told
  pub same_infos : {Info : Type 0} (info_of : Item → Info) (old new : List Item) → IsDistinct nat_eq (map id_of new)
      → new_infos id_of info_of old new ≡ new_infos id_of info_of (still_there id_of old new) new
  same_infos info_of old new once =
      ap (map info_of) (filter-same _ _ new (all_by (IsFound id_of new) _ (λ x found. ap is_none (sym (found_there new (id_of x) old (there_now new x found)))) new (each_found id_of new once)))

  pub same_stats : {Stats : Type 0} (same : Item → Item → Bool) (stats_of : Item → Stats) (old new : List Item) → IsDistinct nat_eq (map id_of new)
      → told_stats id_of same stats_of old new ≡ told_stats id_of same stats_of (still_there id_of old new) new
  same_stats same stats_of old new once =
      ap (map stats_of) (filter-same _ _ new (all_by (IsFound id_of new) _ (λ x found. ap (λ o. option_map_or (λ before. not (same before x)) o true) (sym (found_there new (id_of x) old (there_now new x found)))) new (each_found id_of new once)))
