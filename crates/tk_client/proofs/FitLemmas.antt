-- Rows that a line tells, and the items that have them then.
use Rattle.std.proofs.Common.{◌≡◌, ℕ, List, [], ◌∷◌, ◌++◌, Bool, true, false, cond, nat_eq, Option, Some, None, refl, ap, ap₂, sym, ◌∙◌}
use Rattle.std.specs.Prelude.{map, is_some, option_map, option_and_then, ◌||◌, ◌&&◌}
use Rattle.std.specs.List.{list_all, AllByRecursion}
use Rattle.std.specs.Option.{option_map_or}
use Rattle.std.proofs.lemmas.Bool.{and_parts}
use Rattle.tk_stream.specs.Applied.{Kind, told_item, new_items}
use Rattle.tk_stream.specs.Tables.{item_with}
use Rattle.tk_client.specs.Taking.{has_twice}
use Rattle.tk_client.specs.Applying.{id_by, info_id_by, stats_id_by, made, told_of, retold, HaveOneId, fits_told}
use Rattle.tk_client.proofs.IdLemmas.{distinct-once, own, has-the-id}

pub same-tests : (a b : Bool) → (a ≡ true → b ≡ true) → (b ≡ true → a ≡ true) → a ≡ b
same-tests true b f g = sym (f refl)
same-tests false true f g = g refl
same-tests false false f g = refl

pub list_all-append : {X : Type 0} (p : X → Bool) (xs ys : List X) → list_all p xs ≡ true → list_all p ys ≡ true → list_all p (xs ++ ys) ≡ true
list_all-append p [] ys h g = g
list_all-append p (x ∷ xs) ys h g =
    let q = and_parts (p x) (list_all p xs) h in ap₂ (λ a b. a && b) q.0 (list_all-append p xs ys q.1 g)

-- what is found of a list whose elements pass
all-found : {X : Type 0} (f : X → ℕ) (p : X → Bool) (id : ℕ) (xs : List X) (x : X) → list_all p xs ≡ true → item_with f id xs ≡ Some x → p x ≡ true
all-found f p id [] x all e = absurd (cc)
all-found f p id (y ∷ ys) x all e =
    let q = and_parts (p y) (list_all p ys) all in by (nat_eq id (f y)) e q.0 (all-found f p id ys x q.1)
  where
    by : (b : Bool) → cond b (Some y) (item_with f id ys) ≡ Some x → p y ≡ true → (item_with f id ys ≡ Some x → p x ≡ true) → p x ≡ true
    by true g h rest = let same : y ≡ x = (cc) in ap p (sym same) ∙ h
    by false g h rest = rest g

module _ {Item Info Stats : Type 0} (k : Kind Item Info Stats) (fits : Item → Bool) where
  -- an item that isn't told of fits
  abbrev pub rests : List Stats → Item → Bool
  rests stats x = is_some (told_of k stats (k.id_of x)) || fits x

  -- the items take what is told
  abbrev pub are_told : List Stats → List Item → List Item
  are_told stats items = map (told_item k stats) items

  test-mapped : (stats : List Stats) (items : List Item) → list_all fits (are_told stats items) ≡ list_all (λ x. fits (told_item k stats x)) items
  test-mapped stats [] = refl
  test-mapped stats (x ∷ xs) = ap (λ b. fits (told_item k stats x) && b) (test-mapped stats xs)

  -- where the items fit, what is told of them does
  told-fits : (stats all : List Stats) (items : List Item) → AllByRecursion (λ s. told_of k all (k.stats_id s) ≡ Some s) stats → list_all fits (are_told all items) ≡ true
      → list_all (fits_told k fits items) stats ≡ true
  told-fits [] all items owns h = refl
  told-fits (s ∷ stats) all items owns h = ap₂ (λ a b. a && b) (one (item_with k.id_of (k.stats_id s) items) refl) (told-fits stats all items owns.1 h)
    where
      one : (o : Option Item) → item_with k.id_of (k.stats_id s) items ≡ o → option_map_or (λ item. fits (retold k s item)) o true ≡ true
      one None is = refl
      one (Some x) is =
          let same : k.stats_id s ≡ k.id_of x = has-the-id k.id_of (k.stats_id s) items x is in
          let told : told_of k all (k.id_of x) ≡ Some s = ap (told_of k all) (sym same) ∙ owns.0 in
          let test : fits (told_item k all x) ≡ true = all-found k.id_of (λ y. fits (told_item k all y)) (k.stats_id s) items x (sym (test-mapped all items) ∙ h) is in
          ap (λ o. fits (option_map_or (k.item_of (k.info_of x)) o x)) (sym told) ∙ test

  -- where what is told fits, the items do
  items-fit : (stats : List Stats) (items all : List Item) → AllByRecursion (λ x. item_with k.id_of (k.id_of x) all ≡ Some x) items → list_all (rests stats) items ≡ true
      → list_all (fits_told k fits all) stats ≡ true → list_all fits (are_told stats items) ≡ true
  items-fit stats [] all owns r h = refl
  items-fit stats (x ∷ xs) all owns r h =
      let p = and_parts (rests stats x) (list_all (rests stats) xs) r in
      ap₂ (λ a b. a && b) (one (told_of k stats (k.id_of x)) refl p.0) (items-fit stats xs all owns.1 p.1 h)
    where
      one : (o : Option Stats) → told_of k stats (k.id_of x) ≡ o → (is_some o || fits x) ≡ true → fits (option_map_or (k.item_of (k.info_of x)) o x) ≡ true
      one None is g = g
      one (Some s) is g =
          let same : k.id_of x ≡ k.stats_id s = has-the-id k.stats_id (k.id_of x) stats s is in
          let test : fits_told k fits all s ≡ true = all-found k.stats_id (fits_told k fits all) (k.id_of x) stats s h is in
          let found : item_with k.id_of (k.stats_id s) all ≡ Some x = ap (λ id. item_with k.id_of id all) (sym same) ∙ owns.0 in
          ap (λ o. option_map_or (λ item. fits (retold k s item)) o true) (sym found) ∙ test

  -- a look at what is told is as good as one at all items
  pub fit-told : (stats : List Stats) (items : List Item) → HaveOneId k items → has_twice (map (stats_id_by k) stats) ≡ false → list_all (rests stats) items ≡ true
      → list_all fits (are_told stats items) ≡ list_all (fits_told k fits items) stats
  fit-told stats items distinct once r =
      same-tests _ _ (told-fits stats stats items (own k.stats_id stats (distinct-once (map (stats_id_by k) stats) once)))
      (items-fit stats items items (own k.id_of items distinct) r)

  -- items that fit need no look where nothing is told of them
  pub old-rests : (stats : List Stats) (items : List Item) → list_all fits items ≡ true → list_all (rests stats) items ≡ true
  old-rests stats [] h = refl
  old-rests stats (x ∷ xs) h =
      let p = and_parts (fits x) (list_all fits xs) h in ap₂ (λ a b. a && b) (either (is_some (told_of k stats (k.id_of x))) p.0) (old-rests stats xs p.1)
    where
      either : (b : Bool) → fits x ≡ true → (b || fits x) ≡ true
      either true e = refl
      either false e = e

  module _ (same_id : (info : Info) (s : Stats) → id_by k (made k info s) ≡ info_id_by k info) (same_info : (info : Info) (s : Stats) → k.info_of (made k info s) ≡ info) where
    -- of new items something is told
    pub new-rests : (stats : List Stats) (infos : List Info) (new : List Item) → new_items k stats infos ≡ Some new → list_all (rests stats) new ≡ true
    new-rests stats [] new e = let same : new ≡ [] = (cc) in ap (list_all (rests stats)) same
    new-rests stats (info ∷ infos) new e = by (told_of k stats (k.info_id info)) refl (new_items k stats infos) refl e (new-rests stats infos)
      where
        by : (o : Option Stats) → told_of k stats (k.info_id info) ≡ o → (p : Option (List Item)) → new_items k stats infos ≡ p
            → option_and_then (λ item. option_map (λ xs. item ∷ xs) p) (option_map (k.item_of info) o) ≡ Some new
            → ((xs : List Item) → new_items k stats infos ≡ Some xs → list_all (rests stats) xs ≡ true) → list_all (rests stats) new ≡ true
        by None is p are g rest = absurd (cc)
        by (Some s) is None are g rest = absurd (cc)
        by (Some s) is (Some xs) are g rest =
            let same : made k info s ∷ xs ≡ new = (cc) in
            let told : told_of k stats (k.id_of (made k info s)) ≡ Some s = ap (told_of k stats) (same_id info s) ∙ is in
            ap (list_all (rests stats)) (sym same) ∙ ap₂ (λ a b. a && b) (ap (λ o. is_some o || fits (made k info s)) told) (rest xs are)

    -- new items have what is told of them
    pub new-told : (stats : List Stats) (infos : List Info) (new : List Item) → new_items k stats infos ≡ Some new → are_told stats new ≡ new
    new-told stats [] new e = let same : new ≡ [] = (cc) in ap (are_told stats) same ∙ sym same
    new-told stats (info ∷ infos) new e = by (told_of k stats (k.info_id info)) refl (new_items k stats infos) refl e (new-told stats infos)
      where
        by : (o : Option Stats) → told_of k stats (k.info_id info) ≡ o → (p : Option (List Item)) → new_items k stats infos ≡ p
            → option_and_then (λ item. option_map (λ xs. item ∷ xs) p) (option_map (k.item_of info) o) ≡ Some new
            → ((xs : List Item) → new_items k stats infos ≡ Some xs → are_told stats xs ≡ xs) → are_told stats new ≡ new
        by None is p are g rest = absurd (cc)
        by (Some s) is None are g rest = absurd (cc)
        by (Some s) is (Some xs) are g rest =
            let same : made k info s ∷ xs ≡ new = (cc) in
            let told : told_of k stats (k.id_of (made k info s)) ≡ Some s = ap (told_of k stats) (same_id info s) ∙ is in
            let here : told_item k stats (made k info s) ≡ made k info s =
            ap (λ o. option_map_or (k.item_of (k.info_of (made k info s))) o (made k info s)) told ∙ ap (λ i. k.item_of i s) (same_info info s) in
            ap (are_told stats) (sym same) ∙ ap₂ (λ y ys. y ∷ ys) here (rest xs are) ∙ same
