-- The list of the tasks that can be warned of: by their ids, and by the places that these stand at.
use Rattle.std.proofs.Common.{◌≡◌, ℕ, zero, suc, ◌+◌, ◌-◌, ◌≤◌, ◌<◌, List, [], ◌∷◌, ◌++◌, length, take, get_or, slice_get, Bool, true, false, cond, nat_eq, nat_lt, map, Option, Some, None, refl, ap, ap₂, sym, subst, ◌∙◌, arith, true≢false}
use Rattle.std.specs.Prelude.{flat_map, option_map, option_and_then, not, ◌||◌, ◌&&◌}
use Rattle.std.specs.List.{IsDistinct, AllByRecursion}
use Rattle.std.specs.List.Sorted.{IsNonDecreasingBy}
use Rattle.std.specs.Option.{option_map_or, option_to_list}
use Rattle.std.proofs.lemmas.Bool.{eqb-true, eq-eqb, ltb-true, or_parts}
use Rattle.std.proofs.lemmas.List.Folds.{list_any-append}
use Rattle.std.proofs.lemmas.List.{length-map}
use Rattle.std.proofs.lemmas.List.Quantifiers.{position-Some}
use Rattle.std.proofs.lemmas.Option.{same_Some, slice_get-get_or}
use Rattle.tk_stream.specs.Applied.{Kind, told_item, new_items}
use Rattle.tk_stream.specs.Places.{place_with}
use Rattle.tk_stream.specs.Tables.{item_with, is_among, staying}
use Rattle.tk_stream.proofs.SlotIds.{own-place}
use Rattle.tk_client.specs.Candidates.{places_by}
use Rattle.tk_client.proofs.WarnLemmas.{flat_map-take}

-- ---- places of what passes a test

-- these rise, each from this number on
abbrev pub RiseFrom : ℕ → List ℕ → Type 0
RiseFrom b [] = Unit {0}
RiseFrom b (p ∷ ps) = (b ≤ p) × RiseFrom (suc p) ps

other : (m n : ℕ) → (m ≡ n → ⊥) → nat_eq m n ≡ false
other m n differ = by (nat_eq m n) refl
  where
    by : (b : Bool) → nat_eq m n ≡ b → b ≡ false
    by true e = absurd (differ (eqb-true m n e))
    by false e = refl

none-below : (p b : ℕ) (ps : List ℕ) → RiseFrom b ps → p < b → is_among ps p ≡ false
none-below p b [] up lt = refl
none-below p b (q ∷ qs) up lt =
    let l : b ≤ q = up.0 in
    rw (other p q (λ e. omega (arith, e))) (none-below p (suc q) qs up.1 (omega arith))

lower : (b c : ℕ) (ps : List ℕ) → b ≤ c → RiseFrom c ps → RiseFrom b ps
lower b c [] le up = tt
lower b c (p ∷ ps) le up = (let l : c ≤ p = up.0 in omega arith, up.1)

module _ {X : Type 0} (test : X → Bool) where
  -- whether what stands at a place passes the test
  abbrev pub stands : List X → ℕ → Bool
  stands xs p = option_map_or test (slice_get xs p) false

  next-up : (b : ℕ) (ps : List ℕ) → RiseFrom b ps → is_among ps (b + 0) ≡ false → RiseFrom (suc b) ps
  next-up b [] up none = tt
  next-up b (p ∷ ps) up none =
      let l : b ≤ p = up.0 in
      let apart : nat_eq (b + 0) p ≡ false = (or_parts (nat_eq (b + 0) p) (is_among ps (b + 0)) none).0 in
      (by (nat_lt b p) refl l apart, up.1)
    where
      by : (t : Bool) → nat_lt b p ≡ t → b ≤ p → nat_eq (b + 0) p ≡ false → suc b ≤ p
      by true e le apart = let l : b < p = ltb-true b p e in omega arith
      by false e le apart =
          let past : p ≤ b = grind arith in
          let same : b + 0 ≡ p = omega arith in
          absurd (true≢false (sym (eq-eqb (b + 0) p same) ∙ apart))

  first-up : (b : ℕ) (ps : List ℕ) → RiseFrom b ps → is_among ps (b + 0) ≡ true → (qs : List ℕ) × (ps ≡ b ∷ qs) × RiseFrom (suc b) qs
  first-up b [] up here = absurd (true≢false (sym here))
  first-up b (p ∷ ps) up here = by (nat_eq (b + 0) p) refl here
    where
      by : (t : Bool) → nat_eq (b + 0) p ≡ t → (t || is_among ps (b + 0)) ≡ true → (qs : List ℕ) × (p ∷ ps ≡ b ∷ qs) × RiseFrom (suc b) qs
      by true e h =
          let same : p ≡ b = (let i : b + 0 ≡ p = eqb-true (b + 0) p e in omega arith) in
          (ps, ap (λ q. q ∷ ps) same, subst (λ q. RiseFrom (suc q) ps) same up.1)
      by false e h =
          let l : b ≤ p = up.0 in
          absurd (true≢false (sym h ∙ none-below (b + 0) (suc p) ps up.1 (omega arith)))

  -- rising places among which each is where what stands there passes the test are those of what passes
  pub places-are : (b : ℕ) (xs : List X) (ps : List ℕ) → RiseFrom b ps → ((i : ℕ) → is_among ps (b + i) ≡ stands xs i) → ps ≡ places_by test b xs
  places-are b [] [] up same = refl
  places-are b [] (p ∷ ps) up same =
      let l : b ≤ p = up.0 in
      let here : b + (p - b) ≡ p = omega arith in
      let told : is_among (p ∷ ps) (b + (p - b)) ≡ true = ap (λ t. t || is_among ps (b + (p - b))) (eq-eqb (b + (p - b)) p here) in
      absurd (true≢false (sym told ∙ same (p - b)))
  places-are b (x ∷ xs) ps up same = by (test x) (same 0)
      (λ none. places-are (suc b) xs ps (next-up b ps up none) (λ i. ap (is_among ps) (let e : suc b + i ≡ b + suc i = omega arith in e) ∙ same (suc i)))
      (λ qs is rise. places-are (suc b) xs qs rise (λ i. sym (ap (λ t. t || is_among qs (suc b + i)) (other (suc b + i) b (λ e. omega (arith, e)))) ∙ ap (λ rs. is_among rs (suc b + i)) (sym is) ∙ ap (is_among ps) (let e : suc b + i ≡ b + suc i = omega arith in e) ∙ same (suc i)))
    where
      by : (t : Bool) → is_among ps (b + 0) ≡ t → (is_among ps (b + 0) ≡ false → ps ≡ places_by test (suc b) xs) → ((qs : List ℕ) → ps ≡ b ∷ qs → RiseFrom (suc b) qs → qs ≡ places_by test (suc b) xs)
          → ps ≡ cond t (b ∷ places_by test (suc b) xs) (places_by test (suc b) xs)
      by true here not_here first = let f = first-up b ps up here in f.1 ∙ ap (λ qs. b ∷ qs) (first f.0 f.1 f.2)
      by false here not_here first = not_here here

-- numbers that are sorted and differ rise
rise-after : (b p : ℕ) (ps : List ℕ) → b ≤ p → IsNonDecreasingBy (λ n. n) (p ∷ ps) → IsDistinct nat_eq (p ∷ ps) → RiseFrom b (p ∷ ps)
unfolding IsDistinct
rise-after b p [] le up once = (le, tt)
rise-after b p (q ∷ qs) le up once =
    let l : p ≤ q = up 0 1 p (omega arith) (omega arith) in
    let apart : nat_eq p q ≡ false = once.0.0 in
    (le, rise-after (suc p) q qs (above (nat_lt p q) refl l apart) (λ i j d m lt. up (suc i) (suc j) d (omega arith) (omega arith)) once.1)
  where
    above : (t : Bool) → nat_lt p q ≡ t → p ≤ q → nat_eq p q ≡ false → suc p ≤ q
    above true e m apart = let l : p < q = ltb-true p q e in omega arith
    above false e m apart = let past : q ≤ p = grind arith in let same : p ≡ q = omega arith in absurd (true≢false (sym (eq-eqb p q same) ∙ apart))

pub rise-sorted : (ps : List ℕ) → IsNonDecreasingBy (λ n. n) ps → IsDistinct nat_eq ps → RiseFrom 0 ps
rise-sorted [] up once = tt
rise-sorted (p ∷ ps) up once = rise-after 0 p ps (omega arith) up once

-- ---- the places of items with these ids

not-there : {X : Type 0} (xs : List X) (p : ℕ) → p < length xs → slice_get xs p ≡ None → ⊥
not-there [] p lt none = absurd (omega arith)
not-there (x ∷ xs) zero lt none = cc
not-there (x ∷ xs) (suc p) lt none = not-there xs p (omega arith) none

id-at : {X : Type 0} (id_of : X → ℕ) (xs : List X) (p : ℕ) (x : X) → slice_get xs p ≡ Some x → get_or (map id_of xs) p 0 ≡ id_of x
id-at id_of [] p x at = absurd (cc)
id-at id_of (y ∷ ys) zero x at = ap id_of (same_Some y x at)
id-at id_of (y ∷ ys) (suc p) x at = id-at id_of ys p x at

-- at the place of an id stands an item with it
placed-at : {X : Type 0} (id_of : X → ℕ) (id : ℕ) (xs : List X) (p : ℕ) → place_with id_of id xs ≡ Some p → (x : X) × (slice_get xs p ≡ Some x) × (id_of x ≡ id)
placed-at {X = X} id_of id xs p found = by (slice_get xs p) refl
  where
    at : (p < length (map id_of xs)) × (nat_eq id (get_or (map id_of xs) p 0) ≡ true)
    at = let f = position-Some (λ n. nat_eq id n) (map id_of xs) p 0 found in (f.0, f.1)

    by : (o : Option X) → slice_get xs p ≡ o → (x : X) × (slice_get xs p ≡ Some x) × (id_of x ≡ id)
    by None e = absurd (not-there xs p (let n : length (map id_of xs) ≡ length xs = length-map xs id_of in let l = at.0 in omega (arith, l, n)) e)
    by (Some x) e = (x, e, sym (eqb-true id (get_or (map id_of xs) p 0) at.1 ∙ id-at id_of xs p x e))

each-apart : (p : ℕ) (ps : List ℕ) → is_among ps p ≡ false → AllByRecursion (λ q. nat_eq p q ≡ false) ps
each-apart p [] none = tt
each-apart p (q ∷ qs) none = let e = or_parts (nat_eq p q) (is_among qs p) none in (e.0, each-apart p qs e.1)

apart-each : (p : ℕ) (ps : List ℕ) → AllByRecursion (λ q. nat_eq p q ≡ false) ps → is_among ps p ≡ false
apart-each p [] apart = refl
apart-each p (q ∷ qs) apart = rw apart.0 (apart-each p qs apart.1)

module _ {X : Type 0} (id_of : X → ℕ) (xs : List X) (distinct : IsDistinct nat_eq (map id_of xs)) where
  abbrev pub places : List ℕ → List ℕ
  places ids = flat_map (λ id. option_to_list (place_with id_of id xs)) ids

  -- a place is one of these where the id of what stands there is one of those
  pub among-places : (p : ℕ) (x : X) → slice_get xs p ≡ Some x → (ids : List ℕ) → is_among (places ids) p ≡ is_among ids (id_of x)
  among-places p x at [] = refl
  among-places p x at (id ∷ ids) = by (place_with id_of id xs) refl (among-places p x at ids)
    where
      by : (o : Option ℕ) → place_with id_of id xs ≡ o → is_among (places ids) p ≡ is_among ids (id_of x) → is_among (option_to_list o ++ places ids) p ≡ (nat_eq (id_of x) id || is_among ids (id_of x))
      by None none rest =
          let apart : nat_eq (id_of x) id ≡ false = other (id_of x) id (λ e. differ (sym (own-place id_of xs p x distinct at) ∙ ap (λ n. place_with id_of n xs) e ∙ none)) in
          rw apart rest
        where
          differ : Some p ≡ None → ⊥
          differ e = cc
      by (Some q) found rest =
          let there = placed-at id_of id xs q found in
          ap₂ (λ a b. a || b) (same (nat_eq (id_of x) id) refl there.0 there.1 there.2) rest
        where
          same : (b : Bool) → nat_eq (id_of x) id ≡ b → (y : X) → slice_get xs q ≡ Some y → id_of y ≡ id → nat_eq p q ≡ b
          same true e y stood own =
              let here : Some p ≡ Some q = sym (own-place id_of xs p x distinct at) ∙ ap (λ n. place_with id_of n xs) (eqb-true (id_of x) id e) ∙ found in
              eq-eqb p q (same_Some p q here)
          same false e y stood own = other p q (λ equal. true≢false (sym (eq-eqb (id_of x) id (ap id_of (same_Some x y (sym at ∙ ap (slice_get xs) equal ∙ stood)) ∙ own)) ∙ e))

  -- where nothing stands, no place is
  pub none-there : (p : ℕ) → slice_get xs p ≡ None → (ids : List ℕ) → is_among (places ids) p ≡ false
  none-there p none [] = refl
  none-there p none (id ∷ ids) = by (place_with id_of id xs) refl (none-there p none ids)
    where
      by : (o : Option ℕ) → place_with id_of id xs ≡ o → is_among (places ids) p ≡ false → is_among (option_to_list o ++ places ids) p ≡ false
      by None e rest = rest
      by (Some q) found rest =
          let there = placed-at id_of id xs q found in
          ap₂ (λ a b. a || b) (other p q (λ equal. gone there.0 (sym none ∙ ap (slice_get xs) equal ∙ there.1))) rest
        where
          gone : (y : X) → None ≡ Some y → ⊥
          gone y e = cc

  -- of ids that differ, the places do
  pub places-differ : (ids : List ℕ) → IsDistinct nat_eq ids → IsDistinct nat_eq (places ids)
  unfolding IsDistinct
  places-differ [] once = tt
  places-differ (id ∷ ids) once = by (place_with id_of id xs) refl (places-differ ids once.1)
    where
      by : (o : Option ℕ) → place_with id_of id xs ≡ o → IsDistinct nat_eq (places ids) → IsDistinct nat_eq (option_to_list o ++ places ids)
      by None e rest = rest
      by (Some q) found rest =
          let there = placed-at id_of id xs q found in
          (each-apart q (places ids) (among-places q there.0 there.1 ids ∙ ap (is_among ids) there.2 ∙ apart-each id ids once.0), rest)

  -- so where these are the ids of what passes the test, the places are those of what passes
  pub among-able : (test : X → Bool) (ids : List ℕ) → ((id : ℕ) → is_among ids id ≡ option_map_or test (item_with id_of id xs) false)
      → ((x : X) (p : ℕ) → slice_get xs p ≡ Some x → item_with id_of (id_of x) xs ≡ Some x) → (p : ℕ) → is_among (places ids) p ≡ stands test xs p
  among-able test ids able own p = by (slice_get xs p) refl
    where
      by : (o : Option X) → slice_get xs p ≡ o → is_among (places ids) p ≡ option_map_or test o false
      by None e = none-there p e ids
      by (Some x) e = among-places p x e ids ∙ able (id_of x) ∙ ap (λ o. option_map_or test o false) (own x p e)

pub own-item : {X : Type 0} (id_of : X → ℕ) (xs : List X) → IsDistinct nat_eq (map id_of xs) → (x : X) (p : ℕ) → slice_get xs p ≡ Some x → item_with id_of (id_of x) xs ≡ Some x
unfolding IsDistinct
own-item id_of [] once x p at = absurd (cc)
own-item id_of (y ∷ ys) once x zero at =
    let same : y ≡ x = same_Some y x at in
    rw (eq-eqb (id_of x) (id_of y) (ap id_of (sym same))) (ap Some same)
own-item {X = X} id_of (y ∷ ys) once x (suc p) at = rw (other (id_of x) (id_of y) (λ e. apart ys once.0 p at (sym e))) (own-item id_of ys once.1 x p at)
  where
    apart : (zs : List X) → AllByRecursion (λ n. nat_eq (id_of y) n ≡ false) (map id_of zs) → (q : ℕ) → slice_get zs q ≡ Some x → id_of y ≡ id_of x → ⊥
    apart [] all q there e = cc
    apart (z ∷ zs) all zero there e = true≢false (sym (eq-eqb (id_of y) (id_of z) (e ∙ ap id_of (sym (same_Some z x there)))) ∙ all.0)
    apart (z ∷ zs) all (suc q) there e = apart zs all.1 q there e

-- ---- what a line tells, and what leaves

module _ {Item Info Stats : Type 0} (k : Kind Item Info Stats) (keeps_id : (x : Item) (s : Stats) → k.id_of (k.item_of (k.info_of x) s) ≡ k.id_of x) (same_id : (info : Info) (s : Stats) → k.id_of (k.item_of info s) ≡ k.info_id info) where
  told-id : (stats : List Stats) (x : Item) → k.id_of (told_item k stats x) ≡ k.id_of x
  told-id stats x = by (item_with k.stats_id (k.id_of x) stats)
    where
      by : (o : Option Stats) → k.id_of (option_map_or (k.item_of (k.info_of x)) o x) ≡ k.id_of x
      by (Some s) = keeps_id x s
      by None = refl

  -- of each new item something is told
  new-untold : (stats : List Stats) (id : ℕ) → item_with k.stats_id id stats ≡ None → (infos : List Info) (items : List Item) → new_items k stats infos ≡ Some items → item_with k.id_of id items ≡ None
  new-untold stats id none [] items e = let same : items ≡ [] = (cc) in ap (item_with k.id_of id) same
  new-untold stats id none (info ∷ infos) items e =
      by (item_with k.stats_id (k.info_id info) stats) refl (new_items k stats infos) refl e (new-untold stats id none infos)
    where
      by : (o : Option Stats) → item_with k.stats_id (k.info_id info) stats ≡ o → (r : Option (List Item)) → new_items k stats infos ≡ r
          → option_and_then (λ item. option_map (λ ys. item ∷ ys) r) (option_map (k.item_of info) o) ≡ Some items
          → ((ys : List Item) → new_items k stats infos ≡ Some ys → item_with k.id_of id ys ≡ None) → item_with k.id_of id items ≡ None
      by None is r are g rest = absurd (cc)
      by (Some s) is None are g rest = absurd (cc)
      by (Some s) is (Some ys) are g rest =
          let equal : items ≡ k.item_of info s ∷ ys = (cc) in
          let apart : nat_eq id (k.id_of (k.item_of info s)) ≡ false = other id (k.id_of (k.item_of info s)) (λ own. gone (sym is ∙ ap (λ n. item_with k.stats_id n stats) (sym (own ∙ same_id info s)) ∙ none)) in
          ap (item_with k.id_of id) equal ∙ ap (λ b. cond b (Some (k.item_of info s)) (item_with k.id_of id ys)) apart ∙ rest ys are
        where
          gone : Some s ≡ None → ⊥
          gone h = cc

  -- an item of which nothing is told is as it was
  pub untold-with : (stats : List Stats) (infos : List Info) (items : List Item) → new_items k stats infos ≡ Some items → (id : ℕ) → item_with k.stats_id id stats ≡ None
      → (old : List Item) → item_with k.id_of id (map (told_item k stats) old ++ items) ≡ item_with k.id_of id old
  untold-with stats infos items are id none [] = new-untold stats id none infos items are
  untold-with stats infos items are id none (y ∷ ys) =
      ap (λ n. cond (nat_eq id n) (Some (told_item k stats y)) (item_with k.id_of id (map (told_item k stats) ys ++ items))) (told-id stats y)
      ∙ by (nat_eq id (k.id_of y)) refl (untold-with stats infos items are id none ys)
    where
      by : (b : Bool) → nat_eq id (k.id_of y) ≡ b → item_with k.id_of id (map (told_item k stats) ys ++ items) ≡ item_with k.id_of id ys
          → cond b (Some (told_item k stats y)) (item_with k.id_of id (map (told_item k stats) ys ++ items)) ≡ cond b (Some y) (item_with k.id_of id ys)
      by true e rest =
          let id_is : id ≡ k.id_of y = eqb-true id (k.id_of y) e in
          ap (λ o. Some (option_map_or (k.item_of (k.info_of y)) o y)) (ap (λ n. item_with k.stats_id n stats) (sym id_is) ∙ none)
      by false e rest = rest

none-either : {X : Type 0} (b : Bool) → let no : Option X = None in no ≡ cond b no no
none-either true = refl
none-either false = refl

pub staying-with : {X : Type 0} (id_of : X → ℕ) (gone : List ℕ) (id : ℕ) (xs : List X) → item_with id_of id (staying id_of gone xs) ≡ cond (is_among gone id) None (item_with id_of id xs)
staying-with id_of gone id [] = none-either (is_among gone id)
staying-with id_of gone id (x ∷ xs) = by (nat_eq id (id_of x)) refl (is_among gone (id_of x)) refl (staying-with id_of gone id xs)
  where
    by : (b : Bool) → nat_eq id (id_of x) ≡ b → (leaves : Bool) → is_among gone (id_of x) ≡ leaves → item_with id_of id (staying id_of gone xs) ≡ cond (is_among gone id) None (item_with id_of id xs)
        → item_with id_of id (cond (not leaves) (x ∷ staying id_of gone xs) (staying id_of gone xs)) ≡ cond (is_among gone id) None (cond b (Some x) (item_with id_of id xs))
    by true e true l rest = let same : is_among gone id ≡ true = ap (is_among gone) (eqb-true id (id_of x) e) ∙ l in rw same (rw same at rest)
    by true e false l rest = let same : is_among gone id ≡ false = ap (is_among gone) (eqb-true id (id_of x) e) ∙ l in rw (e, same) refl
    by false e true l rest = rest
    by false e false l rest = rw e rest

-- ---- the list after a line

among-more : (ids : List ℕ) (id n : ℕ) → is_among (ids ++ id ∷ []) n ≡ (is_among ids n || (nat_eq n id || false))
among-more ids id n = list_any-append (λ m. nat_eq n m) ids (id ∷ [])

-- one more of which something is told
pub relisted-next : (able : ℕ → Bool) (was : Bool) (ids : List ℕ) (id n : ℕ)
    → cond (nat_eq id n) (able id) (cond (is_among ids n) (able n) was) ≡ cond (is_among (ids ++ id ∷ []) n) (able n) was
relisted-next able was ids id n = by (nat_eq id n) refl (is_among ids n) ∙ ap (λ b. cond b (able n) was) (sym (among-more ids id n))
  where
    by : (b : Bool) → nat_eq id n ≡ b → (told : Bool) → cond b (able id) (cond told (able n) was) ≡ cond (told || (nat_eq n id || false)) (able n) was
    by true e true = ap able (eqb-true id n e)
    by true e false = rw (eq-eqb n id (sym (eqb-true id n e))) (ap able (eqb-true id n e))
    by false e true = refl
    by false e false = rw (other n id (λ same. true≢false (sym (eq-eqb id n (sym same)) ∙ e))) refl

-- one more that leaves
pub unlisted-next : (was : Bool) (ids : List ℕ) (id n : ℕ) → cond (nat_eq id n) false (was && not (is_among ids n)) ≡ (was && not (is_among (ids ++ id ∷ []) n))
unlisted-next was ids id n = by (nat_eq id n) refl was (is_among ids n) ∙ ap (λ b. was && not b) (sym (among-more ids id n))
  where
    by : (b : Bool) → nat_eq id n ≡ b → (w told : Bool) → cond b false (w && not told) ≡ (w && not (told || (nat_eq n id || false)))
    by true e false told = refl
    by true e true true = refl
    by true e true false = rw (eq-eqb n id (sym (eqb-true id n e))) refl
    by false e false told = refl
    by false e true true = refl
    by false e true false = rw (other n id (λ same. true≢false (sym (eq-eqb id n (sym same)) ∙ e))) refl

pub none-told : {Stats : Type 0} (stats_id : Stats → ℕ) (id : ℕ) (stats : List Stats) → is_among (map stats_id stats) id ≡ false → item_with stats_id id stats ≡ None
none-told stats_id id [] none = refl
none-told stats_id id (s ∷ stats) none =
    let parts = or_parts (nat_eq id (stats_id s)) (is_among (map stats_id stats) id) none in rw parts.0 (none-told stats_id id stats parts.1)

-- where the list had the items of before that pass a test, it has those of now once it was looked at those that were told of
pub told-able : {Item Info Stats : Type 0} (k : Kind Item Info Stats) (keeps_id : (x : Item) (s : Stats) → k.id_of (k.item_of (k.info_of x) s) ≡ k.id_of x) (same_id : (info : Info) (s : Stats) → k.id_of (k.item_of info s) ≡ k.info_id info)
    → (test : Item → Bool) (stats : List Stats) (infos : List Info) (old items new : List Item) (before after : ℕ → Bool)
    → new_items k stats infos ≡ Some items → new ≡ map (told_item k stats) old ++ items
    → ((id : ℕ) → before id ≡ option_map_or test (item_with k.id_of id old) false)
    → ((id : ℕ) → after id ≡ cond (is_among (map k.stats_id stats) id) (option_map_or test (item_with k.id_of id new) false) (before id))
    → (id : ℕ) → after id ≡ option_map_or test (item_with k.id_of id new) false
told-able k keeps_id same_id test stats infos old items new before after are now was is id = is id ∙ by (is_among (map k.stats_id stats) id) refl
  where
    by : (b : Bool) → is_among (map k.stats_id stats) id ≡ b → cond b (option_map_or test (item_with k.id_of id new) false) (before id) ≡ option_map_or test (item_with k.id_of id new) false
    by true e = refl
    by false e =
        was id
        ∙ ap (λ o. option_map_or test o false) (sym (untold-with k keeps_id same_id stats infos items are id (none-told k.stats_id id stats e) old) ∙ ap (item_with k.id_of id) (sym now))

-- and where items leave it, it has those that stay
pub left-able : {X : Type 0} (id_of : X → ℕ) (test : X → Bool) (gone : List ℕ) (xs : List X) (before after : ℕ → Bool)
    → ((id : ℕ) → before id ≡ option_map_or test (item_with id_of id xs) false) → ((id : ℕ) → after id ≡ (before id && not (is_among gone id)))
    → (id : ℕ) → after id ≡ option_map_or test (item_with id_of id (staying id_of gone xs)) false
left-able {X = X} id_of test gone xs before after was is id =
    is id ∙ ap (λ b. b && not (is_among gone id)) (was id) ∙ by (is_among gone id) (item_with id_of id xs) ∙ ap (λ o. option_map_or test o false) (sym (staying-with id_of gone id xs))
  where
    nothing : (b : Bool) → (b && false) ≡ false
    nothing true = refl
    nothing false = refl

    all : (b : Bool) → (b && true) ≡ b
    all true = refl
    all false = refl

    by : (b : Bool) (o : Option X) → (option_map_or test o false && not b) ≡ option_map_or test (cond b None o) false
    by true o = nothing (option_map_or test o false)
    by false o = all (option_map_or test o false)

pub next-of : {A B : Type 0} (f : A → List B) (xs : List A) (i : ℕ) (d : A) → i < length xs → flat_map f (take (i + 1) xs) ≡ flat_map f (take i xs) ++ f (get_or xs i d)
next-of f xs i d lt = flat_map-take f xs i (get_or xs i d) (sym (slice_get-get_or xs i d lt))
