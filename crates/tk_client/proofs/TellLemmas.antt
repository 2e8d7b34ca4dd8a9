-- What a line tells of items, one after the other.
use Rattle.std.proofs.Common.{◌≡◌, ℕ, zero, suc, ◌+◌, ◌<◌, List, [], ◌∷◌, ◌++◌, length, get_or, take, Bool, true, false, cond, nat_eq, nat_lt, Option, Some, None, refl, ap, ap₂, sym, ◌∙◌, arith, add-one}
use Rattle.std.specs.Prelude.{map, position, not, ◌||◌}
use Rattle.std.specs.List.{list_any, IsDistinct, AllByRecursion, position_or_len}
use Rattle.std.specs.Option.{option_map_or}
use Rattle.std.proofs.lemmas.Bool.{or_parts, eqb-true}
use Rattle.tk_stream.specs.Applied.{Kind, told_item}
use Rattle.tk_stream.specs.Tables.{TablesView, changed_at}
use Rattle.tk_client.specs.Taking.{has_twice}
use Rattle.tk_client.specs.Applying.{id_by, stats_id_by, told_of, retold, retold_by, HaveOneId}
use Rattle.tk_client.proofs.IdLemmas.{itself, flipped}

map-append : {A B : Type 0} (f : A → B) (xs ys : List A) → map f (xs ++ ys) ≡ map f xs ++ map f ys
map-append f [] ys = refl
map-append f (x ∷ xs) ys = ap (λ zs. f x ∷ zs) (map-append f xs ys)

module _ {Item Info Stats : Type 0} (k : Kind Item Info Stats) where
  -- nothing of this id is among these
  abbrev pub IsApart : ℕ → List Stats → Type 0
  IsApart id front = list_any (λ m. nat_eq id m) (map (stats_id_by k) front) ≡ false

  -- no item has this id
  abbrev IsAway : ℕ → List Item → Type 0
  IsAway id items = list_any (λ m. nat_eq id m) (map k.id_of items) ≡ false

  -- ---- one more told

  untold : (front : List Stats) (id : ℕ) → IsApart id front → told_of k front id ≡ None
  untold [] id h = refl
  untold (s ∷ front) id h =
      let p = or_parts (nat_eq id (k.stats_id s)) (list_any (λ m. nat_eq id m) (map (stats_id_by k) front)) h in rw p.0 (untold front id p.1)

  told-here : (front : List Stats) (s : Stats) → IsApart (k.stats_id s) front → told_of k (front ++ s ∷ []) (k.stats_id s) ≡ Some s
  told-here [] s h = rw (itself (k.stats_id s)) refl
  told-here (t ∷ front) s h =
      let p = or_parts (nat_eq (k.stats_id s) (k.stats_id t)) (list_any (λ m. nat_eq (k.stats_id s) m) (map (stats_id_by k) front)) h in rw p.0 (told-here front s p.1)

  told-other : (front : List Stats) (s : Stats) (id : ℕ) → nat_eq id (k.stats_id s) ≡ false → told_of k (front ++ s ∷ []) id ≡ told_of k front id
  told-other [] s id h = rw h refl
  told-other (t ∷ front) s id h = ap (cond (nat_eq id (k.stats_id t)) (Some t)) (told-other front s id h)

  as-told : (x : Item) → Option Stats → Item
  as-told x o = option_map_or (k.item_of (k.info_of x)) o x

  -- items without the id of one more that is told
  rest-stays : (front : List Stats) (s : Stats) (items : List Item) → IsAway (k.stats_id s) items → map (told_item k front) items ≡ map (told_item k (front ++ s ∷ [])) items
  rest-stays front s [] h = refl
  rest-stays front s (x ∷ xs) h =
      let p = or_parts (nat_eq (k.stats_id s) (k.id_of x)) (list_any (λ m. nat_eq (k.stats_id s) m) (map k.id_of xs)) h in
      ap₂ (λ y ys. y ∷ ys) (ap (λ o. option_map_or (k.item_of (k.info_of x)) o x) (sym (told-other front s (k.id_of x) (flipped (k.stats_id s) (k.id_of x) p.0)))) (rest-stays front s xs p.1)

  away-distinct : (id : ℕ) (ids : List ℕ) → AllByRecursion (λ m. nat_eq id m ≡ false) ids → list_any (λ m. nat_eq id m) ids ≡ false
  away-distinct id [] h = refl
  away-distinct id (m ∷ ms) h = ap₂ (λ a b. a || b) h.0 (away-distinct id ms h.1)

  module _ (keeps_id : (x : Item) (s : Stats) → id_by k (retold k s x) ≡ id_by k x) where
    told-id : (stats : List Stats) (x : Item) → k.id_of (told_item k stats x) ≡ k.id_of x
    told-id stats x = by (told_of k stats (k.id_of x))
      where
        by : (o : Option Stats) → k.id_of (option_map_or (k.item_of (k.info_of x)) o x) ≡ k.id_of x
        by (Some s) = keeps_id x s
        by None = refl

    told-ids : (stats : List Stats) (xs : List Item) → map k.id_of (map (told_item k stats) xs) ≡ map k.id_of xs
    told-ids stats [] = refl
    told-ids stats (x ∷ xs) = ap₂ (λ n ns. n ∷ ns) (told-id stats x) (told-ids stats xs)

    -- the place of an id
    abbrev place : ℕ → List Item → ℕ
    place id items = position_or_len (λ n. nat_eq id n) (map k.id_of items)

    change-there : (front : List Stats) (s : Stats) → IsApart (k.stats_id s) front → (items : List Item) → HaveOneId k items → place (k.stats_id s) items < length (map k.id_of items)
        → changed_at (retold k s) (map (told_item k front) items) (place (k.stats_id s) items) ≡ map (told_item k (front ++ s ∷ [])) items
    unfolding IsDistinct
    change-there front s away [] distinct lt = absurd (omega arith)
    change-there front s away (x ∷ xs) distinct lt =
        by (nat_eq (k.stats_id s) (k.id_of x)) refl lt (change-there front s away xs distinct.1)
      where
        by : (b : Bool) → nat_eq (k.stats_id s) (k.id_of x) ≡ b → cond (not b) (1 + place (k.stats_id s) xs) 0 < suc (length (map k.id_of xs))
            → (place (k.stats_id s) xs < length (map k.id_of xs) → changed_at (retold k s) (map (told_item k front) xs) (place (k.stats_id s) xs) ≡ map (told_item k (front ++ s ∷ [])) xs)
            → changed_at (retold k s) (map (told_item k front) (x ∷ xs)) (cond (not b) (1 + place (k.stats_id s) xs) 0) ≡ map (told_item k (front ++ s ∷ [])) (x ∷ xs)
        by true is l rest =
            let same : k.stats_id s ≡ k.id_of x = eqb-true (k.stats_id s) (k.id_of x) is in
            let was : told_item k front x ≡ x = ap (λ id. option_map_or (k.item_of (k.info_of x)) (told_of k front id) x) (sym same) ∙ ap (λ o. option_map_or (k.item_of (k.info_of x)) o x) (untold front (k.stats_id s) away) in
            let now : told_item k (front ++ s ∷ []) x ≡ retold k s x =
            ap (λ id. option_map_or (k.item_of (k.info_of x)) (told_of k (front ++ s ∷ []) id) x) (sym same) ∙ ap (λ o. option_map_or (k.item_of (k.info_of x)) o x) (told-here front s away) in
            let others : IsAway (k.stats_id s) xs = ap (λ id. list_any (λ m. nat_eq id m) (map k.id_of xs)) same ∙ away-distinct (k.id_of x) (map k.id_of xs) distinct.0 in
            ap₂ (λ y ys. y ∷ ys) (ap (retold k s) was ∙ sym now) (rest-stays front s xs others)
        by false is l rest =
            let same : told_item k (front ++ s ∷ []) x ≡ told_item k front x = ap (λ o. option_map_or (k.item_of (k.info_of x)) o x) (told-other front s (k.id_of x) (flipped (k.stats_id s) (k.id_of x) is)) in
            let n : 1 + place (k.stats_id s) xs ≡ suc (place (k.stats_id s) xs) = omega arith in
            rw n (ap₂ (λ y ys. y ∷ ys) (sym same) (rest (omega arith)))

    nothing-there : (id : ℕ) (items : List Item) → (nat_lt (place id items) (length (map k.id_of items)) ≡ false) → IsAway id items
    nothing-there id [] h = refl
    nothing-there id (x ∷ xs) h = by (nat_eq id (k.id_of x)) h (nothing-there id xs)
      where
        by : (b : Bool) → nat_lt (cond (not b) (1 + place id xs) 0) (suc (length (map k.id_of xs))) ≡ false → (nat_lt (place id xs) (length (map k.id_of xs)) ≡ false → IsAway id xs)
            → (b || list_any (λ m. nat_eq id m) (map k.id_of xs)) ≡ false
        by true g rest = absurd (grind arith)
        by false g rest = rest (grind arith)

    -- one more that is told
    pub tell-next : (items : List Item) (front : List Stats) (s : Stats) → HaveOneId k items → IsApart (k.stats_id s) front
        → retold_by k (map (told_item k front) items) s ≡ map (told_item k (front ++ s ∷ [])) items
    tell-next items front s distinct away =
        ap (λ ids. option_map_or (λ i. changed_at (retold k s) (map (told_item k front) items) i) (position (λ n. nat_eq (k.stats_id s) n) ids) (map (told_item k front) items)) (told-ids front items)
        ∙ by (nat_lt (place (k.stats_id s) items) (length (map k.id_of items))) refl
      where
        by : (b : Bool) → nat_lt (place (k.stats_id s) items) (length (map k.id_of items)) ≡ b
            → option_map_or (λ i. changed_at (retold k s) (map (told_item k front) items) i) (cond b (Some (place (k.stats_id s) items)) None) (map (told_item k front) items) ≡ map (told_item k (front ++ s ∷ [])) items
        by true is = change-there front s away items distinct (grind arith)
        by false is = rest-stays front s items (nothing-there (k.stats_id s) items is)

pub take-last : {X : Type 0} (xs : List X) (i : ℕ) (x : X) → i < length xs → x ≡ get_or xs i x → take (i + 1) xs ≡ take i xs ++ x ∷ []
take-last xs i x lt e = ap (λ n. take n xs) (add-one i) ∙ at xs i lt e
  where
    at : (ys : List _) (j : ℕ) → j < length ys → x ≡ get_or ys j x → take (suc j) ys ≡ take j ys ++ x ∷ []
    at [] j h e = absurd (omega arith)
    at (y ∷ ys) zero h e = ap (λ z. z ∷ []) (sym e)
    at (y ∷ ys) (suc j) h e = ap (λ zs. y ∷ zs) (at ys j (omega arith) e)

-- an id after others, none of which stands twice, is apart from them
pub apart-at : {X : Type 0} (f : X → ℕ) (xs : List X) (i : ℕ) (x : X) → has_twice (map f xs) ≡ false → i < length xs → x ≡ get_or xs i x → list_any (λ m. nat_eq (f x) m) (map f (take i xs)) ≡ false
apart-at f [] i x once lt e = absurd (omega arith)
apart-at f (y ∷ ys) zero x once lt e = refl
apart-at f (y ∷ ys) (suc i) x once lt e =
    let p = or_parts (list_any (λ m. nat_eq (f y) m) (map f ys)) (has_twice (map f ys)) once in
    ap₂ (λ a b. a || b) (flipped (f y) (f x) (among ys i p.0 (omega arith) e)) (apart-at f ys i x p.1 (omega arith) e)
  where
    among : (zs : List _) (j : ℕ) → list_any (λ m. nat_eq (f y) m) (map f zs) ≡ false → j < length zs → x ≡ get_or zs j x → nat_eq (f y) (f x) ≡ false
    among [] j h l g = absurd (omega arith)
    among (z ∷ zs) zero h l g = ap (λ w. nat_eq (f y) (f w)) g ∙ (or_parts (nat_eq (f y) (f z)) (list_any (λ m. nat_eq (f y) m) (map f zs)) h).0
    among (z ∷ zs) (suc j) h l g = among zs j (or_parts (nat_eq (f y) (f z)) (list_any (λ m. nat_eq (f y) m) (map f zs)) h).1 (omega arith) g

module _ {Item Info Stats : Type 0} (k : Kind Item Info Stats) (items : TablesView → List Item) (put : TablesView → List Item → TablesView) where
  pub none-told : (keeps : (t : TablesView) → put t (items t) ≡ t) (v : TablesView) → v ≡ put v (map (told_item k []) (items v))
  none-told keeps v = sym (ap (put v) (same (items v)) ∙ keeps v)
    where
      same : (xs : List _) → map (told_item k []) xs ≡ xs
      same [] = refl
      same (x ∷ xs) = ap (λ ys. x ∷ ys) (same xs)

  -- a step of telling
  pub tells-on : (keeps_id : (x : Item) (s : Stats) → id_by k (retold k s x) ≡ id_by k x) (reads : (t : TablesView) (xs : List Item) → items (put t xs) ≡ xs)
      (writes : (t : TablesView) (xs ys : List Item) → put (put t xs) ys ≡ put t ys) (v w u : TablesView) (stats : List Stats) (i : ℕ) (s : Stats)
      → HaveOneId k (items v) → has_twice (map (stats_id_by k) stats) ≡ false → i < length stats → s ≡ get_or stats i s
      → w ≡ put v (map (told_item k (take i stats)) (items v)) → u ≡ put w (retold_by k (items w) s)
      → u ≡ put v (map (told_item k (take (i + 1) stats)) (items v))
  tells-on keeps_id reads writes v w u stats i s distinct once lt at so_far new =
      let now : items w ≡ map (told_item k (take i stats)) (items v) = ap items so_far ∙ reads v (map (told_item k (take i stats)) (items v)) in
      new ∙ ap₂ (λ t xs. put t (retold_by k xs s)) so_far now ∙ writes v _ _
      ∙ ap (put v) (tell-next k keeps_id (items v) (take i stats) s distinct (apart-at (stats_id_by k) stats i s once lt at)
      ∙ ap (λ front. map (told_item k front) (items v)) (sym (take-last stats i s lt at)))
