-- Items that are told whole, as poll counts and histograms are, one after the other.
use Rattle.std.proofs.Common.{◌≡◌, ℕ, zero, suc, ◌+◌, ◌<◌, List, [], ◌∷◌, ◌++◌, length, get_or, take, drop, Bool, true, false, cond, nat_eq, Option, Some, None, refl, ap, ap₂, sym, ◌∙◌, append_assoc, append-nil, add-one, arith}
use Rattle.std.specs.Prelude.{map, filter, is_none, is_some, IsSome, ◌||◌, ◌&&◌}
use Rattle.std.specs.List.{list_any, list_all, IsDistinct, AllByRecursion}
use Rattle.std.specs.Option.{option_map_or}
use Rattle.std.proofs.lemmas.Bool.{or_parts, and_parts, eqb-true, eq-eqb}
use Rattle.tk_stream.specs.Tables.{item_with, put_item}
use Rattle.tk_stream.specs.Lines.{is_new}
use Rattle.tk_stream.specs.Applied.{told_item}
use Rattle.tk_client.specs.Taking.{has_twice}
use Rattle.tk_client.specs.Applying.{keyed_kind, keyed_after, key_added, AreKeyed}
use Rattle.tk_client.proofs.IdLemmas.{own, distinct-once}

itself : (n : ℕ) → nat_eq n n ≡ true
itself n = eq-eqb n n refl

flipped : (a b : ℕ) → nat_eq a b ≡ false → nat_eq b a ≡ false
flipped a b h = by (nat_eq b a) refl
  where
    by : (t : Bool) → nat_eq b a ≡ t → t ≡ false
    by true e = sym (eq-eqb a b (sym (eqb-true b a e))) ∙ h
    by false e = refl

pub all-at : {X : Type 0} (p : X → Bool) (xs : List X) (i : ℕ) (x : X) → list_all p xs ≡ true → i < length xs → x ≡ get_or xs i x → p x ≡ true
all-at p [] i x all lt e = absurd (omega arith)
all-at p (y ∷ ys) zero x all lt e = ap p e ∙ (and_parts (p y) (list_all p ys) all).0
all-at p (y ∷ ys) (suc i) x all lt e = all-at p ys i x (and_parts (p y) (list_all p ys) all).1 (omega arith) e

module _ {Item : Type 0} (id_of : Item → ℕ) where
  -- the counts of an id
  abbrev counted : ℕ → List Item → Option Item
  counted = item_with id_of

  -- no counts of this id
  abbrev pub IsApart : ℕ → List Item → Type 0
  IsApart id cs = list_any (λ m. nat_eq id m) (map id_of cs) ≡ false

  -- what is told of counts
  abbrev told : List Item → Item → Item
  told front = told_item (keyed_kind id_of) front

  apart-none : (id : ℕ) (cs : List Item) → IsApart id cs → counted id cs ≡ None
  apart-none id [] h = refl
  apart-none id (c ∷ cs) h =
      let p = or_parts (nat_eq id (id_of c)) (list_any (λ m. nat_eq id m) (map id_of cs)) h in rw p.0 (apart-none id cs p.1)

  none-apart : (id : ℕ) (cs : List Item) → counted id cs ≡ None → IsApart id cs
  none-apart id [] h = refl
  none-apart id (c ∷ cs) h = by (nat_eq id (id_of c)) h (none-apart id cs)
    where
      by : (b : Bool) → cond b (Some c) (counted id cs) ≡ None → (counted id cs ≡ None → IsApart id cs) → (b || list_any (λ m. nat_eq id m) (map id_of cs)) ≡ false
      by true e f = absurd (cc)
      by false e f = f e

  -- ---- one more told

  told-here : (front : List Item) (c : Item) → IsApart (id_of c) front → counted (id_of c) (front ++ c ∷ []) ≡ Some c
  told-here [] c h = rw (itself (id_of c)) refl
  told-here (x ∷ front) c h =
      let p = or_parts (nat_eq (id_of c) (id_of x)) (list_any (λ m. nat_eq (id_of c) m) (map id_of front)) h in rw p.0 (told-here front c p.1)

  told-other : (front : List Item) (c : Item) (id : ℕ) → nat_eq id (id_of c) ≡ false → counted id (front ++ c ∷ []) ≡ counted id front
  told-other [] c id h = rw h refl
  told-other (x ∷ front) c id h = ap (cond (nat_eq id (id_of x)) (Some x)) (told-other front c id h)

  told_id : (front : List Item) (x : Item) → id_of (told front x) ≡ (id_of x)
  told_id [] x = refl
  told_id (y ∷ front) x = by (nat_eq (id_of x) (id_of y)) refl (told_id front x)
    where
      by : (b : Bool) → nat_eq (id_of x) (id_of y) ≡ b → id_of (told front x) ≡ (id_of x) → id_of (option_map_or (λ (c : Item). c) (cond b (Some y) (counted (id_of x) front)) x) ≡ (id_of x)
      by true is e = sym (eqb-true (id_of x) (id_of y) is)
      by false is e = e

  -- ---- counts that aren't there go last

  put_last : (c : Item) (cs : List Item) → IsApart (id_of c) cs → put_item id_of c cs ≡ cs ++ c ∷ []
  put_last c [] h = refl
  put_last c (x ∷ cs) h =
      let p = or_parts (nat_eq (id_of c) (id_of x)) (list_any (λ m. nat_eq (id_of c) m) (map id_of cs)) h in rw p.0 (ap (λ ys. x ∷ ys) (put_last c cs p.1))

  apart-append : (id : ℕ) (xs ys : List Item) → IsApart id xs → IsApart id ys → IsApart id (xs ++ ys)
  apart-append id [] ys h g = g
  apart-append id (x ∷ xs) ys h g =
      let p = or_parts (nat_eq id (id_of x)) (list_any (λ m. nat_eq id m) (map id_of xs)) h in rw p.0 (apart-append id xs ys p.1 g)

  apart-told : (id : ℕ) (front old : List Item) → IsApart id old → IsApart id (map (told front) old)
  apart-told id front [] h = refl
  apart-told id front (x ∷ old) h =
      let p = or_parts (nat_eq id (id_of x)) (list_any (λ m. nat_eq id m) (map id_of old)) h in
      ap₂ (λ a b. a || b) (ap (nat_eq id) (told_id front x) ∙ p.0) (apart-told id front old p.1)

  apart-kept : (id : ℕ) (p : Item → Bool) (front : List Item) → IsApart id front → IsApart id (filter p front)
  apart-kept id p [] h = refl
  apart-kept id p (x ∷ front) h =
      let q = or_parts (nat_eq id (id_of x)) (list_any (λ m. nat_eq id m) (map id_of front)) h in by (p x) q.0 (apart-kept id p front q.1)
    where
      by : (b : Bool) → nat_eq id (id_of x) ≡ false → IsApart id (filter p front) → IsApart id (cond b (x ∷ filter p front) (filter p front))
      by true e g = rw e g
      by false e g = g

  told-rest : (front : List Item) (c : Item) (old : List Item) → IsApart (id_of c) old → map (told front) old ≡ map (told (front ++ c ∷ [])) old
  told-rest front c [] h = refl
  told-rest front c (x ∷ old) h =
      let p = or_parts (nat_eq (id_of c) (id_of x)) (list_any (λ m. nat_eq (id_of c) m) (map id_of old)) h in
      ap₂ (λ y ys. y ∷ ys) (ap (λ o. option_map_or (λ (d : Item). d) o x) (sym (told-other front c (id_of x) (flipped (id_of c) (id_of x) p.0)))) (told-rest front c old p.1)

  filter-last : (p : Item → Bool) (front : List Item) (c : Item) → filter p (front ++ c ∷ []) ≡ filter p front ++ filter p (c ∷ [])
  filter-last p [] c = refl
  filter-last p (x ∷ front) c = by (p x) (filter-last p front c)
    where
      by : (b : Bool) → filter p (front ++ c ∷ []) ≡ filter p front ++ filter p (c ∷ [])
          → cond b (x ∷ filter p (front ++ c ∷ [])) (filter p (front ++ c ∷ [])) ≡ cond b (x ∷ filter p front) (filter p front) ++ filter p (c ∷ [])
      by true e = ap (λ ys. x ∷ ys) e
      by false e = e

  -- ---- counts that are there are replaced

  apart-all : (id : ℕ) (cs : List Item) → AllByRecursion (λ m. nat_eq id m ≡ false) (map id_of cs) → IsApart id cs
  apart-all id [] h = refl
  apart-all id (c ∷ cs) h = ap₂ (λ a b. a || b) h.0 (apart-all id cs h.1)

  put_there : (front : List Item) (c : Item) (old : List Item) (y : Item) → IsDistinct nat_eq (map id_of old) → IsApart (id_of c) front → counted (id_of c) old ≡ Some y
      → (more : List Item) → put_item id_of c (map (told front) old ++ more) ≡ map (told (front ++ c ∷ [])) old ++ more
  unfolding IsDistinct
  put_there front c [] y distinct away e more = absurd (cc)
  put_there front c (x ∷ old) y distinct away e more =
      rw (told_id front x) (by (nat_eq (id_of c) (id_of x)) refl e (λ d f. put_there front c old y d away f more))
    where
      by : (b : Bool) → nat_eq (id_of c) (id_of x) ≡ b → cond b (Some x) (counted (id_of c) old) ≡ Some y
          → (IsDistinct nat_eq (map id_of old) → counted (id_of c) old ≡ Some y → put_item id_of c (map (told front) old ++ more) ≡ map (told (front ++ c ∷ [])) old ++ more)
          → cond b (c ∷ (map (told front) old ++ more)) (told front x ∷ put_item id_of c (map (told front) old ++ more)) ≡ told (front ++ c ∷ []) x ∷ (map (told (front ++ c ∷ [])) old ++ more)
      by true is found next =
          let same : (id_of c) ≡ (id_of x) = eqb-true (id_of c) (id_of x) is in
          let here : told (front ++ c ∷ []) x ≡ c = ap (λ id. option_map_or (λ (d : Item). d) (counted id (front ++ c ∷ [])) x) (sym same) ∙ ap (λ o. option_map_or (λ (d : Item). d) o x) (told-here front c away) in
          let apart : IsApart (id_of c) old = ap (λ id. list_any (λ m. nat_eq id m) (map id_of old)) same ∙ apart-all (id_of x) old distinct.0 in
          ap₂ (λ z zs. z ∷ (zs ++ more)) (sym here) (told-rest front c old apart)
      by false is found next =
          ap₂ (λ z zs. z ∷ zs) (ap (λ o. option_map_or (λ (d : Item). d) o x) (sym (told-other front c (id_of x) (flipped (id_of c) (id_of x) is)))) (next distinct.1 found)

  -- ---- one step

  -- one more that is told
  pub counts_next : (old front : List Item) (c : Item) → IsDistinct nat_eq (map id_of old) → IsApart (id_of c) front → put_item id_of c (keyed_after id_of old front) ≡ keyed_after id_of old (front ++ c ∷ [])
  counts_next old front c distinct away = by (counted (id_of c) old) refl
    where
      by : (o : Option Item) → counted (id_of c) old ≡ o → put_item id_of c (keyed_after id_of old front) ≡ keyed_after id_of old (front ++ c ∷ [])
      by None is =
          let apart : IsApart (id_of c) old = none-apart (id_of c) old is in
          let new : filter (is_new id_of old) (c ∷ []) ≡ c ∷ [] = ap (λ o. cond (is_none o) (c ∷ []) []) is in
          put_last c (keyed_after id_of old front) (apart-append (id_of c) (map (told front) old) (filter (is_new id_of old) front) (apart-told (id_of c) front old apart) (apart-kept (id_of c) (is_new id_of old) front away))
          ∙ append_assoc (map (told front) old) (filter (is_new id_of old) front) (c ∷ [])
          ∙ ap₂ (λ xs ys. xs ++ ys) (told-rest front c old apart) (ap (λ cs. filter (is_new id_of old) front ++ cs) (sym new) ∙ sym (filter-last (is_new id_of old) front c))
      by (Some y) is =
          let none : filter (is_new id_of old) (c ∷ []) ≡ [] = ap (λ o. cond (is_none o) (c ∷ []) []) is in
          put_there front c old y distinct away is (filter (is_new id_of old) front)
          ∙ ap (λ cs. map (told (front ++ c ∷ [])) old ++ cs) (sym (append-nil (filter (is_new id_of old) front)) ∙ ap (λ cs. filter (is_new id_of old) front ++ cs) (sym none) ∙ sym (filter-last (is_new id_of old) front c))

  -- a number that stands after others stands apart from them
  apart_before : (xs : List Item) (y : Item) (more : List Item) → has_twice (map id_of (xs ++ y ∷ more)) ≡ false → IsApart (id_of y) xs
  apart_before [] y more e = refl
  apart_before (x ∷ xs) y more e =
      let p = or_parts (list_any (λ m. nat_eq (id_of x) m) (map id_of (xs ++ y ∷ more))) (has_twice (map id_of (xs ++ y ∷ more))) e in
      ap₂ (λ a b. a || b) (flipped (id_of x) (id_of y) (among xs p.0)) (apart_before xs y more p.1)
    where
      among : (zs : List Item) → list_any (λ m. nat_eq (id_of x) m) (map id_of (zs ++ y ∷ more)) ≡ false → nat_eq (id_of x) (id_of y) ≡ false
      among [] h = (or_parts (nat_eq (id_of x) (id_of y)) (list_any (λ m. nat_eq (id_of x) m) (map id_of more)) h).0
      among (z ∷ zs) h = among zs (or_parts (nat_eq (id_of x) (id_of z)) (list_any (λ m. nat_eq (id_of x) m) (map id_of (zs ++ y ∷ more))) h).1

  split_at : (cs : List Item) (i : ℕ) (c : Item) → i < length cs → c ≡ get_or cs i c → cs ≡ take i cs ++ c ∷ drop (suc i) cs
  split_at [] i c h e = absurd (omega arith)
  split_at (x ∷ cs) zero c h e = ap (λ y. y ∷ cs) (sym e)
  split_at (x ∷ cs) (suc i) c h e = ap (λ ys. x ∷ ys) (split_at cs i c (omega arith) e)

  take-last : (cs : List Item) (i : ℕ) (c : Item) → i < length cs → c ≡ get_or cs i c → take (suc i) cs ≡ take i cs ++ c ∷ []
  take-last [] i c h e = absurd (omega arith)
  take-last (x ∷ cs) zero c h e = ap (λ y. y ∷ []) (sym e)
  take-last (x ∷ cs) (suc i) c h e = ap (λ ys. x ∷ ys) (take-last cs i c (omega arith) e)

  pub told_next : (old cs : List Item) (i : ℕ) (c : Item) → IsDistinct nat_eq (map id_of old) → has_twice (map id_of cs) ≡ false → i < length cs → c ≡ get_or cs i c
      → put_item id_of c (keyed_after id_of old (take i cs)) ≡ keyed_after id_of old (take (i + 1) cs)
  told_next old cs i c distinct once h e =
      counts_next old (take i cs) c distinct (apart_before (take i cs) c (drop (suc i) cs) (ap (λ xs. has_twice (map id_of xs)) (sym (split_at cs i c h e)) ∙ once))
      ∙ ap (keyed_after id_of old) (sym (take-last cs i c h e) ∙ ap (λ n. take n cs) (sym (add-one i)))

  -- nothing told leaves counts as they are
  pub none_told : (old : List Item) → keyed_after id_of old [] ≡ old
  none_told old = append-nil (map (told []) old) ∙ same old
    where
      same : (cs : List Item) → map (told []) cs ≡ cs
      same [] = refl
      same (c ∷ cs) = ap (λ ds. c ∷ ds) (same cs)

  -- ---- growth: new counts go last, and then all that are told are there

  some-front : (id : ℕ) (xs ys : List Item) → is_some (counted id xs) ≡ true → is_some (counted id (xs ++ ys)) ≡ true
  some-front id [] ys h = absurd (cc)
  some-front id (x ∷ xs) ys h = by (nat_eq id (id_of x)) h (some-front id xs ys)
    where
      by : (b : Bool) → is_some (cond b (Some x) (counted id xs)) ≡ true → (is_some (counted id xs) ≡ true → is_some (counted id (xs ++ ys)) ≡ true) → is_some (cond b (Some x) (counted id (xs ++ ys))) ≡ true
      by true g rest = refl
      by false g rest = rest g

  some-back : (id : ℕ) (xs ys : List Item) → is_some (counted id ys) ≡ true → is_some (counted id (xs ++ ys)) ≡ true
  some-back id [] ys h = h
  some-back id (x ∷ xs) ys h = by (nat_eq id (id_of x)) (some-back id xs ys h)
    where
      by : (b : Bool) → is_some (counted id (xs ++ ys)) ≡ true → is_some (cond b (Some x) (counted id (xs ++ ys))) ≡ true
      by true g = refl
      by false g = g

  -- one more that goes last, where there is none
  pub added-next : (old front : List Item) (c : Item) → IsApart (id_of c) front
      → key_added id_of c (old ++ filter (is_new id_of old) front) ≡ old ++ filter (is_new id_of old) (front ++ c ∷ [])
  added-next old front c away = by (counted (id_of c) old) refl
    where
      grown : List Item
      grown = old ++ filter (is_new id_of old) front

      by : (o : Option Item) → counted (id_of c) old ≡ o → key_added id_of c (old ++ filter (is_new id_of old) front) ≡ old ++ filter (is_new id_of old) (front ++ c ∷ [])
      by None is =
          let none : counted (id_of c) grown ≡ None = apart-none (id_of c) grown (apart-append (id_of c) old (filter (is_new id_of old) front) (none-apart (id_of c) old is) (apart-kept (id_of c) (is_new id_of old) front away)) in
          let new : filter (is_new id_of old) (c ∷ []) ≡ c ∷ [] = ap (λ o. cond (is_none o) (c ∷ []) []) is in
          ap (λ o. cond (is_some o) grown (grown ++ c ∷ [])) none
          ∙ append_assoc old (filter (is_new id_of old) front) (c ∷ [])
          ∙ ap (λ cs. old ++ cs) (ap (λ cs. filter (is_new id_of old) front ++ cs) (sym new) ∙ sym (filter-last (is_new id_of old) front c))
      by (Some y) is =
          let some : is_some (counted (id_of c) grown) ≡ true = some-front (id_of c) old (filter (is_new id_of old) front) (ap is_some is) in
          let none : filter (is_new id_of old) (c ∷ []) ≡ [] = ap (λ o. cond (is_none o) (c ∷ []) []) is in
          ap (λ b. cond b grown (grown ++ c ∷ [])) some
          ∙ ap (λ cs. old ++ cs) (sym (append-nil (filter (is_new id_of old) front)) ∙ ap (λ cs. filter (is_new id_of old) front ++ cs) (sym none) ∙ sym (filter-last (is_new id_of old) front c))

  pub grows-next : (old cs : List Item) (i : ℕ) (c : Item) → has_twice (map id_of cs) ≡ false → i < length cs → c ≡ get_or cs i c
      → key_added id_of c (old ++ filter (is_new id_of old) (take i cs)) ≡ old ++ filter (is_new id_of old) (take (i + 1) cs)
  grows-next old cs i c once h e =
      added-next old (take i cs) c (apart_before (take i cs) c (drop (suc i) cs) (ap (λ xs. has_twice (map id_of xs)) (sym (split_at cs i c h e)) ∙ once))
      ∙ ap (λ front. old ++ filter (is_new id_of old) front) (sym (take-last cs i c h e) ∙ ap (λ n. take n cs) (sym (add-one i)))

  -- counts that are there are still there
  pub still-there : (id : ℕ) (old front : List Item) → is_some (counted id old) ≡ true → IsSome (counted id (keyed_after id_of old front))
  still-there id old front h = some-front id (map (told front) old) (filter (is_new id_of old) front) (there old h)
    where
      there : (xs : List Item) → is_some (counted id xs) ≡ true → is_some (counted id (map (told front) xs)) ≡ true
      there [] g = g
      there (x ∷ xs) g = rw (told_id front x) (by (nat_eq id (id_of x)) g (there xs))
        where
          by : (b : Bool) → is_some (cond b (Some x) (counted id xs)) ≡ true → (is_some (counted id xs) ≡ true → is_some (counted id (map (told front) xs)) ≡ true)
              → is_some (cond b (Some (told front x)) (counted id (map (told front) xs))) ≡ true
          by true k rest = refl
          by false k rest = rest k

  -- all that are told are there once new ones stand after the others
  pub are-counted : (old cs : List Item) → AreKeyed id_of (old ++ filter (is_new id_of old) cs) cs
  are-counted old cs = each cs (kept cs)
    where
      p : Item → Bool
      p = is_new id_of old

      kept : (xs : List Item) → AllByRecursion (λ c. p c ≡ true → is_some (counted (id_of c) (filter p xs)) ≡ true) xs
      kept [] = tt
      kept (x ∷ xs) = (λ is. ap (λ b. is_some (counted (id_of x) (cond b (x ∷ filter p xs) (filter p xs)))) is ∙ ap (λ b. is_some (cond b (Some x) (counted (id_of x) (filter p xs)))) (itself (id_of x)), wider xs (kept xs))
        where
          one : (c : Item) (b : Bool) → is_some (counted (id_of c) (filter p xs)) ≡ true → is_some (counted (id_of c) (cond b (x ∷ filter p xs) (filter p xs))) ≡ true
          one c true h = some-back (id_of c) (x ∷ []) (filter p xs) h
          one c false h = h

          wider : (ys : List Item) → AllByRecursion (λ c. p c ≡ true → is_some (counted (id_of c) (filter p xs)) ≡ true) ys
              → AllByRecursion (λ c. p c ≡ true → is_some (counted (id_of c) (filter p (x ∷ xs))) ≡ true) ys
          wider [] all = tt
          wider (y ∷ ys) all = (λ is. one y (p x) (all.0 is), wider ys all.1)

      here : (c : Item) → (p c ≡ true → is_some (counted (id_of c) (filter p cs)) ≡ true) → is_some (counted (id_of c) (old ++ filter p cs)) ≡ true
      here c h = by (counted (id_of c) old) refl
        where
          by : (o : Option Item) → counted (id_of c) old ≡ o → is_some (counted (id_of c) (old ++ filter p cs)) ≡ true
          by (Some y) is = some-front (id_of c) old (filter p cs) (ap is_some is)
          by None is = some-back (id_of c) old (filter p cs) (h (ap is_none is))

      each : (xs : List Item) → AllByRecursion (λ c. p c ≡ true → is_some (counted (id_of c) (filter p cs)) ≡ true) xs → list_all (λ c. is_some (counted (id_of c) (old ++ filter p cs))) xs ≡ true
      each [] all = refl
      each (x ∷ xs) all = ap₂ (λ a b. a && b) (here x all.0) (each xs all.1)

  -- telling the counts that went in comes to telling all
  pub counts-grown : (old cs : List Item) → has_twice (map id_of cs) ≡ false → keyed_after id_of (old ++ filter (is_new id_of old) cs) cs ≡ keyed_after id_of old cs
  counts-grown old cs once =
      ap₂ (λ xs ys. xs ++ ys) (map-append old (filter p cs)) (none-new cs (are-counted old cs))
      ∙ append-nil _ ∙ ap (λ xs. map (told cs) old ++ xs) (same cs (own id_of cs (distinct-once (map id_of cs) once)))
    where
      p : Item → Bool
      p = is_new id_of old

      map-append : (xs ys : List Item) → map (told cs) (xs ++ ys) ≡ map (told cs) xs ++ map (told cs) ys
      map-append [] ys = refl
      map-append (x ∷ xs) ys = ap (λ zs. told cs x ∷ zs) (map-append xs ys)

      none-new : (xs : List Item) → list_all (λ c. is_some (counted (id_of c) (old ++ filter p cs))) xs ≡ true → filter (is_new id_of (old ++ filter p cs)) xs ≡ []
      none-new [] all = refl
      none-new (x ∷ xs) all =
          let q = and_parts (is_some (counted (id_of x) (old ++ filter p cs))) (list_all (λ c. is_some (counted (id_of c) (old ++ filter p cs))) xs) all in
          by (counted (id_of x) (old ++ filter p cs)) q.0 (none-new xs q.1)
        where
          by : (o : Option Item) → is_some o ≡ true → filter (is_new id_of (old ++ filter p cs)) xs ≡ []
              → cond (is_none o) (x ∷ filter (is_new id_of (old ++ filter p cs)) xs) (filter (is_new id_of (old ++ filter p cs)) xs) ≡ []
          by (Some y) is rest = rest
          by None is rest = absurd (cc)

      same : (xs : List Item) → AllByRecursion (λ c. counted (id_of c) cs ≡ Some c) xs → map (told cs) (filter p xs) ≡ filter p xs
      same [] all = refl
      same (x ∷ xs) all = by (p x) (ap (λ o. option_map_or (λ (d : Item). d) o x) all.0) (same xs all.1)
        where
          by : (b : Bool) → told cs x ≡ x → map (told cs) (filter p xs) ≡ filter p xs → map (told cs) (cond b (x ∷ filter p xs) (filter p xs)) ≡ cond b (x ∷ filter p xs) (filter p xs)
          by true e rest = ap₂ (λ y ys. y ∷ ys) e rest
          by false e rest = rest

  -- a resource that has counts, and one that has none
  pub added-old : (c : Item) (cs : List Item) → is_some (counted (id_of c) cs) ≡ true → cs ≡ key_added id_of c cs
  added-old c cs h = sym (ap (λ b. cond b cs (cs ++ c ∷ [])) h)

  pub added-new : (c : Item) (cs : List Item) → is_some (counted (id_of c) cs) ≡ false → put_item id_of c cs ≡ key_added id_of c cs
  added-new c cs h = put_last c cs (none-apart (id_of c) cs (none (counted (id_of c) cs) h)) ∙ sym (ap (λ b. cond b cs (cs ++ c ∷ [])) h)
    where
      none : (o : Option Item) → is_some o ≡ false → o ≡ None
      none (Some x) e = absurd (cc)
      none None e = refl

  pub none_added : (old : List Item) → old ≡ old ++ filter (is_new id_of old) []
  none_added old = sym (append-nil old)
