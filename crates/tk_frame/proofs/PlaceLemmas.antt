-- Places, one more.
use Rattle.std.proofs.Common.{◌≡◌, ℕ, zero, suc, ◌+◌, ◌≤◌, List, [], ◌∷◌, ◌++◌, length, map, drop, take, slice_get, Bool, true, false, cond, Option, Some, None, refl, ap, ap₂, sym, ◌∙◌, append-nil, append_assoc, subst, add-one, arith}
use Rattle.std.specs.Prelude.{flat_map, fold, if◌then◌else◌}
use Rattle.std.specs.List.{insert}
use Rattle.std.specs.Option.{option_and_then, option_map_or}
use Rattle.std.specs.Str.{bytes_eq}
use Rattle.std.proofs.lemmas.List.{drop-map, map-append, take-map, take_all}
use Rattle.std.proofs.lemmas.List.Sums.{fold-append}
use Rattle.tk_screen.specs.Texts.{Puts}
use Rattle.tk_screen.proofs.PutLemmas.{both}
use Rattle.tk_odd.specs.declared.held.Held.{Held}
use Rattle.tk_series.specs.Limited.{LimitedView}
use Rattle.tk_sites.specs.Lines.{listed, more_of, more_site}
use Rattle.tk_sites.specs.declared.sums.Sums.{Sums}
use Rattle.tk_frame.specs.Places.{held_of, numbered_from, place_at, put_in}

-- ---- lines of items, one after the other

module _ {X L : Type 0} (f : X → List L) (xs : List X) where
  lines_next : (ys : List X) (i : ℕ) → flat_map f (take (suc i) ys) ≡ flat_map f (take i ys) ++ option_map_or f (slice_get ys i) []
  lines_next [] zero = refl
  lines_next [] (suc i) = refl
  lines_next (y ∷ ys) zero = append-nil (f y)
  lines_next (y ∷ ys) (suc i) = ap (λ (ls : List L). f y ++ ls) (lines_next ys i) ∙ sym (append_assoc (f y) (flat_map f (take i ys)) (option_map_or f (slice_get ys i) []))

  -- those of one more
  pub next_put : {a b c : List L} (i : ℕ) → Puts a b (flat_map f (take i xs)) → Puts b c (option_map_or f (slice_get xs i) []) → Puts a c (flat_map f (take (i + 1) xs))
  next_put {a} {b} {c} i g h = rw add-one (subst (λ (ls : List L). Puts a c ls) (sym (lines_next xs i)) (both g h))

  -- those of all
  pub all_put : {a b : List L} (i n : ℕ) → n ≡ length xs → n ≤ i → Puts a b (flat_map f (take i xs)) → Puts a b (flat_map f xs)
  all_put {a} {b} i n is past g = subst (λ (ys : List X). Puts a b (flat_map f ys)) (take_all i xs (subst (λ m. m ≤ i) is past)) g

-- ---- those that held up others

-- what is known of these labels by one of them
abbrev pub held_by : List ℕ → List ℕ × Held → Option Held
held_by key x = if bytes_eq x.0 key then Some x.1 else None

-- what is known by those up to one, or by that one
pub held_more : (key : List ℕ) (xs : List (List ℕ × Held)) (i : ℕ)
    → option_map_or (λ (h : Held). Some h) (held_of key (take i xs)) (option_and_then (held_by key) (slice_get xs i)) ≡ held_of key (take (i + 1) xs)
held_more key xs i = rw add-one (by xs i)
  where
    one : (b : Bool) (h : Held) → cond b (Some h) None ≡ cond b (Some h) None
    one b h = refl

    later : (b : Bool) (h : Held) (before with_it : Option Held) (o : Option Held) → option_map_or (λ (k : Held). Some k) before o ≡ with_it
        → option_map_or (λ (k : Held). Some k) (cond b (Some h) before) o ≡ cond b (Some h) with_it
    later true h before with_it o e = refl
    later false h before with_it o e = e

    by : (ys : List (List ℕ × Held)) (j : ℕ)
        → option_map_or (λ (h : Held). Some h) (held_of key (take j ys)) (option_and_then (held_by key) (slice_get ys j)) ≡ held_of key (take (suc j) ys)
    by [] zero = refl
    by [] (suc j) = refl
    by (y ∷ ys) zero = one (bytes_eq y.0 key) y.1
    by (y ∷ ys) (suc j) =
        later (bytes_eq y.0 key) y.1 (held_of key (take j ys)) (held_of key (take (suc j) ys)) (option_and_then (held_by key) (slice_get ys j)) (by ys j)

-- ---- one more within a list

-- what is made of each
pub map_put : {X Y : Type 0} (f : X → Y) (xs : List X) (i : ℕ) (y : X) → map f (insert xs i y) ≡ insert (map f xs) i (f y)
map_put {X} {Y} f xs i y =
    map-append f (take i xs) (y ∷ drop i xs) ∙ ap₂ (λ (front back : List Y). front ++ (f y ∷ back)) (sym (take-map f i xs)) (sym (drop-map f i xs))

-- ---- places that are numbered

module _ (held : List (List ℕ × Held)) where
  numbered_next : (n : ℕ) (xs : List (List ℕ × Sums)) (i : ℕ)
      → numbered_from held n (take (suc i) xs) ≡ numbered_from held n (take i xs) ++ option_map_or (λ (x : List ℕ × Sums). place_at held (i + n) x ∷ []) (slice_get xs i) []
  numbered_next n [] zero = refl
  numbered_next n [] (suc i) = refl
  numbered_next n (x ∷ xs) zero = let same : n ≡ 0 + n = omega arith in ap (λ (k : ℕ). place_at held k x ∷ []) same
  numbered_next n (x ∷ xs) (suc i) =
      let same : i + (n + 1) ≡ suc i + n = omega arith in
      ap (λ ys. place_at held n x ∷ ys)
      (numbered_next (n + 1) xs i ∙ ap (λ k. numbered_from held (n + 1) (take i xs) ++ option_map_or (λ (y : List ℕ × Sums). place_at held k y ∷ []) (slice_get xs i) []) same)

  -- places in their order, up to one, and that one
  pub place_more : (xs : List (List ℕ × Sums)) (i : ℕ)
      → fold put_in [] (numbered_from held 0 (take (i + 1) xs))
      ≡ option_map_or (λ x. put_in (fold put_in [] (numbered_from held 0 (take i xs))) (place_at held i x)) (slice_get xs i) (fold put_in [] (numbered_from held 0 (take i xs)))
  place_more xs i = rw add-one (ap (fold put_in []) (numbered_next 0 xs i) ∙ by (slice_get xs i))
    where
      by : (o : Option (List ℕ × Sums)) → fold put_in [] (numbered_from held 0 (take i xs) ++ option_map_or (λ (x : List ℕ × Sums). place_at held (i + 0) x ∷ []) o [])
          ≡ option_map_or (λ x. put_in (fold put_in [] (numbered_from held 0 (take i xs))) (place_at held i x)) o (fold put_in [] (numbered_from held 0 (take i xs)))
      by None = ap (fold put_in []) (append-nil (numbered_from held 0 (take i xs)))
      by (Some x) =
          let same : i + 0 ≡ i = omega arith in
          fold-append put_in [] (numbered_from held 0 (take i xs)) (place_at held (i + 0) x ∷ [])
          ∙ ap (λ k. put_in (fold put_in [] (numbered_from held 0 (take i xs))) (place_at held k x)) same

  numbered_append : (n : ℕ) (xs ys : List (List ℕ × Sums)) → numbered_from held n (xs ++ ys) ≡ numbered_from held n xs ++ numbered_from held (length xs + n) ys
  numbered_append n [] ys = let same : n ≡ 0 + n = omega arith in ap (λ (k : ℕ). numbered_from held k ys) same
  numbered_append n (x ∷ xs) ys =
      let same : length xs + (n + 1) ≡ suc (length xs) + n = omega arith in
      ap (λ zs. place_at held n x ∷ zs) (numbered_append (n + 1) xs ys ∙ ap (λ k. numbered_from held (n + 1) xs ++ numbered_from held k ys) same)

  -- and the one more
  pub place_rest : (sites : LimitedView Sums)
      → option_map_or (λ s. put_in (fold put_in [] (numbered_from held 0 sites.first)) (place_at held (length sites.first) (more_site, s))) sites.rest (fold put_in [] (numbered_from held 0 sites.first))
      ≡ fold put_in [] (numbered_from held 0 (listed sites))
  place_rest sites = by sites.rest ∙ ap (fold put_in []) (sym (numbered_append 0 sites.first (more_of sites.rest)))
    where
      by : (o : Option Sums)
          → option_map_or (λ s. put_in (fold put_in [] (numbered_from held 0 sites.first)) (place_at held (length sites.first) (more_site, s))) o (fold put_in [] (numbered_from held 0 sites.first))
          ≡ fold put_in [] (numbered_from held 0 sites.first ++ numbered_from held (length sites.first + 0) (more_of o))
      by None = ap (fold put_in []) (sym (append-nil (numbered_from held 0 sites.first)))
      by (Some s) =
          let same : length sites.first ≡ length sites.first + 0 = omega arith in
          ap (λ k. put_in (fold put_in [] (numbered_from held 0 sites.first)) (place_at held k (more_site, s))) same
          ∙ sym (fold-append put_in [] (numbered_from held 0 sites.first) (place_at held (length sites.first + 0) (more_site, s) ∷ []))
