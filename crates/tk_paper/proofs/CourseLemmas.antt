-- Items of a list, a multiple of a number apart.
use Rattle.std.proofs.Common.{◌≡◌, ℕ, zero, suc, ◌+◌, ◌*◌, ◌-◌, ◌^◌, ◌≤◌, ◌<◌, ◌⊎◌, inl, inr, ⊎_elim, List, [], ◌∷◌, ◌++◌, length, get_or, min, Bool, true, false, cond, nat_eq, refl, ap, sym, ◌∙◌, arith, subst, length-append}
use Rattle.std.specs.Prelude.{fold}
use Rattle.std.proofs.lemmas.Bool.{eqb-false, eqb-true}
use Rattle.std.proofs.lemmas.List.{ext_get_or, get_or_append_left, get_or_past}
use Rattle.std.proofs.Math.Seq.{get_or-append_seam}
use Rattle.std.proofs.Math.Nat.{eq-or-lt_of_le}
use Rattle.std.proofs.lemmas.Nat.{mul-le}
use Rattle.tk_paper.specs.Courses.{CourseView, IsCourse, KeepsEach, every_second, with_item, with_kept, with_room}

-- a number's next multiple
next : (i k : ℕ) → suc i * k ≡ i * k + k
next i k = grind arith

-- a multiple that is below another leaves room for one more
room : (i n k : ℕ) → i < n → i * k + k ≤ n * k
room i n k h = subst (λ m. m ≤ n * k) (next i k) (mul-le (suc i) k n k (omega (arith, h)) (omega arith))

-- an item of a course is an item of the list
within : (i n k len skip : ℕ) → i < n → len + skip ≡ n * k → skip < k → i * k < len
within i n k len skip h come short = let r = room i n k h in omega (arith, r, come, short)

-- the same, of a sum
next-add : (n k : ℕ) → (n + 1) * k ≡ n * k + k
next-add n k = grind arith

dite_lt : (i n : ℕ) → i < n + 1 → (i < n) ⊎ (i ≡ n)
dite_lt i n h = ⊎_elim inr inl (eq-or-lt_of_le (omega (arith, h)))

module _ {A : Type 0} (xs kept : List A) (every skip : ℕ) (x : A) where
  -- an item that is not kept
  pub skips : (less : ℕ) → suc less ≡ skip → KeepsEach xs kept every skip → KeepsEach (xs ++ x ∷ []) kept every less
  skips less is c = record {
    few = c.few;
    many = c.many;
    each = λ d i h. c.each d i h ∙ sym (get_or_append_left xs (x ∷ []) d (i * every) (within i (length kept) every (length xs) skip h c.come c.short));
    come = let l = length-append xs (x ∷ []) in omega (arith, l, is, c.come);
    short = omega (arith, is, c.short);
  }

-- two times a multiple
twice : (i k : ℕ) → 2 * i * k ≡ i * (2 * k)
twice i k = grind arith

module _ {A : Type 0} (xs kept now : List A) (every : ℕ) where
  -- every second item is let go
  pub thins : length kept ≡ 64 → length now ≡ 32 → ((d : A) (i : ℕ) → i < 32 → get_or now i d ≡ get_or kept (2 * i) d) → 1 ≤ every
      → KeepsEach xs kept every 0 → KeepsEach xs now (2 * every) 0
  thins full half moved some c = record {
    few = omega (arith, half);
    many = λ more. omega (arith, half);
    each = λ d i h. moved d i (omega (arith, h, half)) ∙ c.each d (2 * i) (omega (arith, h, half, full)) ∙ ap (λ n. get_or xs n d) (twice i every);
    come = let e : length xs + 0 ≡ 64 * every = c.come ∙ ap (λ n. n * every) full in rw half (omega (arith, e));
    short = omega (arith, some);
  }

  -- so few items have no great number between two
  pub bounded : length xs ≤ 2 ^ 62 → length kept ≡ 64 → KeepsEach xs kept every 0 → every ≤ 2 ^ 56
  bounded few full c = let e : length xs + 0 ≡ 64 * every = c.come ∙ ap (λ n. n * every) full in omega (arith, e, few)

module _ {A : Type 0} (xs kept : List A) (every : ℕ) (x : A) where
  all_of : KeepsEach xs kept every 0 → length xs ≡ length kept * every
  all_of c = omega (arith, c.come)

  each_of : KeepsEach xs kept every 0 → 1 ≤ every → (d : A) (i : ℕ) → (i < length kept) ⊎ (i ≡ length kept)
      → get_or (kept ++ x ∷ []) i d ≡ get_or (xs ++ x ∷ []) (i * every) d
  each_of c some d i (inl h) =
      get_or_append_left kept (x ∷ []) d i h
      ∙ c.each d i h
      ∙ sym (get_or_append_left xs (x ∷ []) d (i * every) (within i (length kept) every (length xs) 0 h c.come c.short))
  each_of c some d i (inr h) =
      ap (λ n. get_or (kept ++ x ∷ []) n d) h
      ∙ get_or-append_seam kept x [] d
      ∙ sym (get_or-append_seam xs x [] d)
      ∙ ap (λ n. get_or (xs ++ x ∷ []) n d) (all_of c ∙ ap (λ n. n * every) (sym h))

  last_or_before : (i n : ℕ) → i < n + 1 → (i < n) ⊎ (i ≡ n)
  last_or_before i n h = dite_lt i n h

  -- an item that is kept
  pub keeps : length kept ≤ 63 → 1 ≤ every → KeepsEach xs kept every 0 → (less : ℕ) → less ≡ every - 1 → KeepsEach (xs ++ x ∷ []) (kept ++ x ∷ []) every less
  keeps room some c less is = record {
    few = let l = length-append kept (x ∷ []) in omega (arith, l, room);
    many = λ more. let l = length-append kept (x ∷ []) in let enough = c.many more in omega (arith, l, enough);
    each = λ d i h. each_of c some d i (last_or_before i (length kept) (subst (λ n. i < n) (length-append kept (x ∷ [])) h));
    come = let a = length-append xs (x ∷ []) in let b = length-append kept (x ∷ []) in
        rw b (let e = next-add (length kept) every in omega (arith, a, e, is, some, c.come));
    short = omega (arith, is, some);
  }

-- ---- one item after the other

module _ {A : Type 0} where
  length_seconds : (n : ℕ) (xs : List A) → length xs ≡ 2 * n → length (every_second xs) ≡ n
  length_seconds n [] e = omega (arith, e)
  length_seconds n (x ∷ []) e = absurd (omega (arith, e))
  length_seconds n (x ∷ y ∷ xs) e = let r = length_seconds (n - 1) xs (omega (arith, e)) in omega (arith, r, e)

  get_seconds : (xs : List A) (i : ℕ) (d : A) → get_or (every_second xs) i d ≡ get_or xs (2 * i) d
  get_seconds [] i d = get_or_past [] i d (omega arith) ∙ sym (get_or_past [] (2 * i) d (omega arith))
  get_seconds (x ∷ []) zero d = refl
  get_seconds (x ∷ []) (suc i) d = get_or_past (x ∷ []) (suc i) d (omega arith) ∙ sym (get_or_past (x ∷ []) (2 * suc i) d (omega arith))
  get_seconds (x ∷ y ∷ xs) zero d = refl
  get_seconds (x ∷ y ∷ xs) (suc i) d =
      let e : suc (suc (2 * i)) ≡ 2 * suc i = omega arith in
      get_seconds xs i d ∙ ap (λ n. get_or (x ∷ y ∷ xs) n d) e

  -- the items that stay where every second one is let go
  pub seconds : (kept now : List A) → length kept ≡ 64 → length now ≡ 32 → ((d : A) (i : ℕ) → i < 32 → get_or now i d ≡ get_or kept (2 * i) d) → now ≡ every_second kept
  seconds [] now full half moved = absurd (omega (arith, full))
  seconds (x ∷ xs) now full half moved =
      ext_get_or x now (every_second (x ∷ xs)) (half ∙ sym (length_seconds 32 (x ∷ xs) (omega (arith, full))))
      (λ i lt. moved x i (omega (arith, lt, half)) ∙ sym (get_seconds (x ∷ xs) i x))

  -- room is made
  pub roomed : (kept now : List A) (every skip twice : ℕ) → length kept ≡ 64 → now ≡ every_second kept → twice ≡ min (every * 2) (2 ^ 64 - 1)
      → record { kept = now; every = twice; skip = skip } ≡ with_room (record { kept = kept; every = every; skip = skip })
  roomed kept now every skip twice full is e = rw (full, is, e) refl

  abbrev before_next : CourseView A → ℕ → CourseView A
  before_next c n = record { kept = c.kept; every = c.every; skip = n }

  unkept : (c : CourseView A) (x : A) → 0 < c.skip → with_item c x ≡ before_next c (c.skip - 1)
  unkept c x some = by (nat_eq c.skip 0) refl
    where
      by : (b : Bool) → nat_eq c.skip 0 ≡ b → cond b (with_kept (with_room c) x) (before_next c (c.skip - 1)) ≡ before_next c (c.skip - 1)
      by true e = absurd (omega (arith, some, eqb-true c.skip 0 e))
      by false e = refl

  -- items that aren't kept
  pub passes : (xs : List A) (c : CourseView A) → length xs ≤ c.skip → before_next c (c.skip - length xs) ≡ fold with_item c xs
  passes [] c h = let e : c.skip - 0 ≡ c.skip = omega arith in ap (before_next c) e
  passes (x ∷ xs) c h =
      let less : c.skip - suc (length xs) ≡ c.skip - 1 - length xs = omega arith in
      ap (before_next c) less
      ∙ passes xs (before_next c (c.skip - 1)) (omega (arith, h))
      ∙ ap (λ (d : CourseView A). fold with_item d xs) (sym (unkept c x (omega (arith, h))))

  -- a course with room is one of the same items
  record HasRoom (xs : List A) (c : CourseView A) : Type 0 where
    room : length c.kept ≤ 63
    some : 1 ≤ c.every
    same : KeepsEach xs c.kept c.every 0

  room_is : (xs : List A) (c : CourseView A) → length xs ≤ 2 ^ 62 → c.skip ≡ 0 → IsCourse xs c → HasRoom xs (with_room c)
  room_is xs c few none h = by (nat_eq (length c.kept) 64) refl
    where
      all : KeepsEach xs c.kept c.every 0
      all = subst (λ s. KeepsEach xs c.kept c.every s) none h

      some : 1 ≤ c.every
      some = omega (arith, h.short)

      thinned : CourseView A
      thinned = record { kept = every_second c.kept; every = min (c.every * 2) (2 ^ 64 - 1); skip = c.skip }

      by : (b : Bool) → nat_eq (length c.kept) 64 ≡ b → HasRoom xs (cond b thinned c)
      by true e =
          let full = eqb-true (length c.kept) 64 e in
          let half = length_seconds 32 c.kept (omega (arith, full)) in
          let few_between = bounded xs c.kept (every_second c.kept) c.every few full all in
          let is : 2 * c.every ≡ min (c.every * 2) (2 ^ 64 - 1) = omega (arith, few_between) in
          record {
            room = omega (arith, half);
            some = omega (arith, is, some);
            same = subst (λ k. KeepsEach xs (every_second c.kept) k 0) is (thins xs c.kept (every_second c.kept) c.every full half (λ d i lt. get_seconds c.kept i d) some all);
          }
      by false e = record { room = omega (arith, h.few, eqb-false (length c.kept) 64 e); some = some; same = all }

  -- a course with one item more is that of the list with it
  pub with_item_is : (xs : List A) (c : CourseView A) (x : A) → length xs ≤ 2 ^ 62 → IsCourse xs c → IsCourse (xs ++ x ∷ []) (with_item c x)
  with_item_is xs c x few h = by (nat_eq c.skip 0) refl
    where
      by : (b : Bool) → nat_eq c.skip 0 ≡ b → IsCourse (xs ++ x ∷ []) (cond b (with_kept (with_room c) x) (before_next c (c.skip - 1)))
      by true e =
          let r = with_room c in
          let f = room_is xs c few (eqb-true c.skip 0 e) h in
          keeps xs r.kept r.every x f.room f.some f.same (r.every - 1) refl
      by false e = skips xs c.kept c.every c.skip x (c.skip - 1) (omega (arith, eqb-false c.skip 0 e)) h
