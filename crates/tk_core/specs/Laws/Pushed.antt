-- What one more item at the end does to the words of `specs/Words`.
use Rattle.std.proofs.Common.{◌≡◌, ℕ, ◌+◌, min, max, Bool, true, false, cond, List, [], ◌∷◌, ◌++◌, length, Option, Some, None, refl, ap, ◌∙◌, append_assoc, arith}
use Rattle.std.specs.Prelude.{filter, unwrap_or, sum_by, ◌&&◌, ◌||◌}
use Rattle.std.specs.Option.{option_or}
use Rattle.std.specs.List.{filter_map, last_or, cons_option}
use Rattle.std.proofs.lemmas.List.Folds.{list_any-append}
use Rattle.std.proofs.lemmas.List.Sums.{suffix_len-le-length}
use Rattle.std.proofs.Math.Seq.{drop-append-add}
use Rattle.std.proofs.lemmas.List.{reverse-append, drop-append-le}
use Rattle.std.specs.List.{list_any, after_last, suffix_len, prefix_len}
use Rattle.std.proofs.Common.{◌≤◌, ◌-◌, drop}
use Rattle.std.specs.Prelude.{not}
use Rattle.std.proofs.lemmas.List.{append-nil, length-append}
use Rattle.std.proofs.lemmas.List.Elements.{filter-append, filter_map-append}
use Rattle.std.proofs.lemmas.List.Sums.{sum_by_push}
use Rattle.tk_core.specs.Lists.{any_of, any_since, capped, each_after, each_with_before, first, last, greatest, count_of, first_of, last_of, greatest_of, sum_of, sum_since}

pub or_false : (b : Bool) → (b || false) ≡ b
or_false true = refl
or_false false = refl

pub or_true : (b : Bool) → (b || true) ≡ true
or_true true = refl
or_true false = refl

-- one more item, after all others
pub each_after-append : {X : Type 0} (before xs ys : List X) → each_after before (xs ++ ys) ≡ each_after before xs ++ each_after (before ++ xs) ys
each_after-append before [] ys = rw append-nil
each_after-append before (x ∷ xs) ys = ap (λ ps. (before, x) ∷ ps) (each_after-append (before ++ x ∷ []) xs ys ∙ rw append_assoc)

pub each_push : {X : Type 0} (xs : List X) (x : X) → each_with_before (xs ++ x ∷ []) ≡ each_with_before xs ++ (xs, x) ∷ []
each_push xs x = each_after-append [] xs (x ∷ [])

pub last_or_push : {X : Type 0} (o : Option X) (xs : List X) (x : X) → last_or o (xs ++ x ∷ []) ≡ Some x
last_or_push o [] x = refl
last_or_push o (y ∷ ys) x = last_or_push (Some y) ys x

-- the greatest so far, and one more
abbrev pub larger : Option ℕ → Option ℕ → Option ℕ
larger o None = o
larger o (Some n) = Some (max (unwrap_or o 0) n)

greatest_push : (ns : List ℕ) (n : ℕ) → greatest (ns ++ n ∷ []) ≡ Some (max (unwrap_or (greatest ns) 0) n)
greatest_push [] n = ap (λ m. Some m) (omega arith)
greatest_push (m ∷ ms) n = rw (greatest_push ms n) (ap (λ k. Some k) (omega arith))

counted : {X : Type 0} (ys : List X) (b : Bool) (x : X) → capped (length (ys ++ cond b (x ∷ []) [])) ≡ cond b (capped (capped (length ys) + 1)) (capped (length ys))
counted ys true x = omega (arith, length-append ys (x ∷ []))
counted ys false x = rw append-nil

pub count_push : {X : Type 0} (test : X → Bool) (xs : List X) (x : X) → count_of test (xs ++ x ∷ []) ≡ cond (test x) (capped (count_of test xs + 1)) (count_of test xs)
unfolding count_of
count_push test xs x = rw filter-append (counted (filter test xs) (test x) x)

first_picked : {Y : Type 0} (ys : List Y) (o : Option Y) → first (ys ++ cons_option o []) ≡ option_or (first ys) o
first_picked [] None = refl
first_picked [] (Some y) = refl
first_picked (x ∷ xs) o = refl

last_picked : {Y : Type 0} (ys : List Y) (o : Option Y) → last (ys ++ cons_option o []) ≡ option_or o (last ys)
last_picked ys None = rw append-nil
last_picked ys (Some y) = last_or_push None ys y

greatest_picked : (ns : List ℕ) (o : Option ℕ) → greatest (ns ++ cons_option o []) ≡ larger (greatest ns) o
greatest_picked ns None = rw append-nil
greatest_picked ns (Some n) = greatest_push ns n

pub first_of_push : {X Y : Type 0} (f : X → Option Y) (xs : List X) (x : X) → first_of f (xs ++ x ∷ []) ≡ option_or (first_of f xs) (f x)
unfolding first_of
first_of_push f xs x = rw filter_map-append (first_picked (filter_map f xs) (f x))

pub last_of_push : {X Y : Type 0} (f : X → Option Y) (xs : List X) (x : X) → last_of f (xs ++ x ∷ []) ≡ option_or (f x) (last_of f xs)
unfolding last_of
last_of_push f xs x = rw filter_map-append (last_picked (filter_map f xs) (f x))

pub greatest_of_push : {X : Type 0} (f : X → Option ℕ) (xs : List X) (x : X) → greatest_of f (xs ++ x ∷ []) ≡ larger (greatest_of f xs) (f x)
unfolding greatest_of
greatest_of_push f xs x = rw filter_map-append (greatest_picked (filter_map f xs) (f x))

pub sum_push : {X : Type 0} (measure : List X → X → ℕ) (xs : List X) (x : X) → sum_of measure (xs ++ x ∷ []) ≡ capped (sum_of measure xs + measure xs x)
unfolding sum_of
sum_push measure xs x = rw (each_push xs x, sum_by_push (λ p. measure p.0 p.1) (each_with_before xs) (xs, x)) (omega arith)

cut : {X : Type 0} (xs : List X) (x : X) (passes : Bool) (n : ℕ) → n ≤ length xs → drop (length xs + 1 - cond (not passes) (1 + n) 0) (xs ++ x ∷ []) ≡ cond passes [] (drop (length xs - n) xs ++ x ∷ [])
cut xs x true n le =
    let e : length xs + 1 - 0 ≡ length xs + 1 = omega arith in
    rw (e, drop-append-add xs (x ∷ []) 1)
cut xs x false n le =
    let e : length xs + 1 - (1 + n) ≡ length xs - n = omega arith in
    rw e (drop-append-le (length xs - n) xs (x ∷ []) (omega arith))

-- what comes after the last that passes, after one more item
pub after_last_push : {X : Type 0} (test : X → Bool) (xs : List X) (x : X) → after_last test (xs ++ x ∷ []) ≡ cond (test x) [] (after_last test xs ++ x ∷ [])
after_last_push {X} test xs x =
    let fails = λ (y : X). not (test y) in
    let longer : length (xs ++ x ∷ []) ≡ length xs + 1 = length-append xs (x ∷ []) in
    let suffix : suffix_len fails (xs ++ x ∷ []) ≡ cond (fails x) (1 + suffix_len fails xs) 0 = ap (prefix_len fails) (reverse-append xs (x ∷ [])) in
    let at : length (xs ++ x ∷ []) - suffix_len fails (xs ++ x ∷ []) ≡ length xs + 1 - cond (fails x) (1 + suffix_len fails xs) 0 = ap (λ (n : ℕ). n - suffix_len fails (xs ++ x ∷ [])) longer ∙ ap (λ (n : ℕ). length xs + 1 - n) suffix in
    ap (λ (n : ℕ). drop n (xs ++ x ∷ [])) at ∙ cut xs x (test x) (suffix_len fails xs) (suffix_len-le-length fails xs)

pub any_of_push : {X : Type 0} (test : X → Bool) (xs : List X) (x : X) → any_of test (xs ++ x ∷ []) ≡ (any_of test xs || test x)
unfolding any_of
any_of_push test xs x = list_any-append test xs (x ∷ []) ∙ ap (λ b. list_any test xs || b) (or_false (test x))

since_push : {X : Type 0} (test : X → Bool) (ys : List X) (x : X) (marks : Bool) → list_any test (cond marks [] (ys ++ x ∷ [])) ≡ cond marks false (list_any test ys || test x)
since_push test ys x true = refl
since_push test ys x false = list_any-append test ys (x ∷ []) ∙ ap (λ b. list_any test ys || b) (or_false (test x))

pub any_since_push : {X : Type 0} (test mark : X → Bool) (xs : List X) (x : X) → any_since test mark (xs ++ x ∷ []) ≡ cond (mark x) false (any_since test mark xs || test x)
unfolding any_since
any_since_push test mark xs x = rw (after_last_push mark xs x) (since_push test (after_last mark xs) x (mark x))

-- nothing is added
pub sum_plus_zero : {X : Type 0} (measure : List X → X → ℕ) (xs : List X) → capped (sum_of measure xs + 0) ≡ sum_of measure xs
unfolding sum_of
sum_plus_zero measure xs = omega arith

since_mark : {Y : Type 0} (f : Y → ℕ) (ys : List Y) (y : Y) (marks : Bool) (most : ℕ) → min (sum_by f (cond marks [] (ys ++ y ∷ []))) most ≡ cond marks 0 (min (min (sum_by f ys) most + f y) most)
since_mark f ys y true most = omega arith
since_mark f ys y false most = rw (sum_by_push f ys y) (omega arith)

pub sum_since_push : {X : Type 0} (measure : List X → X → ℕ) (mark : X → Bool) (most : ℕ) (xs : List X) (x : X)
    → sum_since measure mark most (xs ++ x ∷ []) ≡ cond (mark x) 0 (min (sum_since measure mark most xs + measure xs x) most)
unfolding sum_since
sum_since_push {X} measure mark most xs x =
    rw (each_push xs x, after_last_push (λ (p : List X × X). mark p.1) (each_with_before xs) (xs, x)) (since_mark (λ (p : List X × X). measure p.0 p.1) (after_last (λ (p : List X × X). mark p.1) (each_with_before xs)) (xs, x) (mark x) most)

-- and here
pub since_plus_zero : {X : Type 0} (measure : List X → X → ℕ) (mark : X → Bool) (most : ℕ) (xs : List X) → min (sum_since measure mark most xs + 0) most ≡ sum_since measure mark most xs
unfolding sum_since
since_plus_zero measure mark most xs = omega arith

pub and_false : (b : Bool) → (b && false) ≡ false
and_false true = refl
and_false false = refl

pub and_true : (b : Bool) → (b && true) ≡ b
and_true true = refl
and_true false = refl

pub or_none : {Y : Type 0} (o : Option Y) → option_or o None ≡ o
or_none None = refl
or_none (Some y) = refl

-- what one more item does to every word
pub ruleset pushed = (any_of_push, any_since_push, or_false, or_true, count_push, first_of_push, last_of_push, greatest_of_push, sum_push, sum_plus_zero, sum_since_push, since_plus_zero, and_false, and_true, or_none)
