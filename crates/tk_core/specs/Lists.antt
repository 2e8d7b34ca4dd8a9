-- Words on lists: what a function picks of a list, and totals that stop at 2^64 - 1.
use Rattle.std.specs.Prelude.{ℕ, ◌+◌, ◌-◌, ◌^◌, min, max, Bool, List, [], ◌∷◌, ◌++◌, length, filter, sum_by, Option, Some, None, unwrap_or}
use Rattle.std.specs.List.{list_any, after_last, filter_map, last_or}

-- a number of each item, added up
abbrev pub total : {X : Type 0} → (X → ℕ) → List X → ℕ
total f [] = 0
total f (x ∷ xs) = f x + total f xs

-- a count or a sum stays at the greatest `u64` once it is there
abbrev pub capped : ℕ → ℕ
capped n = min n (2 ^ 64 - 1)

-- each item of the second list with those before it; the first list stands before all of them
abbrev pub each_after : {X : Type 0} → List X → List X → List (List X × X)
each_after before [] = []
each_after before (x ∷ xs) = (before, x) ∷ each_after (before ++ x ∷ []) xs

-- each item with those before it
abbrev pub each_with_before : {X : Type 0} → List X → List (List X × X)
each_with_before xs = each_after [] xs

-- the first item, if there is one
abbrev pub first : {X : Type 0} → List X → Option X
first [] = None
first (x ∷ xs) = Some x

-- the last item, if there is one
abbrev pub last : {X : Type 0} → List X → Option X
last xs = last_or None xs

-- the greatest number, if there is one
abbrev pub greatest : List ℕ → Option ℕ
greatest [] = None
greatest (n ∷ ns) = Some (max n (unwrap_or (greatest ns) 0))

-- how many items pass the test, capped
unfoldable pub count_of : {X : Type 0} → (X → Bool) → List X → ℕ
count_of test xs = capped (length (filter test xs))

-- the first of what `f` picks
unfoldable pub first_of : {X Y : Type 0} → (X → Option Y) → List X → Option Y
first_of f xs = first (filter_map f xs)

-- the last of what `f` picks
unfoldable pub last_of : {X Y : Type 0} → (X → Option Y) → List X → Option Y
last_of f xs = last (filter_map f xs)

-- the greatest of what `f` picks
unfoldable pub greatest_of : {X : Type 0} → (X → Option ℕ) → List X → Option ℕ
greatest_of f xs = greatest (filter_map f xs)

-- whether an item passes the test
unfoldable pub any_of : {X : Type 0} → (X → Bool) → List X → Bool
any_of test xs = list_any test xs

-- whether an item passes the test after the last that passes the mark (after the start, where none does)
unfoldable pub any_since : {X : Type 0} → (X → Bool) → (X → Bool) → List X → Bool
any_since test mark xs = list_any test (after_last mark xs)

-- the sum of a measure of each item and those before it, capped
unfoldable pub sum_of : {X : Type 0} → (List X → X → ℕ) → List X → ℕ
sum_of measure xs = capped (sum_by (λ p. measure p.0 p.1) (each_with_before xs))

-- the sum of such a measure over the items after the last that passes the mark (after the start, where none does), at most a greatest number
unfoldable pub sum_since : {X : Type 0} → (List X → X → ℕ) → (X → Bool) → ℕ → List X → ℕ
sum_since measure mark most xs = min (sum_by (λ p. measure p.0 p.1) (after_last (λ p. mark p.1) (each_with_before xs))) most
