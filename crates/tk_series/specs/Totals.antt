-- What a number of the values of series adds up to.
use Rattle.std.specs.Prelude.{◌≡◌, ◌≤◌, ℕ, ◌+◌, min, List, [], ◌∷◌, sum_by, if◌then◌else◌}
use Rattle.std.specs.Str.{bytes_eq}

-- the number of two values that are added up is the sum of theirs, and stays at the most that there is
abbrev pub AddsUp : {V : Type 0} → ℕ → (V → V → V) → (V → ℕ) → Type 0
AddsUp {V} most plus number = (a b : V) → number (plus a b) ≡ min (number a + number b) most

-- no value has a number above the most that there is
abbrev pub AreWithin : {V : Type 0} → ℕ → (V → ℕ) → List (List ℕ × V) → Type 0
AreWithin most number [] = Unit {0}
AreWithin most number (x ∷ xs) = (number x.1 ≤ most) × AreWithin most number xs

-- the number that series show of some labels; 0 where they have none of these
abbrev pub shown_at : {V : Type 0} → (V → ℕ) → List ℕ → List (List ℕ × V) → ℕ
shown_at number labels [] = 0
shown_at number labels (x ∷ xs) = if bytes_eq labels x.0 then number x.1 else shown_at number labels xs

-- the number of a value that has these labels, and else 0
abbrev pub number_at : {V : Type 0} → (V → ℕ) → List ℕ → List ℕ × V → ℕ
number_at number labels x = if bytes_eq labels x.0 then number x.1 else 0

-- the sum of the numbers of all values that have these labels
abbrev pub sum_at : {V : Type 0} → (V → ℕ) → List ℕ → List (List ℕ × V) → ℕ
sum_at number labels xs = sum_by (number_at number labels) xs
