-- Series of which the first stand by themselves, and what all others add up to: so labels that vary without end make no series each.
use Rattle.std.specs.Prelude.{◌≡◌, ℕ, ◌+◌, List, [], ◌∷◌, ◌++◌, length, map, filter, fold, take, sum_by, not, nat_lt, ◌||◌, Option, Some, None, if◌then◌else◌}
use Rattle.std.specs.Option.{option_map_or}
use Rattle.tk_series.specs.Series.{is_seen, series_of, with_value}

-- how many may stand by themselves, those that do, and what all others add up to, if there are any
pub record LimitedView (V : Type 0) : Type 0 where
  pub room : ℕ
  pub first : List (List ℕ × V)
  pub rest : Option V

-- the labels of series, in their order
abbrev pub names_of : {V : Type 0} → List (List ℕ × V) → List (List ℕ)
names_of xs = map (λ x. x.0) xs

-- what values add up to, if there are any
abbrev pub all_of : {V : Type 0} → (V → V → V) → List V → Option V
all_of plus [] = None
all_of plus (v ∷ vs) = Some (fold plus v vs)

-- the values of what has none of these labels
abbrev pub values_beside : {V : Type 0} → List (List ℕ) → List (List ℕ × V) → List V
values_beside names xs = map (λ x. x.1) (filter (λ x. not (is_seen names x.0)) xs)

-- the first series of these values, as many as there is room for: their labels are the first that appear
abbrev pub first_of : {V : Type 0} → ℕ → (V → V → V) → List (List ℕ × V) → List (List ℕ × V)
first_of room plus xs = take room (series_of plus xs)

-- what all values add up to that find no room there, if there are any
abbrev pub rest_of : {V : Type 0} → ℕ → (V → V → V) → List (List ℕ × V) → Option V
rest_of room plus xs = all_of plus (values_beside (names_of (first_of room plus xs)) xs)

-- the series of these values, of which so many stand by themselves, and the rest
abbrev pub limited : {V : Type 0} → ℕ → (V → V → V) → List (List ℕ × V) → LimitedView V
limited room plus xs = record { room = room; first = first_of room plus xs; rest = rest_of room plus xs }

-- such series with a value more: it is added to the one with its labels, or goes last where there is room, or else to the rest
abbrev pub with_one : {V : Type 0} → (V → V → V) → List ℕ → V → LimitedView V → LimitedView V
with_one plus labels value s =
    if is_seen (names_of s.first) labels || nat_lt (length s.first) s.room
    then record { room = s.room; first = with_value plus labels value s.first; rest = s.rest }
    else record { room = s.room; first = s.first; rest = Some (option_map_or (λ rest. plus rest value) s.rest value) }

-- ---- what laws say

-- the sum of a number over all values, whatever their labels are
abbrev pub sum_of : {V : Type 0} → (V → ℕ) → List (List ℕ × V) → ℕ
sum_of number xs = sum_by (λ x. number x.1) xs

-- the number of the rest; 0 where there is none
abbrev pub rest_shown : {V : Type 0} → (V → ℕ) → LimitedView V → ℕ
rest_shown number s = option_map_or number s.rest 0

-- the sum of the number over all that is shown
abbrev pub all_shown : {V : Type 0} → (V → ℕ) → LimitedView V → ℕ
all_shown number s = sum_of number s.first + rest_shown number s

-- labels begin with these: each of these has its place among them, too
pub record Begins (front names : List (List ℕ)) : Type 0 where
  pub rest : List (List ℕ)
  pub whole : names ≡ front ++ rest
