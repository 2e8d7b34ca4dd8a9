-- What places and findings of two streams are compared by.
use Rattle.std.specs.Prelude.{ℕ, List, Vec, filter, map, not, if◌then◌else◌}
use Rattle.tk_odd.specs.Places.{without_numbers}
use Rattle.tk_series.specs.Series.{is_seen}

-- the texts of names that are kept
abbrev pub texts : {A : Type 0} → List (Vec ℕ A) → List (List ℕ)
texts names = map (λ v. v.items) names

-- the names of a stream that another doesn't have
abbrev pub alone : List (List ℕ) → List (List ℕ) → List (List ℕ)
alone others own = filter (λ name. not (is_seen others name)) own

-- the names of the other stream that this one doesn't have, but for their numbers
abbrev pub loosened : List (List ℕ) → List (List ℕ) → List (List ℕ)
loosened own others = map without_numbers (alone own others)

-- what a name is compared by: by itself if the other stream has it, and but for its numbers if it is then one of these; else by itself
abbrev pub by_loose : List (List ℕ) → List (List ℕ) → List ℕ → List ℕ
by_loose loose others name = if is_seen others name then name else if is_seen loose (without_numbers name) then without_numbers name else name

-- what a name of a stream is compared by, beside the names of the other: by itself if both have it. A name that the other doesn't have is compared but for
-- its numbers, if the other has such a name that this one doesn't have: so a place whose line has moved in its file is the same place. Else it is by itself
abbrev pub compared_by : List (List ℕ) → List (List ℕ) → List ℕ → List ℕ
compared_by own others name = by_loose (loosened own others) others name
