-- What a script names by a number, from 1.
use Rattle.std.specs.Prelude.{ℕ, ◌-◌, List, Option, None, if◌then◌else◌, nat_lt, slice_get, slice_set, option_and_then}

-- what a number names, if it was made
abbrev pub made_item : {X : Type 0} → ℕ → List X → Option X
made_item n made = if nat_lt 0 n then slice_get made (n - 1) else None

-- what a number names, if it was made and isn't spent
abbrev pub live_item : {X : Type 0} → ℕ → List (Option X) → Option X
live_item n seats = option_and_then (λ o. o) (made_item n seats)

-- the items with another in the place of the one of a number
abbrev pub with_item : {X : Type 0} → ℕ → X → List X → List X
with_item n x made = slice_set made (n - 1) x
