-- The last of items.
use Rattle.std.specs.Prelude.{ℕ, ◌-◌, List, drop, length}

-- the last so many
abbrev pub last_of : {X : Type 0} → ℕ → List X → List X
last_of n xs = drop (length xs - n) xs
