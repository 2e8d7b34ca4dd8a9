-- Where an item stands in its list.
use Rattle.std.specs.Prelude.{ℕ, ◌==◌, List, map, position, Option}

-- the place of the item with an id, counted from 0, where `id_of` is an item's id
abbrev pub place_with : {Item : Type 0} → (Item → ℕ) → ℕ → List Item → Option ℕ
place_with id_of id items = position (λ n. id == n) (map id_of items)
