-- How a table holds items: in slots, some of which are empty. No public clause cites this.
use Rattle.std.specs.Prelude.{ℕ, zero, suc, ◌+◌, ◌<◌, ◌≤◌, ◌==◌, List, [], ◌∷◌, length, slice_index, Option, Some, None, option_map, if◌then◌else◌}

-- the items of the slots that hold one, in order
abbrev pub items_in : {Item : Type 0} → List (Option Item) → List Item
items_in [] = []
items_in (None ∷ slots) = items_in slots
items_in (Some item ∷ slots) = item ∷ items_in slots

-- the item in a slot
abbrev pub item_at : {Item : Type 0} → List (Option Item) → ℕ → Option Item
item_at [] i = None
item_at (slot ∷ slots) zero = slot
item_at (slot ∷ slots) (suc i) = item_at slots i

-- the slot of the item with an id, where `id_of` is an item's id
abbrev pub slot_with : {Item : Type 0} → (Item → ℕ) → ℕ → List (Option Item) → Option ℕ
slot_with id_of id [] = None
slot_with id_of id (None ∷ slots) = option_map suc (slot_with id_of id slots)
slot_with id_of id (Some item ∷ slots) = if id == id_of item then Some zero else option_map suc (slot_with id_of id slots)

-- the slots that are empty, rising, where the first slot has this number
abbrev pub empty_from : {Item : Type 0} → ℕ → List (Option Item) → List ℕ
empty_from k [] = []
empty_from k (None ∷ slots) = k ∷ empty_from (suc k) slots
empty_from k (Some item ∷ slots) = empty_from (suc k) slots

-- each is above the one before it
abbrev pub AreRising : List ℕ → Type 0
AreRising empty = (i j : ℕ) → i ≤ j → j < length empty → slice_index empty i + j ≤ slice_index empty j + i

-- so many of the empty slots stand before this slot, and the others after it
pub record Stands (empty : List ℕ) (slot count : ℕ) : Type 0 where
  pub within : count ≤ length empty
  pub before : (j : ℕ) → j < count → slice_index empty j < slot
  pub after : (j : ℕ) → count ≤ j → j < length empty → slot < slice_index empty j
