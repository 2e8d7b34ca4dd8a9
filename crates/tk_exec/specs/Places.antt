-- Inner: values that are kept under keys, in the order of a list of keys, and tasks that are kept so under their ids. No public clause cites this module.
use Rattle.std.specs.Prelude.{◌≡◌, ℕ, ◌<◌, ◌≤◌, List, length, map, Option, Some, None, IsSome, slice_index_or, slice_get, filter_map}
use Rattle.std.specs.Map.{keys_of, values_of}
use Rattle.tk_exec.specs.Seats.{Seat, unfinished}

module _ {T : Type 0} where
  -- the value at a key, if it has one
  abbrev pub value_at : List (Option T) → ℕ → Option T
  value_at slots key = slice_index_or slots key None

  -- the values of these keys, in their order
  abbrev pub values_at : List (Option T) → List ℕ → List T
  values_at slots keys = filter_map (value_at slots) keys

  -- each key has a value, and no key stands twice
  pub record AreKept (slots : List (Option T)) (keys : List ℕ) : Type 0 where
    pub kept : (i : ℕ) → i < length keys → IsSome (value_at slots (slice_index_or keys i 0))
    pub apart : (i j : ℕ) → i < length keys → j < length keys → slice_index_or keys i 0 ≡ slice_index_or keys j 0 → i ≡ j

module _ {W A : Type 0} where
  -- the ids of tasks, in their order
  abbrev pub ids_of : List (Seat W A) → List ℕ
  ids_of seats = map (λ seat. seat.task.id) seats

  -- the task of this id stands at this place, and no other has its id
  pub record IsOnlyAt (seats : List (Seat W A)) (id place : ℕ) : Type 0 where
    pub seat : Seat W A
    pub stands : slice_get seats place ≡ Some seat
    pub named : seat.task.id ≡ id
    pub only : (i : ℕ) (other : Seat W A) → slice_get seats i ≡ Some other → other.task.id ≡ id → i ≡ place

  -- the tasks are kept under the keys that stand under their ids, the next turn begins at one of their places or after them, and those that are not finished are counted
  pub record AreOrdered (slots : List (Option (Seat W A))) (order : List (ℕ × ℕ)) (next count : ℕ) : Type 0 where
    pub kept : AreKept slots (values_of order)
    pub named : keys_of order ≡ ids_of (values_at slots (values_of order))
    pub within : next ≤ length order
    pub counted : count ≡ unfinished (values_at slots (values_of order))
