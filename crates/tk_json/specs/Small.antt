-- What is kept of a value: a few of its levels, and no array or object that is too wide. Memory for it has a bound.
use Rattle.std.specs.Prelude.{◌≡◌, ◌<◌, ◌≤◌, ◌==◌, ℕ, zero, suc, List, nat_le, if◌then◌else◌, Bool, true, false, Option, Some, None, option_map, option_and_then}
use Rattle.std.specs.Option.{option_map_or}
use Rattle.json.specs.Json.{Parse, parse_map}
use Rattle.serde_json.specs.Data.{Data, null, boolean, number, string, array, object, Items, no_items, item, Members, no_members, member}
use Rattle.serde_json.specs.Events.{items_len, members_len}
use Rattle.serde_json.specs.Find.{get, as_number, as_str, as_bool, as_array, as_object}
use Rattle.tk_json.specs.Values.{value_read}

-- the most items that an array has which is kept
abbrev pub widest_array : ℕ
widest_array = 14

-- the most members that an object has which is kept
abbrev pub widest_object : ℕ
widest_object = 17

-- what stands for an array or an object that isn't kept
abbrev pub nothing : Data
nothing = object no_members

-- an array of so many items, of which this is kept
abbrev pub array_within : ℕ → Items → Data
array_within count kept = if nat_le count widest_array then array kept else nothing

-- an object of so many members, of which this is kept
abbrev pub object_within : ℕ → Members → Data
object_within count kept = if nat_le count widest_object then object kept else nothing

-- a value, so many levels deep
abbrev mutual
  pub small : Data → ℕ → Data
  small null n = null
  small (boolean b) n = boolean b
  small (number x) n = number x
  small (string s) n = string s
  small (array ds) zero = nothing
  small (array ds) (suc n) = array_within (items_len ds) (small_items ds n)
  small (object ms) zero = nothing
  small (object ms) (suc n) = object_within (members_len ms) (small_members ms n)

  pub small_items : Items → ℕ → Items
  small_items no_items n = no_items
  small_items (item d ds) n = item (small d n) (small_items ds n)

  pub small_members : Members → ℕ → Members
  small_members no_members n = no_members
  small_members (member k d ms) n = member k (small d n) (small_members ms n)

-- the value that is next, so many levels deep, and the tokens after it
abbrev pub small_read : ℕ → ℕ → Parse Data
small_read levels depth ts = parse_map (λ d. small d levels) (value_read depth ts)

-- ---- what a small value says

-- the items of an array that isn't too wide
abbrev pub few : Items → Option Items
few ds = if nat_le (items_len ds) widest_array then Some ds else None

-- an object with so many members
abbrev pub has_count : ℕ → Data → Bool
has_count n d = option_map_or (λ ms. members_len ms == n) (as_object d) false

-- a value of which so many levels are kept, one at least, has the same number, text and flag
abbrev pub KeepsScalars : Data → ℕ → Type 0
KeepsScalars d n = (as_number (small d n) ≡ as_number d) × (as_str (small d n) ≡ as_str d) × (as_bool (small d n) ≡ as_bool d)

-- an object that isn't too wide has as many members, and at each key what stood there, with one level less
abbrev pub KeepsMembers : Data → ℕ → Type 0
KeepsMembers d n = (count : ℕ) → 0 < count → count ≤ widest_object
    → (has_count count (small d (suc n)) ≡ has_count count d)
    × (has_count count d ≡ true → (key : List ℕ) → get key (small d (suc n)) ≡ option_map (λ e. small e n) (get key d))

-- an array that isn't too wide has its items, with one level less
abbrev pub KeepsItems : Data → ℕ → Type 0
KeepsItems d n = as_array (small d (suc n)) ≡ option_map (λ ds. small_items ds n) (option_and_then few (as_array d))
