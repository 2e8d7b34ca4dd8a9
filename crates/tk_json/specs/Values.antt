-- What is read from tokens, as `serde_json` reads it: the value, and the tokens after it. `None` where no value comes next, or one that
-- nests too deep, or one with a number that is too large.
use Rattle.std.specs.Prelude.{ℕ, List, length, Option, option_map}
use Rattle.json.specs.Token.{Token}
use Rattle.json.specs.Json.{Parse, value, items, members}
use Rattle.serde_json.specs.Data.{Data, Items, Members}
use Rattle.serde_json.specs.Read.{of_json, of_items, of_members, converted}

-- the value that is next, where arrays and objects nest no deeper than this
abbrev pub value_read : ℕ → Parse Data
value_read depth ts = converted of_json (value depth ts)

-- the items of an array that are left, after its bracket
abbrev pub items_read : ℕ → Parse Items
items_read depth ts = converted of_items (items (value depth) (length ts) ts)

-- the members of an object, of which these have been read and the rest comes next. Of two values at one key the later stays
abbrev pub members_read : Members → ℕ → Parse Members
members_read held depth ts = converted (λ ms. of_members ms held) (members (value depth) (length ts) ts)

-- the tokens after what was read
abbrev pub rest : {A : Type 0} → Option (A × List Token) → Option (List Token)
rest found = option_map (λ p. p.1) found
