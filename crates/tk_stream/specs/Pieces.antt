-- Pieces of a text: put after what is written, and taken from the front of what is read.
use Rattle.std.specs.Prelude.{◌≡◌, ℕ, List, [], ◌∷◌, ◌++◌, length, codes, Bool, not, ◌==◌, ◌||◌, Option, Some, None}
use Rattle.serde_json.specs.Data.{Members, string}
use Rattle.tk_ids.specs.declared.info.OpInfo.{OpInfo}
use Rattle.tk_ids.specs.declared.info.ResourceInfo.{ResourceInfo}
use Rattle.tk_stream.specs.Spelling.{members_in, number_data, optional_data, location_data}

-- the piece was put after what was written
pub record Puts (old new piece : List ℕ) : Type 0 where
  pub is : new ≡ old ++ piece

-- the text, which ends in a list, was put after what was written, all but the bracket that closes the list
pub record PutsOpen (old new text : List ℕ) : Type 0 where
  pub is : new ++ 93 ∷ [] ≡ old ++ text

-- the piece was taken from the front of the bytes, and the rest is left
pub record Takes (bytes piece rest : List ℕ) : Type 0 where
  pub is : bytes ≡ piece ++ rest

-- a byte that has a backslash before it in a text: a quote or a backslash
abbrev pub is_escaped : ℕ → Bool
is_escaped b = (b == 34) || (b == 92)

-- a byte that stands for itself
abbrev pub is_plain : ℕ → Bool
is_plain b = not (is_escaped b)

-- how many bytes a unit has
abbrev pub unit_length : Option (List ℕ) → ℕ
unit_length None = 0
unit_length (Some unit) = length unit

-- the members of a resource's info after its attributes
abbrev pub resource_after_attrs : ResourceInfo → Members
resource_after_attrs r = members_in (
    (codes "id", number_data r.id) ∷
    (codes "kind", string r.kind) ∷
    (codes "loc", location_data r.location) ∷
    (codes "parent", optional_data r.parent) ∷
    (codes "type", string r.concrete) ∷ [])

-- the members of an operation's info after its attributes
abbrev pub op_after_attrs : OpInfo → Members
op_after_attrs o = members_in (
    (codes "id", number_data o.id) ∷
    (codes "parent", optional_data o.parent) ∷
    (codes "resource", number_data o.resource) ∷
    (codes "source", string o.source) ∷ [])
