-- Up to six attribute values, kept as words and kinds. Inner: no crate above cites it.
use Rattle.std.specs.Prelude.{◌≡◌, ℕ, ◌-◌, ◌≤◌, ◌==◌, Bool, true, false, Option, Some, None, List, [], ◌∷◌, ◌++◌, length, map, take, replicate}
use Rattle.std.specs.Int.{w64, cast_signed}
use Rattle.tk_core.specs.AttrWords.{attr_word, attr_words, fit_words}
use Rattle.tk_ids.specs.Attributes.{kind_of}
use Rattle.tk_ids.specs.declared.attr.AttrKind.{AttrKind}
use Rattle.tk_ids.specs.declared.attr.AttrKind.TheVariants as kinds
use Rattle.tk_ids.specs.declared.attr.AttrValue.{AttrValue}
use Rattle.tk_ids.specs.declared.attr.AttrValue.TheVariants as values
use Rattle.tk_core.specs.declared.attr_values.AttrValues.TheInside.{Inside}

-- a value by its word and its kind
abbrev pub value_by : ℕ → AttrKind → AttrValue
value_by word kinds.U64 = values.U64 word
value_by word kinds.Bool = values.Bool (word == 1)
value_by word kinds.I64 = values.I64 (cast_signed w64 word)

-- values by their words and kinds
abbrev pub values_by : List ℕ → List AttrKind → List AttrValue
values_by [] ks = []
values_by (w ∷ ws) [] = []
values_by (w ∷ ws) (k ∷ ks) = value_by w k ∷ values_by ws ks

-- the kinds of the values, and `U64` up to six
abbrev pub attr_kinds : List AttrValue → List AttrKind
attr_kinds attrs = map kind_of attrs ++ replicate (6 - length attrs) kinds.U64

-- the kind of a value, or `U64`
abbrev pub kind_or_u64 : Option AttrValue → AttrKind
kind_or_u64 None = kinds.U64
kind_or_u64 (Some value) = kind_of value

-- the kind that two bits name
abbrev pub kind_of_bits : Bool → Bool → AttrKind
kind_of_bits true signed = kinds.Bool
kind_of_bits false true = kinds.I64
kind_of_bits false false = kinds.U64

-- the word and the kind of a value that is kept; otherwise 0 and `U64`
abbrev pub kept_word : Bool → ℕ → AttrKind → ℕ
kept_word true word kind = attr_word (value_by word kind)
kept_word false word kind = 0

abbrev pub kept_kind : Bool → AttrKind → AttrKind
kept_kind true kind = kind
kept_kind false kind = kinds.U64

-- the values
abbrev pub view_of : Inside → List AttrValue
view_of a = take a.count (values_by a.words a.kinds)

-- the places that hold these values
abbrev pub fields_of : List AttrValue → Inside
fields_of vs = record { words = attr_words vs; kinds = attr_kinds vs; count = length vs }

-- at most six values, which words keep, and the places are those that hold them
abbrev pub IsPadded : Inside → Type 0
IsPadded a = (a.count ≤ 6) × ((fields_of (view_of a) ≡ a) × (fit_words (view_of a) ≡ true))

pub fields_of_view : (a : Inside) → IsPadded a → fields_of (view_of a) ≡ a
fields_of_view a h = h.1.0
