-- Attribute values in words. Inner: no crate above cites it.
use Rattle.std.specs.Prelude.{ℕ, ◌+◌, ◌-◌, ◌*◌, ◌^◌, Bool, true, false, if◌then◌else◌, List, ◌++◌, length, map, replicate}
use Rattle.std.specs.List.{list_all}
use Rattle.std.specs.Int.{w64, cast_unsigned}
use Rattle.tk_core.specs.Attributes.{is_i64}
use Rattle.tk_core.specs.Words.{number_of_bits}
use Rattle.tk_ids.specs.declared.attr.AttrValue.{AttrValue}
use Rattle.tk_ids.specs.declared.attr.AttrValue.TheVariants as values

-- a value's word
abbrev pub attr_word : AttrValue → ℕ
attr_word (values.U64 n) = n
attr_word (values.Bool b) = if b then 1 else 0
attr_word (values.I64 n) = cast_unsigned w64 n

-- whether a value's word tells it from every other of its kind: 64 bits hold it
abbrev pub fits_word : AttrValue → Bool
fits_word (values.U64 n) = true
fits_word (values.Bool b) = true
fits_word (values.I64 n) = is_i64 n

abbrev pub fit_words : List AttrValue → Bool
fit_words attrs = list_all fits_word attrs

-- whether a value is a `Bool`
abbrev pub is_bool : AttrValue → Bool
is_bool (values.U64 n) = false
is_bool (values.Bool b) = true
is_bool (values.I64 n) = false

-- whether a value is an `I64`
abbrev pub is_signed : AttrValue → Bool
is_signed (values.U64 n) = false
is_signed (values.Bool b) = false
is_signed (values.I64 n) = true

-- bits 8 to 10: how many attributes there are; from bit 16: which of them are `Bool`; from bit 24: which are `I64`
abbrev pub attr_flags : List AttrValue → ℕ
attr_flags attrs = 2 ^ 8 * length attrs + 2 ^ 16 * number_of_bits (map is_bool attrs) + 2 ^ 24 * number_of_bits (map is_signed attrs)

-- the words of the values, and zeros up to six
abbrev pub attr_words : List AttrValue → List ℕ
attr_words attrs = map attr_word attrs ++ replicate (6 - length attrs) 0
