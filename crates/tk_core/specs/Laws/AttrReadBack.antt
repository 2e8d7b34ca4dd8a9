-- Attribute values are read back from their words.
use Rattle.std.proofs.Common.{◌≡◌, ℕ, ◌+◌, ◌*◌, ◌/◌, ◌%◌, ◌≤◌, Bool, true, false, cond, List, [], ◌∷◌, length, take, Option, Some, None, refl, ap, arith}
use Rattle.std.specs.Prelude.{◌==◌, map, slice_get}
use Rattle.std.specs.Int.{w64, cast_signed}
use Rattle.std.proofs.lemmas.Bool.{and_parts}
use Rattle.tk_core.specs.Words.{number_of_bits}
use Rattle.tk_core.specs.AttrWords.{attr_word, is_bool, is_signed, fits_word, fit_words, attr_words}
use Rattle.tk_core.specs.Laws.Signed.{signed_back}
use Rattle.tk_core.specs.Laws.WordsReadBack.{low_bit, high_bits}
use Rattle.tk_ids.specs.declared.attr.AttrValue.{AttrValue}
use Rattle.tk_ids.specs.declared.attr.AttrValue.TheVariants as values

-- a value by its kind and its word
abbrev pub attr_from : Bool → Bool → ℕ → AttrValue
attr_from true signed word = values.Bool (word == 1)
attr_from false true word = values.I64 (cast_signed w64 word)
attr_from false false word = values.U64 word

attr_back : (value : AttrValue) → fits_word value ≡ true → attr_from (is_bool value) (is_signed value) (attr_word value) ≡ value
attr_back (values.U64 n) kept = refl
attr_back (values.Bool true) kept = refl
attr_back (values.Bool false) kept = refl
attr_back (values.I64 n) kept = ap (λ m. values.I64 m) (signed_back n kept)

-- a word keeps the value at an index, if there is one
abbrev pub fits_word_or_none : Option AttrValue → Bool
fits_word_or_none None = true
fits_word_or_none (Some value) = fits_word value

-- the word at an index, or 0
abbrev pub word_or_zero : Option AttrValue → ℕ
word_or_zero None = 0
word_or_zero (Some value) = attr_word value

-- 1 where a `Bool` stands at an index
abbrev pub bool_bit : Option AttrValue → ℕ
bool_bit None = 0
bool_bit (Some value) = cond (is_bool value) 1 0

-- 1 where an `I64` stands at an index
abbrev pub sign_bit : Option AttrValue → ℕ
sign_bit None = 0
sign_bit (Some value) = cond (is_signed value) 1 0

-- the words and the bits of the kinds of at most six values
abbrev SixWords : List AttrValue → Type 0
SixWords attrs =
    (attr_words attrs
    ≡ word_or_zero (slice_get attrs 0) ∷ word_or_zero (slice_get attrs 1) ∷ word_or_zero (slice_get attrs 2) ∷ word_or_zero (slice_get attrs 3) ∷ word_or_zero (slice_get attrs 4) ∷ word_or_zero (slice_get attrs 5) ∷ [])
    × ((number_of_bits (map is_bool attrs)
    ≡ bool_bit (slice_get attrs 0) + 2 * bool_bit (slice_get attrs 1) + 4 * bool_bit (slice_get attrs 2) + 8 * bool_bit (slice_get attrs 3) + 16 * bool_bit (slice_get attrs 4) + 32 * bool_bit (slice_get attrs 5))
    × (number_of_bits (map is_signed attrs)
    ≡ sign_bit (slice_get attrs 0) + 2 * sign_bit (slice_get attrs 1) + 4 * sign_bit (slice_get attrs 2) + 8 * sign_bit (slice_get attrs 3) + 16 * sign_bit (slice_get attrs 4) + 32 * sign_bit (slice_get attrs 5)))

pub six_words : (attrs : List AttrValue) → length attrs ≤ 6 → SixWords attrs
six_words [] le = (refl, (refl, refl))
six_words (a ∷ []) le = (refl, (omega arith, omega arith))
six_words (a ∷ (b ∷ [])) le = (refl, (omega arith, omega arith))
six_words (a ∷ (b ∷ (c ∷ []))) le = (refl, (omega arith, omega arith))
six_words (a ∷ (b ∷ (c ∷ (d ∷ [])))) le = (refl, (omega arith, omega arith))
six_words (a ∷ (b ∷ (c ∷ (d ∷ (e ∷ []))))) le = (refl, (omega arith, omega arith))
six_words (a ∷ (b ∷ (c ∷ (d ∷ (e ∷ (f ∷ [])))))) le = (refl, (omega arith, omega arith))
six_words (a ∷ (b ∷ (c ∷ (d ∷ (e ∷ (f ∷ (g ∷ more))))))) le = absurd (omega arith)

bit_le : (b : Bool) → cond b 1 0 ≤ 1
bit_le true = omega arith
bit_le false = omega arith

-- six bits
pub six_bits : (test : AttrValue → Bool) (attrs : List AttrValue) → length attrs ≤ 6 → number_of_bits (map test attrs) ≤ 63
six_bits test [] le = omega arith
six_bits test (a ∷ []) le = let a-bit = bit_le (test a) in omega (arith, a-bit)
six_bits test (a ∷ (b ∷ [])) le = let a-bit = bit_le (test a) in let b-bit = bit_le (test b) in omega (arith, a-bit, b-bit)
six_bits test (a ∷ (b ∷ (c ∷ []))) le = let a-bit = bit_le (test a) in let b-bit = bit_le (test b) in let c-bit = bit_le (test c) in omega (arith, a-bit, b-bit, c-bit)
six_bits test (a ∷ (b ∷ (c ∷ (d ∷ [])))) le = let a-bit = bit_le (test a) in let b-bit = bit_le (test b) in let c-bit = bit_le (test c) in let d-bit = bit_le (test d) in omega (arith, a-bit, b-bit, c-bit, d-bit)
six_bits test (a ∷ (b ∷ (c ∷ (d ∷ (e ∷ []))))) le = let a-bit = bit_le (test a) in let b-bit = bit_le (test b) in let c-bit = bit_le (test c) in let d-bit = bit_le (test d) in let e-bit = bit_le (test e) in omega (arith, a-bit, b-bit, c-bit, d-bit, e-bit)
six_bits test (a ∷ (b ∷ (c ∷ (d ∷ (e ∷ (f ∷ [])))))) le = let a-bit = bit_le (test a) in let b-bit = bit_le (test b) in let c-bit = bit_le (test c) in let d-bit = bit_le (test d) in let e-bit = bit_le (test e) in let f-bit = bit_le (test f) in omega (arith, a-bit, b-bit, c-bit, d-bit, e-bit, f-bit)
six_bits test (a ∷ (b ∷ (c ∷ (d ∷ (e ∷ (f ∷ (g ∷ more))))))) le = absurd (omega arith)

-- six values by the bits of their kinds and their words
abbrev pub six_from : ℕ → ℕ → ℕ → ℕ → ℕ → ℕ → ℕ → ℕ → List AttrValue
six_from bools signs a b c d e f =
    attr_from (bools % 2 == 1) (signs % 2 == 1) a
    ∷ attr_from (bools / 2 % 2 == 1) (signs / 2 % 2 == 1) b
    ∷ attr_from (bools / 2 / 2 % 2 == 1) (signs / 2 / 2 % 2 == 1) c
    ∷ attr_from (bools / 2 / 2 / 2 % 2 == 1) (signs / 2 / 2 / 2 % 2 == 1) d
    ∷ attr_from (bools / 2 / 2 / 2 / 2 % 2 == 1) (signs / 2 / 2 / 2 / 2 % 2 == 1) e
    ∷ attr_from (bools / 2 / 2 / 2 / 2 / 2 % 2 == 1) (signs / 2 / 2 / 2 / 2 / 2 % 2 == 1) f
    ∷ []

abbrev pub SixBack : List AttrValue → Type 0
SixBack attrs = take (length attrs) (six_from (number_of_bits (map is_bool attrs)) (number_of_bits (map is_signed attrs)) (word_or_zero (slice_get attrs 0)) (word_or_zero (slice_get attrs 1)) (word_or_zero (slice_get attrs 2)) (word_or_zero (slice_get attrs 3)) (word_or_zero (slice_get attrs 4)) (word_or_zero (slice_get attrs 5))) ≡ attrs

pub six_back : (attrs : List AttrValue) → length attrs ≤ 6 → fit_words attrs ≡ true → SixBack attrs
six_back [] le kept = refl
six_back (a ∷ []) le kept =
    let a-kept = and_parts (fits_word a) (fit_words []) kept in
    simp (low_bit, high_bits, attr_back a a-kept.0)
six_back (a ∷ (b ∷ [])) le kept =
    let a-kept = and_parts (fits_word a) (fit_words (b ∷ [])) kept in
    let b-kept = and_parts (fits_word b) (fit_words []) a-kept.1 in
    simp (low_bit, high_bits, attr_back a a-kept.0, attr_back b b-kept.0)
six_back (a ∷ (b ∷ (c ∷ []))) le kept =
    let a-kept = and_parts (fits_word a) (fit_words (b ∷ (c ∷ []))) kept in
    let b-kept = and_parts (fits_word b) (fit_words (c ∷ [])) a-kept.1 in
    let c-kept = and_parts (fits_word c) (fit_words []) b-kept.1 in
    simp (low_bit, high_bits, attr_back a a-kept.0, attr_back b b-kept.0, attr_back c c-kept.0)
six_back (a ∷ (b ∷ (c ∷ (d ∷ [])))) le kept =
    let a-kept = and_parts (fits_word a) (fit_words (b ∷ (c ∷ (d ∷ [])))) kept in
    let b-kept = and_parts (fits_word b) (fit_words (c ∷ (d ∷ []))) a-kept.1 in
    let c-kept = and_parts (fits_word c) (fit_words (d ∷ [])) b-kept.1 in
    let d-kept = and_parts (fits_word d) (fit_words []) c-kept.1 in
    simp (low_bit, high_bits, attr_back a a-kept.0, attr_back b b-kept.0, attr_back c c-kept.0, attr_back d d-kept.0)
six_back (a ∷ (b ∷ (c ∷ (d ∷ (e ∷ []))))) le kept =
    let a-kept = and_parts (fits_word a) (fit_words (b ∷ (c ∷ (d ∷ (e ∷ []))))) kept in
    let b-kept = and_parts (fits_word b) (fit_words (c ∷ (d ∷ (e ∷ [])))) a-kept.1 in
    let c-kept = and_parts (fits_word c) (fit_words (d ∷ (e ∷ []))) b-kept.1 in
    let d-kept = and_parts (fits_word d) (fit_words (e ∷ [])) c-kept.1 in
    let e-kept = and_parts (fits_word e) (fit_words []) d-kept.1 in
    simp (low_bit, high_bits, attr_back a a-kept.0, attr_back b b-kept.0, attr_back c c-kept.0, attr_back d d-kept.0, attr_back e e-kept.0)
six_back (a ∷ (b ∷ (c ∷ (d ∷ (e ∷ (f ∷ [])))))) le kept =
    let a-kept = and_parts (fits_word a) (fit_words (b ∷ (c ∷ (d ∷ (e ∷ (f ∷ [])))))) kept in
    let b-kept = and_parts (fits_word b) (fit_words (c ∷ (d ∷ (e ∷ (f ∷ []))))) a-kept.1 in
    let c-kept = and_parts (fits_word c) (fit_words (d ∷ (e ∷ (f ∷ [])))) b-kept.1 in
    let d-kept = and_parts (fits_word d) (fit_words (e ∷ (f ∷ []))) c-kept.1 in
    let e-kept = and_parts (fits_word e) (fit_words (f ∷ [])) d-kept.1 in
    let f-kept = and_parts (fits_word f) (fit_words []) e-kept.1 in
    simp (low_bit, high_bits, attr_back a a-kept.0, attr_back b b-kept.0, attr_back c c-kept.0, attr_back d d-kept.0, attr_back e e-kept.0, attr_back f f-kept.0)
six_back (a ∷ (b ∷ (c ∷ (d ∷ (e ∷ (f ∷ (g ∷ more))))))) le kept = absurd (omega arith)
