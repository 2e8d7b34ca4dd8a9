-- Words of digits.
use Rattle.std.proofs.Common.{◌≡◌, ℕ, ◌^◌, ◌≤◌, ◌<◌, true, List, [], ◌∷◌, length, Some, None, Result, Ok, Err, refl, ap, ◌∙◌, sym, arith, rules}
use Rattle.std.specs.Prelude.{nat_lt, nat_le}
use Rattle.std.specs.Char.{is_ascii_digit}
use Rattle.std.specs.List.{list_all}
use Rattle.std.specs.Str.{IsAscii, IsUtf8}
use Rattle.std.specs.Str.Parse.{ParsesUnsigned, digits_value}
use Rattle.std.specs.Result.{OkIff, result_ok}
use Rattle.std.proofs.lemmas.Str.{IsUtf8-from_ascii}
use Rattle.std.proofs.lemmas.Str.Ascii.{IsAscii-nil, IsAscii-cons}
use Rattle.std.proofs.lemmas.Str.Parse.{IsNumeralModel, numerals_by_value, parse_digits}
use Rattle.std.proofs.lemmas.Bool.{lt-ltb, le-ltb, le-leb}
use Rattle.std.proofs.Math.Bool.{and-false}
use Rattle.tk_script.specs.Words.{moment}

abbrev AreDigits : List ℕ → Type 0
AreDigits ds = list_all is_ascii_digit ds ≡ true

numeral : IsNumeralModel AreDigits (digits_value 10)
numeral = numerals_by_value AreDigits (search rules)

ascii_digits : (ds : List ℕ) → AreDigits ds → IsAscii ds
ascii_digits [] h = IsAscii-nil
ascii_digits (d ∷ ds) h = IsAscii-cons d ds (grind arith) (ascii_digits ds (grind arith))

-- digits are text
pub text_of_digits : (ds : List ℕ) → AreDigits ds → IsUtf8 ds
text_of_digits ds h = IsUtf8-from_ascii ds (ascii_digits ds h)

-- a word of digits is a moment where its value is below the limit
moment_below : (ds : List ℕ) → AreDigits ds → 0 < length ds → length ds ≤ 20 → digits_value 10 ds < 2 ^ 64 → moment ds ≡ Some (digits_value 10 ds)
moment_below ds digits some few below = rw (lt-ltb _ _ some, le-leb _ _ few, digits, lt-ltb _ _ below) refl

moment_above : (ds : List ℕ) → (digits_value 10 ds < 2 ^ 64 → ⊥) → moment ds ≡ None
moment_above ds above = rw (le-ltb (digits_value 10 ds) (2 ^ 64) (omega arith), and-false (list_all is_ascii_digit ds), and-false (nat_le (length ds) 20), and-false (nat_lt 0 (length ds))) refl

by_result : {E : Type 0} (ds : List ℕ) (q : Result ℕ E) → AreDigits ds → 0 < length ds → length ds ≤ 20 → OkIff q ((0 < length ds) × (digits_value 10 ds < 2 ^ 64)) (digits_value 10 ds) → result_ok q ≡ moment ds
by_result ds (Ok x) digits some few h = ap Some h.1 ∙ sym (moment_below ds digits some few h.0.1)
by_result ds (Err e) digits some few h = sym (moment_above ds (λ below. h (some, below)))

-- what `parse` gives for the digits is the moment that they are
pub moment_parsed : {E : Type 0} (ds : List ℕ) (r : Result ℕ E) → ParsesUnsigned 64 10 ds r → AreDigits ds → 0 < length ds → length ds ≤ 20 → result_ok r ≡ moment ds
moment_parsed ds r parsed digits some few = by_result ds r digits some few (parse_digits numeral 64 ds r parsed digits)
