-- How long the texts of values are.
use Rattle.std.proofs.Common.{◌≡◌, ℕ, zero, suc, ◌+◌, ◌*◌, ◌/◌, ◌%◌, ◌<◌, ◌≤◌, List, [], ◌∷◌, ◌++◌, length, Bool, true, false, cond, nat_eq, nat_lt, decimal, refl, ap, subst, arith, length-append}
use Rattle.std.specs.Prelude.{map, sum_by}
use Rattle.std.specs.Char.{digit_char}
use Rattle.std.specs.Fmt.{digit_glyph, digits_onto, digits}
use Rattle.std.proofs.lemmas.Bool.Decides.{nat_tests}
use Rattle.std.proofs.lemmas.List.Sums.{sum_by-cons}
use Rattle.json.specs.Print.{escape_letter, escape_byte, escape, quoted}
use Rattle.serde_json.specs.Data.{Data, array}
use Rattle.serde_json.specs.View.{items_of}
use Rattle.serde_json.specs.Written.{compact_text, items_text, members_text, comma_if}
use Rattle.tk_stream.specs.Spelling.{members_in, object_with}

-- ---- texts and numbers

-- a byte of a text has at most six in its place
escaped_short : (x : ℕ) → length (escape_byte x) ≤ 6
unfolding escape_byte
escaped_short x = by (nat_lt 0 (escape_letter x)) (nat_lt x 32)
  where
    by : (b c : Bool) → length (cond b (92 ∷ escape_letter x ∷ []) (cond c (92 ∷ 117 ∷ 48 ∷ 48 ∷ digit_char (x / 16) ∷ digit_char (x % 16) ∷ []) (x ∷ []))) ≤ 6
    by true c = omega arith
    by false true = omega arith
    by false false = omega arith

escape_short : (s : List ℕ) → length (escape s) ≤ 6 * length s
escape_short [] = omega arith
escape_short (x ∷ s) = omega (arith, length-append (escape_byte x) (escape s), escaped_short x, escape_short s)

pub quoted_short : (s : List ℕ) → length (quoted s) ≤ 6 * length s + 2
quoted_short s = omega (arith, length-append (escape s) (34 ∷ []), escape_short s)

onto_short : (k n : ℕ) (acc : List ℕ) → length (digits_onto k 10 false n acc) ≤ k + length acc
onto_short zero n acc = omega arith
onto_short (suc k) n acc = by (nat_eq (n / 10) 0) (onto_short k (n / 10) (digit_glyph false (n % 10) ∷ acc))
  where
    by : (b : Bool) → length (digits_onto k 10 false (n / 10) (digit_glyph false (n % 10) ∷ acc)) ≤ k + length (digit_glyph false (n % 10) ∷ acc)
        → length (cond b (digit_glyph false (n % 10) ∷ acc) (digits_onto k 10 false (n / 10) (digit_glyph false (n % 10) ∷ acc))) ≤ suc k + length acc
    by true rest = omega arith
    by false rest = omega (arith, rest)

-- a number has at most 64 digits
pub decimal_short : (n : ℕ) → length (decimal n) ≤ 64
unfolding digits
decimal_short n = onto_short 64 n []

-- and one below 100 two
pub two_digits : (n : ℕ) → n < 100 → length (decimal n) ≤ 2
unfolding digits
two_digits n small = by (nat_eq (n / 10) 0) (nat_eq (n / 10 / 10) 0) refl
  where
    by : (b c : Bool) → nat_eq (n / 10 / 10) 0 ≡ c
        → length (cond b (digit_glyph false (n % 10) ∷ []) (cond c (digit_glyph false (n / 10 % 10) ∷ digit_glyph false (n % 10) ∷ []) (digits_onto 62 10 false (n / 10 / 10) (digit_glyph false (n / 10 % 10) ∷ digit_glyph false (n % 10) ∷ [])))) ≤ 2
    by true c e = omega arith
    by false true e = omega arith
    by false false e = absurd (grind (arith, nat_tests))

comma_short : (later : Bool) → length (comma_if later) ≤ 1
comma_short true = omega arith
comma_short false = omega arith

-- ---- lists

-- a list's values, each with a comma
pub items_short : {A : Type 0} (spelling : A → Data) (size : A → ℕ) → ((x : A) → length (compact_text (spelling x)) + 1 ≤ size x) → (later : Bool) (xs : List A)
    → length (items_text later (items_of (map spelling xs))) ≤ 1 + sum_by size xs
items_short spelling size each later [] = omega arith
items_short spelling size each later (x ∷ xs) =
    omega (
      arith,
      sum_by-cons size x xs,
      each x,
      comma_short later,
      items_short spelling size each true xs,
      length-append (comma_if later) (compact_text (spelling x) ++ items_text true (items_of (map spelling xs))),
      length-append (compact_text (spelling x)) (items_text true (items_of (map spelling xs))),
    )

-- the text of a list's values
pub list_short : {A : Type 0} (spelling : A → Data) (size : A → ℕ) → ((x : A) → length (compact_text (spelling x)) + 1 ≤ size x) → (xs : List A)
    → length (compact_text (array (items_of (map spelling xs)))) ≤ 2 + sum_by size xs
list_short spelling size each xs = omega (arith, items_short spelling size each false xs)

abbrev pub value_size : Data → ℕ
value_size d = length (compact_text d) + 1

-- of a few values
pub array_short : (ds : List Data) → length (compact_text (array (items_of ds))) ≤ 2 + sum_by value_size ds
array_short ds = by ds (list_short (λ d. d) value_size (λ d. omega arith) ds)
  where
    same : (ds : List Data) → map (λ (d : Data). d) ds ≡ ds
    same [] = refl
    same (d ∷ ds) = ap (λ xs. d ∷ xs) (same ds)

    by : (ds : List Data) → length (compact_text (array (items_of (map (λ (d : Data). d) ds)))) ≤ 2 + sum_by value_size ds → length (compact_text (array (items_of ds))) ≤ 2 + sum_by value_size ds
    by ds le = subst (λ xs. length (compact_text (array (items_of xs))) ≤ 2 + sum_by value_size ds) (same ds) le

-- how long a member may be: its key, a colon, its value and a comma
abbrev pub field_size : List ℕ × Data → ℕ
field_size field = length (quoted field.0) + length (compact_text field.1) + 2

members_short : (later : Bool) (fields : List (List ℕ × Data)) → length (members_text later (members_in fields)) ≤ 1 + sum_by field_size fields
members_short later [] = omega arith
members_short later (field ∷ fields) =
    omega (
      arith,
      sum_by-cons field_size field fields,
      comma_short later,
      members_short true fields,
      length-append (comma_if later) (quoted field.0 ++ 58 ∷ (compact_text field.1 ++ members_text true (members_in fields))),
      length-append (quoted field.0) (58 ∷ (compact_text field.1 ++ members_text true (members_in fields))),
      length-append (compact_text field.1) (members_text true (members_in fields)),
    )

-- the text of an object
pub object_short : (fields : List (List ℕ × Data)) → length (compact_text (object_with fields)) ≤ 2 + sum_by field_size fields
object_short fields = omega (arith, members_short false fields)
