-- The text of a value has no line end: a text's are escaped, and nothing else has one.
use Rattle.std.proofs.Common.{◌≡◌, ℕ, zero, suc, ◌+◌, ◌/◌, ◌%◌, ◌<◌, List, [], ◌∷◌, ◌++◌, Bool, true, false, cond, nat_eq, nat_lt, decimal, refl, arith, inl, inr}
use Rattle.std.specs.Prelude.{not, ◌&&◌, pos, negsuc}
use Rattle.std.specs.Fmt.{digit_glyph, digits_onto, digits}
use Rattle.std.proofs.lemmas.Bool.{and_parts, cases_lt, cases_eq}
use Rattle.std.proofs.lemmas.Bool.Decides.{nat_tests}
use Rattle.json.specs.Print.{escape_byte, escape, quoted, token_text}
use Rattle.json.specs.Token as token
use Rattle.json.proofs.Printed.Strings.{escape_byte_plain}
use Rattle.serde_json.specs.Data.{Num, unsigned, negative, float, Data, null, boolean, number, string, array, object, Items, no_items, item, Members, no_members, member}
use Rattle.serde_json.specs.Written.{number_text, compact_text, items_text, members_text, comma_if}
use Rattle.tk_stream.specs.Lines.{LineView}
use Rattle.tk_stream.specs.Spelling.{line_data, line_text, is_one_line}

one_line-append : (xs ys : List ℕ) → is_one_line xs ≡ true → is_one_line ys ≡ true → is_one_line (xs ++ ys) ≡ true
one_line-append [] ys a b = b
one_line-append (x ∷ xs) ys a b = let p = and_parts (not (nat_eq x 10)) _ a in rw (p.0, one_line-append xs ys p.1 b) refl

abbrev escapes_below : ℕ → Bool
escapes_below zero = true
escapes_below (suc n) = is_one_line (escape_byte n) && escapes_below n

escape_below : (n : ℕ) → escapes_below n ≡ true → (x : ℕ) → x < n → is_one_line (escape_byte x) ≡ true
escape_below zero e x h = absurd (omega arith)
escape_below (suc n) e x h =
    let p = and_parts _ _ e in
    elim (cases_eq x n) [ inl same ↦ rw same p.0 | inr other ↦ escape_below n p.1 x (omega arith) ]

all_low : escapes_below 128 ≡ true
unfolding escape_byte
all_low = refl

differs : (x : ℕ) → 10 < x → nat_eq x 10 ≡ false
differs x h = grind (arith, nat_tests)

escaped : (x : ℕ) → is_one_line (escape_byte x) ≡ true
escaped x = elim (cases_lt x 128) [
  | inl small ↦ escape_below 128 all_low x small
  | inr big ↦ rw (escape_byte_plain x (λ e. omega arith) (λ e. omega arith) (omega arith), differs x (omega arith)) refl
]

in_escape : (s : List ℕ) → is_one_line (escape s) ≡ true
in_escape [] = refl
in_escape (x ∷ s) = one_line-append (escape_byte x) (escape s) (escaped x) (in_escape s)

in_quoted : (s : List ℕ) → is_one_line (quoted s) ≡ true
in_quoted s = one_line-append (escape s) (34 ∷ []) (in_escape s) refl

glyph : (n : ℕ) → nat_eq (digit_glyph false (n % 10)) 10 ≡ false
glyph n = by (nat_lt (n % 10) 10)
  where
    by : (b : Bool) → nat_eq (cond b (48 + n % 10) (87 + n % 10)) 10 ≡ false
    by true = differs (48 + n % 10) (omega arith)
    by false = differs (87 + n % 10) (omega arith)

in_either : (b : Bool) (xs ys : List ℕ) → is_one_line xs ≡ true → is_one_line ys ≡ true → is_one_line (cond b xs ys) ≡ true
in_either true xs ys h k = h
in_either false xs ys h k = k

in_onto : (k n : ℕ) (acc : List ℕ) → is_one_line acc ≡ true → is_one_line (digits_onto k 10 false n acc) ≡ true
in_onto zero n acc h = h
in_onto (suc k) n acc h =
    let more : is_one_line (digit_glyph false (n % 10) ∷ acc) ≡ true = rw (glyph n, h) refl in
    in_either (nat_eq (n / 10) 0) _ _ more (in_onto k (n / 10) (digit_glyph false (n % 10) ∷ acc) more)

in_digits : (n : ℕ) → is_one_line (decimal n) ≡ true
unfolding digits
in_digits n = in_onto 64 n [] refl

in_number : (n : Num) → is_one_line (number_text n) ≡ true
in_number (unsigned n) = in_digits n
in_number (negative (pos n)) = in_digits n
in_number (negative (negsuc n)) = in_digits (suc n)
in_number (float x) = refl

in_boolean : (b : Bool) → is_one_line (token_text (token.boolean b)) ≡ true
in_boolean true = refl
in_boolean false = refl

in_comma : (later : Bool) → is_one_line (comma_if later) ≡ true
in_comma true = refl
in_comma false = refl

mutual
  -- the text of any value
  pub in_text : (d : Data) → is_one_line (compact_text d) ≡ true
  in_text null = refl
  in_text (boolean b) = in_boolean b
  in_text (number n) = in_number n
  in_text (string s) = in_quoted s
  in_text (array ds) = in_items false ds
  in_text (object ms) = in_members false ms

  in_items : (later : Bool) (ds : Items) → is_one_line (items_text later ds) ≡ true
  in_items later no_items = refl
  in_items later (item d ds) = one_line-append (comma_if later) _ (in_comma later) (one_line-append (compact_text d) _ (in_text d) (in_items true ds))

  in_members : (later : Bool) (ms : Members) → is_one_line (members_text later ms) ≡ true
  in_members later no_members = refl
  in_members later (member k d ms) =
      one_line-append (comma_if later) _ (in_comma later)
      (one_line-append (quoted k) _ (in_quoted k) (one_line-append (compact_text d) (members_text true ms) (in_text d) (in_members true ms)))

-- the text of a line is one line
pub text_is_one_line : (l : LineView) → is_one_line (line_text l) ≡ true
unfolding line_text
text_is_one_line l = in_text (line_data l)
