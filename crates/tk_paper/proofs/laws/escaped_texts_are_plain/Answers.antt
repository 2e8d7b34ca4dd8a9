use Rattle.std.proofs.Common.{arith, ◌≡◌, ℕ, ◌==◌, List, [], ◌∷◌, ◌++◌, Bool, true, false, ◌&&◌, not, refl, ap}
use Rattle.std.specs.List.{list_all}
use Rattle.tk_paper.specs.Escaping.{escaped, escaped_byte, is_plain}
use Rattle.tk_paper.proofs.laws.escaped_texts_are_plain.Goals as goal

-- a byte, by what it is
by_cases : (b : ℕ) (lt gt amp quot apos : Bool) → (b == 60) ≡ lt → (b == 62) ≡ gt → (b == 38) ≡ amp → (b == 34) ≡ quot → (b == 39) ≡ apos
    → list_all is_plain (escaped_byte b) ≡ true
by_cases b true gt amp quot apos a c d e f = rw a refl
by_cases b false true amp quot apos a c d e f = rw (a, c) refl
by_cases b false false true quot apos a c d e f = rw (a, c, d) refl
by_cases b false false false true apos a c d e f = rw (a, c, d, e) refl
by_cases b false false false false true a c d e f = rw (a, c, d, e, f) refl
by_cases b false false false false false a c d e f =
    let plain : not (b == 60) && (not (b == 62) && (not (b == 34) && not (b == 39))) ≡ true = rw (a, c, e, f) refl in
    rw (a, c, d, e, f) (ap (λ p. p && true) plain)

all_append : (xs ys : List ℕ) → list_all is_plain xs ≡ true → list_all is_plain ys ≡ true → list_all is_plain (xs ++ ys) ≡ true
all_append [] ys g h = h
all_append (x ∷ xs) ys g h = grind (arith, all_append xs ys)

pub returns : goal.returns
returns c = plain where
  plain : (text : List ℕ) → list_all is_plain (escaped text) ≡ true
  plain [] = refl
  plain (b ∷ bs) = all_append (escaped_byte b) (escaped bs) (by_cases b _ _ _ _ _ refl refl refl refl refl) (plain bs)
