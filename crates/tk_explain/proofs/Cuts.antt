-- Lines that end in bytes, and what stands after the last end.
use Rattle.std.proofs.Common.{◌≡◌, ℕ, suc, ◌+◌, ◌-◌, ◌^◌, ◌<◌, ◌≤◌, List, [], ◌∷◌, ◌++◌, length, get_or, take, drop, Bool, true, false, cond, nat_eq, refl, ap, sym, ◌∙◌, arith, length-append}
use Rattle.std.specs.Io.Iter.{u64_saturate}
use Rattle.std.proofs.lemmas.List.{drop-append-le, length-take, take_rest}
use Rattle.std.proofs.Math.Seq.{take-suc, drop-length}
use Rattle.tk_client.specs.Meaning.{in_front, cut}
use Rattle.tk_explain.specs.Keeping.{IsOpenAt, unended}
use Rattle.tk_client.proofs.Pieces.{cut-append}

-- bytes in which no line ends are the line that goes on
pub all_unended : (bs : List ℕ) → length (cut bs).0 ≡ 0 → (cut bs).1 ≡ bs
all_unended [] none = refl
all_unended (b ∷ bs) none = by (nat_eq b 10) (cut bs) (all_unended bs) none
  where
    by : (is : Bool) (c : List (List ℕ) × List ℕ) → (length c.0 ≡ 0 → c.1 ≡ bs)
        → length (cond is ([] ∷ c.0, c.1) (in_front b c)).0 ≡ 0 → (cond is ([] ∷ c.0, c.1) (in_front b c)).1 ≡ b ∷ bs
    by true c rest none = absurd (omega (arith, none))
    by false ([], r) rest none = ap (λ xs. b ∷ xs) (rest refl)
    by false (l ∷ ls, r) rest none = absurd (omega (arith, none))

-- no line ends in the line that goes on
none_in_rest : (bs : List ℕ) → cut (cut bs).1 ≡ ([], (cut bs).1)
none_in_rest [] = refl
none_in_rest (b ∷ bs) = by (nat_eq b 10) refl (cut bs) (none_in_rest bs)
  where
    by : (is : Bool) → is ≡ nat_eq b 10 → (c : List (List ℕ) × List ℕ) → cut c.1 ≡ ([], c.1)
        → cut (cond is ([] ∷ c.0, c.1) (in_front b c)).1 ≡ ([], (cond is ([] ∷ c.0, c.1) (in_front b c)).1)
    by true e c rest = rest
    by false e ([], r) rest = rw (sym e, rest) refl
    by false e (l ∷ ls, r) rest = rest

-- a line end ends the line that went on
cut-end : (bs : List ℕ) → (length (cut (bs ++ 10 ∷ [])).0 ≡ length (cut bs).0 + 1) × ((cut (bs ++ 10 ∷ [])).1 ≡ [])
cut-end bs = rw (cut-append bs (10 ∷ [])) (length-append (cut bs).0 _, refl)

-- any other byte goes on with it
cut-more : (bs : List ℕ) (b : ℕ) → nat_eq b 10 ≡ false → (length (cut (bs ++ b ∷ [])).0 ≡ length (cut bs).0) × ((cut (bs ++ b ∷ [])).1 ≡ (cut bs).1 ++ b ∷ [])
cut-more bs b other = rw (cut-append bs (b ∷ []), other) (refl, refl)

-- after a line end nothing goes on
open-end : (bs : List ℕ) (at ended start : ℕ) → length bs ≡ at → IsOpenAt bs ended start → IsOpenAt (bs ++ 10 ∷ []) (u64_saturate (ended + 1)) (at + 1)
open-end bs at ended start size known =
    let one : length (bs ++ 10 ∷ []) ≡ length bs + 1 = length-append bs _ in
    let all : at + 1 ≡ length (bs ++ 10 ∷ []) = omega (arith, one, size) in
    let counted : length (cut (bs ++ 10 ∷ [])).0 ≡ length (cut bs).0 + 1 = (cut-end bs).0 in
    let count : ended ≡ u64_saturate (length (cut bs).0) = known.0 in
    (omega (arith, counted, count), ap (λ n. drop n (bs ++ 10 ∷ [])) all ∙ drop-length (bs ++ 10 ∷ []) ∙ sym (cut-end bs).1, omega (arith, all))

-- any other byte goes on with what goes on
open-more : (bs : List ℕ) (b ended start : ℕ) → nat_eq b 10 ≡ false → IsOpenAt bs ended start → IsOpenAt (bs ++ b ∷ []) ended start
open-more bs b ended start other known =
    let one : length (bs ++ b ∷ []) ≡ length bs + 1 = length-append bs _ in
    let p = cut-more bs b other in
    let rest : drop start bs ≡ (cut bs).1 = known.1 in
    let within : start ≤ length bs = known.2 in
    (known.0 ∙ ap u64_saturate (sym p.0), drop-append-le start bs (b ∷ []) within ∙ ap (λ r. r ++ b ∷ []) rest ∙ sym p.1, omega (arith, one, within))

next : (bytes : List ℕ) (at b : ℕ) → at < length bytes → get_or bytes at 0 ≡ b → take (at + 1) bytes ≡ take at bytes ++ b ∷ []
next bytes at b within is =
    let one : at + 1 ≡ suc at = omega arith in
    ap (λ n. take n bytes) one ∙ take-suc bytes at 0 within ∙ ap (λ x. take at bytes ++ x ∷ []) is

pub next-end : (bytes : List ℕ) (at ended start : ℕ) → at < length bytes → get_or bytes at 0 ≡ 10 → IsOpenAt (take at bytes) ended start → IsOpenAt (take (at + 1) bytes) (u64_saturate (ended + 1)) (at + 1)
next-end bytes at ended start within is known =
    let size : length (take at bytes) ≡ at = length-take at bytes ∙ omega (arith, within) in
    rw (next bytes at 10 within is) (open-end (take at bytes) at ended start size known)

pub next-more : (bytes : List ℕ) (at ended start : ℕ) → at < length bytes → nat_eq (get_or bytes at 0) 10 ≡ false → IsOpenAt (take at bytes) ended start → IsOpenAt (take (at + 1) bytes) ended start
next-more bytes at ended start within other known =
    rw (next bytes at (get_or bytes at 0) within refl) (open-more (take at bytes) (get_or bytes at 0) ended start other known)

-- where no line ends, none is let go
pub none_ended : (bs : List ℕ) (before ended : ℕ) → ended ≤ 0 → ended ≡ u64_saturate (length (cut bs).0) → before ≤ 2 ^ 64 - 1
    → record { bytes = bs; before = before } ≡ unended (record { bytes = bs; before = before })
none_ended bs before ended low count fits =
    let none : length (cut bs).0 ≡ 0 = omega (arith, low, count) in
    let same : before ≡ u64_saturate (before + length (cut bs).0) = omega (arith, none, fits) in
    λ i. record { bytes = sym (all_unended bs none) i; before = same i }

-- the copy of what goes on
pub copied : (bs now none new : List ℕ) (start : ℕ) → now ≡ bs → none ≡ [] → new ≡ none ++ take (length now - start) (drop start now) → drop start bs ≡ (cut bs).1 → new ≡ (cut bs).1
copied bs now none new start same empty is rest =
    is ∙ ap (λ xs. xs ++ take (length now - start) (drop start now)) empty ∙ take_rest now start ∙ ap (drop start) same ∙ rest

-- what goes on begins at its first byte
pub open-rest : (bs rest : List ℕ) → rest ≡ (cut bs).1 → IsOpenAt rest 0 0
open-rest bs rest is = rw (is, none_in_rest bs) (refl, refl, omega arith)
