-- Where lines end, and bytes without an end.
use Rattle.std.proofs.Common.{◌≡◌, ℕ, zero, suc, ◌+◌, ◌-◌, ◌≤◌, ◌<◌, List, [], ◌∷◌, ◌++◌, length, get_or, take, Bool, true, false, cond, nat_lt, nat_eq, Option, Some, None, refl, ap, sym, ◌∙◌, arith, append-nil, length-append, length-take}
use Rattle.std.specs.Prelude.{not, position, IfSome, IfNone}
use Rattle.std.specs.List.{position_or_len}
use Rattle.std.proofs.lemmas.List.{take_all}
use Rattle.std.proofs.lemmas.Option.{cond_some}
use Rattle.std.proofs.lemmas.Bool.{and_parts, lt-ltb, le-ltb}
use borrow.Author.Tests.{ltb-true, eqb-true}
use Rattle.memchr.specs.Find.{IsFirstByte, is_byte}
use Rattle.tk_stream.specs.Spelling.{is_one_line}
use Rattle.tk_client.specs.declared.fault.Fault.TheVariants.{TooLong}
use Rattle.tk_client.specs.Meaning.{Start, goes, stops, cut, meaning}

abbrev is_end : ℕ → Bool
is_end b = nat_eq b 10

pub cut-no_end : (bs : List ℕ) → is_one_line bs ≡ true → cut bs ≡ ([], bs)
cut-no_end [] h = refl
cut-no_end (b ∷ bs) h =
    let p = and_parts (not (nat_eq b 10)) (is_one_line bs) h in
    let is : nat_eq b 10 ≡ false = flipped (nat_eq b 10) p.0 in
    rw (is, cut-no_end bs p.1) refl
  where
    flipped : (b : Bool) → not b ≡ true → b ≡ false
    flipped true e = absurd (cc)
    flipped false e = refl

pub no_end-take : (n : ℕ) (bs : List ℕ) → is_one_line bs ≡ true → is_one_line (take n bs) ≡ true
no_end-take n [] h = take_nil n
  where
    take_nil : (k : ℕ) → is_one_line (take k []) ≡ true
    take_nil zero = refl
    take_nil (suc k) = refl
no_end-take zero (b ∷ bs) h = refl
no_end-take (suc n) (b ∷ bs) h =
    let p = and_parts (not (nat_eq b 10)) (is_one_line bs) h in
    rw (p.0, no_end-take n bs p.1) refl

before_first : (bs : List ℕ) → is_one_line (take (position_or_len is_end bs) bs) ≡ true
before_first [] = refl
before_first (b ∷ bs) = by (nat_eq b 10) refl (before_first bs)
  where
    by : (is : Bool) → nat_eq b 10 ≡ is → is_one_line (take (position_or_len is_end bs) bs) ≡ true → is_one_line (take (cond (not is) (1 + position_or_len is_end bs) 0) (b ∷ bs)) ≡ true
    by true is h = refl
    by false is h = let k : 1 + position_or_len is_end bs ≡ suc (position_or_len is_end bs) = omega arith in rw (k, is, h) refl

through_first : (bs : List ℕ) → position_or_len is_end bs < length bs → take (position_or_len is_end bs + 1) bs ≡ take (position_or_len is_end bs) bs ++ 10 ∷ []
through_first [] h = absurd (omega arith)
through_first (b ∷ bs) h = by (nat_eq b 10) refl (through_first bs) h
  where
    by : (is : Bool) → nat_eq b 10 ≡ is → (position_or_len is_end bs < length bs → take (position_or_len is_end bs + 1) bs ≡ take (position_or_len is_end bs) bs ++ 10 ∷ [])
        → cond (not is) (1 + position_or_len is_end bs) 0 < length (b ∷ bs)
        → take (cond (not is) (1 + position_or_len is_end bs) 0 + 1) (b ∷ bs) ≡ take (cond (not is) (1 + position_or_len is_end bs) 0) (b ∷ bs) ++ 10 ∷ []
    by true is ih h = ap (λ x. x ∷ []) (eqb-true b 10 is)
    by false is ih h =
        let k : 1 + position_or_len is_end bs ≡ suc (position_or_len is_end bs) = omega arith in
        let j : suc (position_or_len is_end bs) + 1 ≡ suc (position_or_len is_end bs + 1) = omega arith in
        rw (k, j) (ap (λ xs. b ∷ xs) (ih (omega arith)))

-- the first line end of bytes
pub first_end : (bs : List ℕ) (i : ℕ) → position is_end bs ≡ Some i → (i < length bs) × (is_one_line (take i bs) ≡ true) × (take (i + 1) bs ≡ take i bs ++ 10 ∷ [])
first_end bs i found =
    let parts = cond_some _ (position_or_len is_end bs) i found in
    let within : position_or_len is_end bs < length bs = ltb-true _ _ parts.0 in
    rw (← parts.1) (within, before_first bs, through_first bs within)

none_past : (bs : List ℕ) → position is_end bs ≡ None → length bs ≤ position_or_len is_end bs
none_past bs none = grind arith

pub no_first : (bs : List ℕ) → position is_end bs ≡ None → is_one_line bs ≡ true
no_first bs none = ap is_one_line (sym (take_all (position_or_len is_end bs) bs (none_past bs none))) ∙ before_first bs

pub end_within : (bs : List ℕ) (o : Option ℕ) → o ≡ position is_end bs → IfSome o (λ end. end < length bs)
end_within bs (Some i) is = (first_end bs i (sym is)).0
end_within bs None is = tt

pub end_before : (bs : List ℕ) (o : Option ℕ) → o ≡ position is_end bs → IfSome o (λ end. is_one_line (take end bs) ≡ true)
end_before bs (Some i) is = (first_end bs i (sym is)).1
end_before bs None is = tt

pub end_through : (bs : List ℕ) (o : Option ℕ) → o ≡ position is_end bs → IfSome o (λ end. take (end + 1) bs ≡ take end bs ++ 10 ∷ [])
end_through bs (Some i) is = (first_end bs i (sym is)).2
end_through bs None is = tt

pub no_end : (bs : List ℕ) (o : Option ℕ) → o ≡ position is_end bs → IfNone o (is_one_line bs ≡ true)
no_end bs (Some i) is = tt
no_end bs None is = no_first bs (sym is)

-- ---- the first byte that is a line end

past-none : (bs : List ℕ) → ((k : ℕ) → k < length bs → is_end (get_or bs k 0) ≡ true → ⊥) → length bs ≤ position_or_len is_end bs
past-none [] h = omega arith
past-none (b ∷ bs) h = by (nat_eq b 10) refl (past-none bs (λ k lt e. h (suc k) (omega arith) e))
  where
    by : (is : Bool) → nat_eq b 10 ≡ is → length bs ≤ position_or_len is_end bs → suc (length bs) ≤ cond (not is) (1 + position_or_len is_end bs) 0
    by true is ih = absurd (h 0 (omega arith) is)
    by false is ih = omega arith

at-first : (bs : List ℕ) (k : ℕ) → k < length bs → is_end (get_or bs k 0) ≡ true → ((j : ℕ) → j < k → is_end (get_or bs j 0) ≡ true → ⊥) → position_or_len is_end bs ≡ k
at-first [] k lt is before = absurd (omega arith)
at-first (b ∷ bs) zero lt is before = rw is refl
at-first (b ∷ bs) (suc k) lt is before = by (nat_eq b 10) refl (at-first bs k (omega arith) is (λ j l e. before (suc j) (omega arith) e))
  where
    by : (is : Bool) → nat_eq b 10 ≡ is → position_or_len is_end bs ≡ k → cond (not is) (1 + position_or_len is_end bs) 0 ≡ suc k
    by true e ih = absurd (before 0 (omega arith) e)
    by false e ih = omega arith

-- a search for the byte finds the position of the first end
pub first-byte : (bs : List ℕ) (o : Option ℕ) → IsFirstByte (is_byte 10) bs o → o ≡ position is_end bs
first-byte bs None h = rw (le-ltb (position_or_len is_end bs) (length bs) (past-none bs (λ k lt e. h k (omega arith) lt e))) refl
first-byte bs (Some k) h = rw (at-first bs k h.0.high h.1 (λ j lt e. h.0.before j (omega arith) lt e), lt-ltb k (length bs) h.0.high) refl

-- a line that is too long stops at its first byte too many
pub stops_too_long : (max : ℕ) (s : Start) (bytes : List ℕ) (room : ℕ) → is_one_line bytes ≡ true → length s.part + room ≡ max → room < length bytes
    → meaning max s (take (room + 1) bytes) ≡ stops s.tables 0 TooLong (room + 1)
stops_too_long max s bytes room whole fits long =
    let front : List ℕ = take (room + 1) bytes in
    let is_cut : cut front ≡ ([], front) = cut-no_end front (no_end-take (room + 1) bytes whole) in
    let test : nat_lt max (length (s.part ++ front)) ≡ true = lt-ltb _ _ (omega (arith, length-append s.part front, length-take (room + 1) bytes)) in
    let used : max + 1 - length s.part ≡ room + 1 = omega arith in
    rw (is_cut, test, used) refl

pub nothing : (max : ℕ) (s : Start) → length s.part ≤ max → meaning max s [] ≡ goes s 0
nothing max s fits = rw (append-nil, le-ltb max (length s.part) fits) refl

-- bytes of a line that isn't too long
pub holds : (max : ℕ) (s : Start) (bytes : List ℕ) → is_one_line bytes ≡ true → length s.part + length bytes ≤ max → meaning max s bytes ≡ goes (record s { part = s.part ++ bytes }) 0
holds max s bytes whole fits =
    let is_cut : cut bytes ≡ ([], bytes) = cut-no_end bytes whole in
    let test : nat_lt max (length (s.part ++ bytes)) ≡ false = le-ltb max _ (omega (arith, length-append s.part bytes)) in
    rw (is_cut, test) refl
