-- The places that hold attribute values.
use Rattle.std.proofs.Common.{◌≡◌, ℕ, zero, suc, ◌-◌, ◌≤◌, Bool, true, false, ◌<◌, List, [], ◌∷◌, ◌++◌, length, take, Some, refl, sym, ap, ◌∙◌, arith}
use Rattle.std.specs.Prelude.{map, replicate, slice_get, get_or, min, nat_lt}
use Rattle.std.proofs.Math.Nat.{min-eq_right}
use Rattle.std.proofs.Math.Seq.{take-nil}
use Rattle.std.proofs.lemmas.Bool.Decides.{nat_tests}
use Rattle.std.proofs.Math.ListN.{set}
use Rattle.std.proofs.lemmas.List.{length-set}
use Rattle.tk_core.specs.AttrWords.{attr_word, fits_word, fit_words}
use Rattle.tk_core.specs.AttrValues.{value_by, values_by, attr_kinds, kind_or_u64, kind_of_bits, kept_word, kept_kind, view_of, fields_of, IsPadded}
use Rattle.tk_core.specs.Laws.AttrReadBack.{word_or_zero, fits_word_or_none, attr_from, six_words}
use Rattle.tk_core.specs.Laws.Signed.{signed_back}
use Rattle.std.proofs.lemmas.Bool.{and_parts}
use Rattle.tk_core.specs.declared.attr_values.AttrValues.TheInside.{Inside}
use Rattle.tk_ids.specs.Attributes.{kind_of}
use Rattle.tk_ids.specs.declared.attr.AttrKind.{AttrKind}
use Rattle.tk_ids.specs.declared.attr.AttrKind.TheVariants as kinds
use Rattle.tk_ids.specs.declared.attr.AttrValue.{AttrValue}
use Rattle.tk_ids.specs.declared.attr.AttrValue.TheVariants as values

-- a value is that of its word and its kind
pub value_back : (v : AttrValue) → fits_word v ≡ true → value_by (attr_word v) (kind_of v) ≡ v
value_back (values.U64 n) kept = refl
value_back (values.Bool true) kept = refl
value_back (values.Bool false) kept = refl
value_back (values.I64 n) kept = ap (λ m. values.I64 m) (signed_back n kept)

pub kind_by : (w : ℕ) (k : AttrKind) → kind_of (value_by w k) ≡ k
kind_by w kinds.U64 = refl
kind_by w kinds.Bool = refl
kind_by w kinds.I64 = refl

front : (vs : List AttrValue) (ws : List ℕ) (ks : List AttrKind) → fit_words vs ≡ true → take (length vs) (values_by (map attr_word vs ++ ws) (map kind_of vs ++ ks)) ≡ vs
front [] ws ks kept = refl
front (v ∷ vs) ws ks kept = let parts = and_parts (fits_word v) (fit_words vs) kept in rw (value_back v parts.0, front vs ws ks parts.1) refl

-- places that are filled show what they are filled with
pub view_fields : (vs : List AttrValue) → fit_words vs ≡ true → view_of (fields_of vs) ≡ vs
view_fields vs kept = front vs _ _ kept

-- places that are those of a list of kept values
pub is_viewed : (a : Inside) (vs : List AttrValue) → a ≡ fields_of vs → fit_words vs ≡ true → view_of a ≡ vs
is_viewed a vs e kept = ap view_of e ∙ view_fields vs kept

pub is_padded : (a : Inside) (vs : List AttrValue) → a ≡ fields_of vs → fit_words vs ≡ true → a.count ≤ 6 → IsPadded a
is_padded a vs e kept le = (le, (ap fields_of (is_viewed a vs e kept) ∙ sym e, ap fit_words (is_viewed a vs e kept) ∙ kept))

-- values at at most six places are kept
pub fit_slots : (vs : List AttrValue) → length vs ≤ 6
    → fits_word_or_none (slice_get vs 0) ≡ true → fits_word_or_none (slice_get vs 1) ≡ true → fits_word_or_none (slice_get vs 2) ≡ true → fits_word_or_none (slice_get vs 3) ≡ true → fits_word_or_none (slice_get vs 4) ≡ true → fits_word_or_none (slice_get vs 5) ≡ true
    → fit_words vs ≡ true
fit_slots [] le i j k l m n = refl
fit_slots (a ∷ []) le i j k l m n = rw (i) refl
fit_slots (a ∷ (b ∷ [])) le i j k l m n = rw (i, j) refl
fit_slots (a ∷ (b ∷ (c ∷ []))) le i j k l m n = rw (i, j, k) refl
fit_slots (a ∷ (b ∷ (c ∷ (d ∷ [])))) le i j k l m n = rw (i, j, k, l) refl
fit_slots (a ∷ (b ∷ (c ∷ (d ∷ (e ∷ []))))) le i j k l m n = rw (i, j, k, l, m) refl
fit_slots (a ∷ (b ∷ (c ∷ (d ∷ (e ∷ (f ∷ [])))))) le i j k l m n = rw (i, j, k, l, m, n) refl
fit_slots (a ∷ (b ∷ (c ∷ (d ∷ (e ∷ (f ∷ (g ∷ more))))))) le i j k l m n = absurd (omega arith)

-- so are the first few of kept ones
pub fit_front : (n : ℕ) (vs : List AttrValue) → fit_words vs ≡ true → fit_words (take n vs) ≡ true
fit_front zero vs kept = refl
fit_front (suc n) [] kept = refl
fit_front (suc n) (v ∷ vs) kept = let parts = and_parts (fits_word v) (fit_words vs) kept in rw (parts.0, fit_front n vs parts.1) refl

-- and values of which one takes another's place
pub fit_set : (vs : List AttrValue) (i : ℕ) (v : AttrValue) → fit_words vs ≡ true → fits_word v ≡ true → fit_words (set vs i v) ≡ true
fit_set [] i v kept is = refl
fit_set (x ∷ vs) zero v kept is = let parts = and_parts (fits_word x) (fit_words vs) kept in rw (is, parts.1) refl
fit_set (x ∷ vs) (suc i) v kept is = let parts = and_parts (fits_word x) (fit_words vs) kept in rw (parts.0, fit_set vs i v parts.1 is) refl

-- the places are those of the list that they show
pub shown : (a : Inside) (vs : List AttrValue) → IsPadded a → view_of a ≡ vs → a ≡ fields_of vs
shown a vs h e = sym h.1.0 ∙ ap fields_of e

-- the words and kinds of at most six values, one by one
pub six_kinds : (vs : List AttrValue) → length vs ≤ 6
    → attr_kinds vs ≡ kind_or_u64 (slice_get vs 0) ∷ kind_or_u64 (slice_get vs 1) ∷ kind_or_u64 (slice_get vs 2) ∷ kind_or_u64 (slice_get vs 3) ∷ kind_or_u64 (slice_get vs 4) ∷ kind_or_u64 (slice_get vs 5) ∷ []
six_kinds [] le = refl
six_kinds (a ∷ []) le = refl
six_kinds (a ∷ (b ∷ [])) le = refl
six_kinds (a ∷ (b ∷ (c ∷ []))) le = refl
six_kinds (a ∷ (b ∷ (c ∷ (d ∷ [])))) le = refl
six_kinds (a ∷ (b ∷ (c ∷ (d ∷ (e ∷ []))))) le = refl
six_kinds (a ∷ (b ∷ (c ∷ (d ∷ (e ∷ (f ∷ [])))))) le = refl
six_kinds (a ∷ (b ∷ (c ∷ (d ∷ (e ∷ (f ∷ (g ∷ more))))))) le = absurd (omega arith)

-- a value that takes another's place
words_set : (vs : List AttrValue) (i : ℕ) (v : AttrValue) (ws : List ℕ) → i < length vs → map attr_word (set vs i v) ++ ws ≡ set (map attr_word vs ++ ws) i (attr_word v)
words_set [] i v ws lt = absurd (omega arith)
words_set (x ∷ vs) zero v ws lt = refl
words_set (x ∷ vs) (suc i) v ws lt = ap (λ l. attr_word x ∷ l) (words_set vs i v ws (omega arith))

kinds_set : (vs : List AttrValue) (i : ℕ) (v : AttrValue) (ks : List AttrKind) → i < length vs → map kind_of (set vs i v) ++ ks ≡ set (map kind_of vs ++ ks) i (kind_of v)
kinds_set [] i v ks lt = absurd (omega arith)
kinds_set (x ∷ vs) zero v ks lt = refl
kinds_set (x ∷ vs) (suc i) v ks lt = ap (λ l. kind_of x ∷ l) (kinds_set vs i v ks (omega arith))

pub set_parts : (a : Inside) (vs : List AttrValue) (i : ℕ) (v : AttrValue) → a ≡ fields_of vs → i < length vs
    → record { words = set a.words i (attr_word v); kinds = set a.kinds i (kind_of v); count = a.count } ≡ fields_of (set vs i v)
set_parts a vs i v e lt = rw (e, length-set vs i v, words_set vs i v (replicate (6 - length vs) 0) lt, kinds_set vs i v (replicate (6 - length vs) kinds.U64) lt) refl

-- the places of at most six values
pub new_parts : (vs : List AttrValue) → length vs ≤ 6
    → record {
      words = word_or_zero (slice_get vs 0) ∷ word_or_zero (slice_get vs 1) ∷ word_or_zero (slice_get vs 2) ∷ word_or_zero (slice_get vs 3) ∷ word_or_zero (slice_get vs 4) ∷ word_or_zero (slice_get vs 5) ∷ [];
      kinds = kind_or_u64 (slice_get vs 0) ∷ kind_or_u64 (slice_get vs 1) ∷ kind_or_u64 (slice_get vs 2) ∷ kind_or_u64 (slice_get vs 3) ∷ kind_or_u64 (slice_get vs 4) ∷ kind_or_u64 (slice_get vs 5) ∷ [];
      count = length vs;
    }
    ≡ fields_of vs
new_parts vs le = rw ((six_words vs le).0, six_kinds vs le) refl

below : (j n : ℕ) → j < n → nat_lt j n ≡ true
below j n lt = grind (arith, nat_tests)

-- the places of the first few of six values
pub parts : (n a b c d e f : ℕ) (k l m o p q : AttrKind)
    → fields_of (take n (values_by (a ∷ b ∷ c ∷ d ∷ e ∷ f ∷ []) (k ∷ l ∷ m ∷ o ∷ p ∷ q ∷ [])))
    ≡ record {
      words = kept_word (nat_lt 0 n) a k ∷ kept_word (nat_lt 1 n) b l ∷ kept_word (nat_lt 2 n) c m ∷ kept_word (nat_lt 3 n) d o ∷ kept_word (nat_lt 4 n) e p ∷ kept_word (nat_lt 5 n) f q ∷ [];
      kinds = kept_kind (nat_lt 0 n) k ∷ kept_kind (nat_lt 1 n) l ∷ kept_kind (nat_lt 2 n) m ∷ kept_kind (nat_lt 3 n) o ∷ kept_kind (nat_lt 4 n) p ∷ kept_kind (nat_lt 5 n) q ∷ [];
      count = min n 6;
    }
parts zero a b c d e f k l m o p q = refl
parts (suc zero) a b c d e f k l m o p q = rw (kind_by a k) refl
parts (suc (suc zero)) a b c d e f k l m o p q = rw (kind_by a k, kind_by b l) refl
parts (suc (suc (suc zero))) a b c d e f k l m o p q = rw (kind_by a k, kind_by b l, kind_by c m) refl
parts (suc (suc (suc (suc zero)))) a b c d e f k l m o p q = rw (kind_by a k, kind_by b l, kind_by c m, kind_by d o) refl
parts (suc (suc (suc (suc (suc zero))))) a b c d e f k l m o p q = rw (kind_by a k, kind_by b l, kind_by c m, kind_by d o, kind_by e p) refl
parts (suc (suc (suc (suc (suc (suc n)))))) a b c d e f k l m o p q =
    let le : 6 ≤ suc (suc (suc (suc (suc (suc n))))) = omega arith in
    let all : take (suc (suc (suc (suc (suc (suc n)))))) (values_by (a ∷ b ∷ c ∷ d ∷ e ∷ f ∷ []) (k ∷ l ∷ m ∷ o ∷ p ∷ q ∷ [])) ≡ value_by a k ∷ value_by b l ∷ value_by c m ∷ value_by d o ∷ value_by e p ∷ value_by f q ∷ []
    = ap (λ t. value_by a k ∷ value_by b l ∷ value_by c m ∷ value_by d o ∷ value_by e p ∷ value_by f q ∷ t) (take-nil n) in
    ap fields_of all ∙ rw (min-eq_right le, below 0 (suc (suc (suc (suc (suc (suc n)))))) (omega arith), below 1 (suc (suc (suc (suc (suc (suc n)))))) (omega arith), below 2 (suc (suc (suc (suc (suc (suc n)))))) (omega arith), below 3 (suc (suc (suc (suc (suc (suc n)))))) (omega arith), below 4 (suc (suc (suc (suc (suc (suc n)))))) (omega arith), below 5 (suc (suc (suc (suc (suc (suc n)))))) (omega arith), kind_by a k, kind_by b l, kind_by c m, kind_by d o, kind_by e p, kind_by f q) refl

six_of : {A : Type 0} (xs : List A) (d : A) → length xs ≡ 6 → xs ≡ get_or xs 0 d ∷ get_or xs 1 d ∷ get_or xs 2 d ∷ get_or xs 3 d ∷ get_or xs 4 d ∷ get_or xs 5 d ∷ []
six_of [] x le = absurd (omega arith)
six_of (a ∷ []) x le = absurd (omega arith)
six_of (a ∷ (b ∷ [])) x le = absurd (omega arith)
six_of (a ∷ (b ∷ (c ∷ []))) x le = absurd (omega arith)
six_of (a ∷ (b ∷ (c ∷ (d ∷ [])))) x le = absurd (omega arith)
six_of (a ∷ (b ∷ (c ∷ (d ∷ (e ∷ []))))) x le = absurd (omega arith)
six_of (a ∷ (b ∷ (c ∷ (d ∷ (e ∷ (f ∷ [])))))) x le = refl
six_of (a ∷ (b ∷ (c ∷ (d ∷ (e ∷ (f ∷ (g ∷ more))))))) x le = absurd (omega arith)

pub first_parts : (n : ℕ) (ws : List ℕ) (ks : List AttrKind) (w : ℕ) (t : AttrKind) → length ws ≡ 6 → length ks ≡ 6
    → record {
      words = kept_word (nat_lt 0 n) (get_or ws 0 w) (get_or ks 0 t) ∷ kept_word (nat_lt 1 n) (get_or ws 1 w) (get_or ks 1 t) ∷ kept_word (nat_lt 2 n) (get_or ws 2 w) (get_or ks 2 t) ∷ kept_word (nat_lt 3 n) (get_or ws 3 w) (get_or ks 3 t) ∷ kept_word (nat_lt 4 n) (get_or ws 4 w) (get_or ks 4 t) ∷ kept_word (nat_lt 5 n) (get_or ws 5 w) (get_or ks 5 t) ∷ [];
      kinds = kept_kind (nat_lt 0 n) (get_or ks 0 t) ∷ kept_kind (nat_lt 1 n) (get_or ks 1 t) ∷ kept_kind (nat_lt 2 n) (get_or ks 2 t) ∷ kept_kind (nat_lt 3 n) (get_or ks 3 t) ∷ kept_kind (nat_lt 4 n) (get_or ks 4 t) ∷ kept_kind (nat_lt 5 n) (get_or ks 5 t) ∷ [];
      count = min n 6;
    }
    ≡ fields_of (take n (values_by ws ks))
first_parts n ws ks w t six_ws six_ks =
    let six_kinds = get_or ks 0 t ∷ get_or ks 1 t ∷ get_or ks 2 t ∷ get_or ks 3 t ∷ get_or ks 4 t ∷ get_or ks 5 t ∷ [] in
    sym (parts n _ _ _ _ _ _ _ _ _ _ _ _)
    ∙ ap (λ xs. fields_of (take n (values_by xs six_kinds))) (sym (six_of ws w six_ws))
    ∙ ap (λ ys. fields_of (take n (values_by ws ys))) (sym (six_of ks t six_ks))

-- six values that are kept one by one
pub six_fit : (ws : List ℕ) (ks : List AttrKind) (w : ℕ) (t : AttrKind) → length ws ≡ 6 → length ks ≡ 6
    → fits_word (value_by (get_or ws 0 w) (get_or ks 0 t)) ≡ true → fits_word (value_by (get_or ws 1 w) (get_or ks 1 t)) ≡ true → fits_word (value_by (get_or ws 2 w) (get_or ks 2 t)) ≡ true → fits_word (value_by (get_or ws 3 w) (get_or ks 3 t)) ≡ true → fits_word (value_by (get_or ws 4 w) (get_or ks 4 t)) ≡ true → fits_word (value_by (get_or ws 5 w) (get_or ks 5 t)) ≡ true
    → fit_words (values_by ws ks) ≡ true
six_fit ws ks w t six_ws six_ks i j k l m n =
    ap (λ xs. fit_words (values_by xs ks)) (six_of ws w six_ws)
    ∙ ap (λ ys. fit_words (values_by (get_or ws 0 w ∷ get_or ws 1 w ∷ get_or ws 2 w ∷ get_or ws 3 w ∷ get_or ws 4 w ∷ get_or ws 5 w ∷ []) ys)) (six_of ks t six_ks)
    ∙ rw (i, j, k, l, m, n) refl

-- the value at a place
pub value_at_place : (n i : ℕ) (ws : List ℕ) (ks : List AttrKind) (w : ℕ) (t : AttrKind) → i < n → i < length ws → i < length ks
    → slice_get (take n (values_by ws ks)) i ≡ Some (value_by (get_or ws i w) (get_or ks i t))
value_at_place zero i ws ks w t lt lw lk = absurd (omega arith)
value_at_place (suc n) i [] ks w t lt lw lk = absurd (omega arith)
value_at_place (suc n) i (x ∷ ws) [] w t lt lw lk = absurd (omega arith)
value_at_place (suc n) zero (x ∷ ws) (k ∷ ks) w t lt lw lk = refl
value_at_place (suc n) (suc i) (x ∷ ws) (k ∷ ks) w t lt lw lk = value_at_place n i ws ks w t (omega arith) (omega arith) (omega arith)

-- values by the bits of their kinds
by_bits : (b s : Bool) (word : ℕ) → value_by word (kind_of_bits b s) ≡ attr_from b s word
by_bits true s word = refl
by_bits false true word = refl
by_bits false false word = refl

pub six_by_bits : (ws : List ℕ) (w : ℕ) (b0 b1 b2 b3 b4 b5 s0 s1 s2 s3 s4 s5 : Bool) → length ws ≡ 6
    → values_by ws (kind_of_bits b0 s0 ∷ kind_of_bits b1 s1 ∷ kind_of_bits b2 s2 ∷ kind_of_bits b3 s3 ∷ kind_of_bits b4 s4 ∷ kind_of_bits b5 s5 ∷ [])
    ≡ attr_from b0 s0 (get_or ws 0 w) ∷ attr_from b1 s1 (get_or ws 1 w) ∷ attr_from b2 s2 (get_or ws 2 w) ∷ attr_from b3 s3 (get_or ws 3 w) ∷ attr_from b4 s4 (get_or ws 4 w) ∷ attr_from b5 s5 (get_or ws 5 w) ∷ []
six_by_bits ws w b0 b1 b2 b3 b4 b5 s0 s1 s2 s3 s4 s5 six =
    ap (λ xs. values_by xs (kind_of_bits b0 s0 ∷ kind_of_bits b1 s1 ∷ kind_of_bits b2 s2 ∷ kind_of_bits b3 s3 ∷ kind_of_bits b4 s4 ∷ kind_of_bits b5 s5 ∷ [])) (six_of ws w six)
    ∙ rw (by_bits b0 s0 (get_or ws 0 w), by_bits b1 s1 (get_or ws 1 w), by_bits b2 s2 (get_or ws 2 w), by_bits b3 s3 (get_or ws 3 w), by_bits b4 s4 (get_or ws 4 w), by_bits b5 s5 (get_or ws 5 w)) refl
