-- Findings, one more.
use Rattle.std.proofs.Common.{◌≡◌, ℕ, zero, suc, ◌+◌, ◌<◌, List, [], ◌∷◌, ◌++◌, length, map, take, get_or, Bool, true, false, ◌||◌, cond, refl, ap, ap₂, sym, ◌∙◌, append-nil, append_assoc, add-one, arith}
use Rattle.std.specs.Str.{IsUtf8, is_utf8}
use Rattle.std.proofs.lemmas.Str.{IsUtf8-from_is_utf8, is_utf8-from_IsUtf8}
use Rattle.tk_odd.specs.declared.finding.Found.{Found}
use Rattle.tk_odd.specs.Findings.{Placed, placed}
use Rattle.tk_screen.specs.Screens.{LineView}
use Rattle.tk_frame.specs.Findings.{any_now, numbered, place_words}

-- the lines of the first findings, and of the one after them
pub numbered_more : {X : Type 0} (of : Found → X) (lines : ℕ → X → List LineView) (n : ℕ) (xs : List Found) (i : ℕ) (x : Found) (m : ℕ) → i < length xs → x ≡ get_or xs i x → m ≡ n + i
    → numbered lines n (map of (take (i + 1) xs)) ≡ numbered lines n (map of (take i xs)) ++ lines m (of x)
numbered_more of lines n xs i x m h at is = rw add-one (by n xs i m h at is)
  where
    by : (k : ℕ) (ys : List Found) (j m : ℕ) → j < length ys → x ≡ get_or ys j x → m ≡ k + j
        → numbered lines k (map of (take (suc j) ys)) ≡ numbered lines k (map of (take j ys)) ++ lines m (of x)
    by k [] j m g e same = absurd (omega (arith, g))
    by k (y ∷ ys) zero m g e same = append-nil (lines k (of y)) ∙ ap₂ (λ (l : ℕ) (z : Found). lines l (of z)) (omega (arith, same)) (sym e)
    by k (y ∷ ys) (suc j) m g e same =
        ap (λ (zs : List LineView). lines k (of y) ++ zs) (by (k + 1) ys j m (omega (arith, g)) e (omega (arith, same)))
        ∙ sym (append_assoc (lines k (of y)) (numbered lines (k + 1) (map of (take j ys))) (lines m (of x)))

-- the lines of the first items, and of the one after them
pub numbered_next : {X : Type 0} (lines : ℕ → X → List LineView) (n : ℕ) (xs : List X) (i : ℕ) (none : X) (m : ℕ) → i < length xs → m ≡ n + i
    → numbered lines n (take (i + 1) xs) ≡ numbered lines n (take i xs) ++ lines m (get_or xs i none)
numbered_next {X} lines n xs i none m h is = rw add-one (by n xs i m h is)
  where
    by : (k : ℕ) (ys : List X) (j m : ℕ) → j < length ys → m ≡ k + j
        → numbered lines k (take (suc j) ys) ≡ numbered lines k (take j ys) ++ lines m (get_or ys j none)
    by k [] j m g same = absurd (omega (arith, g))
    by k (y ∷ ys) zero m g same = append-nil (lines k y) ∙ ap (λ (l : ℕ). lines l y) (omega (arith, same))
    by k (y ∷ ys) (suc j) m g same =
        ap (λ (zs : List LineView). lines k y ++ zs) (by (k + 1) ys j m (omega (arith, g)) (omega (arith, same)))
        ∙ sym (append_assoc (lines k y) (numbered lines (k + 1) (take j ys)) (lines m (get_or ys j none)))

-- the first of those that are made
pub map_take : (n : ℕ) (xs : List Found) → map placed (take n xs) ≡ take n (map placed xs)
map_take zero [] = refl
map_take zero (x ∷ xs) = refl
map_take (suc n) [] = refl
map_take (suc n) (x ∷ xs) = ap (λ ys. placed x ∷ ys) (map_take n xs)

or_true : (b : Bool) → (b || true) ≡ true
or_true true = refl
or_true false = refl

or_false : (b c : Bool) → b ≡ false → c ≡ false → (b || c) ≡ false
or_false b c g h = rw (g, h) refl

-- one of them holds now
pub now_at : (xs : List Found) (i : ℕ) (x : Found) → i < length xs → x ≡ get_or xs i x → x.finding.is_now ≡ true → any_now (map placed xs) ≡ true
now_at [] i x h at is = absurd (omega (arith, h))
now_at (y ∷ ys) zero x h at is = ap (λ b. b || any_now (map placed ys)) (ap (λ (z : Found). z.finding.is_now) (sym at) ∙ is)
now_at (y ∷ ys) (suc i) x h at is = ap (λ b. y.finding.is_now || b) (now_at ys i x (omega (arith, h)) at is) ∙ or_true y.finding.is_now

-- none of them, nor the one after them
pub none_now : (xs : List Found) (i : ℕ) (x : Found) → i < length xs → x ≡ get_or xs i x → any_now (map placed (take i xs)) ≡ false → x.finding.is_now ≡ false
    → any_now (map placed (take (i + 1) xs)) ≡ false
none_now xs i x h at none is = rw add-one (by xs i h at none)
  where
    first : (a b : Bool) → (a || b) ≡ false → a ≡ false
    first true b e = e
    first false b e = refl

    rest : (a b : Bool) → (a || b) ≡ false → b ≡ false
    rest true b e = absurd (cc)
    rest false b e = e

    by : (ys : List Found) (j : ℕ) → j < length ys → x ≡ get_or ys j x → any_now (map placed (take j ys)) ≡ false → any_now (map placed (take (suc j) ys)) ≡ false
    by [] j g e nobody = absurd (omega (arith, g))
    by (y ∷ ys) zero g e nobody = or_false y.finding.is_now false (ap (λ (z : Found). z.finding.is_now) (sym e) ∙ is) refl
    by (y ∷ ys) (suc j) g e nobody =
        or_false y.finding.is_now (any_now (map placed (take (suc j) ys))) (first y.finding.is_now (any_now (map placed (take j ys))) nobody)
        (by ys j (omega (arith, g)) e (rest y.finding.is_now (any_now (map placed (take j ys))) nobody))

-- a place that is text
pub place_is : (place : List ℕ) → IsUtf8 place → place_words place ≡ place
place_is place h = ap (λ b. cond b place []) (is_utf8-from_IsUtf8 place h)

-- or is none
pub place_none : (place : List ℕ) → (IsUtf8 place → ⊥) → place_words place ≡ []
place_none place h = by (is_utf8 place) refl
  where
    by : (b : Bool) → is_utf8 place ≡ b → cond b place [] ≡ []
    by true e = absurd (h (IsUtf8-from_is_utf8 place e))
    by false e = refl
