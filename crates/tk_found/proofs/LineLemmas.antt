-- Lines of findings, one more.
use Rattle.std.proofs.Common.{◌≡◌, ℕ, zero, suc, ◌+◌, ◌<◌, ◌≤◌, List, [], ◌∷◌, ◌++◌, length, map, take, get_or, refl, ap, ap₂, sym, ◌∙◌, append-nil, append_assoc, add-one, arith}
use Rattle.std.specs.Prelude.{flat_map}
use Rattle.std.proofs.lemmas.List.{take_all}
use Rattle.tk_odd.specs.declared.finding.Found.{Found}
use Rattle.tk_odd.specs.Findings.{told}
use Rattle.tk_found.specs.Lines.{finding_lines, lines_at, lines_from}

-- the lines of the first findings, and of the one after them
pub lines_more : (n : ℕ) (xs : List Found) (i : ℕ) (x : Found) (m : ℕ) → i < length xs → x ≡ get_or xs i x → m ≡ n + i
    → lines_from n (map told (take (i + 1) xs)) ≡ lines_from n (map told (take i xs)) ++ lines_at m (told x)
lines_more n xs i x m h at is = rw add-one (by n xs i m h at is)
  where
    by : (k : ℕ) (ys : List Found) (j m : ℕ) → j < length ys → x ≡ get_or ys j x → m ≡ k + j
        → lines_from k (map told (take (suc j) ys)) ≡ lines_from k (map told (take j ys)) ++ lines_at m (told x)
    by k [] j m g e same = absurd (omega (arith, g))
    by k (y ∷ ys) zero m g e same = append-nil (lines_at k (told y)) ∙ ap₂ (λ (l : ℕ) (z : Found). lines_at l (told z)) (omega (arith, same)) (sym e)
    by k (y ∷ ys) (suc j) m g e same =
        ap (λ (zs : List ℕ). lines_at k (told y) ++ zs) (by (k + 1) ys j m (omega (arith, g)) e (omega (arith, same)))
        ∙ sym (append_assoc (lines_at k (told y)) (lines_from (k + 1) (map told (take j ys))) (lines_at m (told x)))

-- the texts of the first items, and of the one after them
pub flat_more : {A : Type 0} (f : A → List ℕ) (xs : List A) (i : ℕ) (x : A) → i < length xs → x ≡ get_or xs i x
    → flat_map f (take (i + 1) xs) ≡ flat_map f (take i xs) ++ f x
flat_more {A} f xs i x h at = rw add-one (by xs i h at)
  where
    by : (ys : List A) (j : ℕ) → j < length ys → x ≡ get_or ys j x → flat_map f (take (suc j) ys) ≡ flat_map f (take j ys) ++ f x
    by [] j g e = absurd (omega (arith, g))
    by (y ∷ ys) zero g e = append-nil (f y) ∙ ap f (sym e)
    by (y ∷ ys) (suc j) g e = ap (λ (zs : List ℕ). f y ++ zs) (by ys j (omega (arith, g)) e) ∙ sym (append_assoc (f y) (flat_map f (take j ys)) (f x))

-- those of all
pub lines_all : (xs : List Found) (i : ℕ) → length xs ≤ i → lines_from 1 (map told (take i xs)) ≡ finding_lines (map told xs)
lines_all xs i past = ap (λ (ys : List Found). lines_from 1 (map told ys)) (take_all i xs past)
