-- Loops over what stands at places, one more.
use Rattle.std.proofs.Common.{◌≡◌, ℕ, ◌+◌, ◌≤◌, List, [], length, take, slice_get, Option, Some, None, refl, ap, sym, ◌∙◌, append-nil, arith, subst}
use Rattle.std.specs.Prelude.{flat_map, fold}
use Rattle.std.specs.Option.{option_map_or}
use Rattle.std.proofs.lemmas.List.{take_all}
use Rattle.tk_paper.specs.Pieces.{Writes}
use Rattle.tk_paper.specs.Escaping.{PaperView}
use Rattle.tk_paper.specs.Parts.{Bit}
use Rattle.tk_paper.proofs.PutLemmas.{then}
use Rattle.tk_page.proofs.LoopLemmas.{fold_next, next_part, past_end}

-- past the end nothing is taken more
no_more : {A : Type 0} (xs : List A) (i : ℕ) → None ≡ slice_get xs i → take i xs ≡ take (i + 1) xs
no_more xs i none =
    let all : length xs ≤ i = past_end xs i none in
    let more : length xs ≤ i + 1 = omega arith in
    take_all i xs all ∙ sym (take_all (i + 1) xs more)

-- the parts of what stands at the next place were put, if anything stands there
pub next_at : {A : Type 0} (f : A → List Bit) {a b c : PaperView} (xs : List A) (i : ℕ) → Writes a b (flat_map f (take i xs))
    → Writes b c (option_map_or f (slice_get xs i) []) → Writes a c (flat_map f (take (i + 1) xs))
next_at {A} f {a} {b} {c} xs i g h = by (slice_get xs i) refl h
  where
    by : (o : Option A) → slice_get xs i ≡ o → Writes b c (option_map_or f o []) → Writes a c (flat_map f (take (i + 1) xs))
    by (Some x) at k = next_part f xs i x at g k
    by None at k = subst (Writes a c) (append-nil (flat_map f (take i xs)) ∙ ap (flat_map f) (no_more xs i (sym at))) (then g k)

-- what stands at the next place is taken into a fold
pub fold_at : {A B : Type 0} (f : B → A → B) (b : B) (xs : List A) (i : ℕ)
    → option_map_or (λ x. f (fold f b (take i xs)) x) (slice_get xs i) (fold f b (take i xs)) ≡ fold f b (take (i + 1) xs)
fold_at {A} {B} f b xs i = by (slice_get xs i) refl
  where
    by : (o : Option A) → slice_get xs i ≡ o → option_map_or (λ x. f (fold f b (take i xs)) x) o (fold f b (take i xs)) ≡ fold f b (take (i + 1) xs)
    by (Some x) at = sym (fold_next f b xs i x (sym at))
    by None at = ap (fold f b) (no_more xs i (sym at))
