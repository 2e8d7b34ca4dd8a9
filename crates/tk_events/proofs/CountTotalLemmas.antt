-- Totals of words, and of what was counted.
use Rattle.std.proofs.Common.{◌≡◌, ◌≢◌, ℕ, zero, suc, ◌+◌, ◌-◌, ◌*◌, ◌<◌, ◌≤◌, List, [], ◌∷◌, ◌++◌, length, get_or, set, slice_index, refl, ap, sym, ◌∙◌, subst, arith, inl, inr, ◌⊎◌, ⊎_elim}
use Rattle.std.specs.List.{All}
use Rattle.std.proofs.lemmas.List.{get_or-set_other}
use Rattle.std.proofs.lemmas.List.Elements.{All-head, All-tail}
use Rattle.tk_events.specs.declared.counts.view.Tally.{Tally}
use Rattle.tk_events.specs.Counts.{numbers_known, word_of, total_of, counted_of, IsWhole}
use Rattle.tk_cell.specs.Views.{times}
use Rattle.tk_cell.proofs.ListLemmas.{dec_eq, times_itself, times_other}

-- a write above does not change a total
pub total_above : (k n i x : ℕ) (xs : List ℕ) → k < 3 → 3 * n ≤ i → total_of k n (set xs i x) ≡ total_of k n xs
total_above k zero i x xs kl le = refl
total_above k (suc n) i x xs kl le =
    let a = total_above k n i x xs kl (omega (arith, le)) in
    let b = get_or-set_other xs i (3 * n + k) x 0 (λ e. omega (arith, e, le, kl)) in
    omega (arith, a, b)

-- a write to a word of another kind does not change a total
pub total_other : (j k n p x : ℕ) (xs : List ℕ) → j < 3 → k < 3 → j ≢ k → total_of j n (set xs (3 * p + k) x) ≡ total_of j n xs
total_other j k zero p x xs jl kl ne = refl
total_other j k (suc n) p x xs jl kl ne =
    let a = total_other j k n p x xs jl kl ne in
    let b = get_or-set_other xs (3 * p + k) (3 * n + j) x 0 (λ e. omega (arith, e, jl, kl, ne)) in
    omega (arith, a, b)

-- a number for each of 1 to n, as often as it stands in the list, added up
pick : ℕ → (ℕ → ℕ) → List ℕ → ℕ
pick zero g xs = 0
pick (suc n) g xs = pick n g xs + times (suc n) xs * g (suc n)

pick_nil : (n : ℕ) (g : ℕ → ℕ) → pick n g [] ≡ 0
unfolding pick
pick_nil zero g = refl
pick_nil (suc n) g = let a = pick_nil n g in omega (arith, a)

pick_cons : (n : ℕ) (g : ℕ → ℕ) (x : ℕ) (xs : List ℕ) → pick n g (x ∷ xs) ≡ pick n g (x ∷ []) + pick n g xs
unfolding pick
pick_cons zero g x xs = refl
pick_cons (suc n) g x xs = let a = pick_cons n g x xs in omega (arith, a)

pick_above : (n : ℕ) (g : ℕ → ℕ) (x : ℕ) → n < x → pick n g (x ∷ []) ≡ 0
unfolding pick
pick_above zero g x lt = refl
pick_above (suc n) g x lt =
    let t : times (suc n) (x ∷ []) ≡ 0 = times_other x (suc n) (λ e. omega (arith, lt, e)) in
    let a = pick_above n g x (omega (arith, lt)) in
    rw t (omega (arith, a))

pick_one : (n : ℕ) (g : ℕ → ℕ) (x : ℕ) → 0 < x → x ≤ n → pick n g (x ∷ []) ≡ g x
unfolding pick
pick_one zero g x low high = absurd (omega (arith, low, high))
pick_one (suc n) g x low high = ⊎_elim
    (λ (e : x ≡ suc n).
    let t : times (suc n) (x ∷ []) ≡ 1 = subst (λ (m : ℕ). times m (x ∷ []) ≡ 1) e (times_itself x) in
    let a = pick_above n g x (omega (arith, e)) in
    let b : g x ≡ g (suc n) = ap g e in
    rw t (omega (arith, a, b)))
    (λ (ne : x ≢ suc n).
    let t : times (suc n) (x ∷ []) ≡ 0 = times_other x (suc n) ne in
    let a = pick_one n g x low (omega (arith, high, ne)) in
    rw t (omega (arith, a)))
    (dec_eq x (suc n))

pick_whole : (n : ℕ) (k : ℕ) (words xs : List ℕ) → ((p : ℕ) → 0 < p → p ≤ n → times p xs ≡ 1) → pick n (λ p. slice_index words (word_of p k)) xs ≡ total_of k n words
unfolding pick
pick_whole zero k words xs each = refl
pick_whole (suc n) k words xs each =
    let a = pick_whole n k words xs (λ p low high. each p low (omega (arith, high))) in
    let t : times (suc n) xs ≡ 1 = each (suc n) (omega arith) (omega arith) in
    let w : word_of (suc n) k ≡ 3 * n + k = omega arith in
    let b : slice_index words (word_of (suc n) k) ≡ slice_index words (3 * n + k) = ap (λ (i : ℕ). slice_index words i) w in
    rw t (omega (arith, a, b))

pick_known : (n k : ℕ) (words : List ℕ) (known : List Tally) → All (λ t. (0 < t.number) × (t.number ≤ n)) known → All (λ t. slice_index words (word_of t.number k) ≡ slice_index t.counts k) known
    → pick n (λ p. slice_index words (word_of p k)) (numbers_known known) ≡ counted_of k known
pick_known n k words [] named read = pick_nil n (λ p. slice_index words (word_of p k))
pick_known n k words (t ∷ ts) named read =
    let g : ℕ → ℕ = λ p. slice_index words (word_of p k) in
    let here = All-head (λ (x : Tally). (0 < x.number) × (x.number ≤ n)) t ts named in
    let a = pick_cons n g t.number (numbers_known ts) in
    let b = pick_one n g t.number here.0 here.1 in
    let c = All-head (λ (x : Tally). slice_index words (word_of x.number k) ≡ slice_index x.counts k) t ts read in
    let d = pick_known n k words ts (All-tail (λ (x : Tally). (0 < x.number) × (x.number ≤ n)) t ts named) (All-tail (λ (x : Tally). slice_index words (word_of x.number k) ≡ slice_index x.counts k) t ts read) in
    omega (arith, a, b, c, d)

-- where each adder was joined and its words have its counts, the total is what they counted
pub total_exact : (n k : ℕ) (words : List ℕ) (known : List Tally) → IsWhole n known → All (λ t. slice_index words (word_of t.number k) ≡ slice_index t.counts k) known → total_of k n words ≡ counted_of k known
total_exact n k words known whole read = sym (pick_whole n k words (numbers_known known) whole.each) ∙ pick_known n k words known whole.named read

pub total_more : (k p : ℕ) (xs : List ℕ) → total_of k (p + 1) xs ≡ total_of k p xs + slice_index xs (3 * p + k)
total_more k p xs = rw Rattle.std.proofs.Common.add-one refl

-- A step of the sum: the word of the next adder is read.
module _ (k p n x : ℕ) (old now next : List ℕ) (kl : k < 3) (pl : p < n) (size : length now ≡ 3 * n) (is : next ≡ set now (3 * p + k) x) where
  inside : 3 * p + k < length now
  inside = omega (arith, kl, pl, size)

  here : slice_index next (3 * p + k) ≡ x
  here = ap (λ (l : List ℕ). slice_index l (3 * p + k)) is ∙ Rattle.std.proofs.lemmas.List.get_or-set_same now (3 * p + k) x 0 inside

  there : (i : ℕ) → i ≢ 3 * p + k → slice_index next i ≡ slice_index now i
  there i ne = ap (λ (l : List ℕ). slice_index l i) is ∙ get_or-set_other now (3 * p + k) i x 0 ne

  pub sum_step : (sum : ℕ) → sum ≡ total_of k p now → sum + x ≡ total_of k (p + 1) next
  sum_step sum e =
      let a = total_more k p next in
      let b : total_of k p next ≡ total_of k p now = ap (λ (l : List ℕ). total_of k p l) is ∙ total_above k p (3 * p + k) x now kl (omega arith) in
      let c = here in
      omega (arith, a, b, c, e)

  pub ahead_step : ((i : ℕ) → 3 * p ≤ i → slice_index now i ≡ slice_index old i) → (i : ℕ) → 3 * (p + 1) ≤ i → slice_index next i ≡ slice_index old i
  ahead_step h i le = there i (λ e. omega (arith, e, le, kl)) ∙ h i (omega (arith, le))

  pub reached_step : (sum : ℕ) → ((i : ℕ) → 3 * p ≤ i → slice_index now i ≡ slice_index old i) → slice_index now (3 * p + k) ≤ x → total_of k p old ≤ sum → total_of k (p + 1) old ≤ sum + x
  reached_step sum h rises le =
      let a = total_more k p old in
      let b = h (3 * p + k) (omega arith) in
      omega (arith, a, b, rises, le)

  pub others_step : ((j : ℕ) → j < 3 → j ≢ k → total_of j n now ≡ total_of j n old) → (j : ℕ) → j < 3 → j ≢ k → total_of j n next ≡ total_of j n old
  others_step h j jl ne = ap (λ (l : List ℕ). total_of j n l) is ∙ (total_other j k n p x now jl kl ne ∙ h j jl ne)

  pub exact_step : (known : List Tally) → All (λ t. 0 < t.number → t.number ≤ p → slice_index now (word_of t.number k) ≡ slice_index t.counts k) known
      → All (λ t. (q : ℕ) → q < 3 → 3 * p + k ≡ word_of t.number q → x ≡ slice_index t.counts q) known
      → All (λ t. 0 < t.number → t.number ≤ p + 1 → slice_index next (word_of t.number k) ≡ slice_index t.counts k) known
  exact_step known was read m d lt low high =
      let t = get_or known m d in
      ⊎_elim
      (λ (e : t.number ≡ p + 1).
      let place : 3 * p + k ≡ word_of t.number k = omega (arith, e) in
      ap (λ (i : ℕ). slice_index next i) (sym place) ∙ (here ∙ read m d lt k kl place))
      (λ (ne : t.number ≢ p + 1).
      there (word_of t.number k) (λ e. omega (arith, e, ne, high, low)) ∙ was m d lt low (omega (arith, ne, high)))
      (dec_eq t.number (p + 1))
