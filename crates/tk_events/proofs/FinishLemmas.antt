-- Where as many recorders were taken in as were made, each was.
use Rattle.std.proofs.Common.{◌≡◌, ◌≢◌, ℕ, zero, suc, ◌+◌, ◌<◌, ◌≤◌, List, [], ◌∷◌, ◌++◌, length, refl, sym, ◌∙◌, subst, arith, ⊎_elim}
use Rattle.std.specs.List.{All}
use Rattle.std.proofs.lemmas.List.Elements.{All-head, All-tail}
use Rattle.tk_events.specs.declared.item.Offer.{Offer}
use Rattle.tk_events.specs.declared.buffer.view.Returned.{Returned}
use Rattle.tk_events.specs.declared.buffer.view.View.{View}
use Rattle.tk_events.specs.Buffer.{numbers_known, IsKnown, IsBalanced}
use Rattle.tk_cell.specs.Views.{times}
use Rattle.tk_events.specs.Handles.{IsWhole}
use Rattle.tk_cell.proofs.ListLemmas.{dec_eq, times_itself, times_other}

-- how often the numbers from 1 to n stand in the list, together
below : ℕ → List ℕ → ℕ
below zero xs = 0
below (suc n) xs = below n xs + times (suc n) xs

below_nil : (n : ℕ) → below n [] ≡ 0
unfolding below
below_nil zero = refl
below_nil (suc n) = omega (arith, below_nil n)

below_cons : (n x : ℕ) (xs : List ℕ) → below n (x ∷ xs) ≡ below n (x ∷ []) + below n xs
unfolding below
below_cons zero x xs = refl
below_cons (suc n) x xs = omega (arith, below_cons n x xs)

below_above : (n x : ℕ) → n < x → below n (x ∷ []) ≡ 0
unfolding below
below_above zero x lt = refl
below_above (suc n) x lt = let t = times_other x (suc n) (λ e. omega (arith, lt, e)) in let rest = below_above n x (omega (arith, lt)) in omega (arith, rest, t)

below_one : (n x : ℕ) → 0 < x → x ≤ n → below n (x ∷ []) ≡ 1
unfolding below
below_one zero x low high = absurd (omega (arith, low, high))
below_one (suc n) x low high = ⊎_elim
    (λ (e : x ≡ suc n). let t : times (suc n) (x ∷ []) ≡ 1 = subst (λ (m : ℕ). times m (x ∷ []) ≡ 1) e (times_itself x) in let rest = below_above n x (omega (arith, e)) in omega (arith, rest, t))
    (λ (ne : x ≢ suc n). let t = times_other x (suc n) ne in let rest = below_one n x low (omega (arith, high, ne)) in omega (arith, rest, t))
    (dec_eq x (suc n))

below_known : (n : ℕ) (all : List Offer) (rs : List Returned) → All (IsKnown n all) rs → below n (numbers_known rs) ≡ length rs
below_known n all [] h = below_nil n
below_known n all (r ∷ rs) h =
    let here = All-head (IsKnown n all) r rs h in
    let a = below_cons n r.number (numbers_known rs) in
    let b = below_one n r.number here.low here.high in
    let c = below_known n all rs (All-tail (IsKnown n all) r rs h) in
    omega (arith, a, b, c)

below_most : (n : ℕ) (xs : List ℕ) → ((p : ℕ) → times p xs ≤ 1) → below n xs ≤ n
unfolding below
below_most zero xs once = omega arith
below_most (suc n) xs once = let a = below_most n xs once in let b = once (suc n) in omega (arith, a, b)

each_once : (n : ℕ) (xs : List ℕ) → ((p : ℕ) → times p xs ≤ 1) → n ≤ below n xs → (p : ℕ) → 0 < p → p ≤ n → times p xs ≡ 1
unfolding below
each_once zero xs once full p low high = absurd (omega (arith, low, high))
each_once (suc n) xs once full p low high =
    let a = below_most n xs once in
    let b = once (suc n) in
    ⊎_elim
    (λ (e : p ≡ suc n). subst (λ (m : ℕ). times m xs ≡ 1) (sym e) (omega (arith, a, b, full)))
    (λ (ne : p ≢ suc n). each_once n xs once (omega (arith, b, full)) p low (omega (arith, high, ne)))
    (dec_eq p (suc n))

pub whole : (v : View) (left : List Offer) (recorders : ℕ) → IsBalanced v left → v.made ≡ recorders → recorders ≤ length v.known → IsWhole recorders v.known
whole v left recorders b made enough =
    let all : List Offer = v.taken ++ left in
    let known : All (IsKnown recorders all) v.known = subst (λ (n : ℕ). All (IsKnown n all) v.known) made b.known in
    let same = below_known recorders all v.known known in
    each_once recorders (numbers_known v.known) b.once (omega (arith, same, enough))

-- and none is known twice
below_each : (n : ℕ) (xs : List ℕ) → ((p : ℕ) → 0 < p → p ≤ n → times p xs ≡ 1) → below n xs ≡ n
unfolding below
below_each zero xs each = refl
below_each (suc n) xs each = let a = below_each n xs (λ p low high. each p low (omega (arith, high))) in let b = each (suc n) (omega arith) (omega arith) in omega (arith, a, b)

pub no_more : (v : View) (left : List Offer) (recorders : ℕ) → IsBalanced v left → v.made ≡ recorders → IsWhole recorders v.known → length v.known ≡ recorders
no_more v left recorders b made whole =
    let all : List Offer = v.taken ++ left in
    let known : All (IsKnown recorders all) v.known = subst (λ (n : ℕ). All (IsKnown n all) v.known) made b.known in
    sym (below_known recorders all v.known known) ∙ below_each recorders (numbers_known v.known) whole
