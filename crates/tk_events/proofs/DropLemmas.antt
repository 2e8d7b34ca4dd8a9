-- What was counted is what was refused.
use Rattle.std.proofs.Common.{◌≡◌, ℕ, zero, suc, replicate, ◌*◌, ◌+◌, ◌<◌, ◌≤◌, List, [], ◌∷◌, map, slice_index, refl, ap, sym, ◌∙◌, subst, arith}
use Rattle.std.proofs.lemmas.List.Elements.{All-map}
use Rattle.tk_events.specs.declared.counts.view.Tally.{Tally}
use Rattle.tk_events.specs.Counts.{numbers_known as numbers_counted, counted_of, total_of, IsWhole as IsCountedWhole}
use Rattle.tk_cell.specs.Views.{times}
use Rattle.tk_events.specs.declared.item.Offer.{Offer}
use Rattle.tk_events.specs.declared.buffer.view.Returned.{Returned}
use Rattle.tk_events.specs.declared.buffer.view.View.{View}
use Rattle.tk_events.specs.Offers.{dropped_of, drops_of}
use Rattle.tk_events.specs.Buffer.{numbers_known, IsBalanced}
use Rattle.tk_events.specs.Handles.{IsWhole, refused_of}
use Rattle.tk_events.specs.Parts.{totals_of, tally_of}

same_numbers : (known : List Returned) → numbers_counted (map tally_of known) ≡ numbers_known known
same_numbers [] = refl
same_numbers (r ∷ rs) = ap (λ l. r.number ∷ l) (same_numbers rs)

pub counted_whole : (n : ℕ) (v : View) (left : List Offer) (tallies : List Tally) → tallies ≡ map tally_of v.known → IsBalanced v left → v.made ≡ n → IsWhole n v.known → IsCountedWhole n tallies
counted_whole n v left tallies is b made whole = subst (λ (l : List Tally). IsCountedWhole n l) (sym is) (record {
  named = All-map (λ (t : Tally). (0 < t.number) × (t.number ≤ n)) tally_of v.known (λ k d lt. let h = b.known k d lt in let high = h.high in (h.low, omega (arith, high, made)));
  each = λ p low high. ap (λ (l : List ℕ). times p l) (same_numbers v.known) ∙ whole p low high;
})

counted_refused : (k : ℕ) → ((os : List Offer) → slice_index (drops_of os) k ≡ dropped_of k os) → (known : List Returned) → counted_of k (map tally_of known) ≡ refused_of k known
counted_refused k at [] = refl
counted_refused k at (r ∷ rs) = let a = at r.refused in let b = counted_refused k at rs in omega (arith, a, b)

pub counted_zero : (tallies : List Tally) (known : List Returned) → tallies ≡ map tally_of known → counted_of 0 tallies ≡ refused_of 0 known
counted_zero tallies known is = ap (λ (l : List Tally). counted_of 0 l) is ∙ counted_refused 0 (λ os. refl) known

pub counted_one : (tallies : List Tally) (known : List Returned) → tallies ≡ map tally_of known → counted_of 1 tallies ≡ refused_of 1 known
counted_one tallies known is = ap (λ (l : List Tally). counted_of 1 l) is ∙ counted_refused 1 (λ os. refl) known

pub counted_two : (tallies : List Tally) (known : List Returned) → tallies ≡ map tally_of known → counted_of 2 tallies ≡ refused_of 2 known
counted_two tallies known is = ap (λ (l : List Tally). counted_of 2 l) is ∙ counted_refused 2 (λ os. refl) known

zero_index : (m i : ℕ) → slice_index (replicate m 0) i ≡ 0
zero_index zero i = refl
zero_index (suc m) zero = refl
zero_index (suc m) (suc i) = zero_index m i

zero_total : (k n m : ℕ) → total_of k n (replicate m 0) ≡ 0
zero_total k zero m = refl
zero_total k (suc n) m = let a = zero_total k n m in let b = zero_index m (3 * n + k) in omega (arith, a, b)

pub unread : (n m : ℕ) → totals_of n (replicate m 0) ≡ record { tasks = 0; resources = 0; ops = 0 }
unread n m = λ i. record { tasks = zero_total 0 n m i; resources = zero_total 1 n m i; ops = zero_total 2 n m i }
