-- What tasks hear, one after the other.
use Rattle.std.proofs.Common.{◌≡◌, ◌≢◌, ℕ, ◌+◌, ◌<◌, ◌⊎◌, Bool, List, Option, refl, sym, ◌∙◌, subst, inl, inr, arith}
use Rattle.std.specs.List.{slice_get}
use Rattle.std.proofs.lemmas.Bool.{cases_eq}
use Rattle.tk_exec.specs.Seats.{Seat, ChangesAt}
use Rattle.tk_exec.specs.Futures.{Lent, SeatHears, PlaceHears, HearBelow}

module _ {F A : Type 0} (moment : ℕ) where
  -- no place has heard yet
  pub hear_none : (old : List (Seat (Lent F) A)) → HearBelow 0 old moment old
  hear_none old = record { as_long = refl; hears = λ i less. absurd (omega arith); others = λ i from. refl }

  -- one place more
  pub hear_more : (place : ℕ) (old mid new : List (Seat (Lent F) A)) (heard : Bool) → HearBelow place old moment mid → (change : ChangesAt place mid new) → SeatHears change.before moment heard change.after → HearBelow (place + 1) old moment new
  hear_more place old mid new heard p change hears = record {
    as_long = change.as_long ∙ p.as_long;
    hears = λ i less. at i less (cases_eq i place);
    others = λ i from. change.others i (λ is. absurd (omega (arith, is))) ∙ p.others i (omega arith);
  }
    where
      carry : {o n o' n' : Option (Seat (Lent F) A)} → PlaceHears o moment n → o' ≡ o → n' ≡ n → PlaceHears o' moment n'
      carry q e f = record { before = q.before; after = q.after; heard = q.heard; stood = e ∙ q.stood; stands = f ∙ q.stands; hears = q.hears }

      at : (i : ℕ) → i < place + 1 → (i ≡ place) ⊎ (i ≢ place) → PlaceHears (slice_get old i) moment (slice_get new i)
      at i less (inl is) = subst (λ (n : ℕ). PlaceHears (slice_get old n) moment (slice_get new n)) (sym is)
          (record { before = change.before; after = change.after; heard = heard; stood = sym (p.others place (omega arith)) ∙ change.stood; stands = change.stands; hears = hears })
      at i less (inr isnt) = carry (p.hears i (omega (arith, isnt))) refl (change.others i isnt)
