-- Ids of a recorder's own, after one more offer and where none was made.
use Rattle.std.proofs.Common.{◌≡◌, ℕ, ◌+◌, ◌<◌, ◌≤◌, List, [], ◌∷◌, ◌++◌, length, length-append, get_or, refl, ap, sym, ◌∙◌, subst, arith}
use Rattle.std.specs.Prelude.{nat_lt}
use Rattle.std.specs.List.{All}
use Rattle.std.proofs.lemmas.Bool.{lt-ltb, le-ltb}
use Rattle.std.proofs.lemmas.List.{append-nil}
use Rattle.std.proofs.lemmas.List.Elements.{filter-append, All-push, All-head, All-tail, All-nil}
use Rattle.tk_ids.specs.Ids.{id_of}
use Rattle.tk_ids.specs.IdBlocks.{last_number}
use Rattle.tk_events.specs.declared.buffer.view.Returned.{Returned}
use Rattle.tk_events.specs.declared.buffer.view.View.{View}
use Rattle.tk_events.specs.declared.event.Shown.{Shown}
use Rattle.tk_events.specs.declared.event.Shown.TheVariants.{MadeTask, MadeResource, MadeOp, Polled}
use Rattle.tk_events.specs.declared.item.Offer.{Offer}
use Rattle.tk_events.specs.Offers.{earlier, tasks_in, resources_in, ops_in}
use Rattle.tk_events.specs.Buffer.{newborn, returned}
use Rattle.tk_events.specs.Handles.{Recording, HasPlaceId, HasOwnIds, with_kept, with_refused}
use Rattle.tk_events.specs.Parts.{offered, HasNextId}

-- a later offer is none of the earlier ones
earlier_push : (n : ℕ) (os : List Offer) (o : Offer) → n ≤ o.number → earlier n (os ++ o ∷ []) ≡ earlier n os
earlier_push n os o le = filter-append (λ (x : Offer). nat_lt x.number n) os (o ∷ []) ∙ (ap (λ (l : List Offer). earlier n os ++ l) (none o.number (le-ltb o.number n le)) ∙ append-nil (earlier n os))
  where
    none : (k : ℕ) → nat_lt o.number n ≡ Rattle.std.proofs.Common.false → earlier n (o ∷ []) ≡ []
    none k is = rw is refl

-- offers whose numbers are all lower are all earlier
earlier_all : (n : ℕ) (os : List Offer) → All (λ o. o.number < n) os → earlier n os ≡ os
earlier_all n [] h = refl
earlier_all n (o ∷ os) h = rw (lt-ltb o.number n (All-head (λ (x : Offer). x.number < n) o os h)) (ap (λ (l : List Offer). o ∷ l) (earlier_all n os (All-tail (λ (x : Offer). x.number < n) o os h)))

-- the place of an offer depends on the earlier ones alone
place_same : (r s : Returned) (n : ℕ) (e : Shown) → s.number ≡ r.number → earlier n s.kept ≡ earlier n r.kept → earlier n s.refused ≡ earlier n r.refused → HasPlaceId r n e → HasPlaceId s n e
place_same r s n (MadeTask info ledger caller times) p k f h = h ∙ (λ i. id_of (sym p i) (tasks_in (sym k i) + tasks_in (sym f i) + 1))
place_same r s n (MadeResource info ledger caller) p k f h = h ∙ (λ i. id_of (sym p i) (resources_in (sym k i) + resources_in (sym f i) + 1))
place_same r s n (MadeOp info ledger caller) p k f h = h ∙ (λ i. id_of (sym p i) (ops_in (sym k i) + ops_in (sym f i) + 1))
place_same r s n (Polled op) p k f h = h

-- the next id is that of the next place
place_next : (r : Recording) (s : Returned) (n : ℕ) (e : Shown) → s.number ≡ r.number → earlier n s.kept ≡ r.kept → earlier n s.refused ≡ r.refused → HasNextId r e → HasPlaceId s n e
place_next r s n (MadeTask info ledger caller times) p k f h = h ∙ (λ i. id_of (sym p i) (tasks_in (sym k i) + tasks_in (sym f i) + 1))
place_next r s n (MadeResource info ledger caller) p k f h = h ∙ (λ i. id_of (sym p i) (resources_in (sym k i) + resources_in (sym f i) + 1))
place_next r s n (MadeOp info ledger caller) p k f h = h ∙ (λ i. id_of (sym p i) (ops_in (sym k i) + ops_in (sym f i) + 1))
place_next r s n (Polled op) p k f h = h

module _ (r : Recording) (made : ℕ) (o : Offer) (number : o.number ≡ made + 1) (kept_below : All (λ (x : Offer). x.number ≤ made) r.kept) (refused_below : All (λ (x : Offer). x.number ≤ made) r.refused) (next : HasNextId r o.event) (room : length r.kept + length r.refused < last_number) (was : HasOwnIds (offered r)) where
  all_kept : earlier o.number r.kept ≡ r.kept
  all_kept = earlier_all o.number r.kept (λ k d lt. let a = kept_below k d lt in omega (arith, a, number))

  all_refused : earlier o.number r.refused ≡ r.refused
  all_refused = earlier_all o.number r.refused (λ k d lt. let a = refused_below k d lt in omega (arith, a, number))

  -- the places of offers made before stay where the offer is kept
  stays_kept : (os : List Offer) → All (λ (x : Offer). x.number ≤ made) os → All (λ (x : Offer). HasPlaceId (offered r) x.number x.event) os → All (λ (x : Offer). HasPlaceId (offered (with_kept r o)) x.number x.event) os
  stays_kept os below h k d lt =
      let x = get_or os k d in
      let le = below k d lt in
      place_same (offered r) (offered (with_kept r o)) x.number x.event refl (earlier_push x.number r.kept o (omega (arith, le, number))) refl (h k d lt)

  -- and where it is refused
  stays_refused : (os : List Offer) → All (λ (x : Offer). x.number ≤ made) os → All (λ (x : Offer). HasPlaceId (offered r) x.number x.event) os → All (λ (x : Offer). HasPlaceId (offered (with_refused r o)) x.number x.event) os
  stays_refused os below h k d lt =
      let x = get_or os k d in
      let le = below k d lt in
      place_same (offered r) (offered (with_refused r o)) x.number x.event refl refl (earlier_push x.number r.refused o (omega (arith, le, number))) (h k d lt)

  pub own_kept : HasOwnIds (offered (with_kept r o))
  own_kept = record {
    kept = All-push (λ (x : Offer). HasPlaceId (offered (with_kept r o)) x.number x.event) r.kept o (stays_kept r.kept kept_below was.kept)
        (place_next r (offered (with_kept r o)) o.number o.event refl (earlier_push o.number r.kept o (omega arith) ∙ all_kept) all_refused next);
    refused = stays_kept r.refused refused_below was.refused;
    few = let a = length-append r.kept (o ∷ []) in omega (arith, a, room);
  }

  pub own_refused : HasOwnIds (offered (with_refused r o))
  own_refused = record {
    kept = stays_refused r.kept kept_below was.kept;
    refused = All-push (λ (x : Offer). HasPlaceId (offered (with_refused r o)) x.number x.event) r.refused o (stays_refused r.refused refused_below was.refused)
        (place_next r (offered (with_refused r o)) o.number o.event refl all_kept (earlier_push o.number r.refused o (omega arith) ∙ all_refused) next);
    few = let a = length-append r.refused (o ∷ []) in omega (arith, a, room);
  }

-- a recorder without offers has given out none
own_none : (v : View) → HasOwnIds (returned (newborn v))
own_none v = record { kept = All-nil (λ (x : Offer). HasPlaceId (returned (newborn v)) x.number x.event); refused = All-nil (λ (x : Offer). HasPlaceId (returned (newborn v)) x.number x.event); few = omega arith }

pub own_newborn : (v u : View) → u ≡ newborn v → HasOwnIds (returned u)
own_newborn v u is = subst (λ (w : View). HasOwnIds (returned w)) (sym is) (own_none v)

pub none_refused : (v u : View) (made : ℕ) → u ≡ newborn v → All (λ (o : Offer). o.number ≤ made) u.refused
none_refused v u made is = subst (λ (w : View). All (λ (o : Offer). o.number ≤ made) w.refused) (sym is) (All-nil (λ (o : Offer). o.number ≤ made))
