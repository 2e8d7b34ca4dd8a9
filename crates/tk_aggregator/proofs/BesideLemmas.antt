-- One reading beside a hand: what it leaves of items and their handles.
use Rattle.std.proofs.Common.{◌≡◌, ℕ, zero, suc, ◌<◌, ◌≤◌, List, [], ◌∷◌, length, get_or, nat_eq, Some, set, refl, sym, ap, ◌∙◌, subst, arith}
use Rattle.std.specs.Prelude.{map, slice_get}
use Rattle.std.specs.List.{AllByRecursion}
use Rattle.std.proofs.lemmas.Bool.{eqb-true}
use Rattle.std.proofs.lemmas.List.Quantifiers.{position-Some}
use Rattle.tk_stream.specs.Fronts.{Telling}
use Rattle.tk_stream.specs.Places.{place_with}
use Rattle.tk_stream.specs.Tables.{changed_at}
use Rattle.tk_aggregator.specs.Aggregates.{Pairs}
use Rattle.tk_aggregator.specs.Standing.{TellsSame}
use Rattle.tk_aggregator.proofs.HandledLemmas.{AreHandled}

module _ {Item Handle : Type 0} (P : Item → Handle → Type 0) where
  -- an item that changes at a place, with another handle there
  pub pairs_changed : (xs : List Item) (ss : List Handle) (i : ℕ) (change : Item → Item) (reader read : Handle) → Pairs P xs ss → slice_get ss i ≡ Some reader
      → ((x : Item) → P x reader → P (change x) read) → Pairs P (changed_at change xs i) (set ss i read)
  pairs_changed [] [] i change reader read all was p = tt
  pairs_changed [] (t ∷ ss) i change reader read all was p = absurd all
  pairs_changed (y ∷ xs) [] i change reader read all was p = absurd all
  pairs_changed (y ∷ xs) (t ∷ ss) zero change reader read all was p = let same : t ≡ reader = cc in (p y (subst (λ (s : Handle). P y s) same all.0), all.1)
  pairs_changed (y ∷ xs) (t ∷ ss) (suc i) change reader read all was p = (all.0, pairs_changed xs ss i change reader read all.1 was p)

length-changed : {A : Type 0} (change : A → A) (xs : List A) (i : ℕ) → length (changed_at change xs i) ≡ length xs
length-changed change [] i = refl
length-changed change (x ∷ xs) zero = refl
length-changed change (x ∷ xs) (suc i) = ap suc (length-changed change xs i)

-- what holds of items with their handles, where one of them was read
module _ {Item Row Handle : Type 0} (with_row : Item → Row → Item) (P : Item → Handle → Type 0) (items : List Item) (telling : Telling Row) (handles : List Handle) (was : AreHandled P items telling handles) where
  pub handled_at : (i : ℕ) (row : Row) (reader read : Handle) (tells : Telling Row) → slice_get handles i ≡ Some reader → ((x : Item) → P x reader → P (with_row x row) read)
      → TellsSame with_row items telling (changed_at (λ x. with_row x row) items i) tells → AreHandled P (changed_at (λ x. with_row x row) items i) tells (set handles i read)
  handled_at i row reader read tells there p alike = record {
    pairs = pairs_changed P items handles i (λ x. with_row x row) reader read was.pairs there p;
    told = let same = length-changed (λ x. with_row x row) items i in omega (arith, same, was.told, alike.count);
    room = let same = length-changed (λ x. with_row x row) items i in omega (arith, same, was.room, alike.room);
  }

-- ---- whose reader stands at a place

module _ {Item Handle : Type 0} (P : Item → Handle → Type 0) (item_id : Item → ℕ) (handle_id : Handle → ℕ) (same : (x : Item) (s : Handle) → P x s → handle_id s ≡ item_id x) where
  id_at : (xs : List Item) (ss : List Handle) (i : ℕ) (reader : Handle) → Pairs P xs ss → slice_get ss i ≡ Some reader → handle_id reader ≡ get_or (map item_id xs) i 0
  id_at [] [] i reader all is = absurd cc
  id_at [] (t ∷ ss) i reader all is = absurd all
  id_at (x ∷ xs) [] i reader all is = absurd all
  id_at (x ∷ xs) (t ∷ ss) zero reader all is = let e : t ≡ reader = cc in ap handle_id (sym e) ∙ same x t all.0
  id_at (x ∷ xs) (t ∷ ss) (suc i) reader all is = id_at xs ss i reader all.1 is

  pub reader_of : (xs : List Item) (ss : List Handle) (i id : ℕ) (reader : Handle) → Pairs P xs ss → place_with item_id id xs ≡ Some i → slice_get ss i ≡ Some reader → handle_id reader ≡ id
  reader_of xs ss i id reader all at is =
      let found = position-Some (λ n. nat_eq id n) (map item_id xs) i 0 at in
      id_at xs ss i reader all is ∙ sym (eqb-true id (get_or (map item_id xs) i 0) found.1)

pub all_get : {A : Type 0} (Q : A → Type 0) (xs : List A) (i : ℕ) (x : A) → AllByRecursion Q xs → slice_get xs i ≡ Some x → Q x
all_get Q [] i x all is = absurd cc
all_get Q (y ∷ xs) zero x all is = let e : y ≡ x = cc in subst Q e all.0
all_get Q (y ∷ xs) (suc i) x all is = all_get Q xs i x all.1 is
