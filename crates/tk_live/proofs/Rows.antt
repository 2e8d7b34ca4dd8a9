-- What readings leave, one after the other: of the items, of who reads them, and of the rows of a table.
use Rattle.std.proofs.Common.{◌≡◌, ◌≢◌, ℕ, zero, suc, ◌+◌, ◌<◌, ◌≤◌, Bool, true, false, cond, List, [], ◌∷◌, length, take, get_or, Option, Some, None, refl, sym, ap, ◌∙◌, subst, arith}
use Rattle.std.specs.Prelude.{map, filter, nat_eq, not, position, slice_get, slice_set}
use Rattle.std.specs.List.{AllByRecursion, IsDistinct, position_or_len}
use Rattle.std.proofs.lemmas.List.{length-map, take_all}
use Rattle.std.proofs.lemmas.List.Quantifiers.{position-Some}
use borrow.Author.Tests.{eqb-true, eqb-false}
use Rattle.tk_ids.specs.Ids.{id_of}
use Rattle.tk_stream.specs.Places.{place_with}
use Rattle.tk_stream.specs.Tables.{changed_at}
use Rattle.tk_aggregator.specs.Aggregates.{Pairs}
use Rattle.tk_live.specs.Items.{EachFrom}
use Rattle.tk_live.specs.Named.{made_item}
use Rattle.tk_live.specs.Read.{AreSame, HasNumber, IsRead, AreReadTo}
use Rattle.tk_live.proofs.Places.{at_place, each_made, get_some, made_place, made_put}

-- two numbers of one id are one
pub one_number : (n m : ℕ) → id_of 1 n ≡ id_of 1 m → n ≡ m
one_number n m e = omega (arith, e)

pub some_same : {X : Type 0} {x y : X} → Some x ≡ Some y → x ≡ y
some_same e = cc

-- ---- of all elements of a list

module _ {X : Type 0} (P Q : X → Type 0) (f : (x : X) → P x → Q x) where
  pub all_so : (xs : List X) → AllByRecursion P xs → AllByRecursion Q xs
  all_so [] all = tt
  all_so (x ∷ xs) all = (f x all.0, all_so xs all.1)

-- what holds of all holds of each
pub all_at : {X : Type 0} (P : X → Type 0) (xs : List X) (i : ℕ) (x : X) → slice_get xs i ≡ Some x → AllByRecursion P xs → P x
all_at P [] i x at all = absurd cc
all_at P (y ∷ xs) zero x at all = subst P (some_same at) all.0
all_at P (y ∷ xs) (suc i) x at all = all_at P xs i x at all.1

-- those that stay are among those that were there
pub all_stay : {X : Type 0} (P : X → Type 0) (p : X → Bool) (xs : List X) → AllByRecursion P xs → AllByRecursion P (filter p xs)
all_stay P p [] all = tt
all_stay {X} P p (x ∷ xs) all =
    let rest = all_stay P p xs all.1 in
    elim (p x) as (λ b. AllByRecursion P (cond b (x ∷ filter p xs) (filter p xs))) [ true ↦ (all.0, rest) | false ↦ rest ]

-- ---- items that stay the same

module _ {X : Type 0} (R : X → X → Type 0) (itself : (x : X) → R x x) where
  pub all_themselves : (xs : List X) → AreSame R xs xs
  all_themselves xs n x named = (x, named, itself x)

  -- one more is put back
  pub same_more : ((x y z : X) → R x y → R y z → R x z) → (xs ys : List X) (i : ℕ) (y z : X) → AreSame R xs ys → slice_get ys i ≡ Some y → R y z → AreSame R xs (slice_set ys i z)
  same_more both xs ys i y z same at r n x named =
      let there = same n x named in
      let put = made_put (λ (n : ℕ). R) (λ n x. itself x) ys i y z n there.0 at r there.1 in
      (put.0, put.1, both x there.0 put.0 there.2 put.2)

-- a relation to other items, of which one goes on with what was put in its place
pub each_goes_on : {P X : Type 0} (R : ℕ → P → X → Type 0) (n : ℕ) (ps : List P) (xs : List X) (i : ℕ) (x y : X) → slice_get xs i ≡ Some x → ((p : P) → R (n + i) p x → R (n + i) p y) → EachFrom R n ps xs → EachFrom R n ps (slice_set xs i y)
each_goes_on R n [] [] i x y at on each = each
each_goes_on R n [] (z ∷ xs) i x y at on each = absurd each
each_goes_on R n (p ∷ ps) [] i x y at on each = absurd each
each_goes_on {P} {X} R n (p ∷ ps) (z ∷ xs) zero x y at on each =
    let e : n + 0 ≡ n = omega arith in
    let here : R (n + 0) p x = subst (λ (w : X). R (n + 0) p w) (some_same at) (subst (λ (m : ℕ). R m p z) (sym e) each.0) in
    (subst (λ (m : ℕ). R m p y) e (on p here), each.1)
each_goes_on {P} {X} R n (p ∷ ps) (z ∷ xs) (suc i) x y at on each =
    let e : n + suc i ≡ (n + 1) + i = omega arith in
    (each.0, each_goes_on R (n + 1) ps xs i x y at (λ q r. subst (λ (m : ℕ). R m q y) e (on q (subst (λ (m : ℕ). R m q x) (sym e) r))) each.1)

-- ---- who reads

module _ {X L : Type 0} (ledger_of : X → L) where
  -- an id and a ledger are those of an item
  abbrev IsOf : List X → ℕ → L → Type 0
  IsOf xs id ledger = (n : ℕ) × (x : X) × (id ≡ id_of 1 n) × (made_item n xs ≡ Some x) × (ledger_of x ≡ ledger)

  -- so they are where the items are the same
  pub still_of : (R : X → X → Type 0) → ((x y : X) → R x y → ledger_of y ≡ ledger_of x) → (xs ys : List X) → AreSame R xs ys → (id : ℕ) (ledger : L) → IsOf xs id ledger → IsOf ys id ledger
  still_of R stays xs ys same id ledger is =
      let there = same is.0 is.1 is.3 in
      (is.0, there.0, is.2, there.1, stays is.1 there.0 there.2 ∙ is.4)

  -- an item's id has its ledger
  pub its_ledger : (xs : List X) (i : ℕ) (x : X) (id : ℕ) (ledger : L) → slice_get xs i ≡ Some x → id ≡ id_of 1 (i + 1) → IsOf xs id ledger → ledger ≡ ledger_of x
  its_ledger xs i x id ledger at here is =
      let n : is.0 ≡ i + 1 = one_number is.0 (i + 1) (sym is.2 ∙ here) in
      let same : is.1 ≡ x = some_same (sym is.3 ∙ (at_place is.0 i xs n ∙ at)) in
      sym is.4 ∙ ap ledger_of same

-- ---- where an item stands in a table

module _ {T : Type 0} (id : T → ℕ) (hand : ℕ) where
  get_or_map : (ts : List T) (k : ℕ) (x : T) → slice_get ts k ≡ Some x → get_or (map id ts) k 0 ≡ id x
  get_or_map [] k x at = absurd cc
  get_or_map (t ∷ ts) zero x at = ap id (some_same at)
  get_or_map (t ∷ ts) (suc k) x at = get_or_map ts k x at

  -- what stands at the place of an id has it
  pub stands_there : (ts : List T) (place : ℕ) → place_with id hand ts ≡ Some place → (x : T) × (slice_get ts place ≡ Some x) × (id x ≡ hand)
  stands_there ts place at =
      let found = position-Some (λ n. nat_eq hand n) (map id ts) place 0 at in
      let there = get_some ts place (let lt = found.0 in omega (arith, lt, length-map ts id)) in
      (there.0, there.1, sym (eqb-true hand (id there.0) (ap (nat_eq hand) (sym (get_or_map ts place there.0 there.1)) ∙ found.1)))

  nowhere : (ns : List ℕ) → position (λ n. nat_eq hand n) ns ≡ None → length ns ≤ position_or_len (λ n. nat_eq hand n) ns
  nowhere ns none = grind arith

  none_of : (ts : List T) → length (map id ts) ≤ position_or_len (λ n. nat_eq hand n) (map id ts) → AllByRecursion (λ (t : T). id t ≢ hand) ts
  none_of [] le = tt
  none_of (t ∷ ts) le = go (nat_eq hand (id t)) refl le (λ rest. none_of ts rest)
    where
      go : (b : Bool) → nat_eq hand (id t) ≡ b → suc (length (map id ts)) ≤ cond (not b) (1 + position_or_len (λ n. nat_eq hand n) (map id ts)) 0
          → (length (map id ts) ≤ position_or_len (λ n. nat_eq hand n) (map id ts) → AllByRecursion (λ (t : T). id t ≢ hand) ts) → AllByRecursion (λ (t : T). id t ≢ hand) (t ∷ ts)
      go true is le rest = absurd (omega (arith, le))
      go false is le rest = (λ e. eqb-false hand (id t) is (sym e), rest (omega (arith, le)))

  -- where it has no place, nothing has it
  pub none_there : (ts : List T) → place_with id hand ts ≡ None → AllByRecursion (λ (t : T). id t ≢ hand) ts
  none_there ts none = none_of ts (nowhere (map id ts) none)

  apart_from : (t : T) (ts : List T) (k : ℕ) (x : T) → slice_get ts k ≡ Some x → AllByRecursion (λ (n : ℕ). nat_eq (id t) n ≡ false) (map id ts) → id t ≢ id x
  apart_from t [] k x at apart = absurd cc
  apart_from t (y ∷ ts) zero x at apart = λ e. eqb-false (id t) (id y) apart.0 (e ∙ ap id (sym (some_same at)))
  apart_from t (y ∷ ts) (suc k) x at apart = apart_from t ts k x at apart.1

  -- an id stands at one place, where no two are the same
  one_place : (ts : List T) (i k : ℕ) (x y : T) → slice_get ts i ≡ Some x → slice_get ts k ≡ Some y → id x ≡ id y → IsDistinct nat_eq (map id ts) → k ≡ i
  unfolding IsDistinct
  one_place [] i k x y at there same distinct = absurd cc
  one_place (t ∷ ts) zero zero x y at there same distinct = refl
  one_place (t ∷ ts) zero (suc k) x y at there same distinct = absurd (apart_from t ts k y there distinct.0 (ap id (some_same at) ∙ same))
  one_place (t ∷ ts) (suc i) zero x y at there same distinct = absurd (apart_from t ts i x at distinct.0 (ap id (some_same there) ∙ sym same))
  one_place (t ∷ ts) (suc i) (suc k) x y at there same distinct = ap suc (one_place ts i k x y at there same distinct.1)

  -- so that is the place of what has it
  pub its_place : (ts : List T) (i : ℕ) (t : T) → slice_get ts i ≡ Some t → id t ≡ hand → IsDistinct nat_eq (map id ts) → place_with id hand ts ≡ Some i
  its_place ts i t at is distinct = by (place_with id hand ts) refl
    where
      by : (o : Option ℕ) → place_with id hand ts ≡ o → o ≡ Some i
      by None none = absurd (all_at (λ (t : T). id t ≢ hand) ts i t at (none_there ts none) is)
      by (Some place) found =
          let there = stands_there ts place found in
          ap (λ (k : ℕ). Some k) (one_place ts i place t there.0 at there.1 (is ∙ sym there.2) distinct)

-- ---- items of a table, of which each has a reader

module _ {T S X L : Type 0} (id : T → ℕ) (reader_id : S → ℕ) (ledger : S → L) (ledger_of : X → L) (Read : T → S → Type 0) (reads_id : (t : T) (s : S) → Read t s → reader_id s ≡ id t) (xs : List X) where
  -- each is of an item of the script, where each reader is of the ledger of one
  pub of_items : (ts : List T) (ss : List S) → Pairs Read ts ss → AllByRecursion (λ (s : S). IsOf ledger_of xs (reader_id s) (ledger s)) ss
      → AllByRecursion (λ (t : T). (n : ℕ) × (x : X) × (id t ≡ id_of 1 n) × (made_item n xs ≡ Some x)) ts
  of_items [] [] pairs all = tt
  of_items [] (s ∷ ss) pairs all = absurd pairs
  of_items (t ∷ ts) [] pairs all = absurd pairs
  of_items (t ∷ ts) (s ∷ ss) pairs all = ((all.0.0, all.0.1, sym (reads_id t s pairs.0) ∙ all.0.2, all.0.3), of_items ts ss pairs.1 all.1)

module _ {T X : Type 0} (id : T → ℕ) (xs : List X) (ts : List T) (of : AllByRecursion (λ (t : T). (n : ℕ) × (x : X) × (id t ≡ id_of 1 n) × (made_item n xs ≡ Some x)) ts) where
  -- at each place of the table stands one
  pub has_number : (i : ℕ) → i < length ts → (place : ℕ) × HasNumber id ts i (place + 1)
  has_number i lt =
      let there = get_some ts i lt in
      let it = all_at (λ (t : T). (n : ℕ) × (x : X) × (id t ≡ id_of 1 n) × (made_item n xs ≡ Some x)) ts i there.0 there.1 of in
      let at = made_place it.0 xs it.1 it.3 in
      (at.0, (there.0, there.1, it.2 ∙ ap (id_of 1) at.1))

  -- and its item stands at the place before its number
  pub its_item : (i k : ℕ) → HasNumber id ts i (k + 1) → (x : X) × (slice_get xs k ≡ Some x)
  its_item i k is =
      let it = all_at (λ (t : T). (n : ℕ) × (x : X) × (id t ≡ id_of 1 n) × (made_item n xs ≡ Some x)) ts i is.0 is.1 of in
      (it.1, sym (at_place it.0 k xs (one_number it.0 (k + 1) (sym it.2 ∙ is.2))) ∙ it.3)

-- a change of one leaves what it doesn't touch of each
pub map_changed : {T I : Type 0} (f : T → I) (put : T → T) → ((t : T) → f (put t) ≡ f t) → (ts : List T) (place : ℕ) → map f (changed_at put ts place) ≡ map f ts
map_changed f put same [] place = refl
map_changed f put same (t ∷ ts) zero = ap (λ i. i ∷ map f ts) (same t)
map_changed f put same (t ∷ ts) (suc k) = ap (λ is. f t ∷ is) (map_changed f put same ts k)

-- what holds of all holds of all still where one goes on
pub all_put : {X : Type 0} (P : X → Type 0) (xs : List X) (place : ℕ) (x y : X) → slice_get xs place ≡ Some x → (P x → P y) → AllByRecursion P xs → AllByRecursion P (slice_set xs place y)
all_put P [] place x y at on all = all
all_put {X} P (z ∷ xs) zero x y at on all = (on (subst P (some_same at) all.0), all.1)
all_put P (z ∷ xs) (suc k) x y at on all = (all.0, all_put P xs k x y at on all.1)

-- what is the same of each is of as many
pub same_length : {T I : Type 0} (f : T → I) (ts us : List T) → map f ts ≡ map f us → length ts ≡ length us
same_length f ts us same = sym (length-map ts f) ∙ (ap (λ is. length is) same ∙ length-map us f)

-- ---- the rows of a table

module _ {X : Type 0} (P : X → Type 0) where
  -- what holds of the first so many and of the next one
  next_suc : (xs : List X) (i : ℕ) (x : X) → slice_get xs i ≡ Some x → P x → AllByRecursion P (take i xs) → AllByRecursion P (take (suc i) xs)
  next_suc [] i x at holds all = absurd cc
  next_suc (y ∷ xs) zero x at holds all = (subst P (sym (some_same at)) holds, tt)
  next_suc (y ∷ xs) (suc i) x at holds all = (all.0, next_suc xs i x at holds all.1)

  pub next_too : (xs : List X) (i : ℕ) (x : X) → slice_get xs i ≡ Some x → P x → AllByRecursion P (take i xs) → AllByRecursion P (take (i + 1) xs)
  next_too xs i x at holds all = subst (λ (n : ℕ). AllByRecursion P (take n xs)) (let e : suc i ≡ i + 1 = omega arith in e) (next_suc xs i x at holds all)

  -- so where the next one was changed
  changed_suc : (put : X → X) (xs : List X) (i : ℕ) (x : X) → slice_get xs i ≡ Some x → P (put x) → AllByRecursion P (take i xs) → AllByRecursion P (take (suc i) (changed_at put xs i))
  changed_suc put [] i x at holds all = absurd cc
  changed_suc put (y ∷ xs) zero x at holds all = (subst (λ (z : X). P (put z)) (sym (some_same at)) holds, tt)
  changed_suc put (y ∷ xs) (suc i) x at holds all = (all.0, changed_suc put xs i x at holds all.1)

  pub changed_too : (put : X → X) (xs : List X) (i : ℕ) (x : X) → slice_get xs i ≡ Some x → P (put x) → AllByRecursion P (take i xs) → AllByRecursion P (take (i + 1) (changed_at put xs i))
  changed_too put xs i x at holds all = subst (λ (n : ℕ). AllByRecursion P (take n (changed_at put xs i))) (let e : suc i ≡ i + 1 = omega arith in e) (changed_suc put xs i x at holds all)

module _ {T P : Type 0} (id : T → ℕ) (HasRow : P → T → Type 0) where
  -- what has the id of a number, and the row of what was called on the item of it, is read
  pub row_read : (n : ℕ) (ps : List P) (p : P) (t : T) → id t ≡ id_of 1 n → made_item n ps ≡ Some p → HasRow p t → IsRead id HasRow ps t
  row_read n ps p t is past row m q of named =
      let same : p ≡ q = some_same (sym past ∙ (ap (λ (k : ℕ). made_item k ps) (one_number n m (sym is ∙ of)) ∙ named)) in
      subst (λ (q : P). HasRow q t) same row

  -- all were read
  module _ {X : Type 0} (Called : T → Type 0) (ps : List P) (xs : List X) (R : ℕ → P → X → Type 0) (each : EachFrom R 1 ps xs)
      (is_called : (t : T) (n : ℕ) (p : P) → id t ≡ id_of 1 n → made_item n ps ≡ Some p → HasRow p t → Called t) where
    all_called : (ts : List T) → AllByRecursion (λ (t : T). (n : ℕ) × (x : X) × (id t ≡ id_of 1 n) × (made_item n xs ≡ Some x)) ts → AllByRecursion (IsRead id HasRow ps) ts → AllByRecursion Called ts
    all_called [] of all = tt
    all_called (t ∷ ts) of all =
        let it = of.0 in
        let there = each_made R ps xs it.0 it.1 each it.3 in
        (is_called t it.0 there.0 it.2 there.1 (all.0 it.0 there.0 it.2 there.1), all_called ts of.1 all.1)

    pub all_read : (ts : List T) (count : ℕ) → length ts ≡ count → AllByRecursion (λ (t : T). (n : ℕ) × (x : X) × (id t ≡ id_of 1 n) × (made_item n xs ≡ Some x)) ts → AreReadTo id HasRow count ps ts → AllByRecursion Called ts
    all_read ts count many of all = all_called ts of (subst (λ (us : List T). AllByRecursion (IsRead id HasRow ps) us) (take_all count ts (omega (arith, many))) all)
