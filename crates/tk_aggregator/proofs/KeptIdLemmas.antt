-- The ids of the new items of one kind that a recorder kept: each is of the recorder, and no two are the same.
use Rattle.std.proofs.Common.{◌≡◌, ◌≢◌, ℕ, zero, suc, ◌+◌, ◌*◌, ◌^◌, ◌<◌, ◌≤◌, Bool, true, false, cond, List, [], ◌∷◌, ◌++◌, length, get_or, refl, ap, sym, ◌∙◌, arith}
use Rattle.std.specs.Prelude.{nat_lt, count_by}
use Rattle.std.specs.List.{All, AllPairs, filter}
use Rattle.std.proofs.lemmas.Bool.{lt-ltb, le-ltb, ltb-true, false≢true}
use Rattle.std.proofs.lemmas.List.Sums.{sum_by-append, count_by-le-length, length-filter}
use Rattle.std.proofs.lemmas.Nat.{div-mul-add}
use Rattle.tk_ids.specs.Ids.{id_of, recorder_of}
use Rattle.tk_events.specs.declared.buffer.view.Returned.{Returned}
use Rattle.tk_events.specs.declared.event.Shown.{Shown}
use Rattle.tk_events.specs.declared.item.Offer.{Offer}
use Rattle.tk_events.specs.Offers.{earlier}
use Rattle.tk_events.specs.Handles.{HasPlaceId, HasOwnIds}

pub count_cons : {X : Type 0} (test : X → Bool) (x : X) (xs : List X) → count_by test (x ∷ xs) ≡ cond (test x) 1 0 + count_by test xs
count_cons test x xs = let a = sum_by-append (λ y. cond (test y) 1 0) (x ∷ []) xs in omega (arith, a)

pub count_more : {X : Type 0} (test : X → Bool) (xs ys : List X) → count_by test (xs ++ ys) ≡ count_by test xs + count_by test ys
count_more test xs ys = sum_by-append (λ y. cond (test y) 1 0) xs ys

-- one more, where only some are counted
pub count_kept : {X : Type 0} (keep test : X → Bool) (x : X) (xs : List X) → count_by test (filter keep (x ∷ xs)) ≡ cond (keep x) (cond (test x) 1 0) 0 + count_by test (filter keep xs)
count_kept {X = X} keep test x xs = by (keep x)
  where
    by : (b : Bool) → count_by test (cond b (x ∷ filter keep xs) (filter keep xs)) ≡ cond b (cond (test x) 1 0) 0 + count_by test (filter keep xs)
    by true = count_cons test x (filter keep xs)
    by false = omega arith

pub cond_yes : (b : Bool) (v : ℕ) → b ≡ true → cond b v 0 ≡ v
cond_yes b v is = ap (λ (t : Bool). cond t v 0) is

pub cond_no : (b : Bool) (v : ℕ) → b ≡ false → cond b v 0 ≡ 0
cond_no b v is = ap (λ (t : Bool). cond t v 0) is

least : (b c : Bool) (v : ℕ) → (b ≡ true → c ≡ true) → cond b v 0 ≤ cond c v 0
least true true v h = omega arith
least true false v h = absurd (false≢true (h refl))
least false true v h = omega arith
least false false v h = omega arith

same_sum : (x a b : ℕ) → x + a ≡ x + b → a ≡ b
same_sum x a b e = omega (arith, e)

-- how many of the earlier offers pass a test
module _ (test : Offer → Bool) where
  abbrev passed : ℕ → List Offer → ℕ
  passed n os = count_by test (earlier n os)

  passed_cons : (n : ℕ) (o : Offer) (os : List Offer) → passed n (o ∷ os) ≡ cond (nat_lt o.number n) (cond (test o) 1 0) 0 + passed n os
  passed_cons n o os = count_kept (λ (x : Offer). nat_lt x.number n) test o os

  pub passed_rises : (m n : ℕ) (os : List Offer) → m ≤ n → passed m os ≤ passed n os
  passed_rises m n [] le = omega arith
  passed_rises m n (o ∷ os) le =
      let a = passed_cons m o os in
      let b = passed_cons n o os in
      let c = least (nat_lt o.number m) (nat_lt o.number n) (cond (test o) 1 0) (λ e. let d = ltb-true o.number m e in lt-ltb o.number n (omega (arith, d, le))) in
      let rest = passed_rises m n os le in
      omega (arith, a, b, c, rest)

  -- an offer that passes counts from its number on
  pub passed_more : (os : List Offer) (k : ℕ) (d : Offer) (n : ℕ) → k < length os → test (get_or os k d) ≡ true → (get_or os k d).number < n → passed (get_or os k d).number os + 1 ≤ passed n os
  passed_more [] k d n lt is below = absurd (omega (arith, lt))
  passed_more (o ∷ os) zero d n lt is below =
      let a = passed_cons o.number o os in
      let b = passed_cons n o os in
      let none = cond_no (nat_lt o.number o.number) (cond (test o) 1 0) (le-ltb o.number o.number (omega arith)) in
      let all = cond_yes (nat_lt o.number n) (cond (test o) 1 0) (lt-ltb o.number n below) in
      let one = cond_yes (test o) 1 is in
      let rest = passed_rises o.number n os (omega (arith, below)) in
      omega (arith, a, b, none, all, one, rest)
  passed_more (o ∷ os) (suc k) d n lt is below =
      let x = get_or os k d in
      let a = passed_cons x.number o os in
      let b = passed_cons n o os in
      let c = least (nat_lt o.number x.number) (nat_lt o.number n) (cond (test o) 1 0) (λ e. let f = ltb-true o.number x.number e in lt-ltb o.number n (omega (arith, f, below))) in
      let rest = passed_more os k d n (omega (arith, lt)) is below in
      omega (arith, a, b, c, rest)

  pub passed_most : (n : ℕ) (os : List Offer) → passed n os ≤ length os
  passed_most n os =
      let a = count_by-le-length test (earlier n os) in
      let b = length-filter (λ (o : Offer). nat_lt o.number n) os in
      let c = count_by-le-length (λ (o : Offer). nat_lt o.number n) os in
      omega (arith, a, b, c)

module _ {Info : Type 0} (id : Info → ℕ) (made : Shown → List Info) where
  -- an item that an offer is of has an id of this recorder
  abbrev pub InBlock : ℕ → Offer → Type 0
  InBlock p o = (info : Info) → made o.event ≡ info ∷ [] → recorder_of (id info) ≡ p

  -- two offers are not of items with the same id
  abbrev pub Apart : Offer → Offer → Type 0
  Apart a b = (x y : Info) → made a.event ≡ x ∷ [] → made b.event ≡ y ∷ [] → id x ≢ id y

  module _ (is : Shown → Bool) (one : (e : Shown) (info : Info) → made e ≡ info ∷ [] → is e ≡ true)
      (placed : (r : Returned) (n : ℕ) (e : Shown) (info : Info) → made e ≡ info ∷ [] → HasPlaceId r n e
      → id info ≡ id_of r.number (count_by (λ (o : Offer). is o.event) (earlier n r.kept) + count_by (λ (o : Offer). is o.event) (earlier n r.refused) + 1))
      (r : Returned) (own : HasOwnIds r) where
    abbrev test : Offer → Bool
    test o = is o.event

    abbrev place : Offer → ℕ
    place o = count_by test (earlier o.number r.kept) + count_by test (earlier o.number r.refused) + 1

    pub in_block : All (InBlock r.number) r.kept
    in_block k d lt info made_it =
        let o = get_or r.kept k d in
        let a = passed_more test r.kept k d (o.number + 1) lt (one o.event info made_it) (omega arith) in
        let b = passed_most test (o.number + 1) r.kept in
        let c = passed_most test o.number r.refused in
        let few = own.few in
        ap recorder_of (placed r o.number o.event info made_it (own.kept k d lt)) ∙ div-mul-add r.number (2 ^ 40) (place o) (omega (arith, a, b, c, few))

    pub apart : AllPairs (λ (a b : Offer). a.number < b.number) r.kept → AllPairs Apart r.kept
    apart rises i j d lt in' x y made_x made_y same =
        let a = get_or r.kept i d in
        let b = get_or r.kept j d in
        let below : a.number < b.number = rises i j d lt in' in
        let more = passed_more test r.kept i d b.number (omega (arith, lt, in')) (one a.event x made_x) below in
        let rest = passed_rises test a.number b.number r.refused (omega (arith, below)) in
        let p = placed r a.number a.event x made_x (own.kept i d (omega (arith, lt, in'))) in
        let q = placed r b.number b.event y made_y (own.kept j d in') in
        let e = same_sum (r.number * 2 ^ 40) (place a) (place b) (sym p ∙ (same ∙ q)) in
        omega (arith, more, rest, e)
