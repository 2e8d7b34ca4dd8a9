-- The new items of one kind among what was taken: no two have the same id, and those of each recorder are what it kept.
use Rattle.std.proofs.Common.{◌≡◌, ◌≢◌, ℕ, suc, ◌+◌, ◌<◌, ◌≤◌, Bool, true, false, cond, nat_eq, List, [], ◌∷◌, ◌++◌, map, get_or, None, Some, refl, ap, sym, ◌∙◌, subst, arith, ◌⊎◌, ⊎_elim, append_assoc}
use Rattle.std.specs.Prelude.{Option, ◌==◌, fold}
use Rattle.std.specs.Option.{option_map_or}
use Rattle.std.specs.List.{All, AllPairs, AllByRecursion, IsDistinct, filter, flat_map}
use Rattle.std.proofs.lemmas.Bool.{eq-eqb, ne_eqb, eqb-true}
use Rattle.std.proofs.lemmas.List.{append-nil}
use Rattle.std.proofs.lemmas.List.Elements.{All-nil, All-cons, All-head, All-tail}
use Rattle.std.proofs.lemmas.List.Sums.{fold-append}
use Rattle.std.proofs.lemmas.List.Folds.{flat_map-map}
use Rattle.tk_cell.specs.Views.{times}
use Rattle.tk_cell.proofs.ListLemmas.{dec_eq, times_other}
use Rattle.tk_ids.specs.Ids.{id_of, recorder_of}
use Rattle.tk_events.specs.declared.buffer.view.Returned.{Returned}
use Rattle.tk_events.specs.declared.event.Shown.{Shown}
use Rattle.tk_events.specs.declared.item.Offer.{Offer}
use Rattle.tk_events.specs.Offers.{by, earlier}
use Rattle.tk_events.specs.Buffer.{IsNamed, numbers_known}
use Rattle.tk_events.specs.Handles.{Taking, HasPlaceId, HasOwnIds, IsSettled, AllTaken, events_of}
use Rattle.tk_stream.specs.Tables.{item_with}
use Rattle.tk_aggregator.specs.Absorbing.{Infos, no_infos, with_info, absorbed, absorb}
use Rattle.tk_aggregator.specs.Finished.{AreTheKept}
use Rattle.tk_aggregator.specs.Contents.{Content, content_of}
use Rattle.tk_aggregator.proofs.KeptIdLemmas.{InBlock, Apart, in_block, apart}

-- a recorder whose number is known
find_known : (P : Returned → Type 0) (p : ℕ) (rs : List Returned) → All P rs → 0 < times p (numbers_known rs) → (r : Returned) × (r.number ≡ p) × P r
find_known P p [] all there = absurd (omega (arith, there))
find_known P p (r ∷ rs) all there = ⊎_elim
    (λ (e : r.number ≡ p). (r, e, All-head P r rs all))
    (λ (ne : r.number ≢ p). let t = times_other r.number p ne in find_known P p rs (All-tail P r rs all) (omega (arith, there, t)))
    (dec_eq r.number p)

-- ---- offers of one recorder among others

rest_of : (P : Offer → Type 0) (b : Bool) (o : Offer) (os : List Offer) → All P (cond b (o ∷ os) os) → All P os
rest_of P true o os h = All-tail P o os h
rest_of P false o os h = h

first_of : (P : Offer → Type 0) (b : Bool) (o : Offer) (os : List Offer) → b ≡ true → All P (cond b (o ∷ os) os) → P o
first_of P true o os is h = All-head P o os h
first_of P false o os is h = absurd cc

pairs_rest : (R : Offer → Offer → Type 0) (b : Bool) (o : Offer) (os : List Offer) → AllPairs R (cond b (o ∷ os) os) → AllPairs R os
pairs_rest R true o os h = λ i j d lt in'. h (suc i) (suc j) d (omega (arith, lt)) (omega (arith, in'))
pairs_rest R false o os h = h

pairs_first : (R : Offer → Offer → Type 0) (b : Bool) (o : Offer) (os : List Offer) → b ≡ true → AllPairs R (cond b (o ∷ os) os) → All (λ (x : Offer). R o x) os
pairs_first R true o os is h = λ k d lt. h 0 (suc k) d (omega arith) (omega (arith, lt))
pairs_first R false o os is h = absurd cc

-- what holds of the offers of each recorder holds of all
of_each : (n : ℕ) (P : ℕ → Offer → Type 0) (os : List Offer) → All (IsNamed n) os → ((p : ℕ) → 0 < p → p ≤ n → All (P p) (by p os)) → All (λ (o : Offer). P o.recorder o) os
of_each n P [] named h = All-nil (λ (o : Offer). P o.recorder o)
of_each n P (o ∷ os) named h =
    let here = All-head (IsNamed n) o os named in
    All-cons (λ (x : Offer). P x.recorder x) o os
    (first_of (P o.recorder) (nat_eq o.recorder o.recorder) o (by o.recorder os) (eq-eqb o.recorder o.recorder refl) (h o.recorder here.0 here.1))
    (of_each n P os (All-tail (IsNamed n) o os named) (λ p low high. rest_of (P p) (nat_eq o.recorder p) o (by p os) (h p low high)))

-- what holds of a recorder's offers and of the others holds of all
of_both : (Q : Offer → Type 0) (p : ℕ) (os : List Offer) → All Q (by p os) → All (λ (o : Offer). o.recorder ≢ p → Q o) os → All Q os
of_both Q p [] mine others = All-nil Q
of_both Q p (o ∷ os) mine others = All-cons Q o os
    (⊎_elim
    (λ (e : o.recorder ≡ p). first_of Q (nat_eq o.recorder p) o (by p os) (eq-eqb o.recorder p e) mine)
    (λ (ne : o.recorder ≢ p). All-head (λ (x : Offer). x.recorder ≢ p → Q x) o os others ne)
    (dec_eq o.recorder p))
    (of_both Q p os (rest_of Q (nat_eq o.recorder p) o (by p os) mine) (All-tail (λ (x : Offer). x.recorder ≢ p → Q x) o os others))

-- ---- one kind of items

module _ {Info : Type 0} (id : Info → ℕ) (told : Content → List Info) (cases : (e : Shown) → (told (content_of e) ≡ []) ⊎ ((info : Info) × (told (content_of e) ≡ info ∷ []))) where
  abbrev made : Shown → List Info
  made e = told (content_of e)

  abbrev made_by : List Offer → List Info
  made_by os = flat_map (λ (o : Offer). made o.event) os

  -- one offer more, by whether it is of an item
  made_cons : (F : List Info → Type 0) (o : Offer) (os : List Offer) → (made o.event ≡ [] → F (made_by os)) → ((info : Info) → made o.event ≡ info ∷ [] → F (info ∷ made_by os)) → F (made_by (o ∷ os))
  made_cons F o os none some = ⊎_elim
      (λ (e : made o.event ≡ []). subst (λ (l : List Info). F (l ++ made_by os)) (sym e) (none e))
      (λ (e : (info : Info) × (made o.event ≡ info ∷ [])). subst (λ (l : List Info). F (l ++ made_by os)) (sym e.1) (some e.0 e.1))
      (cases o.event)

  -- what holds of the item of each offer holds of all items
  all_made : (P : Info → Type 0) (os : List Offer) → All (λ (o : Offer). (info : Info) → made o.event ≡ info ∷ [] → P info) os → All P (made_by os)
  all_made P [] h = All-nil P
  all_made P (o ∷ os) h =
      let rest = all_made P os (All-tail (λ (x : Offer). (info : Info) → made x.event ≡ info ∷ [] → P info) o os h) in
      made_cons (λ l. All P l) o os (λ e. rest) (λ info e. All-cons P info (made_by os) (All-head (λ (x : Offer). (i : Info) → made x.event ≡ i ∷ [] → P i) o os h info e) rest)

  -- an id that no item has
  none_has : (n : ℕ) (os : List Offer) → All (λ (o : Offer). (info : Info) → made o.event ≡ info ∷ [] → n ≢ id info) os → AllByRecursion (λ (k : ℕ). nat_eq n k ≡ false) (map id (made_by os))
  none_has n [] h = tt
  none_has n (o ∷ os) h =
      let rest = none_has n os (All-tail (λ (x : Offer). (info : Info) → made x.event ≡ info ∷ [] → n ≢ id info) o os h) in
      made_cons (λ l. AllByRecursion (λ (k : ℕ). nat_eq n k ≡ false) (map id l)) o os (λ e. rest)
      (λ info e. (ne_eqb n (id info) (All-head (λ (x : Offer). (i : Info) → made x.event ≡ i ∷ [] → n ≢ id i) o os h info e), rest))

  abbrev Block : ℕ → Offer → Type 0
  Block = InBlock id made

  abbrev Differ : Offer → Offer → Type 0
  Differ = Apart id made

  module _ (n : ℕ) where
    -- no two items have the same id
    distinct : (os : List Offer) → All (IsNamed n) os → All (λ (o : Offer). Block o.recorder o) os → ((p : ℕ) → 0 < p → p ≤ n → AllPairs Differ (by p os)) → IsDistinct nat_eq (map id (made_by os))
    unfolding IsDistinct
    distinct [] named blocks differ = tt
    distinct (o ∷ os) named blocks differ =
        let here = All-head (IsNamed n) o os named in
        let p = o.recorder in
        let later = All-tail (λ (x : Offer). Block x.recorder x) o os blocks in
        let rest = distinct os (All-tail (IsNamed n) o os named) later (λ q low high. pairs_rest Differ (nat_eq o.recorder q) o (by q os) (differ q low high)) in
        let mine = pairs_first Differ (nat_eq p p) o (by p os) (eq-eqb p p refl) (differ p here.0 here.1) in
        let all : All (Differ o) os = of_both (Differ o) p os mine (λ k d lt ne x y made_x made_y same.
        ne (sym (later k d lt y made_y) ∙ (ap recorder_of (sym same) ∙ All-head (λ (x : Offer). Block x.recorder x) o os blocks x made_x))) in
        made_cons (λ l. IsDistinct nat_eq (map id l)) o os (λ e. rest) (λ info e. (none_has (id info) os (λ k d lt y made_y. all k d lt info y e made_y), rest))

  -- the items of a recorder are those of its offers
  of_recorder : (p : ℕ) (os : List Offer) → All (λ (o : Offer). Block o.recorder o) os → filter (λ info. recorder_of (id info) == p) (made_by os) ≡ made_by (by p os)
  of_recorder p [] blocks = refl
  of_recorder p (o ∷ os) blocks =
      let f : List Info → List Info = filter (λ info. recorder_of (id info) == p) in
      let rest = of_recorder p os (All-tail (λ (x : Offer). Block x.recorder x) o os blocks) in
      made_cons (λ l. f l ≡ made_by (by p (o ∷ os))) o os
      (λ e. rest ∙ sym (without (nat_eq o.recorder p) e))
      (λ info e. ap (λ (q : ℕ). cond (nat_eq q p) (info ∷ f (made_by os)) (f (made_by os))) (All-head (λ (x : Offer). Block x.recorder x) o os blocks info e) ∙ with_one (nat_eq o.recorder p) info e (f (made_by os)) rest)
    where
      without : (b : Bool) → made o.event ≡ [] → made_by (cond b (o ∷ by p os) (by p os)) ≡ made_by (by p os)
      without true e = ap (λ l. l ++ made_by (by p os)) e
      without false e = refl

      with_one : (b : Bool) (info : Info) → made o.event ≡ info ∷ [] → (fs : List Info) → fs ≡ made_by (by p os) → cond b (info ∷ fs) fs ≡ made_by (cond b (o ∷ by p os) (by p os))
      with_one true info e fs is = ap (λ l. info ∷ l) is ∙ ap (λ l. l ++ made_by (by p os)) (sym e)
      with_one false info e fs is = is

  -- ---- taken in, one after the other

  abbrev add : List Info → Info → List Info
  add infos info = with_info id info infos

  among : (P : ℕ → Type 0) (ys : List Info) (x : Info) (zs : List Info) → AllByRecursion P (map id (ys ++ x ∷ zs)) → P (id x)
  among P [] x zs h = h.0
  among P (y ∷ ys) x zs h = among P ys x zs h.1

  other : (m n : ℕ) → nat_eq m n ≡ false → nat_eq n m ≡ false
  other m n is = ne_eqb n m (λ e. Rattle.std.proofs.lemmas.Bool.false≢true (sym is ∙ eq-eqb m n (sym e)))

  pub absent : (acc : List Info) (x : Info) (xs : List Info) → IsDistinct nat_eq (map id (acc ++ x ∷ xs)) → item_with id (id x) acc ≡ None
  unfolding IsDistinct
  absent [] x xs h = refl
  absent (a ∷ acc) x xs h = ap (λ (b : Bool). cond b (Some a) (item_with id (id x) acc)) (other (id a) (id x) (among (λ (k : ℕ). nat_eq (id a) k ≡ false) acc x xs h.0)) ∙ absent acc x xs h.1

  pub add_all : (acc xs : List Info) → IsDistinct nat_eq (map id (acc ++ xs)) → fold add acc xs ≡ acc ++ xs
  add_all acc [] h = sym (append-nil acc)
  add_all acc (x ∷ xs) h =
      let last : add acc x ≡ acc ++ x ∷ [] = ap (λ (o : Option Info). option_map_or (λ there. acc) o (acc ++ x ∷ [])) (absent acc x xs h) in
      let same = append_assoc acc (x ∷ []) xs in
      ap (λ l. fold add l xs) last ∙ (add_all (acc ++ x ∷ []) xs (subst (λ l. IsDistinct nat_eq (map id l)) (sym same) h) ∙ same)

  module _ (get : Infos → List Info) (step : (infos : Infos) (e : Shown) → get (absorbed infos e) ≡ fold add (get infos) (made e)) where
    pub absorbs : (es : List Shown) (infos : Infos) → get (absorb infos es) ≡ fold add (get infos) (flat_map made es)
    absorbs [] infos = refl
    absorbs (e ∷ es) infos = absorbs es (absorbed infos e) ∙ (ap (λ l. fold add l (flat_map made es)) (step infos e) ∙ sym (fold-append add (get infos) (made e) (flat_map made es)))

    module _ (none : get no_infos ≡ []) (is : Shown → Bool) (one : (e : Shown) (info : Info) → made e ≡ info ∷ [] → is e ≡ true)
        (placed : (r : Returned) (k : ℕ) (e : Shown) (info : Info) → made e ≡ info ∷ [] → HasPlaceId r k e
        → id info ≡ id_of r.number (Rattle.std.specs.Prelude.count_by (λ (o : Offer). is o.event) (earlier k r.kept) + Rattle.std.specs.Prelude.count_by (λ (o : Offer). is o.event) (earlier k r.refused) + 1))
        (t : Taking) (s : IsSettled t) (all : AllTaken t) where
      -- what a recorder kept is what was taken of it
      kept_of : (p : ℕ) → 0 < p → p ≤ t.recorders → (r : Returned) × (r.number ≡ p) × ((by r.number t.taken ≡ r.kept) × HasOwnIds r)
      kept_of p low high =
          let w = s.whole p low high in
          find_known (λ (r : Returned). (by r.number t.taken ≡ r.kept) × HasOwnIds r) p t.known (λ k d lt. (all k d lt, s.own_ids k d lt)) (omega (arith, w))

      blocks_of : (p : ℕ) → 0 < p → p ≤ t.recorders → All (Block p) (by p t.taken)
      blocks_of p low high =
          let r = kept_of p low high in
          subst (λ (q : ℕ). All (Block q) (by q t.taken)) r.1 (subst (λ (l : List Offer). All (Block r.0.number) l) (sym r.2.0) (in_block id made is one placed r.0 r.2.1))

      differ_of : (p : ℕ) → 0 < p → p ≤ t.recorders → AllPairs Differ (by p t.taken)
      differ_of p low high =
          let r = kept_of p low high in
          subst (λ (q : ℕ). AllPairs Differ (by q t.taken)) r.1 (subst (λ (l : List Offer). AllPairs Differ l) (sym r.2.0)
          (apart id made is one placed r.0 r.2.1 (subst (λ (l : List Offer). AllPairs (λ (a b : Offer). a.number < b.number) l) r.2.0 (s.rises r.0.number))))

      blocks : All (λ (o : Offer). Block o.recorder o) t.taken
      blocks = of_each t.recorders Block t.taken s.named blocks_of

      once : IsDistinct nat_eq (map id (made_by t.taken))
      once = distinct t.recorders t.taken s.named blocks differ_of

      -- and no two that events tell of
      pub told_once : IsDistinct nat_eq (map id (flat_map made (events_of t)))
      told_once = subst (λ l. IsDistinct nat_eq (map id l)) (sym (flat_map-map made (λ (o : Offer). o.event) t.taken)) once

      -- so each was taken in
      each : get (absorb no_infos (events_of t)) ≡ made_by t.taken
      each =
          absorbs (events_of t) no_infos ∙ (ap (λ l. fold add l (flat_map made (events_of t))) none
          ∙ (ap (λ l. fold add [] l) (flat_map-map made (λ (o : Offer). o.event) t.taken) ∙ add_all [] (made_by t.taken) once))

      pub are_the_kept : AreTheKept id told t.known (get (absorb no_infos (events_of t)))
      are_the_kept = subst (λ l. AreTheKept id told t.known l) (sym each) (record {
        in_order = λ k d lt. let r = get_or t.known k d in of_recorder r.number t.taken blocks ∙ ap made_by (all k d lt);
        theirs = all_made (λ info. 0 < times (recorder_of (id info)) (numbers_known t.known)) t.taken (λ k d lt info e.
            let o = get_or t.taken k d in
            let named = s.named k d lt in
            let w = s.whole o.recorder named.0 named.1 in
            subst (λ (q : ℕ). 0 < times q (numbers_known t.known)) (sym (blocks k d lt info e)) (omega (arith, w)));
        once = once;
      })
