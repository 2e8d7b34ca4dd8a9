-- Histories that grow: own entries, who made a number, roles, last calls, and legality.
use Rattle.std.proofs.Common.{◌≡◌, ◌≢◌, ℕ, ◌+◌, ◌==◌, Bool, true, false, List, [], ◌∷◌, ◌++◌, length, cond, if◌then◌else◌, eqb, Option, Some, None, refl, ap, sym, ◌∙◌, subst, arith, append_assoc, length-append, ⊎_elim, true≢false}
use Rattle.std.specs.List.{find}
use Rattle.std.specs.Option.{option_map, option_map_or}
use Rattle.std.proofs.lemmas.List.{append-nil, map-append, nil_from_length}
use Rattle.std.proofs.lemmas.List.Elements.{filter-append}
use Rattle.std.proofs.lemmas.Bool.{eq-eqb, ne_eqb}
use mathlib.Core.List.{IsPrefix}
use Rattle.tk_core.specs.declared.history.Entry.{Entry}
use Rattle.tk_core.specs.Meaning.{Meaning, NumbersAreNew}
use Rattle.tk_core.specs.History.{calls_of}
use Rattle.tk_core.specs.Legal.{own, answers, maker, may_call, has_ended, MayFollow, IsLegal}
use Rattle.tk_cell.specs.Calls.{PrefixIsLegal}
use Rattle.tk_cell.proofs.ListLemmas.{snoc_cases, dec_eq}

module _ {C R : Type 0} where
  pub own_mine : (n : ℕ) (h : List (Entry C R)) (e : Entry C R) → e.caller ≡ n → own n (h ++ e ∷ []) ≡ own n h ++ e ∷ []
  own_mine n h e is = let t : eqb e.caller n ≡ true = eq-eqb e.caller n is in filter-append (λ (x : Entry C R). x.caller == n) h (e ∷ []) ∙ rw t refl

  pub own_other : (n : ℕ) (h : List (Entry C R)) (e : Entry C R) → e.caller ≢ n → own n (h ++ e ∷ []) ≡ own n h
  own_other n h e isnt = let t : eqb e.caller n ≡ false = ne_eqb e.caller n isnt in filter-append (λ (x : Entry C R). x.caller == n) h (e ∷ []) ∙ rw t (append-nil (own n h))

  -- with no entry of its own
  pub own_none : (n : ℕ) (h : List (Entry C R)) → ((before after : List (Entry C R)) (e : Entry C R) → before ++ e ∷ after ≡ h → e.caller ≢ n) → own n h ≡ []
  own_none n [] none = refl
  own_none n (x ∷ h) none = let t : eqb x.caller n ≡ false = ne_eqb x.caller n (none [] h x refl) in
      rw t (own_none n h (λ before after e cut. none (x ∷ before) after e (ap (λ w. x ∷ w) cut)))

  -- a history between two with the same entries of n has them too
  pub own_between : (n : ℕ) (a b h : List (Entry C R)) → IsPrefix a b → IsPrefix b h → own n h ≡ own n a → own n b ≡ own n a
  own_between n a b h p q same =
      let f : Entry C R → Bool = λ x. x.caller == n in
      let first : own n b ≡ own n a ++ own n p.0 = ap (λ (l : List (Entry C R)). own n l) (sym p.1) ∙ filter-append f a p.0 in
      let second : own n h ≡ own n b ++ own n q.0 = ap (λ (l : List (Entry C R)). own n l) (sym q.1) ∙ filter-append f b q.0 in
      let long : length (own n a) ≡ length (own n b) + length (own n q.0) = ap (λ (l : List (Entry C R)). length l) (sym same ∙ second) ∙ length-append (own n b) (own n q.0) in
      let short : length (own n b) ≡ length (own n a) + length (own n p.0) = ap (λ (l : List (Entry C R)). length l) first ∙ length-append (own n a) (own n p.0) in
      let none : own n p.0 ≡ [] = nil_from_length (own n p.0) (omega (arith, long, short)) in
      first ∙ (ap (λ (l : List (Entry C R)). own n a ++ l) none ∙ append-nil (own n a))

module _ {O C R : Type 0} (m : Meaning O C R) where
  -- whether a reply answers n
  pub answers_some : (n : ℕ) (reply : R) → m.number reply ≡ Some n → answers m n reply ≡ true
  answers_some n reply is = ap (λ (o : Option ℕ). option_map_or (λ k. k == n) o false) is ∙ eq-eqb n n refl

  pub some_answers : (n : ℕ) (reply : R) → answers m n reply ≡ true → m.number reply ≡ Some n
  some_answers n reply = go (m.number reply)
    where
      go : (o : Option ℕ) → option_map_or (λ k. k == n) o false ≡ true → o ≡ Some n
      go None e = absurd cc
      go (Some k) e = ⊎_elim (λ (s : k ≡ n). ap Some s) (λ (ne : k ≢ n). absurd (true≢false (sym e ∙ ne_eqb k n ne))) (dec_eq k n)

  -- a number stays made
  pub maker_more : (n : ℕ) (h more : List (Entry C R)) (made : C) → maker m n h ≡ Some made → maker m n (h ++ more) ≡ Some made
  maker_more n [] more made is = absurd cc
  maker_more n (e ∷ h) more made is = go (answers m n e.reply) (maker_more n h more made) is
    where
      go : (b : Bool) → (maker m n h ≡ Some made → maker m n (h ++ more) ≡ Some made)
          → option_map (λ (x : Entry C R). x.call) (cond b (Some e) (find (λ x. answers m n x.reply) h)) ≡ Some made
          → option_map (λ (x : Entry C R). x.call) (cond b (Some e) (find (λ x. answers m n x.reply) (h ++ more))) ≡ Some made
      go true later made_here = made_here
      go false later made_here = later made_here

  -- a number that no reply answers is not made
  pub maker_none : (n : ℕ) (h : List (Entry C R)) → ((before after : List (Entry C R)) (e : Entry C R) → before ++ e ∷ after ≡ h → m.number e.reply ≢ Some n) → maker m n h ≡ None
  maker_none n [] none = refl
  maker_none n (x ∷ h) none = go (answers m n x.reply) refl (maker_none n h (λ before after e cut. none (x ∷ before) after e (ap (λ w. x ∷ w) cut)))
    where
      go : (b : Bool) → answers m n x.reply ≡ b → maker m n h ≡ None → option_map (λ (y : Entry C R). y.call) (cond b (Some x) (find (λ y. answers m n y.reply) h)) ≡ None
      go true is later = absurd (none [] h x refl (some_answers n x.reply is))
      go false is later = later

  -- a number that the last reply answers first is made by the last call
  pub maker_last : (n : ℕ) (h : List (Entry C R)) (e : Entry C R) → maker m n h ≡ None → m.number e.reply ≡ Some n → maker m n (h ++ e ∷ []) ≡ Some e.call
  maker_last n [] e none is = rw (answers_some n e.reply is) refl
  maker_last n (x ∷ h) e none is = go (answers m n x.reply) (λ later. maker_last n h e later is) none
    where
      go : (b : Bool) → (maker m n h ≡ None → maker m n (h ++ e ∷ []) ≡ Some e.call)
          → option_map (λ (y : Entry C R). y.call) (cond b (Some x) (find (λ y. answers m n y.reply) h)) ≡ None
          → option_map (λ (y : Entry C R). y.call) (cond b (Some x) (find (λ y. answers m n y.reply) (h ++ e ∷ []))) ≡ Some e.call
      go true later made_here = absurd cc
      go false later made_here = later made_here

  -- a role stays
  pub may_more : (n : ℕ) (h more : List (Entry C R)) (call : C) → may_call m h n call ≡ true → may_call m (h ++ more) n call ≡ true
  may_more n h more call = go (n == 0) (maker m n h) refl
    where
      go : (b : Bool) (o : Option C) → maker m n h ≡ o → (if b then m.owner_may call else option_map_or (λ made. m.made_may made call) o false) ≡ true
          → (if b then m.owner_may call else option_map_or (λ made. m.made_may made call) (maker m n (h ++ more)) false) ≡ true
      go true o is may = may
      go false None is may = absurd cc
      go false (Some made) is may = rw (maker_more n h more made is) may

  -- a caller but the owner that may make a call was made
  pub may_made : (n : ℕ) (h : List (Entry C R)) (call : C) → n ≢ 0 → may_call m h n call ≡ true → (made : C) × (maker m n h ≡ Some made)
  may_made n h call ne may = go (maker m n h) refl (rw (ne_eqb n 0 ne) at may)
    where
      go : (o : Option C) → maker m n h ≡ o → option_map_or (λ made. m.made_may made call) o false ≡ true → (made : C) × (maker m n h ≡ Some made)
      go None is allowed = absurd cc
      go (Some made) is allowed = (made, is)

  -- whether the last call is made is told by the caller's own entries
  pub ended_same : (n : ℕ) (h seen : List (Entry C R)) → own n h ≡ own n seen → has_ended m h n ≡ has_ended m seen n
  ended_same n h seen same = ap (λ (l : List (Entry C R)). Rattle.std.specs.List.list_any (λ e. m.is_last e.call) l) same

  module _ (opening : O) where
    pub legal_snoc : (h : List (Entry C R)) (e : Entry C R) → IsLegal m opening h → MayFollow m opening h e → IsLegal m opening (h ++ e ∷ [])
    legal_snoc h e legal follows before after x cut = ⊎_elim
        (λ (t : (before ≡ h) × (x ≡ e)). subst (λ (p : List (Entry C R) × Entry C R). MayFollow m opening p.0 p.1) (λ i. (sym t.0 i, sym t.1 i)) follows)
        (λ (t : (rest : List (Entry C R)) × (before ++ x ∷ rest ≡ h)). legal before t.0 x t.1)
        (snoc_cases before after h x e cut)

    -- a number that no reply answered has no entry
    pub own_unmade : (n : ℕ) (h : List (Entry C R)) → IsLegal m opening h → n ≢ 0 → maker m n h ≡ None → own n h ≡ []
    own_unmade n h legal ne none = own_none n h (λ before after e cut is.
        let follows = legal before after e cut in
        let made = may_made n before e.call ne (subst (λ (k : ℕ). may_call m before k e.call ≡ true) is follows.role) in
        let later : maker m n h ≡ Some made.0 = subst (λ (l : List (Entry C R)). maker m n l ≡ Some made.0) cut (maker_more n before (e ∷ after) made.0 made.1) in
        cc)

    -- a number that is answered next is not 0, and was not answered before
    pub new_number : NumbersAreNew m → m.IsOpening opening → (h : List (Entry C R)) → IsLegal m opening h → (call : C) (n : ℕ) → m.number (m.reply_after opening (calls_of h) call) ≡ Some n → (n ≢ 0) × (maker m n h ≡ None)
    new_number law opens h legal call n is = (
      (law opening (calls_of h) call n opens is).0,
      maker_none n h (λ before after e cut answered.
          let follows = legal before after e cut in
          (law opening (calls_of h) call n opens is).1 (calls_of before) (calls_of after) e.call
          (sym (map-append (λ (x : Entry C R). x.call) before (e ∷ after)) ∙ ap (λ (l : List (Entry C R)). calls_of l) cut)
          (ap m.number (sym follows.reply) ∙ answered)),
    )

  -- a beginning of a legal history is legal
  pub prefix_is_legal : PrefixIsLegal m
  prefix_is_legal opening seen h p legal before after e cut = legal before (after ++ p.0) e (sym (append_assoc before (e ∷ after) p.0) ∙ (ap (λ w. w ++ p.0) cut ∙ p.1))
