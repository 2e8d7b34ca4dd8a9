-- Calls that the owner alone makes: the last of them in a history stands in the owner's own list.
use Rattle.std.proofs.Common.{◌≡◌, ℕ, Bool, true, false, cond, if◌then◌else◌, List, [], ◌∷◌, ◌++◌, Option, Some, None, refl, ap, sym, ◌∙◌, subst}
use Rattle.std.specs.Prelude.{◌==◌}
use Rattle.std.specs.List.{filter_map, last_or}
use Rattle.std.specs.Option.{option_map_or, option_or}
use Rattle.std.proofs.lemmas.List.{append-nil, map-append}
use Rattle.std.proofs.lemmas.List.Elements.{filter-append, filter_map-append}
use Rattle.tk_core.specs.declared.history.Entry.{Entry}
use Rattle.tk_core.specs.declared.reply.Reply.{Reply}
use Rattle.tk_core.specs.Lists.{last, last_of}
use Rattle.tk_core.specs.Meaning.{Meaning}
use Rattle.tk_core.specs.History.{accepted}
use Rattle.tk_core.specs.Fold.{is_accepted}
use Rattle.tk_core.specs.Legal.{own, maker, IsLegal}
use Rattle.tk_core.specs.Laws.Answered.{accepted_push}
use Rattle.tk_core.specs.Laws.Pushed.{last_of_push}
use Rattle.tk_cell.specs.declared.view.View.{View}
use Rattle.tk_cell.specs.Calls.{entry, Calls}
use Rattle.tk_cell.specs.Roles.{IsOwner}
use Rattle.tk_cell.proofs.HistoryLemmas.{own_mine, prefix_is_legal}

pub snoc_same : {A : Type 0} (xs ys : List A) (x : A) → xs ++ x ∷ [] ≡ ys ++ x ∷ [] → xs ≡ ys
snoc_same [] [] x e = refl
snoc_same [] (b ∷ []) x e = absurd cc
snoc_same [] (b ∷ (c ∷ ys)) x e = absurd cc
snoc_same (a ∷ []) [] x e = absurd cc
snoc_same (a ∷ (b ∷ xs)) [] x e = absurd cc
snoc_same (a ∷ xs) (b ∷ ys) x e = let heads : a ≡ b = cc in let tails = snoc_same xs ys x cc in cc (heads, tails)

-- the accepted calls of two lists of entries, one after the other
pub accepted_append : {Row C : Type 0} (xs ys : List (Entry C (Reply Row))) → accepted is_accepted (xs ++ ys) ≡ accepted is_accepted xs ++ accepted is_accepted ys
unfolding accepted
accepted_append xs ys = rw (filter-append, map-append) refl

module _ {Row C : Type 0} (m : Meaning Row C (Reply Row)) where
  -- a call of the owner is one entry more in its list
  module _ (v : View Row C (Reply Row)) (call : C) (reply : Reply Row) (w : View Row C (Reply Row)) (k : Calls m v call reply w) (o : IsOwner m v) where
    abbrev new : Entry C (Reply Row)
    new = entry v.caller call reply

    pub list_grows : own 0 w.seen ≡ own 0 v.seen ++ new ∷ []
    list_grows = subst (λ (n : ℕ). own n w.seen ≡ own n v.seen ++ new ∷ []) o.caller k.mine

    pub list_before : own 0 (v.seen ++ k.between) ≡ own 0 v.seen
    list_before = snoc_same (own 0 (v.seen ++ k.between)) (own 0 v.seen) new
        (sym (own_mine 0 (v.seen ++ k.between) new o.caller) ∙ (ap (λ (l : List (Entry C (Reply Row))). own 0 l) (sym k.grows) ∙ list_grows))

    pub legal_before : IsLegal m k.opening (v.seen ++ k.between)
    legal_before = prefix_is_legal m k.opening (v.seen ++ k.between) w.seen (new ∷ [], sym k.grows) k.legal

  module _ {X : Type 0} (f : C → Option X) (others : (made call : C) → m.made_may made call ≡ true → f call ≡ None) where
    -- whoever isn't the owner makes no such call
    abbrev pub OthersMakeNone : List (Entry C (Reply Row)) → Type 0
    OthersMakeNone h = (before later : List (Entry C (Reply Row))) (e : Entry C (Reply Row)) → before ++ e ∷ later ≡ h → (e.caller == 0) ≡ false → f e.call ≡ None

    abbrev pub picked : List (Entry C (Reply Row)) → List X
    picked h = filter_map f (accepted is_accepted h)

    abbrev one : Entry C (Reply Row) → List X
    one e = filter_map f (cond (is_accepted e.reply) (e.call ∷ []) [])

    picked_cons : (e : Entry C (Reply Row)) (h : List (Entry C (Reply Row))) → picked (e ∷ h) ≡ one e ++ picked h
    unfolding accepted
    picked_cons e h = go (is_accepted e.reply)
      where
        first : filter_map f (e.call ∷ accepted is_accepted h) ≡ filter_map f (e.call ∷ []) ++ filter_map f (accepted is_accepted h)
        first = filter_map-append f (e.call ∷ []) (accepted is_accepted h)

        go : (b : Bool) → filter_map f (Rattle.std.specs.Prelude.map (λ (x : Entry C (Reply Row)). x.call) (cond b (e ∷ Rattle.std.specs.Prelude.filter (λ (x : Entry C (Reply Row)). is_accepted x.reply) h) (Rattle.std.specs.Prelude.filter (λ (x : Entry C (Reply Row)). is_accepted x.reply) h)))
            ≡ filter_map f (cond b (e.call ∷ []) []) ++ picked h
        go true = first
        go false = refl

    one_none : (e : Entry C (Reply Row)) → f e.call ≡ None → one e ≡ []
    one_none e none = go (is_accepted e.reply)
      where
        go : (b : Bool) → filter_map f (cond b (e.call ∷ []) []) ≡ []
        go true = rw none refl
        go false = refl

    pub same_picked : (h : List (Entry C (Reply Row))) → OthersMakeNone h → picked h ≡ picked (own 0 h)
    same_picked [] none = refl
    same_picked (e ∷ h) none =
        let rest = same_picked h (λ before later x cut. none (e ∷ before) later x (ap (λ (l : List (Entry C (Reply Row))). e ∷ l) cut)) in
        picked_cons e h ∙ go (e.caller == 0) refl rest
      where
        go : (b : Bool) → (e.caller == 0) ≡ b → picked h ≡ picked (own 0 h) → one e ++ picked h ≡ picked (cond b (e ∷ own 0 h) (own 0 h))
        go true is rest = ap (λ (l : List X). one e ++ l) rest ∙ sym (picked_cons e (own 0 h))
        go false is rest = ap (λ (l : List X). l ++ picked h) (one_none e (none [] h e refl is)) ∙ rest

    pub legal_others : (opening : Row) (h : List (Entry C (Reply Row))) → IsLegal m opening h → OthersMakeNone h
    legal_others opening h legal before later e cut isnt = with_role (e.caller == 0) isnt (legal before later e cut).role
      where
        by_maker : (o : Option C) → option_map_or (λ made. m.made_may made e.call) o false ≡ true → f e.call ≡ None
        by_maker None may = absurd cc
        by_maker (Some made) may = others made e.call may

        with_role : (b : Bool) → b ≡ false → (if b then m.owner_may e.call else option_map_or (λ made. m.made_may made e.call) (maker m e.caller before) false) ≡ true → f e.call ≡ None
        with_role true is may = absurd cc
        with_role false is may = by_maker (maker m e.caller before) may

    -- in a legal history such calls stand in the owner's list
    pub picked_of_owner : (opening : Row) (h : List (Entry C (Reply Row))) → IsLegal m opening h → picked h ≡ picked (own 0 h)
    picked_of_owner opening h legal = same_picked h (legal_others opening h legal)

    -- so the last of them is the last there
    pub last_of_owner : (opening : Row) (h : List (Entry C (Reply Row))) → IsLegal m opening h → last_of f (accepted is_accepted h) ≡ last_of f (accepted is_accepted (own 0 h))
    unfolding last_of
    last_of_owner opening h legal = ap (λ (xs : List X). last xs) (picked_of_owner opening h legal)

    module _ (v : View Row C (Reply Row)) (call : C) (reply : Reply Row) (w : View Row C (Reply Row)) (k : Calls m v call reply w) (o : IsOwner m v) where
      -- the last such call before a call of the owner
      pub last_before : last_of f (accepted is_accepted (v.seen ++ k.between)) ≡ last_of f (accepted is_accepted (own 0 v.seen))
      last_before = last_of_owner k.opening (v.seen ++ k.between) (legal_before v call reply w k o)
          ∙ ap (λ (l : List (Entry C (Reply Row))). last_of f (accepted is_accepted l)) (list_before v call reply w k o)

      -- the last such call after it
      pub last_after : last_of f (accepted is_accepted (own 0 w.seen)) ≡ option_or (cond (is_accepted reply) (f call) None) (last_of f (accepted is_accepted (own 0 v.seen)))
      last_after = ap (λ (l : List (Entry C (Reply Row))). last_of f (accepted is_accepted l)) (list_grows v call reply w k o)
          ∙ (ap (λ (cs : List C). last_of f cs) (accepted_push is_accepted (own 0 v.seen) (new v call reply w k o)) ∙ go (is_accepted reply))
        where
          go : (b : Bool) → last_of f (accepted is_accepted (own 0 v.seen) ++ cond b (call ∷ []) []) ≡ option_or (cond b (f call) None) (last_of f (accepted is_accepted (own 0 v.seen)))
          go true = last_of_push f (accepted is_accepted (own 0 v.seen)) call
          go false = ap (λ (cs : List C). last_of f cs) (append-nil (accepted is_accepted (own 0 v.seen)))
