-- What follows from a call or a join, for whoever holds the token: what it may call next, and what it may split off.
use Rattle.std.proofs.Common.{◌≡◌, ◌≢◌, ℕ, ◌+◌, ◌⊎◌, ◌||◌, Bool, true, false, List, [], ◌∷◌, ◌++◌, Option, Some, refl, ap, sym, ◌∙◌, subst, arith, append_assoc, ⊎_elim}
use Rattle.std.specs.List.{list_any}
use Rattle.std.specs.Option.{option_map_or}
use Rattle.std.proofs.lemmas.List.Folds.{list_any-append}
use Rattle.std.proofs.lemmas.Bool.{eq-eqb, ne_eqb}
use mathlib.Core.List.{IsPrefix}
use Rattle.tk_core.specs.declared.history.Entry.{Entry}
use Rattle.tk_core.specs.Meaning.{Meaning, NumbersAreNew}
use Rattle.tk_core.specs.History.{calls_of}
use Rattle.tk_core.specs.Legal.{own, maker, may_call, has_ended, IsLegal}
use Rattle.tk_cell.specs.declared.view.View.{View}
use Rattle.atomic_table.specs.Seated.{TableId}
use Rattle.tk_cell.specs.Views.{times, list_of, Holds, opened, after_split, split_off, Known, known}
use Rattle.tk_cell.specs.Calls.{entry, Calls, Joins, Meets}
use Rattle.tk_cell.specs.Roles.{IsOwner, IsMadeBy}
use Rattle.tk_cell.proofs.ListLemmas.{not_nil, times-append, times_itself, prefix_self}
use Rattle.tk_cell.proofs.HistoryLemmas.{may_more, maker_more, maker_last, ended_same, new_number, prefix_is_legal}

module _ {O C R : Type 0} (m : Meaning O C R) where
  maker_in : (n : ℕ) (seen h : List (Entry C R)) (made : C) → IsPrefix seen h → maker m n seen ≡ Some made → maker m n h ≡ Some made
  maker_in n seen h made p is = subst (λ (l : List (Entry C R)). maker m n l ≡ Some made) p.1 (maker_more m n seen p.0 made is)

  -- the calls that a token may make
  pub owner_role : (v : View O C R) (call : C) → IsOwner m v → m.owner_may call ≡ true → may_call m v.seen v.caller call ≡ true
  owner_role v call o may = rw (eq-eqb v.caller 0 o.caller) may

  pub made_role : (made : C) (v : View O C R) (call : C) → IsMadeBy m made v → m.made_may made call ≡ true → may_call m v.seen v.caller call ≡ true
  made_role made v call o may = rw (ne_eqb v.caller 0 o.other) (ap (λ (x : Option C). option_map_or (λ c. m.made_may c call) x false) o.by ∙ may)

  -- a ledger begins with its owner
  pub opened_owner : (row : O) → IsOwner m (opened row)
  opened_owner row = record { caller = refl; going = refl }

  -- a split leaves the caller as it was
  pub owner_after_split : (v : View O C R) (n : ℕ) → IsOwner m v → IsOwner m (after_split n v)
  owner_after_split v n o = record { caller = o.caller; going = o.going }

  pub made_after_split : (made : C) (v : View O C R) (n : ℕ) → IsMadeBy m made v → IsMadeBy m made (after_split n v)
  made_after_split made v n o = record { other = o.other; by = o.by; going = o.going }

  module _ (v : View O C R) (call : C) (reply : R) (w : View O C R) (k : Calls m v call reply w) where
    abbrev before : List (Entry C R)
    before = v.seen ++ k.between

    abbrev new : Entry C R
    new = entry v.caller call reply

    pub call_begins : IsPrefix v.seen w.seen
    call_begins = (k.between ++ new ∷ [], sym (append_assoc v.seen k.between (new ∷ [])) ∙ sym k.grows)

    -- the reply is the object's, after all the entries before it
    pub call_reply : reply ≡ m.reply_after k.opening (calls_of before) call
    call_reply = (k.legal before [] new (sym k.grows)).reply

    before_legal : IsLegal m k.opening before
    before_legal = prefix_is_legal m k.opening before w.seen (new ∷ [], sym k.grows) k.legal

    -- the caller goes on, where the call is not its last
    call_going : has_ended m v.seen v.caller ≡ false → m.is_last call ≡ false → has_ended m w.seen w.caller ≡ false
    call_going going isnt =
        let p : Entry C R → Bool = λ e. m.is_last e.call in
        let all : has_ended m w.seen v.caller ≡ (has_ended m v.seen v.caller || (m.is_last call || false)) = ap (λ (l : List (Entry C R)). list_any p l) k.mine ∙ list_any-append p (own v.caller v.seen) (new ∷ []) in
        subst (λ (n : ℕ). has_ended m w.seen n ≡ false) (sym k.same_caller) (all ∙ (ap (λ (b : Bool). b || (m.is_last call || false)) going ∙ ap (λ (b : Bool). b || false) isnt))

    pub owner_calls : m.is_last call ≡ false → IsOwner m v → IsOwner m w
    owner_calls isnt o = record { caller = k.same_caller ∙ o.caller; going = call_going o.going isnt }

    pub made_calls : (made : C) → m.is_last call ≡ false → IsMadeBy m made v → IsMadeBy m made w
    made_calls made isnt o = record {
      other = subst (λ (n : ℕ). n ≢ 0) (sym k.same_caller) o.other;
      by = subst (λ (n : ℕ). maker m n w.seen ≡ Some made) (sym k.same_caller) (maker_in v.caller v.seen w.seen made call_begins o.by);
      going = call_going o.going isnt;
    }

    -- a number that was drawn is held, is not the caller's, and has no entry: it may be split off, and is a caller made by the call
    module _ (n : ℕ) (is : m.number reply ≡ Some n) where
      pub drawn_held : Holds w n
      drawn_held =
          let mine : times n (list_of (m.number reply)) ≡ 1 = ap (λ (o : Option ℕ). times n (list_of o)) is ∙ times_itself n in
          let all : times n w.held ≡ times n v.held + times n (list_of (m.number reply)) = ap (λ (l : List ℕ). times n l) k.now_held ∙ times-append n v.held (list_of (m.number reply)) in
          omega (arith, mine, all)

      pub drawn_other : n ≢ w.caller
      drawn_other same = not_nil (own v.caller v.seen) [] new (sym k.mine ∙ (ap (λ (j : ℕ). own j w.seen) (sym (same ∙ k.same_caller)) ∙ k.drawn n is))

      pub drawn_made : NumbersAreNew m → IsMadeBy m call (split_off n w)
      drawn_made law =
          let fresh = new_number m k.opening law k.opens before before_legal call n (ap m.number (sym call_reply) ∙ is) in
          record {
            other = fresh.0;
            by = subst (λ (l : List (Entry C R)). maker m n l ≡ Some call) (sym k.grows) (maker_last m n before new fresh.1 is);
            going = ap (λ (l : List (Entry C R)). list_any (λ e. m.is_last e.call) l) (k.drawn n is);
          }

      -- the token that is split off makes the calls of that caller
      pub drawn_token : NumbersAreNew m → (ledger : TableId) (token : Known O C R) → token ≡ known ledger (split_off n w) → IsMadeBy m call token.view
      drawn_token law ledger token given = subst (λ (t : Known O C R). IsMadeBy m call t.view) (sym given) (drawn_made law)

  module _ (v other w : View O C R) (k : Joins m v other w) where
    pub join_begins : IsPrefix v.seen w.seen
    join_begins = ⊎_elim (λ (t : IsPrefix v.seen other.seen × (w.seen ≡ other.seen)). subst (λ (l : List (Entry C R)). IsPrefix v.seen l) (sym t.1) t.0)
        (λ (t : IsPrefix other.seen v.seen × (w.seen ≡ v.seen)). subst (λ (l : List (Entry C R)). IsPrefix v.seen l) (sym t.1) (prefix_self v.seen)) k.longer

    join_going : has_ended m v.seen v.caller ≡ false → has_ended m w.seen w.caller ≡ false
    join_going going = subst (λ (n : ℕ). has_ended m w.seen n ≡ false) (sym k.same_caller) (ended_same m v.caller w.seen v.seen (k.first v.caller k.holds_itself) ∙ going)

    pub owner_joins : IsOwner m v → IsOwner m w
    owner_joins o = record { caller = k.same_caller ∙ o.caller; going = join_going o.going }

    pub made_joins : (made : C) → IsMadeBy m made v → IsMadeBy m made w
    made_joins made o = record {
      other = subst (λ (n : ℕ). n ≢ 0) (sym k.same_caller) o.other;
      by = subst (λ (n : ℕ). maker m n w.seen ≡ Some made) (sym k.same_caller) (maker_in v.caller v.seen w.seen made join_begins o.by);
      going = join_going o.going;
    }

  -- a view of the same caller that has seen more, of that caller no entry more
  module _ (v w : View O C R) (same : w.caller ≡ v.caller) (begins : IsPrefix v.seen w.seen) (mine : own v.caller w.seen ≡ own v.caller v.seen) where
    pub later_going : has_ended m v.seen v.caller ≡ false → has_ended m w.seen w.caller ≡ false
    later_going going = subst (λ (n : ℕ). has_ended m w.seen n ≡ false) (sym same) (ended_same m v.caller w.seen v.seen mine ∙ going)

    pub later_may : (call : C) → may_call m v.seen v.caller call ≡ true → may_call m w.seen w.caller call ≡ true
    later_may call may = subst (λ (n : ℕ). may_call m w.seen n call ≡ true) (sym same)
        (subst (λ (l : List (Entry C R)). may_call m l v.caller call ≡ true) begins.1 (may_more m v.caller v.seen begins.0 call may))

    pub later_owner : IsOwner m v → IsOwner m w
    later_owner o = record { caller = same ∙ o.caller; going = later_going o.going }

    pub later_made : (made : C) → IsMadeBy m made v → IsMadeBy m made w
    later_made made o = record {
      other = subst (λ (n : ℕ). n ≢ 0) (sym same) o.other;
      by = subst (λ (n : ℕ). maker m n w.seen ≡ Some made) (sym same) (maker_in v.caller v.seen w.seen made begins o.by);
      going = later_going o.going;
    }

  -- the longer of two histories begins with each
  pub longer_first : (a b l : List (Entry C R)) → (IsPrefix a b × (l ≡ b)) ⊎ (IsPrefix b a × (l ≡ a)) → IsPrefix a l
  longer_first a b l longer = ⊎_elim (λ (t : IsPrefix a b × (l ≡ b)). subst (λ (x : List (Entry C R)). IsPrefix a x) (sym t.1) t.0)
      (λ (t : IsPrefix b a × (l ≡ a)). subst (λ (x : List (Entry C R)). IsPrefix a x) (sym t.1) (prefix_self a)) longer

  pub longer_second : (a b l : List (Entry C R)) → (IsPrefix a b × (l ≡ b)) ⊎ (IsPrefix b a × (l ≡ a)) → IsPrefix b l
  longer_second a b l longer = ⊎_elim (λ (t : IsPrefix a b × (l ≡ b)). subst (λ (x : List (Entry C R)). IsPrefix b x) (sym t.1) (prefix_self b))
      (λ (t : IsPrefix b a × (l ≡ a)). subst (λ (x : List (Entry C R)). IsPrefix b x) (sym t.1) t.0) longer

  -- what the second of two that met may call, and whether it goes on
  module _ (v q w u : View O C R) (k : Meets m v q w u) where
    pub second_caller : u.caller ≡ q.caller
    second_caller = ap (λ (x : View O C R). x.caller) k.second_is

    pub second_begins : IsPrefix q.seen u.seen
    second_begins = subst (λ (l : List (Entry C R)). IsPrefix q.seen l) (sym (ap (λ (x : View O C R). x.seen) k.second_is)) (longer_second v.seen q.seen w.seen k.longer)

    pub second_mine : own q.caller u.seen ≡ own q.caller q.seen
    second_mine = ap (λ (l : List (Entry C R)). own q.caller l) (ap (λ (x : View O C R). x.seen) k.second_is) ∙ k.second q.caller k.other_holds_itself

    pub second_may : (call : C) → may_call m q.seen q.caller call ≡ true → may_call m u.seen u.caller call ≡ true
    second_may call may = later_may q u second_caller second_begins second_mine call may

    pub first_caller : w.caller ≡ v.caller
    first_caller = ap (λ (x : View O C R). x.caller) k.first_is

    pub first_begins : IsPrefix v.seen w.seen
    first_begins = longer_first v.seen q.seen w.seen k.longer

    pub first_mine : own v.caller w.seen ≡ own v.caller v.seen
    first_mine = k.first v.caller k.holds_itself
