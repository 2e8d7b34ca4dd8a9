-- Where items leave, some of those are there that were told of, in their order, and all poll counts.
use Rattle.std.proofs.Common.{◌≡◌, ℕ, List, [], ◌∷◌, ◌++◌, Bool, true, false, cond, nat_eq, map, None, Some, refl, ap, sym, ◌∙◌, subst, ◌⊎◌, inl, inr, ⊎_elim, append_assoc}
use Rattle.std.specs.Prelude.{Option, fold, filter, not}
use Rattle.std.specs.Option.{option_map_or}
use Rattle.std.specs.List.{IsDistinct, flat_map}
use Rattle.std.proofs.lemmas.List.{append-nil}
use Rattle.tk_events.specs.declared.event.Shown.{Shown}
use Rattle.tk_events.specs.declared.event.Shown.TheVariants.{MadeTask, MadeResource, MadeOp, Polled}
use Rattle.tk_stream.specs.Lines.{GoneView}
use Rattle.tk_stream.specs.Polls.{counted}
use Rattle.tk_stream.specs.Tables.{item_with, is_among, staying}
use Rattle.tk_aggregator.specs.Absorbing.{Infos, Step, took, left, no_infos, with_info, absorbed, absorb, infos_without, stepped, infos_after, events_taken}
use Rattle.tk_aggregator.specs.Finished.{AreSomeOf}
use Rattle.tk_aggregator.specs.Contents.{Content, content_of}
use Rattle.tk_aggregator.proofs.AllKeptLemmas.{absent, add_all, absorbs}

-- ---- some of a list

module _ {A : Type 0} where
  some_of_more : (xs : List A) (y : A) (ys : List A) → AreSomeOf xs ys → AreSomeOf xs (y ∷ ys)
  some_of_more [] y ys some = tt
  some_of_more (x ∷ xs) y ys some = inr some

  some_push : (xs ys : List A) (z : A) → AreSomeOf xs ys → AreSomeOf (xs ++ z ∷ []) (ys ++ z ∷ [])
  some_push [] [] z some = inl (refl, tt)
  some_push [] (y ∷ ys) z some = inr (some_push [] ys z tt)
  some_push (x ∷ xs) [] z some = absurd some
  some_push (x ∷ xs) (y ∷ ys) z (inl some) = inl (some.0, some_push xs ys z some.1)
  some_push (x ∷ xs) (y ∷ ys) z (inr some) = inr (some_push (x ∷ xs) ys z some)

  some_kept : (p : A → Bool) (xs ys : List A) → AreSomeOf xs ys → AreSomeOf (filter p xs) ys
  some_kept p [] ys some = tt
  some_kept p (x ∷ xs) [] some = absurd some
  some_kept p (x ∷ xs) (y ∷ ys) (inl some) = by (p x) (some_kept p xs ys some.1)
    where
      by : (b : Bool) → AreSomeOf (filter p xs) ys → AreSomeOf (cond b (x ∷ filter p xs) (filter p xs)) (y ∷ ys)
      by true rest = inl (some.0, rest)
      by false rest = some_of_more (filter p xs) y ys rest
  some_kept p (x ∷ xs) (y ∷ ys) (inr some) = some_of_more (filter p (x ∷ xs)) y ys (some_kept p (x ∷ xs) ys some)

module _ {Info : Type 0} (id : Info → ℕ) where
  rest_absent : (n : ℕ) (y : Info) (ys : List Info) → item_with id n (y ∷ ys) ≡ None → item_with id n ys ≡ None
  rest_absent n y ys none = by (nat_eq n (id y)) none
    where
      by : (b : Bool) → cond b (Some y) (item_with id n ys) ≡ None → item_with id n ys ≡ None
      by true e = absurd cc
      by false e = e

  -- an id that none of a list has, none of some of them has
  still_absent : (n : ℕ) (xs ys : List Info) → AreSomeOf xs ys → item_with id n ys ≡ None → item_with id n xs ≡ None
  still_absent n [] ys some none = refl
  still_absent n (x ∷ xs) [] some none = absurd some
  still_absent n (x ∷ xs) (y ∷ ys) (inl some) none = by (nat_eq n (id y)) (ap (λ (i : Info). nat_eq n (id i)) some.0) none (still_absent n xs ys some.1 (rest_absent n y ys none))
    where
      by : (b : Bool) → nat_eq n (id x) ≡ b → cond b (Some y) (item_with id n ys) ≡ None → item_with id n xs ≡ None → item_with id n (x ∷ xs) ≡ None
      by true e h rest = absurd cc
      by false e h rest = ap (λ (b : Bool). cond b (Some x) (item_with id n xs)) e ∙ rest
  still_absent n (x ∷ xs) (y ∷ ys) (inr some) none = still_absent n (x ∷ xs) ys some (rest_absent n y ys none)

-- ---- one kind of items

module _ {Info : Type 0} (id : Info → ℕ) (told : Content → List Info) (cases : (e : Shown) → (told (content_of e) ≡ []) ⊎ ((info : Info) × (told (content_of e) ≡ info ∷ [])))
    (get : Infos → List Info) (step : (infos : Infos) (e : Shown) → get (absorbed infos e) ≡ fold (λ (l : List Info) (i : Info). with_info id i l) (get infos) (told (content_of e)))
    (gone_in : GoneView → List ℕ) (leaves : (gone : GoneView) (infos : Infos) → get (infos_without gone infos) ≡ staying id (gone_in gone) (get infos)) where
  abbrev made : Shown → List Info
  made e = told (content_of e)

  abbrev add : List Info → Info → List Info
  add infos info = with_info id info infos

  -- a course after which no id is told of twice
  some_after : (steps : List Step) (infos : Infos) (all : List Info) → AreSomeOf (get infos) all → IsDistinct nat_eq (map id (all ++ flat_map made (events_taken steps)))
      → AreSomeOf (get (fold stepped infos steps)) (all ++ flat_map made (events_taken steps))
  some_after [] infos all some once = subst (λ l. AreSomeOf (get infos) l) (sym (append-nil all)) some
  some_after (took e ∷ steps) infos all some once =
      let es = events_taken steps in
      ⊎_elim
      (λ (none : made e ≡ []).
      let same : get (absorbed infos e) ≡ get infos = step infos e ∙ ap (λ l. fold add (get infos) l) none in
      let rest : flat_map made (e ∷ es) ≡ flat_map made es = ap (λ l. l ++ flat_map made es) none in
      subst (λ l. AreSomeOf (get (fold stepped (absorbed infos e) steps)) (all ++ l)) (sym rest)
      (some_after steps (absorbed infos e) all (subst (λ l. AreSomeOf l all) (sym same) some) (subst (λ l. IsDistinct nat_eq (map id (all ++ l))) rest once)))
      (λ (one : (info : Info) × (made e ≡ info ∷ [])).
      let info = one.0 in
      let rest : flat_map made (e ∷ es) ≡ info ∷ flat_map made es = ap (λ l. l ++ flat_map made es) one.1 in
      let once_more : IsDistinct nat_eq (map id (all ++ info ∷ flat_map made es)) = subst (λ l. IsDistinct nat_eq (map id (all ++ l))) rest once in
      let none : item_with id (id info) (get infos) ≡ None = still_absent id (id info) (get infos) all some (absent id told cases all info (flat_map made es) once_more) in
      let now : get (absorbed infos e) ≡ get infos ++ info ∷ [] =
      step infos e ∙ (ap (λ l. fold add (get infos) l) one.1 ∙ ap (λ (o : Option Info). option_map_or (λ there. get infos) o (get infos ++ info ∷ [])) none) in
      let same : (all ++ info ∷ []) ++ flat_map made es ≡ all ++ info ∷ flat_map made es = append_assoc all (info ∷ []) (flat_map made es) in
      subst (λ l. AreSomeOf (get (fold stepped (absorbed infos e) steps)) l) (same ∙ ap (λ l. all ++ l) (sym rest))
      (some_after steps (absorbed infos e) (all ++ info ∷ []) (subst (λ l. AreSomeOf l (all ++ info ∷ [])) (sym now) (some_push (get infos) all info some))
      (subst (λ l. IsDistinct nat_eq (map id l)) (sym same) once_more)))
      (cases e)
  some_after (left gone ∷ steps) infos all some once =
      some_after steps (infos_without gone infos) all
      (subst (λ l. AreSomeOf l all) (sym (leaves gone infos)) (some_kept (λ (i : Info). not (is_among (gone_in gone) (id i))) (get infos) all some)) once

  some_of_taken : (steps : List Step) → get no_infos ≡ [] → IsDistinct nat_eq (map id (flat_map made (events_taken steps))) → AreSomeOf (get (infos_after steps)) (get (absorb no_infos (events_taken steps)))
  some_of_taken steps none once =
      let es = events_taken steps in
      let all : get (absorb no_infos es) ≡ flat_map made es = absorbs id told cases get step es no_infos ∙ (ap (λ l. fold add l (flat_map made es)) none ∙ add_all id told cases [] (flat_map made es) once) in
      subst (λ l. AreSomeOf (get (infos_after steps)) l) (sym all) (some_after steps no_infos [] (subst (λ l. AreSomeOf l []) (sym none) tt) once)

  -- some of what these events tell of is there
  pub some_there : (steps : List Step) (es : List Shown) → events_taken steps ≡ es → get no_infos ≡ [] → IsDistinct nat_eq (map id (flat_map made es)) → AreSomeOf (get (infos_after steps)) (get (absorb no_infos es))
  some_there steps es is none once =
      subst (λ (l : List Shown). AreSomeOf (get (infos_after steps)) (get (absorb no_infos l))) is
      (some_of_taken steps none (subst (λ (l : List Shown). IsDistinct nat_eq (map id (flat_map made l))) (sym is) once))

-- ---- poll counts

counts_with : (e : Shown) (i j : Infos) → i.counts ≡ j.counts → (absorbed i e).counts ≡ (absorbed j e).counts
counts_with (MadeTask info ledger caller times) i j same = same
counts_with (MadeResource info ledger caller) i j same = same
counts_with (MadeOp info ledger caller) i j same = same
counts_with (Polled op) i j same = ap (λ cs. counted op.resource op.ready cs) same

counts_stay : (steps : List Step) (i j : Infos) → i.counts ≡ j.counts → (fold stepped i steps).counts ≡ (absorb j (events_taken steps)).counts
counts_stay [] i j same = same
counts_stay (took e ∷ steps) i j same = counts_stay steps (absorbed i e) (absorbed j e) (counts_with e i j same)
counts_stay (left gone ∷ steps) i j same = counts_stay steps (infos_without gone i) j same

pub all_counts : (steps : List Step) (es : List Shown) → events_taken steps ≡ es → (infos_after steps).counts ≡ (absorb no_infos es).counts
all_counts steps es is = counts_stay steps no_infos no_infos refl ∙ ap (λ (l : List Shown). (absorb no_infos l).counts) is
