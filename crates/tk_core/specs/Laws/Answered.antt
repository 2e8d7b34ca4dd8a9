-- Histories whose replies are the answers: one entry more, a part from the front, and what a list of calls makes.
use Rattle.std.proofs.Common.{◌≡◌, ℕ, true, false, cond, List, [], ◌∷◌, ◌++◌, refl, sym, subst, append_assoc}
use Rattle.std.specs.Prelude.{Bool, map, filter, fold}
use Rattle.std.specs.List.{AllByRecursion}
use Rattle.std.proofs.lemmas.List.Sums.{fold_push}
use Rattle.std.proofs.lemmas.List.{append-nil, map-append}
use Rattle.std.proofs.lemmas.List.Elements.{filter-append}
use Rattle.tk_core.specs.declared.history.Entry.{Entry}
use Rattle.tk_core.specs.Lists.{each_after, each_with_before}
use Rattle.tk_core.specs.History.{calls_of, accepted, IsAnswered, with_call, history_of}
use Rattle.tk_core.specs.Laws.Pushed.{each_after-append, each_push}

pub AllByRecursion-append : {X : Type 0} (P : X → Type 0) (xs ys : List X) → AllByRecursion P xs → AllByRecursion P ys → AllByRecursion P (xs ++ ys)
AllByRecursion-append P [] ys p q = q
AllByRecursion-append P (x ∷ xs) ys p q = (p.0, AllByRecursion-append P xs ys p.1 q)

pub AllByRecursion-front : {X : Type 0} (P : X → Type 0) (xs ys : List X) → AllByRecursion P (xs ++ ys) → AllByRecursion P xs
AllByRecursion-front P [] ys p = tt
AllByRecursion-front P (x ∷ xs) ys p = (p.0, AllByRecursion-front P xs ys p.1)

module _ {C R : Type 0} where
  -- the accepted calls after one more entry
  pub accepted_push : (is_accepted : R → Bool) (h : List (Entry C R)) (e : Entry C R) → accepted is_accepted (h ++ e ∷ []) ≡ accepted is_accepted h ++ cond (is_accepted e.reply) (e.call ∷ []) []
  unfolding accepted
  accepted_push is_accepted h e = rw (filter-append, map-append) (elim (is_accepted e.reply) as (λ b. map (λ (x : Entry C R). x.call) (filter (λ (x : Entry C R). is_accepted x.reply) h) ++ map (λ (x : Entry C R). x.call) (cond b (e ∷ []) []) ≡ map (λ (x : Entry C R). x.call) (filter (λ (x : Entry C R). is_accepted x.reply) h) ++ cond b (e.call ∷ []) []) [ true ↦ refl | false ↦ refl ])

  pub calls_of_push : (h : List (Entry C R)) (e : Entry C R) → calls_of (h ++ e ∷ []) ≡ calls_of h ++ e.call ∷ []
  calls_of_push h e = map-append (λ (x : Entry C R). x.call) h (e ∷ [])

module _ {C R : Type 0} (answer : List (Entry C R) → C → R) where
  -- an answered call may follow
  pub IsAnswered-push : (h : List (Entry C R)) (caller : ℕ) (call : C) → IsAnswered answer h → IsAnswered answer (with_call answer h caller call)
  IsAnswered-push h caller call answered = rw (each_push h (record { caller = caller; call = call; reply = answer h call })) (AllByRecursion-append (λ p. p.1.reply ≡ answer p.0 p.1.call) (each_with_before h) _ answered (refl, tt))

  -- the front of an answered history is answered
  pub IsAnswered-front : (h more : List (Entry C R)) → IsAnswered answer (h ++ more) → IsAnswered answer h
  IsAnswered-front h more answered = AllByRecursion-front (λ p. p.1.reply ≡ answer p.0 p.1.call) (each_with_before h) (each_after h more) (subst (AllByRecursion (λ p. p.1.reply ≡ answer p.0 p.1.call)) (each_after-append [] h more) answered)

  -- one more call makes one more entry
  pub history_of_push : (calls : List C) (call : C) → history_of answer (calls ++ call ∷ []) ≡ with_call answer (history_of answer calls) 0 call
  history_of_push calls call = fold_push (λ (h : List (Entry C R)) (c : C). with_call answer h 0 c) [] calls call

  kept_from : (P : List (Entry C R) → Type 0) (step : (h : List (Entry C R)) (caller : ℕ) (call : C) → IsAnswered answer h → P h → P (with_call answer h caller call)) (before rest : List (Entry C R))
      → IsAnswered answer before → P before → AllByRecursion (λ p. p.1.reply ≡ answer p.0 p.1.call) (each_after before rest) → P (before ++ rest)
  kept_from P step before [] begun p answered = rw append-nil p
  kept_from P step before (e ∷ rest) begun p answered =
      let IsNext : R → Type 0 = λ r. P (before ++ record { caller = e.caller; call = e.call; reply = r } ∷ []) in
      let WasAnswered : R → Type 0 = λ r. IsAnswered answer (before ++ record { caller = e.caller; call = e.call; reply = r } ∷ []) in
      let next : P (before ++ e ∷ []) = subst IsNext (sym answered.0) (step before e.caller e.call begun p) in
      let longer : IsAnswered answer (before ++ e ∷ []) = subst WasAnswered (sym answered.0) (IsAnswered-push before e.caller e.call begun) in
      rw append_assoc at (kept_from P step (before ++ e ∷ []) rest longer next answered.1)

  -- what each answered call keeps holds of every answered history
  pub kept : (P : List (Entry C R) → Type 0) → P [] → ((h : List (Entry C R)) (caller : ℕ) (call : C) → IsAnswered answer h → P h → P (with_call answer h caller call)) → (h : List (Entry C R)) → IsAnswered answer h → P h
  kept P none step h answered = kept_from P step [] h tt none answered

  answered_from : (h : List (Entry C R)) (calls : List C) → IsAnswered answer h → IsAnswered answer (fold (λ g call. with_call answer g 0 call) h calls)
  answered_from h [] answered = answered
  answered_from h (call ∷ calls) answered = answered_from (with_call answer h 0 call) calls (IsAnswered-push h 0 call answered)

  -- what a list of calls makes is answered
  pub IsAnswered-history_of : (calls : List C) → IsAnswered answer (history_of answer calls)
  IsAnswered-history_of calls = answered_from [] calls tt
