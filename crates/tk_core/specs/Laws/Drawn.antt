-- Numbers that calls draw: no number is answered twice. For every kind of object.
use Rattle.std.proofs.Common.{◌≡◌, ℕ, ◌+◌, ◌^◌, ◌≤◌, ◌≢◌, Bool, true, false, cond, List, [], ◌∷◌, ◌++◌, Some, ap, sym, ◌∙◌, arith}
use Rattle.std.specs.Prelude.{fold}
use Rattle.std.proofs.lemmas.List.Sums.{fold-append}
use Rattle.tk_core.specs.declared.history.Entry.{Entry}
use Rattle.tk_core.specs.declared.reply.Reply.{Reply}
use Rattle.tk_core.specs.Lists.{capped}
use Rattle.tk_core.specs.History.{with_call, history_of, accepted}
use Rattle.tk_core.specs.Fold.{Kind, is_accepted, number_of, fold_of, answer_at, answer, HasItsAnswers, reply_after}
use Rattle.tk_core.specs.Laws.Answered.{IsAnswered-push, IsAnswered-history_of}
use Rattle.tk_core.specs.Laws.Folded.{after, Grows, fold_of_push, always_holds}

-- what a kind of object has to show of its calls: which number a call draws, and that no call gives one back
pub record Draws {Row C : Type 0} (kind : Kind Row C) (changed : Row → C → Row) (handles : Row → ℕ) : Type 0 where
  pub next : (row : Row) (call : C) (n : ℕ) → number_of (answer_at kind row call) ≡ Some n → (n ≡ handles row + 1) × (handles (after kind changed row call) ≡ capped (handles row + 1))
  pub rises : (row : Row) (call : C) → handles row ≤ 2 ^ 62 → handles row ≤ handles (changed row call)

module _ {Row C : Type 0} (kind : Kind Row C) (changed : Row → C → Row) (opening : Row) (Holds : List C → Type 0)
    (grows : Grows kind changed Holds opening) (none : Holds [])
    (handles : Row → ℕ) (drawing : Draws kind changed handles)
    (within : (calls : List C) → Holds calls → handles (kind.row_of opening calls) ≤ 2 ^ 62) where
  abbrev at : List (Entry C (Reply Row)) → Row
  at h = fold_of kind opening h

  abbrev asked : List (Entry C (Reply Row)) → C → Reply Row
  asked h call = answer kind opening h call

  pushed_at : (h : List (Entry C (Reply Row))) (call : C) → HasItsAnswers kind opening h → at (with_call asked h 0 call) ≡ after kind changed (at h) call
  pushed_at h call answered = (fold_of_push kind changed opening Holds grows none h 0 call (always_holds kind changed opening Holds grows none h answered)).0

  within_at : (h : List (Entry C (Reply Row))) → HasItsAnswers kind opening h → handles (at h) ≤ 2 ^ 62
  unfolding fold_of
  within_at h answered = within (accepted is_accepted h) (always_holds kind changed opening Holds grows none h answered)

  rises_if : (accepts : Bool) (row next : Row) → handles row ≤ handles next → handles row ≤ handles (cond accepts next row)
  rises_if true row next le = le
  rises_if false row next le = omega arith

  rises_at : (h : List (Entry C (Reply Row))) (call : C) → HasItsAnswers kind opening h → handles (at h) ≤ handles (at (with_call asked h 0 call))
  rises_at h call answered = rw (pushed_at h call answered) (rises_if (is_accepted (answer_at kind (at h) call)) (at h) (changed (at h) call) (drawing.rises (at h) call (within_at h answered)))

  abbrev more_calls : List (Entry C (Reply Row)) → List C → List (Entry C (Reply Row))
  more_calls h calls = fold (λ g call. with_call asked g 0 call) h calls

  rises_by : (h : List (Entry C (Reply Row))) (calls : List C) → HasItsAnswers kind opening h → handles (at h) ≤ handles (at (more_calls h calls))
  rises_by h [] answered = omega arith
  rises_by h (call ∷ calls) answered =
      let one = rises_at h call answered in
      let more = rises_by (with_call asked h 0 call) calls (IsAnswered-push asked h 0 call answered) in
      omega arith

  -- a number that is answered is not 0, and was answered by no earlier call
  pub numbers_are_new : (calls : List C) (call : C) (n : ℕ) → number_of (reply_after kind opening calls call) ≡ Some n
      → (n ≢ 0) × ((before later : List C) (earlier : C) → before ++ earlier ∷ later ≡ calls → number_of (reply_after kind opening before earlier) ≢ Some n)
  unfolding reply_after
  numbers_are_new calls call n e =
      let d = drawing.next (at (history_of asked calls)) call n e in (
        omega (arith, d.0),
        λ before later earlier split again.
            let b = drawing.next (at (history_of asked before)) earlier n again in
            let answered = IsAnswered-history_of asked before in
            let limit = within_at (history_of asked before) answered in
            let drawn : handles (at (with_call asked (history_of asked before) 0 earlier)) ≡ capped (handles (at (history_of asked before)) + 1) = rw (pushed_at (history_of asked before) earlier answered) b.1 in
            let whole : history_of asked calls ≡ more_calls (with_call asked (history_of asked before) 0 earlier) later = ap (λ (cs : List C). history_of asked cs) (sym split) ∙ fold-append (λ (g : List (Entry C (Reply Row))) (c : C). with_call asked g 0 c) [] before (earlier ∷ later) in
            let more = rises_by (with_call asked (history_of asked before) 0 earlier) later (IsAnswered-push asked (history_of asked before) 0 earlier answered) in
            let same : handles (at (history_of asked calls)) ≡ handles (at (more_calls (with_call asked (history_of asked before) 0 earlier) later)) = ap (λ (h : List (Entry C (Reply Row))). handles (at h)) whole in
            omega (arith, d.0, b.0),
      )
