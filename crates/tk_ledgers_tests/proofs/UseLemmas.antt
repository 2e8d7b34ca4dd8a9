-- Wakes that an inspector learnt stand in its reading.
use Rattle.std.proofs.Common.{◌≡◌, ◌≢◌, ℕ, ◌+◌, ◌<◌, ◌≤◌, false, List, [], ◌∷◌, ◌++◌, eqb, ap, sym, ◌∙◌, subst, arith, ⊎_elim}
use Rattle.std.proofs.lemmas.Bool.{ne_eqb}
use Rattle.std.proofs.lemmas.List.{append-nil}
use Rattle.tk_core.specs.declared.reply.Reply.{Reply}
use Rattle.tk_core.specs.declared.reply.Reply.TheVariants.{Woken}
use Rattle.tk_core.specs.declared.task.row.TaskRow.{TaskRow}
use Rattle.tk_core.specs.declared.task.call.TaskCall.{TaskCall}
use Rattle.tk_core.specs.declared.task.call.TaskCall.TheVariants.{WakeVal}
use Rattle.tk_core.specs.Lists.{capped, total}
use Rattle.tk_core.specs.Legal.{own}
use Rattle.tk_core.specs.Task.{is_wake}
use Rattle.tk_core.specs.TaskMeaning.{task_meaning}
use Rattle.tk_cell.specs.declared.view.View.{View}
use Rattle.tk_cell.specs.Views.{times, Holds}
use Rattle.tk_cell.specs.Calls.{entry, Joins}
use Rattle.tk_cell.proofs.ListLemmas.{dec_eq, times-append}
use Rattle.tk_ledgers.specs.Sums.{tally}
use Rattle.tk_ledgers.specs.Tasks.{TaskSight, CountsReach}
use Rattle.tk_ledgers_tests.specs.Uses.{WokeOnce}
use Rattle.tk_ledgers.proofs.SumLemmas.{tally_push}

abbrev TaskView : Type 0
TaskView = View TaskRow TaskCall (Reply TaskRow)

-- the wakes of a caller in what a token has seen
abbrev wakes_of : TaskView → ℕ → ℕ
wakes_of v n = tally is_wake (own n v.seen)

total-append : (f : ℕ → ℕ) (xs ys : List ℕ) → total f (xs ++ ys) ≡ total f xs + total f ys
total-append f [] ys = omega arith
total-append f (x ∷ xs) ys = omega (arith, total-append f xs ys)

-- one of the callers adds no more than all
added_one : (f : ℕ → ℕ) (n : ℕ) (ns : List ℕ) → 0 < times n ns → f n ≤ total f ns
added_one f n [] held = absurd (omega (arith, held))
added_one f n (k ∷ ns) held = ⊎_elim
    (λ (is : k ≡ n). let same : f k ≡ f n = ap f is in omega (arith, same))
    (λ (isnt : k ≢ n). let t : eqb k n ≡ false = ne_eqb k n isnt in let rest : 0 < 0 + times n ns = rw t at held in omega (arith, added_one f n ns (omega (arith, rest))))
    (dec_eq k n)

-- who woke once has a wake
woke : (waker receipt : TaskSight) → WokeOnce waker receipt → 1 ≤ wakes_of receipt.token.view waker.token.view.caller
woke waker receipt w =
    let v = waker.token.view in
    let reply : Reply TaskRow = Woken w.2 in let e = entry v.caller (WakeVal w.0 w.1) reply in
    let more : wakes_of receipt.token.view v.caller ≡ tally is_wake (own v.caller v.seen ++ e ∷ []) = ap (tally is_wake) w.3.mine in
    let push : tally is_wake (own v.caller v.seen ++ e ∷ []) ≡ tally is_wake (own v.caller v.seen) + 1 = tally_push is_wake (own v.caller v.seen) e in
    omega (arith, more, push)

held_by : (waker receipt : TaskSight) → WokeOnce waker receipt → Holds receipt.token.view waker.token.view.caller
held_by waker receipt w =
    let n = waker.token.view.caller in
    subst (λ (l : List ℕ). 0 < times n l) (sym (w.3.now_held ∙ append-nil waker.token.view.held)) w.3.holds_itself

-- after both are learnt, the reading has both wakes
pub both_wakes : (one two first second : TaskSight) (v0 v1 v2 : TaskView) (row : TaskRow) → WokeOnce one first → WokeOnce two second
    → Joins task_meaning v0 first.token.view v1 → Joins task_meaning v1 second.token.view v2 → CountsReach v2 row → 2 ≤ row.wakes
both_wakes one two first second v0 v1 v2 row w1 w2 j1 j2 reach =
    let n1 = one.token.view.caller in let n2 = two.token.view.caller in
    let f : ℕ → ℕ = λ n. wakes_of v2 n in
    let h1 = held_by one first w1 in let h2 = held_by two second w2 in
    let in_one : Holds v1 n1 = subst (λ (l : List ℕ). 0 < times n1 l) (sym j1.now_held) (omega (arith, times-append n1 v0.held first.token.view.held, h1)) in
    let own1 : own n1 v2.seen ≡ own n1 first.token.view.seen = j2.first n1 in_one ∙ j1.second n1 h1 in
    let own2 : own n2 v2.seen ≡ own n2 second.token.view.seen = j2.second n2 h2 in
    let one_wake : 1 ≤ f n1 = subst (λ (k : ℕ). 1 ≤ k) (sym (ap (tally is_wake) own1)) (woke one first w1) in
    let two_wakes : 1 ≤ f n2 = subst (λ (k : ℕ). 1 ≤ k) (sym (ap (tally is_wake) own2)) (woke two second w2) in
    let a1 = added_one f n1 first.token.view.held h1 in
    let a2 = added_one f n2 second.token.view.held h2 in
    let held : v2.held ≡ (v0.held ++ first.token.view.held) ++ second.token.view.held = j2.now_held ∙ ap (λ (l : List ℕ). l ++ second.token.view.held) j1.now_held in
    let sum : total f v2.held ≡ (total f v0.held + total f first.token.view.held) + total f second.token.view.held =
    ap (total f) held ∙ (total-append f (v0.held ++ first.token.view.held) second.token.view.held ∙ ap (λ (k : ℕ). k + total f second.token.view.held) (total-append f v0.held first.token.view.held)) in
    let least : 2 ≤ total f v2.held = omega (arith, sum, a1, a2, one_wake, two_wakes) in
    let shown : capped (total f v2.held) ≤ row.wakes = reach.1 in
    omega (arith, least, shown)
