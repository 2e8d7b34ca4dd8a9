-- Polls of a task, one after the other.
use Rattle.std.proofs.Common.{◌≡◌, ℕ, zero, suc, ◌+◌, ◌*◌, ◌<◌, ◌≤◌, Bool, true, false, List, [], ◌∷◌, ◌++◌, map, Option, Some, None, Ok, Err, inl, inr, refl, ap, sym, ◌∙◌, subst, arith, append_assoc, append-nil, ⊎_elim}
use Rattle.std.specs.Prelude.{◌⊎◌}
use Rattle.std.specs.List.{flat_map, range_with_len}
use Rattle.std.proofs.lemmas.Grind.{flat_map-append}
use Rattle.std.proofs.lemmas.List.{map-append}
use Rattle.tk_core.specs.declared.task.call.TaskCall.{TaskCall}
use Rattle.tk_core.specs.declared.task.call.TaskCall.TheVariants.{PollStart, PollEnd}
use Rattle.tk_core.specs.Polls.{is_polling}
use Rattle.tk_core.specs.Task.{start_at, end_at}
use Rattle.tk_live.specs.Items.{IsTask, TaskDid}
use Rattle.tk_live.specs.Pasts.{Piece, TaskPast, one, and_called, outside_blocks, is_polled, polls_of}
use Rattle.tk_live.specs.Stops.{unless_polled, while_polled}
use Rattle.tk_live.specs.declared.items.TaskItem.{TaskItem}
use Rattle.tk_script.specs.declared.stop.Stop.{Stop}
use Rattle.tk_live.proofs.Calling.{polling_push}
use Rattle.tk_live.proofs.Orders.{outside_push}

range_push : (a n : ℕ) → range_with_len a (suc n) ≡ range_with_len a n ++ (a + n) ∷ []
range_push a zero = let e : a ≡ a + 0 = omega arith in ap (λ k. k ∷ []) e
range_push a (suc n) =
    let e : (a + 1) + n ≡ a + suc n = omega arith in
    ap (λ ks. a ∷ ks) (range_push (a + 1) n ∙ ap (λ k. range_with_len (a + 1) n ++ k ∷ []) e)

-- one poll more
pub polls_push : (n moment run every : ℕ) → polls_of (n + 1) moment run every ≡ polls_of n moment run every ++ PollStart (moment + n * every) ∷ PollEnd ((moment + n * every) + run) ∷ []
polls_push n moment run every =
    let f : ℕ → List TaskCall = λ i. PollStart (moment + i * every) ∷ PollEnd ((moment + i * every) + run) ∷ [] in
    let e : n + 1 ≡ suc n = omega arith in
    let z : 0 + n ≡ n = omega arith in
    ap (λ k. flat_map f (range_with_len 0 k)) e ∙ ap (flat_map f) (range_push 0 n ∙ ap (λ k. range_with_len 0 n ++ k ∷ []) z)
    ∙ (flat_map-append f (range_with_len 0 n) (n ∷ []) ∙ ap (λ l. flat_map f (range_with_len 0 n) ++ l) (append-nil (f n)))

-- a task with one poll more
pub past_push : (n moment run every : ℕ) (p : TaskPast)
    → and_called (map one (PollEnd ((moment + n * every) + run) ∷ [])) (and_called (map one (PollStart (moment + n * every) ∷ [])) (and_called (map one (polls_of n moment run every)) p)) ≡ and_called (map one (polls_of (n + 1) moment run every)) p
past_push n moment run every p =
    let s : Piece TaskCall = one (PollStart (moment + n * every)) in
    let e : Piece TaskCall = one (PollEnd ((moment + n * every) + run)) in
    let before = map (λ (c : TaskCall). one c) (polls_of n moment run every) in
    let all : map one (polls_of (n + 1) moment run every) ≡ before ++ s ∷ e ∷ [] = ap (map one) (polls_push n moment run every) ∙ map-append one (polls_of n moment run every) (PollStart (moment + n * every) ∷ PollEnd ((moment + n * every) + run) ∷ []) in
    ap (λ (l : List (Piece TaskCall)). record p { called = l })
    (append_assoc (p.called ++ before) (s ∷ []) (e ∷ []) ∙ (append_assoc p.called before (s ∷ e ∷ []) ∙ ap (λ l. p.called ++ l) (sym all)))

-- a poll that starts is open, and one that ends isn't
pub started : (p : TaskPast) (moment : ℕ) → is_polled (and_called (map one (PollStart moment ∷ [])) p) ≡ true
started p moment = ap (is_polling start_at end_at) (outside_push p.called (PollStart moment)) ∙ polling_push start_at end_at (outside_blocks p.called) (PollStart moment)

pub ended : (p : TaskPast) (moment : ℕ) → is_polled (and_called (map one (PollEnd moment ∷ [])) p) ≡ false
ended p moment = ap (is_polling start_at end_at) (outside_push p.called (PollEnd moment)) ∙ polling_push start_at end_at (outside_blocks p.called) (PollEnd moment)

none_yet : (moment run every : ℕ) (p : TaskPast) → and_called (map one (polls_of 0 moment run every)) p ≡ p
none_yet moment run every p = ap (λ (l : List (Piece TaskCall)). record p { called = l }) (append-nil p.called)

-- after some polls a task is polled as before them, unless there were some and it was polled then
pub polled_then : (n moment run every : ℕ) (p : TaskPast) → (n ≡ 0) ⊎ (is_polled p ≡ false) → is_polled (and_called (map one (polls_of n moment run every)) p) ≡ is_polled p
polled_then zero moment run every p either = ap is_polled (none_yet moment run every p)
polled_then (suc n) moment run every p either =
    let e : suc n ≡ n + 1 = omega arith in
    let idle : is_polled p ≡ false = ⊎_elim (λ (z : suc n ≡ 0). absurd (omega (arith, z))) (λ (f : is_polled p ≡ false). f) either in
    ap (λ k. is_polled (and_called (map one (polls_of k moment run every)) p)) e
    ∙ (ap is_polled (sym (past_push n moment run every p)) ∙ (ended (and_called (map one (PollStart (moment + n * every) ∷ [])) (and_called (map one (polls_of n moment run every)) p)) ((moment + n * every) + run) ∙ sym idle))

pub begins : (moment run every : ℕ) (p : TaskPast) → p ≡ and_called (map one (polls_of 0 moment run every)) p
begins moment run every p = sym (none_yet moment run every p)

pub unpolled : (b : Bool) → unless_polled (Some b) ≡ None → b ≡ false
unpolled true e = absurd cc
unpolled false e = refl

pub open_ends : (b : Bool) (stop : Stop) → b ≡ true → while_polled (Some b) ≡ Some stop → ⊥
open_ends true stop is e = cc
open_ends false stop is e = cc

-- ---- what is kept of a task that is polled

module _ (old now mid next : TaskItem) (i moment run every : ℕ)
    (so_far : (n : ℕ) (p : TaskPast) → IsTask n p old → IsTask n (and_called (map one (polls_of i moment run every)) p) now)
    (idle : (n : ℕ) (p : TaskPast) → IsTask n p old → (i ≡ 0) ⊎ (is_polled p ≡ false)) where
  abbrev Idle : TaskPast → Option Stop
  Idle p = unless_polled (Some (is_polled p))

  abbrev Busy : TaskPast → Option Stop
  Busy p = while_polled (Some (is_polled p))

  abbrev at : ℕ
  at = moment + i * every

  module _ (starts : TaskDid Idle (PollStart at ∷ []) now mid (Ok tt)) (ends : TaskDid Busy (PollEnd (at + run) ∷ []) mid next (Ok tt)) where
    pub one_more : (n : ℕ) (p : TaskPast) → IsTask n p old → IsTask n (and_called (map one (polls_of (i + 1) moment run every)) p) next
    one_more n p is =
        let was = starts n (and_called (map one (polls_of i moment run every)) p) (so_far n p is) in
        let then = ends n (and_called (map one (PollStart at ∷ [])) (and_called (map one (polls_of i moment run every)) p)) was.1 in
        subst (λ (q : TaskPast). IsTask n q next) (past_push i moment run every p) then.1

    pub still_idle : (n : ℕ) (p : TaskPast) → IsTask n p old → (i + 1 ≡ 0) ⊎ (is_polled p ≡ false)
    still_idle n p is =
        let q = and_called (map one (polls_of i moment run every)) p in
        let was = starts n q (so_far n p is) in
        inr (sym (polled_then i moment run every p (idle n p is)) ∙ unpolled (is_polled q) was.0)

  pub start_stops : (count : ℕ) (why : Stop) → TaskDid Idle (PollStart at ∷ []) now mid (Err why) → TaskDid Idle (polls_of count moment run every) old mid (Err why)
  start_stops count why did n p is =
      ap (λ (b : Bool). unless_polled (Some b)) (sym (polled_then i moment run every p (idle n p is))) ∙ did n (and_called (map one (polls_of i moment run every)) p) (so_far n p is)

  pub end_stops : (count : ℕ) (why : Stop) → TaskDid Idle (PollStart at ∷ []) now mid (Ok tt) → TaskDid Busy (PollEnd (at + run) ∷ []) mid next (Err why) → TaskDid Idle (polls_of count moment run every) old next (Err why)
  end_stops count why starts did n p is =
      let q = and_called (map one (polls_of i moment run every)) p in
      let was = starts n q (so_far n p is) in
      let r = and_called (map one (PollStart at ∷ [])) q in
      absurd (open_ends (is_polled r) why (started q at) (did n r was.1))

-- all polls were made
pub all_polled : (old now : TaskItem) (i count moment run every : ℕ) → ((n : ℕ) (p : TaskPast) → IsTask n p old → IsTask n (and_called (map one (polls_of i moment run every)) p) now)
    → ((n : ℕ) (p : TaskPast) → IsTask n p old → (i ≡ 0) ⊎ (is_polled p ≡ false)) → i ≡ count → 1 ≤ count → TaskDid (λ p. unless_polled (Some (is_polled p))) (polls_of count moment run every) old now (Ok tt)
all_polled old now i count moment run every so_far idle e some n p is =
    let free : is_polled p ≡ false = ⊎_elim (λ (z : i ≡ 0). absurd (omega (arith, z, e, some))) (λ (f : is_polled p ≡ false). f) (idle n p is) in
    (ap (λ (b : Bool). unless_polled (Some b)) free, subst (λ (k : ℕ). IsTask n (and_called (map one (polls_of k moment run every)) p) now) e (so_far n p is))
