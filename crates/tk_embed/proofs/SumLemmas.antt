-- What the times of a task's histograms add up to.
use Rattle.std.proofs.Common.{◌≡◌, ℕ, ◌+◌, ◌-◌, ◌^◌, ◌<◌, Bool, true, false, cond, List, [], ◌∷◌, ◌++◌, Option, Some, None, inl, inr, refl, ap, ap₂, sym, subst, ◌∙◌, append_assoc, arith}
use Rattle.std.specs.Prelude.{sum_by, unwrap_or, is_some, not, ◌&&◌, IfSome}
use Rattle.std.specs.List.{filter_map, cons_option}
use Rattle.std.specs.Option.{option_map, option_map_or}
use Rattle.std.proofs.lemmas.Bool.{cases_Bool}
use Rattle.std.proofs.lemmas.List.{append-nil}
use Rattle.std.proofs.lemmas.List.Sums.{sum_by-cons}
use Rattle.tk_core.specs.declared.task.row.TaskRow.{TaskRow}
use Rattle.tk_core.specs.declared.task.wait.Waits.{Waits}
use Rattle.tk_core.specs.declared.task.call.TaskCall.{TaskCall}
use Rattle.tk_core.specs.declared.task.call.TaskCall.TheVariants.{PollStart, PollEnd, Close, CloneWaker, WakeVal, WakeRef, Release, Enlist, Read}
use Rattle.tk_core.specs.Lists.{capped, each_with_before, last_of, sum_of, sum_since, total}
use Rattle.tk_core.specs.Polls.{run_time}
use Rattle.tk_core.specs.Fold.{is_accepted, answer_at, fold_of, row_after, reply_after}
use Rattle.tk_core.specs.History.{accepted}
use Rattle.tk_core.specs.Task.{task_kind, row_of, start_at, end_at, counted_waits, waits_since, lasting, with_more, after_end, wait_ended_by}
use Rattle.tk_core.specs.TaskMeaning.{task_meaning}
use Rattle.tk_core.specs.Laws.TaskSteps.{changed}
use Rattle.tk_core.specs.Laws.TaskWaits.{BeginsAnew, begins_anew, one_later}
use Rattle.tk_embed.specs.Timed.{accepted_of, runs_of}
use Rattle.tk_embed.specs.Waits.{wait_at, waits_of}
use Rattle.tk_embed.proofs.TimedLemmas.{accepted_more, accepted_same}
use Rattle.tk_embed.proofs.WaitLemmas.{waited, row_is}

-- a sum of what some have and others don't
picked : {X : Type 0} (f : X → Option ℕ) (g : X → ℕ) → ((x : X) → g x ≡ unwrap_or (f x) 0) → (xs : List X) → sum_by g xs ≡ total (λ n. n) (filter_map f xs)
picked f g is [] = refl
picked f g is (x ∷ xs) = sum_by-cons g x xs ∙ by (f x) (is x) (picked f g is xs)
  where
    by : (o : Option ℕ) → g x ≡ unwrap_or o 0 → sum_by g xs ≡ total (λ n. n) (filter_map f xs) → g x + sum_by g xs ≡ total (λ n. n) (cons_option o (filter_map f xs))
    by None e rest = ap₂ (λ a b. a + b) e rest ∙ omega arith
    by (Some n) e rest = ap₂ (λ a b. a + b) e rest

run_picked : (p : List TaskCall × TaskCall) → run_time start_at end_at p.0 p.1 ≡ unwrap_or (option_map (λ m. run_time start_at end_at p.0 p.1) (end_at p.1)) 0
run_picked p = by (end_at p.1) refl
  where
    by : (o : Option ℕ) → end_at p.1 ≡ o → run_time start_at end_at p.0 p.1 ≡ unwrap_or (option_map (λ m. run_time start_at end_at p.0 p.1) o) 0
    by None e = ap (λ (x : Option ℕ). option_map_or (λ m. m - unwrap_or (last_of start_at p.0) m) x 0) e
    by (Some m) e = refl

-- how long the ended polls ran is the busy time of the row
pub busy_adds_up : (opening : TaskRow) (calls : List TaskCall) → (task_meaning.row_after opening calls).busy ≡ capped (total (λ n. n) (runs_of (accepted_of opening calls)))
unfolding row_after fold_of row_of sum_of runs_of
busy_adds_up opening calls =
    ap capped (picked (λ (p : List TaskCall × TaskCall). option_map (λ m. run_time start_at end_at p.0 p.1) (end_at p.1)) (λ (p : List TaskCall × TaskCall). run_time start_at end_at p.0 p.1) run_picked (each_with_before (accepted_of opening calls)))

-- ---- waits

-- the waits that ended took so long in all, with what is counted of the one that lasts while no poll is open, where that is less than 2^56
abbrev AddsUp : ℕ → Bool → Option Waits → Type 0
AddsUp ended polling o = IfSome o (λ w. w.total < 2 ^ 56 → ended + cond polling 0 w.so_far ≡ w.total)

total_push : (xs : List ℕ) (o : Option ℕ) → total (λ n. n) (xs ++ cons_option o []) ≡ total (λ n. n) xs + unwrap_or o 0
total_push [] None = refl
total_push [] (Some n) = omega arith
total_push (x ∷ xs) o = omega (arith, total_push xs o)

-- the wait that a call ends on a row
abbrev ended_on : TaskRow → TaskCall → ℕ
ended_on row (PollStart m) = unwrap_or (wait_ended_by row m) 0
ended_on row _ = 0

-- a start of a poll of a task that waits so long, if it waits
started : (o : Option Waits) (scheduled : Bool) (long ended : ℕ) → (scheduled ≡ false → unwrap_or (option_map (λ w. w.so_far) o) 0 ≡ 0) → AddsUp ended false o
    → AddsUp (ended + unwrap_or (cond (scheduled && not false && not false) (option_map (λ w. w.so_far) (option_map (with_more (cond scheduled long 0)) o)) None) 0) true (option_map (with_more (cond scheduled long 0)) o)
started None scheduled long ended none adds = tt
started (Some w) true long ended none adds = λ few. let so_far = adds (omega (arith, few)) in omega (arith, so_far, few)
started (Some w) false long ended none adds = λ few. let so_far = adds (omega (arith, few)) in omega (arith, so_far, few, none refl)

-- an end of a poll leaves nothing of the wait before it
ended_poll : (o : Option Waits) (ended : ℕ) → AddsUp ended true o → AddsUp (ended + 0) false (option_map after_end o)
ended_poll None ended adds = tt
ended_poll (Some w) ended adds = λ few. omega (arith, adds few)

-- so much more of the wait that lasts
lasted : (o : Option Waits) (polling : Bool) (more ended : ℕ) → (polling ≡ true → more ≡ 0) → AddsUp ended polling o → AddsUp (ended + 0) polling (option_map (with_more more) o)
lasted None polling more ended none adds = tt
lasted (Some w) true more ended none adds = λ few. let so_far = adds (omega (arith, few)) in omega (arith, so_far, few, none refl)
lasted (Some w) false more ended none adds = λ few. let so_far = adds (omega (arith, few)) in omega (arith, so_far, few)

stayed : (o : Option Waits) (polling : Bool) (ended : ℕ) → AddsUp ended polling o → AddsUp (ended + 0) polling o
stayed None polling ended adds = tt
stayed (Some w) polling ended adds = λ few. omega (arith, adds few)

-- a start is refused where a poll is open, or the task is closed
starts_open : (row : TaskRow) (m : ℕ) → is_accepted (answer_at task_kind row (PollStart m)) ≡ true → (is_some row.dropped ≡ false) × (row.polling ≡ false)
starts_open row m accepts = elim (cases_Bool (is_some row.dropped)) [
  | inl closed ↦ let no : is_accepted (answer_at task_kind row (PollStart m)) ≡ false = rw closed refl in absurd (cc)
  | inr unclosed ↦ elim (cases_Bool row.polling) [
    | inl polled ↦ let no : is_accepted (answer_at task_kind row (PollStart m)) ≡ false = rw (unclosed, polled) refl in absurd (cc)
    | inr unpolled ↦ (unclosed, unpolled)
  ]
]

-- an end is refused where no poll is open
ends_open : (row : TaskRow) (m : ℕ) → is_accepted (answer_at task_kind row (PollEnd m)) ≡ true → row.polling ≡ true
ends_open row m accepts = elim (cases_Bool row.polling) [
  | inl polled ↦ polled
  | inr unpolled ↦ elim (cases_Bool (is_some row.dropped)) [
    | inl closed ↦ let no : is_accepted (answer_at task_kind row (PollEnd m)) ≡ false = rw closed refl in absurd (cc)
    | inr unclosed ↦ let no : is_accepted (answer_at task_kind row (PollEnd m)) ≡ false = rw (unclosed, unpolled) refl in absurd (cc)
  ]
]

-- a task that is polled doesn't wait
none_lasts : (row : TaskRow) (m : ℕ) → row.polling ≡ true → lasting row m ≡ 0
none_lasts row m polled = rw polled refl

idle : (scheduled polling closed : Bool) → scheduled ≡ false → (scheduled && not polling && not closed) ≡ false
idle true polling closed e = absurd (cc)
idle false polling closed e = refl

-- one call that is accepted
made : (row : TaskRow) (call : TaskCall) (ended : ℕ) → is_accepted (answer_at task_kind row call) ≡ true → BeginsAnew row → AddsUp ended row.polling row.waits
    → AddsUp (ended + ended_on row call) (changed row call).polling (changed row call).waits
made row (PollStart m) ended accepts begins adds =
    let may = starts_open row m accepts in
    let unpolled : AddsUp ended false row.waits = subst (λ b. AddsUp ended b row.waits) may.1 adds in
    rw (may.0, may.1) (started row.waits row.scheduled (m - waits_since row) ended (λ e. begins (idle row.scheduled row.polling (is_some row.dropped) e) may.1 may.0) unpolled)
made row (PollEnd m) ended accepts begins adds = ended_poll row.waits ended (subst (λ b. AddsUp ended b row.waits) (ends_open row m accepts) adds)
made row (Close m) ended accepts begins adds = lasted row.waits row.polling (lasting row m) ended (none_lasts row m) adds
made row CloneWaker ended accepts begins adds = stayed row.waits row.polling ended adds
made row (WakeVal m from_self) ended accepts begins adds = lasted row.waits row.polling (lasting row m) ended (none_lasts row m) adds
made row (WakeRef m from_self) ended accepts begins adds = lasted row.waits row.polling (lasting row m) ended (none_lasts row m) adds
made row Release ended accepts begins adds = stayed row.waits row.polling ended adds
made row Enlist ended accepts begins adds = stayed row.waits row.polling ended adds
made row Read ended accepts begins adds = stayed row.waits row.polling ended adds

-- how long the waits took that these calls ended
abbrev ended_by : TaskRow → List TaskCall → ℕ
ended_by opening calls = total (λ n. n) (waits_of opening (accepted_of opening calls))

reply_at : (opening : TaskRow) (calls : List TaskCall) (call : TaskCall) → reply_after task_kind opening calls call ≡ answer_at task_kind (row_after task_kind opening calls) call
unfolding reply_after row_after
reply_at opening calls call = refl

ended_at : (opening : TaskRow) (before : List TaskCall) (call : TaskCall) → unwrap_or (wait_at opening before call) 0 ≡ ended_on (row_of opening before) call
ended_at opening before (PollStart m) = refl
ended_at opening before (PollEnd m) = refl
ended_at opening before (Close m) = refl
ended_at opening before CloneWaker = refl
ended_at opening before (WakeVal m s) = refl
ended_at opening before (WakeRef m s) = refl
ended_at opening before Release = refl
ended_at opening before Enlist = refl
ended_at opening before Read = refl

-- one call more
module _ (opening : TaskRow) (calls : List TaskCall) (call : TaskCall) (adds : AddsUp (ended_by opening calls) (row_after task_kind opening calls).polling (row_after task_kind opening calls).waits) where
  ended_more : is_accepted (answer_at task_kind (row_after task_kind opening calls) call) ≡ true → ended_by opening (calls ++ call ∷ []) ≡ ended_by opening calls + ended_on (row_after task_kind opening calls) call
  ended_more accepts =
      let before : List TaskCall = accepted_of opening calls in
      ap (λ cs. total (λ n. n) (waits_of opening cs)) (accepted_more opening calls call (ap is_accepted (reply_at opening calls call) ∙ accepts))
      ∙ ap (total (λ n. n)) (waited opening before call) ∙ total_push (waits_of opening before) (wait_at opening before call)
      ∙ ap (λ n. total (λ k. k) (waits_of opening before) + n) (ended_at opening before call ∙ ap (λ (r : TaskRow). ended_on r call) (sym (row_is opening calls)))

  ended_same : is_accepted (answer_at task_kind (row_after task_kind opening calls) call) ≡ false → ended_by opening (calls ++ call ∷ []) ≡ ended_by opening calls
  ended_same refuses = ap (λ cs. total (λ n. n) (waits_of opening cs)) (accepted_same opening calls call (ap is_accepted (reply_at opening calls call) ∙ refuses))

  one_more : AddsUp (ended_by opening (calls ++ call ∷ [])) (row_after task_kind opening (calls ++ call ∷ [])).polling (row_after task_kind opening (calls ++ call ∷ [])).waits
  one_more = subst (λ (r : TaskRow). AddsUp (ended_by opening (calls ++ call ∷ [])) r.polling r.waits) (sym (one_later opening calls call)) (elim (cases_Bool (is_accepted (answer_at task_kind (row_after task_kind opening calls) call))) [
    | inl accepts ↦ rw (accepts, ended_more accepts) (made (row_after task_kind opening calls) call (ended_by opening calls) accepts (begins_anew opening calls) adds)
    | inr refuses ↦ rw (refuses, ended_same refuses) adds
  ])

none_ended : (opening : TaskRow) → AddsUp (ended_by opening []) (row_after task_kind opening []).polling (row_after task_kind opening []).waits
unfolding row_after fold_of row_of sum_of sum_since last_of accepted waits_of
none_ended opening = elim opening.waits as (λ (o : Option Waits). AddsUp (ended_by opening []) false (option_map (λ none. counted_waits opening.created []) o)) [ None ↦ tt | Some w ↦ λ few. refl ]

adds_from : (opening : TaskRow) (before more : List TaskCall) → AddsUp (ended_by opening before) (row_after task_kind opening before).polling (row_after task_kind opening before).waits
    → AddsUp (ended_by opening (before ++ more)) (row_after task_kind opening (before ++ more)).polling (row_after task_kind opening (before ++ more)).waits
adds_from opening before [] adds = rw append-nil adds
adds_from opening before (call ∷ more) adds =
    subst (λ cs. AddsUp (ended_by opening cs) (row_after task_kind opening cs).polling (row_after task_kind opening cs).waits) (append_assoc before (call ∷ []) more) (adds_from opening (before ++ call ∷ []) more (one_more opening before call adds))

-- how long the ended waits took, with what is counted of the one that lasts while no poll is open, is how long the row says that the task waited
pub waits_add_up : (opening : TaskRow) (calls : List TaskCall) (w : Waits) → (task_meaning.row_after opening calls).waits ≡ Some w → w.total < 2 ^ 56
    → ended_by opening calls + cond (task_meaning.row_after opening calls).polling 0 w.so_far ≡ w.total
waits_add_up opening calls w is few = subst (AddsUp (ended_by opening calls) (task_meaning.row_after opening calls).polling) is (adds_from opening [] calls (none_ended opening)) few
