-- The histogram beside a task's row, by the task's calls.
use Rattle.std.proofs.Common.{◌≡◌, ℕ, ◌-◌, Bool, true, false, cond, List, [], ◌∷◌, ◌++◌, Option, Some, None, refl, ap, sym, ◌∙◌, subst}
use Rattle.std.specs.Prelude.{◌≢◌, map, unwrap_or}
use Rattle.std.specs.List.{filter_map}
use Rattle.std.specs.Option.{option_map}
use Rattle.std.proofs.lemmas.List.{append-nil, map-append}
use Rattle.std.proofs.lemmas.List.Elements.{filter_map-append}
use Rattle.tk_core.specs.declared.reply.Refusal.{Refusal}
use Rattle.tk_core.specs.declared.reply.Refusal.TheVariants.{AlreadyPolling, NotPolling, Closed, HandlesSpent, NoAttribute, WrongKind, OutOfRange, Memory}
use Rattle.tk_core.specs.declared.reply.Reply.{Reply}
use Rattle.tk_core.specs.declared.reply.Reply.TheVariants.{Done}
use Rattle.tk_core.specs.declared.task.row.TaskRow.{TaskRow}
use Rattle.tk_core.specs.declared.task.call.TaskCall.{TaskCall}
use Rattle.tk_core.specs.declared.task.call.TaskCall.TheVariants.{PollEnd}
use Rattle.tk_core.specs.declared.times.row.TimesRow.{TimesRow}
use Rattle.tk_core.specs.declared.times.call.TimesCall.{TimesCall}
use Rattle.tk_core.specs.declared.times.call.TimesCall.TheVariants.{Add}
use Rattle.tk_core.specs.Lists.{each_with_before, last_of}
use Rattle.tk_core.specs.Polls.{run_time}
use Rattle.tk_core.specs.Fold.{answer, is_accepted, refused_or, fold_of, row_after, reply_after}
use Rattle.tk_core.specs.History.{accepted, history_of}
use Rattle.tk_core.specs.Meaning.{IsRowWith}
use Rattle.tk_core.specs.Task.{task_kind, row_of, refusal_of, start_at, end_at}
use Rattle.tk_core.specs.TaskMeaning.{task_meaning}
use Rattle.tk_core.specs.Times.{times_kind, opening_row}
use Rattle.tk_core.specs.TimesMeaning.{times_meaning}
use Rattle.tk_core.specs.Laws.Answered.{accepted_push, history_of_push}
use Rattle.tk_core.specs.Laws.Pushed.{each_push}
use Rattle.tk_core.specs.Laws.TimesLaws.{begins}
use Rattle.tk_embed.specs.Border.{IsCall, code_of}
use Rattle.tk_embed.specs.Timed.{accepted_of, runs_of, AreTimesOf, StayTimes}

-- ---- the accepted calls, and the polls that they end

-- one call more
pub accepted_then : (opening : TaskRow) (calls : List TaskCall) (call : TaskCall)
    → accepted_of opening (calls ++ call ∷ []) ≡ accepted_of opening calls ++ cond (is_accepted (reply_after task_kind opening calls call)) (call ∷ []) []
unfolding reply_after
accepted_then opening calls call =
    ap (accepted is_accepted) (history_of_push (answer task_kind opening) calls call)
    ∙ accepted_push is_accepted (history_of (answer task_kind opening) calls) (record { caller = 0; call = call; reply = answer task_kind opening (history_of (answer task_kind opening) calls) call })

pub accepted_more : (opening : TaskRow) (calls : List TaskCall) (call : TaskCall) → is_accepted (reply_after task_kind opening calls call) ≡ true
    → accepted_of opening (calls ++ call ∷ []) ≡ accepted_of opening calls ++ call ∷ []
accepted_more opening calls call is = accepted_then opening calls call ∙ ap (λ b. accepted_of opening calls ++ cond b (call ∷ []) []) is

pub accepted_same : (opening : TaskRow) (calls : List TaskCall) (call : TaskCall) → is_accepted (reply_after task_kind opening calls call) ≡ false
    → accepted_of opening (calls ++ call ∷ []) ≡ accepted_of opening calls
accepted_same opening calls call is = accepted_then opening calls call ∙ ap (λ b. accepted_of opening calls ++ cond b (call ∷ []) []) is ∙ append-nil (accepted_of opening calls)

-- one end of a poll more
ended : (calls : List TaskCall) (moment : ℕ) → runs_of (calls ++ PollEnd moment ∷ []) ≡ runs_of calls ++ run_time start_at end_at calls (PollEnd moment) ∷ []
unfolding runs_of
ended calls moment =
    ap (filter_map (λ (p : List TaskCall × TaskCall). option_map (λ m. run_time start_at end_at p.0 p.1) (end_at p.1))) (each_push calls (PollEnd moment))
    ∙ filter_map-append (λ (p : List TaskCall × TaskCall). option_map (λ m. run_time start_at end_at p.0 p.1) (end_at p.1)) (each_with_before calls) ((calls, PollEnd moment) ∷ [])

-- a call that ends no poll
not_ended : (calls : List TaskCall) (call : TaskCall) → end_at call ≡ None → runs_of (calls ++ call ∷ []) ≡ runs_of calls
unfolding runs_of
not_ended calls call none =
    ap (filter_map (λ (p : List TaskCall × TaskCall). option_map (λ m. run_time start_at end_at p.0 p.1) (end_at p.1))) (each_push calls call)
    ∙ filter_map-append (λ (p : List TaskCall × TaskCall). option_map (λ m. run_time start_at end_at p.0 p.1) (end_at p.1)) (each_with_before calls) ((calls, call) ∷ [])
    ∙ rw none (append-nil _)

-- ---- what the row knows of the last start

started_last : (opening : TaskRow) (calls : List TaskCall) → (row_after task_kind opening calls).last_started ≡ last_of start_at (accepted_of opening calls)
unfolding row_after fold_of row_of
started_last opening calls = refl

-- ---- whether an end was accepted

-- the reply to an end of a poll, by its refusal
end_reply : (opening : TaskRow) (calls : List TaskCall) (moment : ℕ)
    → reply_after task_kind opening calls (PollEnd moment) ≡ refused_or (refusal_of (row_after task_kind opening calls) (PollEnd moment)) Done
unfolding reply_after row_after
end_reply opening calls moment = refl

pub is_made : (o : Option Refusal) → code_of (refused_or {Row = TaskRow} o Done) ≡ 0 → is_accepted (refused_or {Row = TaskRow} o Done) ≡ true
is_made None e = refl
is_made (Some AlreadyPolling) e = absurd (cc)
is_made (Some NotPolling) e = absurd (cc)
is_made (Some Closed) e = absurd (cc)
is_made (Some HandlesSpent) e = absurd (cc)
is_made (Some NoAttribute) e = absurd (cc)
is_made (Some WrongKind) e = absurd (cc)
is_made (Some OutOfRange) e = absurd (cc)
is_made (Some Memory) e = absurd (cc)

pub is_refused : (o : Option Refusal) → code_of (refused_or {Row = TaskRow} o Done) ≢ 0 → is_accepted (refused_or {Row = TaskRow} o Done) ≡ false
is_refused None e = absurd (e refl)
is_refused (Some r) e = refl

-- ---- an end of a poll

module _ (words : List ℕ) (moment : ℕ) (next : List ℕ) (reply : Reply TaskRow) (ends : IsCall task_meaning words (PollEnd moment) next reply) where
  reply_is : (opening : TaskRow) (calls : List TaskCall) → task_meaning.IsOpening opening → words ≡ task_meaning.words (task_meaning.row_after opening calls)
      → reply ≡ refused_or (refusal_of (row_after task_kind opening calls) (PollEnd moment)) Done
  reply_is opening calls is_opening at = (ends opening calls is_opening at).1 ∙ end_reply opening calls moment

  pub stays_added : (row : TaskRow) (run : ℕ) (old new : List ℕ) (r : Reply TimesRow) → IsRowWith task_meaning words row → code_of reply ≡ 0
      → run ≡ moment - unwrap_or row.last_started moment → IsCall times_meaning old (Add run) new r → StayTimes words (PollEnd moment) old new
  stays_added row run old new r reads made ran adds opening calls is_opening at are =
      let o : Option Refusal = refusal_of (row_after task_kind opening calls) (PollEnd moment) in
      let accepts : is_accepted (reply_after task_kind opening calls (PollEnd moment)) ≡ true =
      ap is_accepted (end_reply opening calls moment) ∙ is_made o (sym (ap code_of (reply_is opening calls is_opening at)) ∙ made) in
      let before : List TaskCall = accepted_of opening calls in
      let is_row : row ≡ row_after task_kind opening calls = reads (row_after task_kind opening calls) (sym at) in
      let time : run ≡ run_time start_at end_at before (PollEnd moment) =
      ran ∙ ap (λ (x : TaskRow). moment - unwrap_or x.last_started moment) is_row ∙ ap (λ (s : Option ℕ). moment - unwrap_or s moment) (started_last opening calls) in
      let runs : runs_of (accepted_of opening (calls ++ PollEnd moment ∷ [])) ≡ runs_of before ++ run_time start_at end_at before (PollEnd moment) ∷ [] =
      ap runs_of (accepted_more opening calls (PollEnd moment) accepts) ∙ ended before moment in
      (adds opening_row (map Add (runs_of before)) refl are).0
      ∙ ap (λ (cs : List TimesCall). times_meaning.words (times_meaning.row_after opening_row cs))
      (ap (λ t. map Add (runs_of before) ++ Add t ∷ []) time ∙ sym (ap (map Add) runs ∙ map-append Add (runs_of before) (run_time start_at end_at before (PollEnd moment) ∷ [])))

  pub stays_refused : (old : List ℕ) → code_of reply ≢ 0 → StayTimes words (PollEnd moment) old old
  stays_refused old made opening calls is_opening at are =
      let o : Option Refusal = refusal_of (row_after task_kind opening calls) (PollEnd moment) in
      let refuses : is_accepted (reply_after task_kind opening calls (PollEnd moment)) ≡ false =
      ap is_accepted (end_reply opening calls moment) ∙ is_refused o (λ e. made (ap code_of (reply_is opening calls is_opening at) ∙ e)) in
      are ∙ ap (λ (cs : List TaskCall). times_meaning.words (times_meaning.row_after opening_row (map Add (runs_of cs)))) (sym (accepted_same opening calls (PollEnd moment) refuses))

-- ---- other calls, and no calls

pub none_yet : (opening : TaskRow) → AreTimesOf opening [] (times_meaning.words opening_row)
unfolding accepted runs_of
none_yet opening = sym (ap times_meaning.words (begins opening_row refl))

pub others_stay : (opening : TaskRow) (calls : List TaskCall) (call : TaskCall) (times : List ℕ) → end_at call ≡ None → AreTimesOf opening calls times → AreTimesOf opening (calls ++ call ∷ []) times
others_stay opening calls call times none are =
    are ∙ ap (λ (rs : List ℕ). times_meaning.words (times_meaning.row_after opening_row (map Add rs)))
    (sym (ap runs_of (accepted_then opening calls call) ∙ by (is_accepted (reply_after task_kind opening calls call))))
  where
    by : (b : Bool) → runs_of (accepted_of opening calls ++ cond b (call ∷ []) []) ≡ runs_of (accepted_of opening calls)
    by true = not_ended (accepted_of opening calls) call none
    by false = ap runs_of (append-nil (accepted_of opening calls))
