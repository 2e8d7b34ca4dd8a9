-- The histogram of waits beside a task's row, by the task's calls.
use Rattle.std.proofs.Common.{◌≡◌, ℕ, Bool, true, false, cond, List, [], ◌∷◌, ◌++◌, Option, Some, None, refl, ap, sym, ◌∙◌}
use Rattle.std.specs.Prelude.{◌≢◌, map}
use Rattle.std.specs.List.{filter_map, cons_option}
use Rattle.std.proofs.lemmas.List.{append-nil, map-append}
use Rattle.std.proofs.lemmas.List.Elements.{filter_map-append}
use Rattle.tk_core.specs.declared.reply.Refusal.{Refusal}
use Rattle.tk_core.specs.declared.reply.Reply.{Reply}
use Rattle.tk_core.specs.declared.reply.Reply.TheVariants.{Done}
use Rattle.tk_core.specs.declared.task.row.TaskRow.{TaskRow}
use Rattle.tk_core.specs.declared.task.call.TaskCall.{TaskCall}
use Rattle.tk_core.specs.declared.task.call.TaskCall.TheVariants.{PollStart, PollEnd, Close, CloneWaker, WakeVal, WakeRef, Release, Enlist, Read}
use Rattle.tk_core.specs.declared.times.row.TimesRow.{TimesRow}
use Rattle.tk_core.specs.declared.times.call.TimesCall.{TimesCall}
use Rattle.tk_core.specs.declared.times.call.TimesCall.TheVariants.{Add}
use Rattle.tk_core.specs.Lists.{each_with_before}
use Rattle.tk_core.specs.Fold.{is_accepted, refused_or, fold_of, row_after, reply_after}
use Rattle.tk_core.specs.History.{accepted}
use Rattle.tk_core.specs.Meaning.{IsRowWith}
use Rattle.tk_core.specs.Task.{task_kind, row_of, refusal_of, start_at, wait_ended_by}
use Rattle.tk_core.specs.TaskMeaning.{task_meaning}
use Rattle.tk_core.specs.Times.{opening_row}
use Rattle.tk_core.specs.TimesMeaning.{times_meaning}
use Rattle.tk_core.specs.Laws.Pushed.{each_push}
use Rattle.tk_core.specs.Laws.TimesLaws.{begins}
use Rattle.tk_embed.specs.Border.{IsCall, code_of}
use Rattle.tk_embed.specs.Timed.{accepted_of}
use Rattle.tk_embed.specs.Waits.{wait_at, waits_of, AreWaitsOf, StayWaits}
use Rattle.tk_embed.proofs.TimedLemmas.{accepted_then, accepted_more, accepted_same, is_made, is_refused}

-- ---- one call more

pub waited : (opening : TaskRow) (calls : List TaskCall) (call : TaskCall) → waits_of opening (calls ++ call ∷ []) ≡ waits_of opening calls ++ cons_option (wait_at opening calls call) []
unfolding waits_of
waited opening calls call =
    ap (filter_map (λ (p : List TaskCall × TaskCall). wait_at opening p.0 p.1)) (each_push calls call)
    ∙ filter_map-append (λ (p : List TaskCall × TaskCall). wait_at opening p.0 p.1) (each_with_before calls) ((calls, call) ∷ [])

-- the row is that of the accepted calls
pub row_is : (opening : TaskRow) (calls : List TaskCall) → row_after task_kind opening calls ≡ row_of opening (accepted_of opening calls)
unfolding row_after fold_of
row_is opening calls = refl

start_reply : (opening : TaskRow) (calls : List TaskCall) (moment : ℕ)
    → reply_after task_kind opening calls (PollStart moment) ≡ refused_or (refusal_of (row_after task_kind opening calls) (PollStart moment)) Done
unfolding reply_after row_after
start_reply opening calls moment = refl

-- ---- a start of a poll

module _ (words : List ℕ) (moment : ℕ) (next : List ℕ) (reply : Reply TaskRow) (starts : IsCall task_meaning words (PollStart moment) next reply) where
  reply_is : (opening : TaskRow) (calls : List TaskCall) → task_meaning.IsOpening opening → words ≡ task_meaning.words (task_meaning.row_after opening calls)
      → reply ≡ refused_or (refusal_of (row_after task_kind opening calls) (PollStart moment)) Done
  reply_is opening calls is_opening at = (starts opening calls is_opening at).1 ∙ start_reply opening calls moment

  -- the waits after a start that was made
  more : (opening : TaskRow) (calls : List TaskCall) → task_meaning.IsOpening opening → words ≡ task_meaning.words (task_meaning.row_after opening calls)
      → (row : TaskRow) → IsRowWith task_meaning words row → code_of reply ≡ 0
      → waits_of opening (accepted_of opening (calls ++ PollStart moment ∷ [])) ≡ waits_of opening (accepted_of opening calls) ++ cons_option (wait_ended_by row moment) []
  more opening calls is_opening at row reads made =
      let o : Option Refusal = refusal_of (row_after task_kind opening calls) (PollStart moment) in
      let before : List TaskCall = accepted_of opening calls in
      let is_row : row_of opening before ≡ row = sym (row_is opening calls) ∙ sym (reads (row_after task_kind opening calls) (sym at)) in
      ap (waits_of opening) (accepted_more opening calls (PollStart moment)
      (ap is_accepted (start_reply opening calls moment) ∙ is_made o (sym (ap code_of (reply_is opening calls is_opening at)) ∙ made)))
      ∙ waited opening before (PollStart moment) ∙ ap (λ (r : TaskRow). waits_of opening before ++ cons_option (wait_ended_by r moment) []) is_row

  pub stays_waited : (row : TaskRow) (wait : ℕ) (old new : List ℕ) (r : Reply TimesRow) → IsRowWith task_meaning words row → code_of reply ≡ 0
      → wait_ended_by row moment ≡ Some wait → IsCall times_meaning old (Add wait) new r → StayWaits words (PollStart moment) old new
  stays_waited row wait old new r reads made waits adds opening calls is_opening at are =
      let before : List ℕ = waits_of opening (accepted_of opening calls) in
      let one : waits_of opening (accepted_of opening (calls ++ PollStart moment ∷ [])) ≡ before ++ wait ∷ [] =
      more opening calls is_opening at row reads made ∙ ap (λ o. before ++ cons_option o []) waits in
      (adds opening_row (map Add before) refl are).0
      ∙ ap (λ (cs : List TimesCall). times_meaning.words (times_meaning.row_after opening_row cs)) (sym (ap (map Add) one ∙ map-append Add before (wait ∷ [])))

  pub stays_unwaited : (row : TaskRow) (old : List ℕ) → IsRowWith task_meaning words row → code_of reply ≡ 0 → wait_ended_by row moment ≡ None → StayWaits words (PollStart moment) old old
  stays_unwaited row old reads made idle opening calls is_opening at are =
      let before : List ℕ = waits_of opening (accepted_of opening calls) in
      let same : waits_of opening (accepted_of opening (calls ++ PollStart moment ∷ [])) ≡ before =
      more opening calls is_opening at row reads made ∙ ap (λ o. before ++ cons_option o []) idle ∙ append-nil before in
      are ∙ ap (λ (ws : List ℕ). times_meaning.words (times_meaning.row_after opening_row (map Add ws))) (sym same)

  pub stays_unstarted : (old : List ℕ) → code_of reply ≢ 0 → StayWaits words (PollStart moment) old old
  stays_unstarted old made opening calls is_opening at are =
      let o : Option Refusal = refusal_of (row_after task_kind opening calls) (PollStart moment) in
      let refuses : is_accepted (reply_after task_kind opening calls (PollStart moment)) ≡ false =
      ap is_accepted (start_reply opening calls moment) ∙ is_refused o (λ e. made (ap code_of (reply_is opening calls is_opening at) ∙ e)) in
      are ∙ ap (λ (cs : List TaskCall). times_meaning.words (times_meaning.row_after opening_row (map Add (waits_of opening cs)))) (sym (accepted_same opening calls (PollStart moment) refuses))

-- ---- other calls, and no calls

pub no_waits_yet : (opening : TaskRow) → AreWaitsOf opening [] (times_meaning.words opening_row)
unfolding accepted waits_of
no_waits_yet opening = sym (ap times_meaning.words (begins opening_row refl))

ends_none : (opening : TaskRow) (calls : List TaskCall) (call : TaskCall) → start_at call ≡ None → wait_at opening calls call ≡ None
ends_none opening calls (PollStart m) none = absurd (cc)
ends_none opening calls (PollEnd m) none = refl
ends_none opening calls (Close m) none = refl
ends_none opening calls CloneWaker none = refl
ends_none opening calls (WakeVal m s) none = refl
ends_none opening calls (WakeRef m s) none = refl
ends_none opening calls Release none = refl
ends_none opening calls Enlist none = refl
ends_none opening calls Read none = refl

pub other_calls_wait : (opening : TaskRow) (calls : List TaskCall) (call : TaskCall) (waits : List ℕ) → start_at call ≡ None → AreWaitsOf opening calls waits → AreWaitsOf opening (calls ++ call ∷ []) waits
other_calls_wait opening calls call waits none are =
    are ∙ ap (λ (ws : List ℕ). times_meaning.words (times_meaning.row_after opening_row (map Add ws)))
    (sym (ap (waits_of opening) (accepted_then opening calls call) ∙ by (is_accepted (reply_after task_kind opening calls call))))
  where
    by : (b : Bool) → waits_of opening (accepted_of opening calls ++ cond b (call ∷ []) []) ≡ waits_of opening (accepted_of opening calls)
    by true = waited opening (accepted_of opening calls) call ∙ ap (λ o. waits_of opening (accepted_of opening calls) ++ cons_option o []) (ends_none opening (accepted_of opening calls) call none) ∙ append-nil _
    by false = ap (waits_of opening) (append-nil (accepted_of opening calls))
