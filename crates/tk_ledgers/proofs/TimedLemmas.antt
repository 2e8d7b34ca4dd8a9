-- What the owner of a task keeps of its histogram, from call to call.
use Rattle.std.proofs.Common.{◌≡◌, ℕ, ◌-◌, Bool, true, false, cond, List, [], ◌∷◌, ◌++◌, Option, Some, None, Result, Ok, Err, refl, ap, sym, ◌∙◌, subst, append_assoc}
use Rattle.std.specs.Prelude.{unwrap_or, map}
use Rattle.std.specs.List.{filter_map}
use Rattle.std.specs.Option.{option_map, option_or}
use Rattle.std.proofs.lemmas.List.{append-nil}
use Rattle.std.proofs.lemmas.List.Elements.{filter_map-append}
use Rattle.tk_core.specs.declared.history.Entry.{Entry}
use Rattle.tk_core.specs.declared.reply.Refusal.{Refusal}
use Rattle.tk_core.specs.declared.reply.Refusal.TheVariants.{AlreadyPolling, NotPolling, Closed, HandlesSpent, NoAttribute, WrongKind, OutOfRange, Memory}
use Rattle.tk_core.specs.declared.reply.Reply.{Reply}
use Rattle.tk_core.specs.declared.reply.Reply.TheVariants.{Done, Number, Refused}
use Rattle.tk_core.specs.declared.task.row.TaskRow.{TaskRow}
use Rattle.tk_core.specs.declared.task.call.TaskCall.{TaskCall}
use Rattle.tk_core.specs.declared.task.call.TaskCall.TheVariants.{PollStart, PollEnd}
use Rattle.tk_core.specs.declared.times.row.TimesRow.{TimesRow}
use Rattle.tk_core.specs.declared.times.call.TimesCall.{TimesCall}
use Rattle.tk_core.specs.declared.times.call.TimesCall.TheVariants.{Add, Enlist}
use Rattle.tk_core.specs.Lists.{each_after, last_of}
use Rattle.tk_core.specs.Polls.{run_time}
use Rattle.tk_core.specs.History.{accepted}
use Rattle.tk_core.specs.Fold.{is_accepted}
use Rattle.tk_core.specs.Legal.{own}
use Rattle.tk_core.specs.Task.{start_at, end_at}
use Rattle.tk_core.specs.TaskMeaning.{task_meaning}
use Rattle.tk_core.specs.Times.{time_of}
use Rattle.tk_core.specs.TimesMeaning.{times_meaning}
use Rattle.tk_core.specs.Laws.Answered.{accepted_push}
use Rattle.tk_core.specs.Laws.Pushed.{each_after-append, last_of_push}
use Rattle.tk_cell.specs.declared.view.View.{View}
use Rattle.tk_cell.specs.Views.{Known, known}
use Rattle.tk_cell.specs.Calls.{entry, Calls}
use Rattle.tk_cell.specs.Roles.{IsOwner}
use Rattle.tk_ledgers.specs.Handles.{KnownTimes, Drew, NotDrawn}
use Rattle.tk_ledgers.specs.Tasks.{TaskSight, TaskEntries, owner_calls}
use Rattle.tk_ledgers.specs.Times.{runs_after, runs_of, added_times, AreTimesOf, TimesSight, IsTimed, TimesGrow, AddsTime, DrawsTimes}
use Rattle.tk_ledgers.specs.Timed.{Timing, times_of, restarted, EndsAny, InspectsAny, KeepsTimes}
use Rattle.tk_ledgers.proofs.OwnerLemmas.{list_grows}

-- ---- how long the polls ran that calls end

pub runs_append : (before xs ys : List TaskCall) → runs_after before (xs ++ ys) ≡ runs_after before xs ++ runs_after (before ++ xs) ys
unfolding runs_after
runs_append before xs ys = ap (λ (ps : List (List TaskCall × TaskCall)). filter_map (λ p. option_map (λ m. run_time start_at end_at p.0 p.1) (end_at p.1)) ps) (each_after-append before xs ys)
    ∙ filter_map-append (λ (p : List TaskCall × TaskCall). option_map (λ m. run_time start_at end_at p.0 p.1) (end_at p.1)) (each_after before xs) (each_after (before ++ xs) ys)

pub runs_none : (before : List TaskCall) → runs_after before [] ≡ []
unfolding runs_after
runs_none before = refl

-- a call that ends no poll
pub runs_silent : (before : List TaskCall) (call : TaskCall) → end_at call ≡ None → runs_after before (call ∷ []) ≡ []
unfolding runs_after
runs_silent before call none = rw none refl

-- and one that ends one
pub runs_ended : (before : List TaskCall) (moment : ℕ) → runs_after before (PollEnd moment ∷ []) ≡ run_time start_at end_at before (PollEnd moment) ∷ []
unfolding runs_after
runs_ended before moment = refl

-- ---- histograms that grow

pub times_same : (o : Option KnownTimes) → TimesGrow o [] o
times_same None = refl
times_same (Some t) = (t, refl, refl, refl, sym (append-nil (added_times t)))

pub times_kept : (old new : Option KnownTimes) → new ≡ old → TimesGrow old [] new
times_kept old new is = subst (λ (o : Option KnownTimes). TimesGrow old [] o) (sym is) (times_same old)

pub times_more : (a b c : Option KnownTimes) (xs ys : List ℕ) → TimesGrow a xs b → TimesGrow b ys c → TimesGrow a (xs ++ ys) c
times_more None b c xs ys p q = subst (λ (o : Option KnownTimes). TimesGrow o ys c) p q
times_more (Some a) b c xs ys p q =
    let next : TimesGrow (Some p.0) ys c = subst (λ (o : Option KnownTimes). TimesGrow o ys c) p.1 q in (
      next.0,
      next.1,
      next.2 ∙ p.2,
      next.3 ∙ p.3,
      next.4 ∙ (ap (λ (l : List ℕ). l ++ ys) p.4 ∙ append_assoc (added_times a) xs ys),
    )

-- a time that is added
pub added_then : (old new : KnownTimes) (time : ℕ) → old.view.caller ≡ 0 → Calls times_meaning old.view (Add time) Done new.view → added_times new ≡ added_times old ++ time ∷ []
added_then old new time caller k =
    let mine : own 0 new.view.seen ≡ own 0 old.view.seen ++ entry 0 (Add time) Done ∷ [] = subst (λ (n : ℕ). own n new.view.seen ≡ own n old.view.seen ++ entry n (Add time) Done ∷ []) caller k.mine in
    ap (λ (h : List (Entry TimesCall (Reply TimesRow))). filter_map time_of (accepted is_accepted h)) mine
    ∙ (ap (λ (cs : List TimesCall). filter_map time_of cs) (accepted_push is_accepted (own 0 old.view.seen) (entry 0 (Add time) Done))
    ∙ filter_map-append time_of (accepted is_accepted (own 0 old.view.seen)) (Add time ∷ []))

-- and a call that adds none
entry_adds_none : (old new : KnownTimes) (call : TimesCall) (reply : Reply TimesRow) → time_of call ≡ None → old.view.caller ≡ 0 → Calls times_meaning old.view call reply new.view → added_times new ≡ added_times old
entry_adds_none old new call reply none caller k =
    let mine : own 0 new.view.seen ≡ own 0 old.view.seen ++ entry 0 call reply ∷ [] = subst (λ (n : ℕ). own n new.view.seen ≡ own n old.view.seen ++ entry n call reply ∷ []) caller k.mine in
    let before = accepted is_accepted (own 0 old.view.seen) in
    ap (λ (h : List (Entry TimesCall (Reply TimesRow))). filter_map time_of (accepted is_accepted h)) mine
    ∙ (ap (λ (cs : List TimesCall). filter_map time_of cs) (accepted_push is_accepted (own 0 old.view.seen) (entry 0 call reply))
    ∙ (filter_map-append time_of before (cond (is_accepted reply) (call ∷ []) [])
    ∙ (ap (λ (l : List ℕ). filter_map time_of before ++ l) (go (is_accepted reply)) ∙ append-nil (filter_map time_of before))))
  where
    go : (b : Bool) → filter_map time_of (cond b (call ∷ []) []) ≡ []
    go true = rw none refl
    go false = refl

pub times_added : (old new : Option KnownTimes) (time : ℕ) → AddsTime old time new → TimesGrow old (time ∷ []) new
times_added None new time is = is
times_added (Some old) new time is = (is.0, is.1, is.2, is.4.same_caller, added_then old is.0 time is.3 is.4)

-- so its times stay how long the polls ran
pub stays_timed_by : (calls more : List TaskCall) (old new : Option KnownTimes) → ((t : KnownTimes) → old ≡ Some t → AreTimesOf calls t) → TimesGrow old (runs_after calls more) new → (t : KnownTimes) → new ≡ Some t → AreTimesOf (calls ++ more) t
stays_timed_by calls more None new timed g t is = let none : None ≡ Some t = sym g ∙ is in absurd cc
stays_timed_by calls more (Some old) new timed g t is =
    let was = timed old refl in
    let some : Some g.0 ≡ Some t = sym g.1 ∙ is in
    let same : g.0 ≡ t = cc in
    let grown : AreTimesOf (calls ++ more) g.0 = record {
      caller = g.3 ∙ was.caller;
      runs = g.4 ∙ (ap (λ (l : List ℕ). l ++ runs_after calls more) was.runs ∙ sym (runs_append [] calls more));
    } in
    subst (λ (x : KnownTimes). AreTimesOf (calls ++ more) x) same grown

-- what one entry of the owner adds
pub times_stay : (before : List TaskCall) (call : TaskCall) (reply : Reply TaskRow) (old new : Option KnownTimes) → end_at call ≡ None → new ≡ old → TimesGrow old (runs_after before (accepted is_accepted (entry 0 call reply ∷ []))) new
unfolding accepted
times_stay before call reply old new none is = go (is_accepted reply)
  where
    go : (b : Bool) → TimesGrow old (runs_after before (map (λ (x : Entry TaskCall (Reply TaskRow)). x.call) (cond b (entry 0 call reply ∷ []) []))) new
    go true = subst (λ (times : List ℕ). TimesGrow old times new) (sym (runs_silent before call none)) (times_kept old new is)
    go false = subst (λ (times : List ℕ). TimesGrow old times new) (sym (runs_none before)) (times_kept old new is)

pub times_ended : (before : List TaskCall) (moment : ℕ) (old new : Option KnownTimes) → AddsTime old (run_time start_at end_at before (PollEnd moment)) new
    → TimesGrow old (runs_after before (accepted (is_accepted {Row = TaskRow}) (entry 0 (PollEnd moment) Done ∷ []))) new
unfolding accepted
times_ended before moment old new is = subst (λ (times : List ℕ). TimesGrow old times new) (sym (runs_ended before moment)) (times_added old new (run_time start_at end_at before (PollEnd moment)) is)

-- ---- what an owner keeps

-- a call that neither starts nor ends a poll
abbrev pub IsSilent : TaskCall → Type 0
IsSilent call = (start_at call ≡ None) × (end_at call ≡ None)

abbrev owned : View TaskRow TaskCall (Reply TaskRow) → List TaskCall
owned v = accepted is_accepted (own 0 v.seen)

none_later : (call : TaskCall) (o : Option ℕ) → start_at call ≡ None → option_or (start_at call) o ≡ o
none_later call o none = rw none refl

keeps_silent : (id : ℕ) (calls : List TaskCall) (call : TaskCall) (o : Option Timing) → IsSilent call → KeepsTimes id calls o → KeepsTimes id (calls ++ call ∷ []) o
keeps_silent id calls call None silent keeps = tt
keeps_silent id calls call (Some t) silent keeps = (
  keeps.0,
  last_of_push start_at calls call ∙ (none_later call (last_of start_at calls) silent.0 ∙ keeps.1),
  record {
    caller = keeps.2.caller;
    runs = keeps.2.runs ∙ sym (runs_append [] calls (call ∷ []) ∙ (ap (λ (l : List ℕ). runs_of calls ++ l) (runs_silent calls call silent.1) ∙ append-nil (runs_of calls)));
  },
)

keeps_started : (id : ℕ) (calls : List TaskCall) (moment : ℕ) (o : Option Timing) → KeepsTimes id calls o → KeepsTimes id (calls ++ PollStart moment ∷ []) (option_map (restarted moment) o)
keeps_started id calls moment None keeps = tt
keeps_started id calls moment (Some t) keeps = (
  keeps.0,
  last_of_push start_at calls (PollStart moment),
  record {
    caller = keeps.2.caller;
    runs = keeps.2.runs ∙ sym (runs_append [] calls (PollStart moment ∷ []) ∙ (ap (λ (l : List ℕ). runs_of calls ++ l) (runs_silent calls (PollStart moment) refl) ∙ append-nil (runs_of calls)));
  },
)

-- how long the poll ran by what the owner keeps
ran : (calls : List TaskCall) (moment : ℕ) (started : Option ℕ) → last_of start_at calls ≡ started → moment - unwrap_or started moment ≡ run_time start_at end_at calls (PollEnd moment)
ran calls moment started is = ap (λ (o : Option ℕ). moment - unwrap_or o moment) (sym is)

pub adds_run : (id : ℕ) (calls : List TaskCall) (moment : ℕ) (old new : Option Timing) → EndsAny moment old new → KeepsTimes id calls old → AddsTime (times_of old) (run_time start_at end_at calls (PollEnd moment)) (times_of new)
adds_run id calls moment None new is keeps = ap (λ (o : Option Timing). times_of o) is
adds_run id calls moment (Some old) new is keeps = (
  is.0.times,
  ap (λ (o : Option Timing). times_of o) is.1,
  is.2.ledger,
  is.2.caller,
  subst (λ (n : ℕ). Calls times_meaning old.times.view (Add n) Done is.0.times.view) (ran calls moment old.started keeps.1) is.2.entry,
)

keeps_ended : (id : ℕ) (calls : List TaskCall) (moment : ℕ) (old new : Option Timing) → EndsAny moment old new → KeepsTimes id calls old → KeepsTimes id (calls ++ PollEnd moment ∷ []) new
keeps_ended id calls moment None new is keeps = subst (λ (o : Option Timing). KeepsTimes id (calls ++ PollEnd moment ∷ []) o) (sym is) tt
keeps_ended id calls moment (Some old) new is keeps =
    let t = is.0 in let e = is.2 in let run = moment - unwrap_or old.started moment in
    let timed : KeepsTimes id (calls ++ PollEnd moment ∷ []) (Some t) = (
      e.id ∙ keeps.0,
      last_of_push start_at calls (PollEnd moment) ∙ (keeps.1 ∙ sym e.started),
      record {
        caller = e.entry.same_caller ∙ e.caller;
        runs = added_then old.times t.times run e.caller e.entry
            ∙ (ap (λ (l : List ℕ). l ++ run ∷ []) keeps.2.runs
            ∙ (ap (λ (n : ℕ). runs_of calls ++ n ∷ []) (ran calls moment old.started keeps.1)
            ∙ sym (runs_append [] calls (PollEnd moment ∷ []) ∙ ap (λ (l : List ℕ). runs_of calls ++ l) (runs_ended calls moment))));
      },
    ) in
    subst (λ (o : Option Timing). KeepsTimes id (calls ++ PollEnd moment ∷ []) o) (sym is.1) timed

-- of no calls
pub no_polls_yet : (id : ℕ) (v : View TaskRow TaskCall (Reply TaskRow)) (t : Timing) → v.seen ≡ [] → t.id ≡ id → t.started ≡ None → t.times.view.caller ≡ 0 → t.times.view.seen ≡ [] → KeepsTimes id (owned v) (Some t)
unfolding accepted last_of runs_after
no_polls_yet id v t none same started caller unseen = (
  same,
  rw none (sym started),
  record { caller = caller; runs = rw (none, unseen) refl },
)

-- an inspector that was drawn or refused adds no time
drawing_adds_none : (id : ℕ) (old new : KnownTimes) (drawn : Result TimesSight Refusal) → old.view.caller ≡ 0 → DrawsTimes id old drawn new → (new.view.caller ≡ 0) × (added_times new ≡ added_times old)
drawing_adds_none id old new (Ok made) caller d = (
  ap (λ (t : KnownTimes). t.view.caller) d.ok.kept ∙ (d.ok.entry.same_caller ∙ caller),
  ap (λ (t : KnownTimes). added_times t) d.ok.kept ∙ entry_adds_none old (known old.ledger d.ok.view) Enlist (Number d.ok.number) refl caller d.ok.entry,
)
drawing_adds_none id old new (Err Memory) caller d = (ap (λ (t : KnownTimes). t.view.caller) d.err ∙ caller, ap (λ (t : KnownTimes). added_times t) d.err)
drawing_adds_none id old new (Err HandlesSpent) caller d = (d.err.1.same_caller ∙ caller, entry_adds_none old new Enlist (Refused HandlesSpent) refl caller d.err.1)
drawing_adds_none id old new (Err AlreadyPolling) caller d = absurd d.err
drawing_adds_none id old new (Err NotPolling) caller d = absurd d.err
drawing_adds_none id old new (Err Closed) caller d = absurd d.err
drawing_adds_none id old new (Err NoAttribute) caller d = absurd d.err
drawing_adds_none id old new (Err WrongKind) caller d = absurd d.err
drawing_adds_none id old new (Err OutOfRange) caller d = absurd d.err

pub times_inspected : (id : ℕ) (calls : List TaskCall) (old new : Option Timing) (found : Option (Result TimesSight Refusal)) → InspectsAny old found new → KeepsTimes id calls old → KeepsTimes id calls new
times_inspected id calls None new found is keeps = subst (λ (o : Option Timing). KeepsTimes id calls o) (sym is.1) tt
times_inspected id calls (Some old) new found is keeps =
    let t = is.1 in let i = is.4 in let same = drawing_adds_none old.id old.times t.times is.0 i.caller i.draws in
    let kept : KeepsTimes id calls (Some t) = (i.id ∙ keeps.0, keeps.1 ∙ sym i.started, record { caller = same.0; runs = same.1 ∙ keeps.2.runs }) in
    subst (λ (o : Option Timing). KeepsTimes id calls o) (sym is.3) kept

-- a task that started a poll has the histogram that it had
pub same_times : (moment : ℕ) (o : Option Timing) → times_of (option_map (restarted moment) o) ≡ times_of o
same_times moment None = refl
same_times moment (Some t) = refl

pub same_id : (id : ℕ) (calls : List TaskCall) (o : Option Timing) → KeepsTimes id calls o → (t : Timing) → o ≡ Some t → t.id ≡ id
same_id id calls None keeps t is = absurd cc
same_id id calls (Some x) keeps t is = let same : x ≡ t = cc in ap (λ (y : Timing). y.id) (sym same) ∙ keeps.0

-- what is kept is true of what is shown
pub is_timed : (id : ℕ) (h : TaskSight) (o : Option Timing) → h.times ≡ times_of o → KeepsTimes id (owner_calls h) o → IsTimed h
is_timed id h None shows keeps = λ t is. absurd cc
is_timed id h (Some x) shows keeps = λ t is. let same : x.times ≡ t = cc in subst (λ (y : KnownTimes). AreTimesOf (owner_calls h) y) same keeps.2

-- ---- by the owner's calls

module _ (id : ℕ) (v : View TaskRow TaskCall (Reply TaskRow)) (call : TaskCall) (reply : Reply TaskRow) (w : View TaskRow TaskCall (Reply TaskRow)) (k : Calls task_meaning v call reply w) (o : IsOwner task_meaning v) where
  calls_then : owned w ≡ owned v ++ cond (is_accepted reply) (call ∷ []) []
  calls_then = ap (λ (h : TaskEntries). accepted is_accepted h) (list_grows task_meaning v call reply w k o) ∙ accepted_push is_accepted (own 0 v.seen) (entry v.caller call reply)

  pub times_kept_by : IsSilent call → (t : Option Timing) → KeepsTimes id (owned v) t → KeepsTimes id (owned w) t
  times_kept_by silent t keeps = subst (λ (cs : List TaskCall). KeepsTimes id cs t) (sym calls_then) (go (is_accepted reply))
    where
      go : (b : Bool) → KeepsTimes id (owned v ++ cond b (call ∷ []) []) t
      go true = keeps_silent id (owned v) call t silent keeps
      go false = subst (λ (cs : List TaskCall). KeepsTimes id cs t) (sym (append-nil (owned v))) keeps

  pub times_kept_refused : is_accepted reply ≡ false → (t : Option Timing) → KeepsTimes id (owned v) t → KeepsTimes id (owned w) t
  times_kept_refused refused t keeps = subst (λ (cs : List TaskCall). KeepsTimes id cs t)
      (sym (calls_then ∙ (ap (λ (b : Bool). owned v ++ cond b (call ∷ []) []) refused ∙ append-nil (owned v)))) keeps

pub times_started : (id : ℕ) (v : View TaskRow TaskCall (Reply TaskRow)) (moment : ℕ) (w : View TaskRow TaskCall (Reply TaskRow)) → Calls task_meaning v (PollStart moment) Done w → IsOwner task_meaning v
    → (old new : Option Timing) → new ≡ option_map (restarted moment) old → KeepsTimes id (owned v) old → KeepsTimes id (owned w) new
times_started id v moment w k o old new is keeps = subst (λ (t : Option Timing). KeepsTimes id (owned w) t) (sym is)
    (subst (λ (cs : List TaskCall). KeepsTimes id cs (option_map (restarted moment) old)) (sym (calls_then id v (PollStart moment) Done w k o)) (keeps_started id (owned v) moment old keeps))

pub times_ended_by : (id : ℕ) (v : View TaskRow TaskCall (Reply TaskRow)) (moment : ℕ) (w : View TaskRow TaskCall (Reply TaskRow)) → Calls task_meaning v (PollEnd moment) Done w → IsOwner task_meaning v
    → (old new : Option Timing) → EndsAny moment old new → KeepsTimes id (owned v) old → KeepsTimes id (owned w) new
times_ended_by id v moment w k o old new is keeps =
    subst (λ (cs : List TaskCall). KeepsTimes id cs new) (sym (calls_then id v (PollEnd moment) Done w k o)) (keeps_ended id (owned v) moment old new is keeps)

-- a handle that was drawn, or wasn't
pub times_drawn : (id : ℕ) (old : Known TaskRow TaskCall (Reply TaskRow)) (call : TaskCall) (new made : Known TaskRow TaskCall (Reply TaskRow)) → Drew task_meaning old call new made → IsOwner task_meaning old.view → IsSilent call
    → (t : Option Timing) → KeepsTimes id (owned old.view) t → KeepsTimes id (owned new.view) t
times_drawn id old call new made d o silent t keeps = subst (λ (k : Known TaskRow TaskCall (Reply TaskRow)). KeepsTimes id (owned k.view) t) (sym d.kept) (times_kept_by id old.view call (Number d.number) d.view d.entry o silent t keeps)

pub times_not_drawn : (id : ℕ) (old : Known TaskRow TaskCall (Reply TaskRow)) (call : TaskCall) (r : Refusal) (new : Known TaskRow TaskCall (Reply TaskRow)) → NotDrawn task_meaning old call r new → IsOwner task_meaning old.view
    → (t : Option Timing) → KeepsTimes id (owned old.view) t → KeepsTimes id (owned new.view) t
times_not_drawn id old call Memory new is o t keeps = subst (λ (k : Known TaskRow TaskCall (Reply TaskRow)). KeepsTimes id (owned k.view) t) (sym is) keeps
times_not_drawn id old call HandlesSpent new k o t keeps = times_kept_refused id old.view call (Refused HandlesSpent) new.view k.1 o refl t keeps
times_not_drawn id old call AlreadyPolling new none o t keeps = absurd none
times_not_drawn id old call NotPolling new none o t keeps = absurd none
times_not_drawn id old call Closed new none o t keeps = absurd none
times_not_drawn id old call NoAttribute new none o t keeps = absurd none
times_not_drawn id old call WrongKind new none o t keeps = absurd none
times_not_drawn id old call OutOfRange new none o t keeps = absurd none
