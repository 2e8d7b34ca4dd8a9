-- What a call leaves of what is kept of an item.
use Rattle.std.proofs.Common.{◌≡◌, ℕ, ◌-◌, Bool, true, false, List, [], ◌∷◌, ◌++◌, Option, Some, None, refl, ap, sym, ◌∙◌, subst, inl, inr, true≢false}
use Rattle.std.specs.Prelude.{◌||◌, not, if◌then◌else◌, unwrap_or, is_some, option_map}
use Rattle.std.specs.Option.{option_or, option_map_or}
use Rattle.std.proofs.lemmas.List.{append-nil}
use Rattle.tk_core.specs.declared.history.Entry.{Entry}
use Rattle.tk_core.specs.declared.op.call.OpCall.{OpCall}
use Rattle.tk_core.specs.declared.op.row.OpRow.{OpRow}
use Rattle.tk_core.specs.declared.reply.Refusal.{Refusal}
use Rattle.tk_core.specs.declared.reply.Refusal.TheVariants.{AlreadyPolling, Closed, NotPolling}
use Rattle.tk_core.specs.declared.reply.Reply.{Reply}
use Rattle.tk_core.specs.declared.reply.Reply.TheVariants.{Done, Number, Refused}
use Rattle.tk_core.specs.declared.resource.call.ResourceCall.{ResourceCall}
use Rattle.tk_core.specs.declared.resource.row.ResourceRow.{ResourceRow}
use Rattle.tk_core.specs.declared.task.call.TaskCall.{TaskCall}
use Rattle.tk_core.specs.declared.task.call.TaskCall.TheVariants.{CloneWaker, PollEnd, PollStart}
use Rattle.tk_core.specs.declared.task.row.TaskRow.{TaskRow}
use Rattle.tk_core.specs.Fold.{is_accepted}
use Rattle.tk_core.specs.Laws.Pushed.{last_of_push}
use Rattle.tk_core.specs.Legal.{IsLegal}
use Rattle.tk_core.specs.Lists.{last_of}
use Rattle.tk_core.specs.Meaning.{Meaning}
use Rattle.tk_core.specs.Op as op_rules
use Rattle.tk_core.specs.OpMeaning.{op_meaning}
use Rattle.tk_core.specs.Polls.{is_polling, starts_or_ends}
use Rattle.tk_core.specs.Resource as resource_rules
use Rattle.tk_core.specs.ResourceMeaning.{resource_meaning}
use Rattle.tk_core.specs.Task.{start_at, end_at, close_at}
use Rattle.tk_core.specs.TaskMeaning.{task_meaning}
use Rattle.tk_cell.specs.Views.{Known}
use Rattle.tk_ledgers.specs.Callers.{CallsAs, IsLive}
use Rattle.tk_ledgers.specs.Ops as ops
use Rattle.tk_ledgers.specs.Resources as resources
use Rattle.tk_ledgers.specs.Tasks as tasks
use Rattle.tk_ledgers.specs.Times.{TimesSight, added_times, runs_after, runs_of}
use Rattle.tk_ledgers.proofs.CalledLemmas.{calls_are_called, tasks_tell_called, resources_tell_called, ops_tell_called}
use Rattle.tk_ledgers.proofs.CallersLemmas.{calls_keep_live, drawn_is_new}
use Rattle.tk_ledgers.proofs.TimedLemmas.{runs_append, runs_silent}
use Rattle.tk_live.specs.Items.{IsTask, IsResource, IsOp, KeepsValues, AddsTo, IsSameTask, IsSpent, Draws, times_ledger_of}
use Rattle.tk_live.specs.Pasts.{TaskPast, ResourcePast, OpPast, one, and_called, outside_blocks, is_polled, is_polled_op}
use Rattle.tk_live.specs.Stops.{IsReply, unless_polled, while_polled}
use Rattle.tk_live.specs.declared.items.OpItem.{OpItem}
use Rattle.tk_live.specs.declared.items.ResourceItem.{ResourceItem}
use Rattle.tk_live.specs.declared.items.TaskItem.{TaskItem}
use Rattle.tk_script.specs.declared.stop.Stop.TheVariants.{Call}
use Rattle.tk_live.proofs.Orders.{order_push, outside_push}
use Rattle.tk_live.proofs.Places.{some-inj}

-- ---- one call more

module _ {C : Type 0} (start_at end_at : C → Option ℕ) where
  -- a call that starts a poll or ends one says whether one is open then, and others leave that
  pub polling_push : (calls : List C) (call : C) → is_polling start_at end_at (calls ++ call ∷ []) ≡ unwrap_or (starts_or_ends start_at end_at call) (is_polling start_at end_at calls)
  polling_push calls call = ap (λ (o : Option Bool). unwrap_or o false) (last_of_push (starts_or_ends start_at end_at) calls call)
      ∙ go (starts_or_ends start_at end_at call) (last_of (starts_or_ends start_at end_at) calls)
    where
      go : (x y : Option Bool) → unwrap_or (option_or x y) false ≡ unwrap_or x (unwrap_or y false)
      go None y = refl
      go (Some b) y = refl

-- what closed once stays closed
pub closed_push : {C : Type 0} (close_at : C → Option ℕ) (calls : List C) (call : C) → is_some (last_of close_at (calls ++ call ∷ [])) ≡ (is_some (close_at call) || is_some (last_of close_at calls))
closed_push close_at calls call = ap (λ (o : Option ℕ). is_some o) (last_of_push close_at calls call) ∙ go (close_at call) (last_of close_at calls)
  where
    go : (x y : Option ℕ) → is_some (option_or x y) ≡ (is_some x || is_some y)
    go None y = refl
    go (Some m) y = refl

module _ {Row C : Type 0} where
  -- a call that was refused is a ledger's own reply, of the row that the item was opened with
  pub is_reply : (m : Meaning Row C (Reply Row)) (old new : Known Row C (Reply Row)) (n : ℕ) (call : C) (refusal : Refusal) (opening : Row)
      → CallsAs m old n call (Refused refusal) new → old.view.opening ≡ Some opening → IsReply m (Some opening) call refusal
  is_reply m old new n call refusal opening k opened = record {
    row = k.made.opening;
    is_row = sym opened ∙ k.made.opened;
    opens = k.made.opens;
    caller = n;
    history = old.view.seen ++ k.made.between;
    legal = subst (λ (h : List (Entry C (Reply Row))). IsLegal m k.made.opening h) k.made.grows k.made.legal;
  }

-- ---- why the text stops a call

-- a call that an open poll forbids, and one that wants it
abbrev pub idle_refusal : Bool → Bool → Option Refusal
idle_refusal closed polling = if closed then Some Closed else if polling then Some AlreadyPolling else None

abbrev pub busy_refusal : Bool → Bool → Option Refusal
busy_refusal closed polling = if closed then Some Closed else if not polling then Some NotPolling else None

pub idle_goes : (closed polling : Bool) → idle_refusal closed polling ≡ None → unless_polled (Some polling) ≡ None
idle_goes true polling none = absurd cc
idle_goes false true none = absurd cc
idle_goes false false none = refl

pub idle_stops : (closed polling : Bool) (refusal : Refusal) → idle_refusal closed polling ≡ Some refusal → closed ≡ false → unless_polled (Some polling) ≡ Some (Call refusal)
idle_stops true polling refusal is open_yet = absurd cc
idle_stops false true refusal is open_yet = let same : AlreadyPolling ≡ refusal = cc in ap (λ (r : Refusal). Some (Call r)) same
idle_stops false false refusal is open_yet = absurd cc

pub busy_goes : (closed polling : Bool) → busy_refusal closed polling ≡ None → while_polled (Some polling) ≡ None
busy_goes true polling none = absurd cc
busy_goes false true none = refl
busy_goes false false none = absurd cc

pub busy_stops : (closed polling : Bool) (refusal : Refusal) → busy_refusal closed polling ≡ Some refusal → closed ≡ false → while_polled (Some polling) ≡ Some (Call refusal)
busy_stops true polling refusal is open_yet = absurd cc
busy_stops false true refusal is open_yet = absurd cc
busy_stops false false refusal is open_yet = let same : NotPolling ≡ refusal = cc in ap (λ (r : Refusal). Some (Call r)) same

-- one that it neither forbids nor wants is refused where the item is closed
pub open_goes : (closed : Bool) (refusal : Refusal) → (if closed then Some Closed else None) ≡ Some refusal → closed ≡ false → ⊥
open_goes true refusal is open_yet = absurd cc
open_goes false refusal is open_yet = absurd cc

-- ---- how long polls ran

-- how long a poll ran that a call ends, if it started then
abbrev pub run_from : ℕ → TaskCall → List ℕ
run_from started call = option_map_or (λ m. (m - started) ∷ []) (end_at call) []

one_run : (cs : List TaskCall) (call : TaskCall) (m started : ℕ) → end_at call ≡ Some m → last_of start_at cs ≡ Some started → runs_after cs (call ∷ []) ≡ (m - started) ∷ []
unfolding runs_after
one_run cs call m started ends was = rw (ends, was) refl

-- one call more, where the last poll started then
runs_push : (cs : List TaskCall) (call : TaskCall) (started : ℕ) → ((m : ℕ) → end_at call ≡ Some m → last_of start_at cs ≡ Some started) → runs_of (cs ++ call ∷ []) ≡ runs_of cs ++ run_from started call
runs_push cs call started was = runs_append [] cs (call ∷ []) ∙ ap (λ (l : List ℕ). runs_of cs ++ l) (by (end_at call) refl)
  where
    by : (o : Option ℕ) → end_at call ≡ o → runs_after cs (call ∷ []) ≡ run_from started call
    by None e = runs_silent cs call e ∙ sym (ap (λ (o : Option ℕ). option_map_or (λ m. (m - started) ∷ []) o []) e)
    by (Some m) e = one_run cs call m started e (was m e) ∙ sym (ap (λ (o : Option ℕ). option_map_or (λ m. (m - started) ∷ []) o []) e)

-- what a call leaves of a task's histogram, and of when its last poll started
pub record KeepsTime (call : TaskCall) (old new : TaskItem) : Type 0 where
  pub started : new.started ≡ unwrap_or (start_at call) old.started
  pub times : (o : TimesSight) → new.times ≡ Some o → (was : TimesSight) × (old.times ≡ Some was) × (o.id ≡ was.id) × (added_times o.token ≡ added_times was.token ++ run_from old.started call)

-- one that neither starts a poll nor ends one leaves both
pub leaves_time : (call : TaskCall) (old new : TaskItem) → start_at call ≡ None → end_at call ≡ None → new.times ≡ old.times → new.started ≡ old.started → KeepsTime call old new
leaves_time call old new no_start no_end times started = record {
  started = started ∙ ap (λ (o : Option ℕ). unwrap_or o old.started) (sym no_start);
  times = λ o is. (
    o,
    sym times ∙ is,
    refl,
    sym (append-nil (added_times o.token)) ∙ ap (λ (e : Option ℕ). added_times o.token ++ option_map_or (λ m. (m - old.started) ∷ []) e []) (sym no_end),
  );
}

pub starts_time : (m : ℕ) (old new : TaskItem) → new.times ≡ old.times → new.started ≡ m → KeepsTime (PollStart m) old new
starts_time m old new times started = record { started = started; times = λ o is. (o, sym times ∙ is, refl, sym (append-nil (added_times o.token))) }

pub ends_time : (m : ℕ) (old new : TaskItem) → AddsTo old.times (m - old.started) new.times → new.started ≡ old.started → KeepsTime (PollEnd m) old new
ends_time m old new adds started = record { started = started; times = λ o is. by o is old.times refl adds }
  where
    by : (o : TimesSight) → new.times ≡ Some o → (t : Option TimesSight) → old.times ≡ t → AddsTo t (m - old.started) new.times
        → (was : TimesSight) × (old.times ≡ Some was) × (o.id ≡ was.id) × (added_times o.token ≡ added_times was.token ++ run_from old.started (PollEnd m))
    by o is None e none = absurd cc
    by o is (Some was) e a =
        let same : o ≡ a.0 = some-inj (sym is ∙ a.1) in
        (was, e, ap (λ (x : TimesSight). x.id) same ∙ a.2, ap (λ (x : TimesSight). added_times x.token) same ∙ a.4)

-- its ledger stays
pub adds_ledger : (old : Option TimesSight) (time : ℕ) (new : Option TimesSight) → AddsTo old time new → option_map (λ (o : TimesSight). o.token.ledger) new ≡ option_map (λ (o : TimesSight). o.token.ledger) old
adds_ledger None time new none = ap (option_map (λ (o : TimesSight). o.token.ledger)) none
adds_ledger (Some was) time new a = ap (option_map (λ (o : TimesSight). o.token.ledger)) a.1 ∙ ap (λ l. Some l) a.3

-- a call that neither starts a poll nor ends one leaves whether one is open
still_polled : (s e : Option ℕ) (b : Bool) → s ≡ None → unwrap_or (if is_some s then Some true else if is_some e then Some false else None) b ≡ true → b ≡ true
still_polled (Some m) e b none h = absurd cc
still_polled None None b none h = h
still_polled None (Some m) b none h = absurd (true≢false (sym h))

-- a call that ends no poll
pub ends_none : {X : Type 0} (call : TaskCall) → end_at call ≡ None → (m : ℕ) → end_at call ≡ Some m → X
ends_none call none m e = absurd cc

pub busy_polls : (closed polling : Bool) → busy_refusal closed polling ≡ None → polling ≡ true
busy_polls true polling none = absurd cc
busy_polls false true none = refl
busy_polls false false none = absurd cc

-- ---- tasks

abbrev poll_of : TaskCall → Option Bool
poll_of call = starts_or_ends start_at end_at call

-- a call that is accepted is one more of the task's
pub task_called : (old new : TaskItem) (k : ℕ) (call : TaskCall) (reply : Reply TaskRow) → CallsAs task_meaning old.callers.token k call reply new.callers.token → is_accepted reply ≡ true
    → new.callers.id ≡ old.callers.id → new.closed ≡ (is_some (close_at call) || old.closed) → KeepsTime call old new
    → ((m : ℕ) → end_at call ≡ Some m → (n : ℕ) (p : TaskPast) → IsTask n p old → is_polled p ≡ true)
    → (n : ℕ) (p : TaskPast) → IsTask n p old → IsTask n (and_called (one call ∷ []) p) new
task_called old new k call reply made passed id closes keeps ends n p i = record {
  id = id ∙ i.id;
  calls = i.calls ++ call ∷ [];
  order = order_push p.called i.calls call i.order;
  called = calls_are_called task_meaning old.callers.token new.callers.token k call reply (1 ∷ []) p.opening i.calls made passed i.called;
  polled = polling_push start_at end_at i.calls call ∙ (ap (λ (b : Bool). unwrap_or (poll_of call) b) i.polled ∙ sym polled_now);
  closed = closed_push close_at i.calls call ∙ (ap (λ (b : Bool). is_some (close_at call) || b) i.closed ∙ sym closed_now);
  is_closed = closes ∙ (ap (λ (b : Bool). is_some (close_at call) || b) i.is_closed ∙ sym closed_now);
  times = λ o is.
      let was = keeps.times o is in
      let before = i.times was.0 was.1 in
      (was.2 ∙ before.0, was.3 ∙ (ap (λ (l : List ℕ). l ++ run_from old.started call) before.1 ∙ sym runs_now));
  started = λ polls. ap (last_of start_at) (outside_push p.called call) ∙ (last_of_push start_at (outside_blocks p.called) call
      ∙ (started_now polls (start_at call) refl ∙ ap (λ m. Some m) (sym keeps.started)));
}
  where
    polled_now : is_polling start_at end_at (outside_blocks (p.called ++ one call ∷ [])) ≡ unwrap_or (poll_of call) (is_polling start_at end_at (outside_blocks p.called))
    polled_now = ap (λ (l : List TaskCall). is_polling start_at end_at l) (outside_push p.called call) ∙ polling_push start_at end_at (outside_blocks p.called) call

    runs_now : runs_of (outside_blocks (p.called ++ one call ∷ [])) ≡ runs_of (outside_blocks p.called) ++ run_from old.started call
    runs_now = ap (λ (l : List TaskCall). runs_of l) (outside_push p.called call) ∙ runs_push (outside_blocks p.called) call old.started (λ m e. i.started (ends m e n p i))

    started_now : is_polled (and_called (one call ∷ []) p) ≡ true → (s : Option ℕ) → start_at call ≡ s → option_or (start_at call) (last_of start_at (outside_blocks p.called)) ≡ Some (unwrap_or (start_at call) old.started)
    started_now polls (Some m) e = rw e refl
    started_now polls None e = rw e (i.started (still_polled (start_at call) (end_at call) (is_polled p) e (sym polled_now ∙ polls)))

    closed_now : is_some (last_of close_at (outside_blocks (p.called ++ one call ∷ []))) ≡ (is_some (close_at call) || is_some (last_of close_at (outside_blocks p.called)))
    closed_now = ap (λ (l : List TaskCall). is_some (last_of close_at l)) (outside_push p.called call) ∙ closed_push close_at (outside_blocks p.called) call

-- what a task's hand tells of its polls, and whether it is closed, is so of the text
pub task_told : (old : TaskItem) (new : Known TaskRow TaskCall (Reply TaskRow)) (k : ℕ) (call : TaskCall) (reply : Reply TaskRow) → CallsAs task_meaning old.callers.token k call reply new
    → old.closed ≡ false → (n : ℕ) (p : TaskPast) → IsTask n p old → (tasks.is_polling old.callers ≡ is_polled p) × (tasks.is_closed old.callers ≡ false)
task_told old new k call reply made open_yet n p i =
    let told = tasks_tell_called old.callers new k call reply (1 ∷ []) p.opening i.calls made i.called in
    (told.0 ∙ i.polled, told.1 ∙ (i.closed ∙ (sym i.is_closed ∙ open_yet)))

-- a call of the owner that an open poll forbids
module _ (old new : TaskItem) (call : TaskCall) (open_yet : old.closed ≡ false) where
  abbrev idle : Option Refusal
  idle = idle_refusal (tasks.is_closed old.callers) (tasks.is_polling old.callers)

  abbrev busy : Option Refusal
  busy = busy_refusal (tasks.is_closed old.callers) (tasks.is_polling old.callers)

  pub idle_did : idle ≡ None → CallsAs task_meaning old.callers.token 0 call Done new.callers.token → new.callers.id ≡ old.callers.id → new.closed ≡ (is_some (close_at call) || old.closed) → KeepsTime call old new → end_at call ≡ None
      → (n : ℕ) (p : TaskPast) → IsTask n p old → (unless_polled (Some (is_polled p)) ≡ None) × IsTask n (and_called (one call ∷ []) p) new
  idle_did goes made id closes keeps quiet n p i = (
    subst (λ (b : Bool). unless_polled (Some b) ≡ None) (task_told old new.callers.token 0 call Done made open_yet n p i).0 (idle_goes (tasks.is_closed old.callers) (tasks.is_polling old.callers) goes),
    task_called old new 0 call Done made refl id closes keeps (λ m e. ends_none call quiet m e) n p i,
  )

  pub idle_didnt : (refusal : Refusal) → idle ≡ Some refusal → CallsAs task_meaning old.callers.token 0 call (Refused refusal) new.callers.token
      → (n : ℕ) (p : TaskPast) → IsTask n p old → unless_polled (Some (is_polled p)) ≡ Some (Call refusal)
  idle_didnt refusal stops made n p i =
      let told = task_told old new.callers.token 0 call (Refused refusal) made open_yet n p i in
      subst (λ (b : Bool). unless_polled (Some b) ≡ Some (Call refusal)) told.0 (idle_stops (tasks.is_closed old.callers) (tasks.is_polling old.callers) refusal stops told.1)

  -- and one that wants it
  pub busy_did : busy ≡ None → CallsAs task_meaning old.callers.token 0 call Done new.callers.token → new.callers.id ≡ old.callers.id → new.closed ≡ (is_some (close_at call) || old.closed) → KeepsTime call old new
      → (n : ℕ) (p : TaskPast) → IsTask n p old → (while_polled (Some (is_polled p)) ≡ None) × IsTask n (and_called (one call ∷ []) p) new
  busy_did goes made id closes keeps n p i = (
    subst (λ (b : Bool). while_polled (Some b) ≡ None) (task_told old new.callers.token 0 call Done made open_yet n p i).0 (busy_goes (tasks.is_closed old.callers) (tasks.is_polling old.callers) goes),
    task_called old new 0 call Done made refl id closes keeps
        (λ m e k q is. sym (task_told old new.callers.token 0 call Done made open_yet k q is).0 ∙ busy_polls (tasks.is_closed old.callers) (tasks.is_polling old.callers) goes) n p i,
  )

  pub busy_didnt : (refusal : Refusal) → busy ≡ Some refusal → CallsAs task_meaning old.callers.token 0 call (Refused refusal) new.callers.token
      → (n : ℕ) (p : TaskPast) → IsTask n p old → while_polled (Some (is_polled p)) ≡ Some (Call refusal)
  busy_didnt refusal stops made n p i =
      let told = task_told old new.callers.token 0 call (Refused refusal) made open_yet n p i in
      subst (λ (b : Bool). while_polled (Some b) ≡ Some (Call refusal)) told.0 (busy_stops (tasks.is_closed old.callers) (tasks.is_polling old.callers) refusal stops told.1)

-- the waker's last call leaves the others live
pub is_spent : (old new : TaskItem) (waker : ℕ) (call : TaskCall) (reply : Reply TaskRow) → CallsAs task_meaning old.callers.token waker call reply new.callers.token
    → new.callers.id ≡ old.callers.id → new.callers.token.ledger ≡ old.callers.token.ledger → times_ledger_of new ≡ times_ledger_of old → IsSpent waker old new
is_spent old new waker call reply made id ledger times = record {
  id = id;
  ledger = ledger;
  times = times;
  live = λ k other alive. (calls_keep_live task_meaning old.callers.token new.callers.token waker call reply made).1 k alive (inl other);
}

-- any other call leaves all live
pub is_same_task : (old new : TaskItem) (k : ℕ) (call : TaskCall) (reply : Reply TaskRow) → CallsAs task_meaning old.callers.token k call reply new.callers.token → task_meaning.is_last call ≡ false
    → new.callers.id ≡ old.callers.id → new.callers.token.ledger ≡ old.callers.token.ledger → times_ledger_of new ≡ times_ledger_of old → IsSameTask old new
is_same_task old new k call reply made isnt id ledger times = record {
  id = id;
  ledger = ledger;
  times = times;
  live = λ j alive. (calls_keep_live task_meaning old.callers.token new.callers.token k call reply made).1 j alive (inr isnt);
}

-- a waker is drawn
pub draws : (old new : TaskItem) (by waker : ℕ) → CallsAs task_meaning old.callers.token by CloneWaker (Number waker) new.callers.token
    → new.callers.id ≡ old.callers.id → new.callers.token.ledger ≡ old.callers.token.ledger → new.closed ≡ old.closed → new.times ≡ old.times → new.started ≡ old.started → Draws waker old new
draws old new by waker made id ledger closes times started = record {
  goes_on = is_same_task old new by CloneWaker (Number waker) made refl id ledger (ap (option_map (λ (o : TimesSight). o.token.ledger)) times);
  did = task_called old new by CloneWaker (Number waker) made refl id closes (leaves_time CloneWaker old new refl refl times started) (λ m e. ends_none CloneWaker refl m e);
  is_live = (calls_keep_live task_meaning old.callers.token new.callers.token by CloneWaker (Number waker) made).0 waker refl;
  is_new = λ k alive is. drawn_is_new task_meaning old.callers.token new.callers.token by CloneWaker (Number waker) waker made refl (subst (λ (j : ℕ). IsLive task_meaning old.callers.token.view j) is alive);
}

-- ---- resources

pub resource_called : (old new : ResourceItem) (k : ℕ) (call : ResourceCall) (reply : Reply ResourceRow) → CallsAs resource_meaning old.callers.token k call reply new.callers.token → is_accepted reply ≡ true
    → resource_meaning.is_last call ≡ false → new.callers.id ≡ old.callers.id → new.user ≡ old.user → new.closed ≡ (is_some (resource_rules.close_at call) || old.closed)
    → ((p : ResourcePast) → KeepsValues p old.values → KeepsValues (and_called (call ∷ []) p) new.values) → (n : ℕ) (p : ResourcePast) → IsResource n p old → IsResource n (and_called (call ∷ []) p) new
resource_called old new k call reply made passed isnt id user closes keeps n p i = record {
  id = id ∙ i.id;
  called = calls_are_called resource_meaning old.callers.token new.callers.token k call reply (1 ∷ []) p.opening p.called made passed i.called;
  is_closed = closes ∙ (ap (λ (b : Bool). is_some (resource_rules.close_at call) || b) i.is_closed ∙ sym (closed_push resource_rules.close_at p.called call));
  values = keeps p i.values;
  user = subst (λ (j : ℕ). IsLive resource_meaning new.callers.token.view j) (sym user)
      ((calls_keep_live resource_meaning old.callers.token new.callers.token k call reply made).1 old.user i.user (inr isnt));
}

-- an open one isn't closed
pub resource_open : (old : ResourceItem) (new : Known ResourceRow ResourceCall (Reply ResourceRow)) (k : ℕ) (call : ResourceCall) (reply : Reply ResourceRow) → CallsAs resource_meaning old.callers.token k call reply new
    → old.closed ≡ false → resources.is_closed old.callers ≡ true → (n : ℕ) (p : ResourcePast) → IsResource n p old → ⊥
resource_open old new k call reply made open_yet closed n p i =
    let told = resources_tell_called old.callers new k call reply (1 ∷ []) p.opening p.called made i.called in
    true≢false (sym closed ∙ (told ∙ (sym i.is_closed ∙ open_yet)))

-- ---- operations

pub op_called : (old new : OpItem) (k : ℕ) (call : OpCall) (reply : Reply OpRow) → CallsAs op_meaning old.callers.token k call reply new.callers.token → is_accepted reply ≡ true
    → new.callers.id ≡ old.callers.id → new.closed ≡ (is_some (op_rules.close_at call) || old.closed)
    → (n : ℕ) (p : OpPast) → IsOp n p old → IsOp n (and_called (call ∷ []) p) new
op_called old new k call reply made passed id closes n p i = record {
  id = id ∙ i.id;
  called = calls_are_called op_meaning old.callers.token new.callers.token k call reply (1 ∷ []) p.opening p.called made passed i.called;
  is_closed = closes ∙ (ap (λ (b : Bool). is_some (op_rules.close_at call) || b) i.is_closed ∙ sym (closed_push op_rules.close_at p.called call));
}

pub op_told : (old : OpItem) (new : Known OpRow OpCall (Reply OpRow)) (k : ℕ) (call : OpCall) (reply : Reply OpRow) → CallsAs op_meaning old.callers.token k call reply new
    → old.closed ≡ false → (n : ℕ) (p : OpPast) → IsOp n p old → (ops.is_polling old.callers ≡ is_polled_op p) × (ops.is_closed old.callers ≡ false)
op_told old new k call reply made open_yet n p i =
    let told = ops_tell_called old.callers new k call reply (1 ∷ []) p.opening p.called made i.called in
    (told.0, told.1 ∙ (sym i.is_closed ∙ open_yet))

module _ (old new : OpItem) (call : OpCall) (open_yet : old.closed ≡ false) where
  pub op_idle_did : idle_refusal (ops.is_closed old.callers) (ops.is_polling old.callers) ≡ None → CallsAs op_meaning old.callers.token 0 call Done new.callers.token → new.callers.id ≡ old.callers.id
      → new.closed ≡ (is_some (op_rules.close_at call) || old.closed) → (n : ℕ) (p : OpPast) → IsOp n p old → (unless_polled (Some (is_polled_op p)) ≡ None) × IsOp n (and_called (call ∷ []) p) new
  op_idle_did goes made id closes n p i = (
    subst (λ (b : Bool). unless_polled (Some b) ≡ None) (op_told old new.callers.token 0 call Done made open_yet n p i).0 (idle_goes (ops.is_closed old.callers) (ops.is_polling old.callers) goes),
    op_called old new 0 call Done made refl id closes n p i,
  )

  pub op_idle_didnt : (refusal : Refusal) → idle_refusal (ops.is_closed old.callers) (ops.is_polling old.callers) ≡ Some refusal → CallsAs op_meaning old.callers.token 0 call (Refused refusal) new.callers.token
      → (n : ℕ) (p : OpPast) → IsOp n p old → unless_polled (Some (is_polled_op p)) ≡ Some (Call refusal)
  op_idle_didnt refusal stops made n p i =
      let told = op_told old new.callers.token 0 call (Refused refusal) made open_yet n p i in
      subst (λ (b : Bool). unless_polled (Some b) ≡ Some (Call refusal)) told.0 (idle_stops (ops.is_closed old.callers) (ops.is_polling old.callers) refusal stops told.1)

  pub op_busy_did : busy_refusal (ops.is_closed old.callers) (ops.is_polling old.callers) ≡ None → CallsAs op_meaning old.callers.token 0 call Done new.callers.token → new.callers.id ≡ old.callers.id
      → new.closed ≡ (is_some (op_rules.close_at call) || old.closed) → (n : ℕ) (p : OpPast) → IsOp n p old → (while_polled (Some (is_polled_op p)) ≡ None) × IsOp n (and_called (call ∷ []) p) new
  op_busy_did goes made id closes n p i = (
    subst (λ (b : Bool). while_polled (Some b) ≡ None) (op_told old new.callers.token 0 call Done made open_yet n p i).0 (busy_goes (ops.is_closed old.callers) (ops.is_polling old.callers) goes),
    op_called old new 0 call Done made refl id closes n p i,
  )

  pub op_busy_didnt : (refusal : Refusal) → busy_refusal (ops.is_closed old.callers) (ops.is_polling old.callers) ≡ Some refusal → CallsAs op_meaning old.callers.token 0 call (Refused refusal) new.callers.token
      → (n : ℕ) (p : OpPast) → IsOp n p old → while_polled (Some (is_polled_op p)) ≡ Some (Call refusal)
  op_busy_didnt refusal stops made n p i =
      let told = op_told old new.callers.token 0 call (Refused refusal) made open_yet n p i in
      subst (λ (b : Bool). while_polled (Some b) ≡ Some (Call refusal)) told.0 (busy_stops (ops.is_closed old.callers) (ops.is_polling old.callers) refusal stops told.1)
