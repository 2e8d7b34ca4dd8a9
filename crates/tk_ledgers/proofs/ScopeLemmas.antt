-- How the owner's list grows, and what a scope's calls leave.
use Rattle.std.proofs.Common.{◌≡◌, ℕ, Bool, true, false, ◌&&◌, cond, List, [], ◌∷◌, ◌++◌, None, refl, ap, sym, ◌∙◌, subst, append_assoc, Result, Ok, Err, IfOk, IfErr}
use Rattle.std.specs.Prelude.{unwrap_or, map, filter}
use Rattle.std.specs.List.{list_all, filter_map}
use Rattle.std.proofs.lemmas.List.{append-nil, map-append}
use Rattle.std.proofs.lemmas.List.Elements.{filter-append, filter_map-append}
use Rattle.std.proofs.lemmas.List.Folds.{list_all-append}
use Rattle.tk_core.specs.declared.history.Entry.{Entry}
use Rattle.tk_core.specs.declared.reply.Refusal.{Refusal}
use Rattle.tk_core.specs.declared.reply.Refusal.TheVariants.{AlreadyPolling, NotPolling, Closed, HandlesSpent, NoAttribute, WrongKind, OutOfRange, Memory}
use Rattle.tk_core.specs.declared.reply.Reply.{Reply}
use Rattle.tk_core.specs.declared.reply.Reply.TheVariants.{Done, Number, Refused}
use Rattle.tk_core.specs.declared.task.row.TaskRow.{TaskRow}
use Rattle.tk_core.specs.declared.task.call.TaskCall.{TaskCall}
use Rattle.tk_core.specs.declared.task.call.TaskCall.TheVariants.{PollStart, PollEnd, Close, CloneWaker, WakeVal, WakeRef, Release, Enlist, Read}
use Rattle.tk_core.specs.Lists.{last, last_of}
use Rattle.tk_core.specs.Task.{end_at}
use Rattle.tk_core.specs.History.{accepted}
use Rattle.tk_core.specs.Fold.{is_accepted}
use Rattle.tk_core.specs.Legal.{own}
use Rattle.tk_core.specs.TaskMeaning.{task_meaning}
use Rattle.tk_core.specs.Laws.Pushed.{last_or_push}
use Rattle.tk_cell.specs.Views.{Known}
use Rattle.tk_cell.specs.Calls.{entry, Calls}
use Rattle.tk_ledgers.specs.Handles.{Drew, NotDrawn}
use Rattle.tk_ledgers.specs.Tasks.{TaskSight, TaskEntries, is_polling, owner_calls}
use Rattle.tk_ledgers.specs.Times.{runs_after, AreTimesOf, TimesGrow}
use Rattle.tk_ledgers.specs.Scopes.{Scoped, owner_list, Grows, StaysTimed, is_scope_call, AreOfScope, ScopeGrows}
use Rattle.tk_ledgers.proofs.TaskPollLemmas.{poll_of}
use Rattle.tk_ledgers.proofs.OwnerLemmas.{accepted_append}
use Rattle.tk_ledgers.proofs.TimedLemmas.{runs_append, runs_none, stays_timed_by, times_kept, times_more, times_stay}

-- ---- lists that grow

-- no entry adds no time
none_more : (old new : TaskSight) → new.times ≡ old.times → TimesGrow old.times (runs_after (owner_calls old) (accepted (is_accepted {Row = TaskRow}) [])) new.times
unfolding accepted
none_more old new is = subst (λ (times : List ℕ). TimesGrow old.times times new.times) (sym (runs_none (owner_calls old))) (times_kept old.times new.times is)

-- of the runs in two lists of entries the second ones begin after the first
runs_in : (a b : TaskSight) (xs ys : TaskEntries) → owner_list b ≡ owner_list a ++ xs
    → runs_after (owner_calls a) (accepted is_accepted xs) ++ runs_after (owner_calls b) (accepted is_accepted ys) ≡ runs_after (owner_calls a) (accepted is_accepted (xs ++ ys))
runs_in a b xs ys is =
    let calls : owner_calls b ≡ owner_calls a ++ accepted is_accepted xs = ap (λ (l : TaskEntries). accepted is_accepted l) is ∙ accepted_append (owner_list a) xs in
    sym (ap (λ (cs : List TaskCall). runs_after (owner_calls a) cs) (accepted_append xs ys) ∙ (runs_append (owner_calls a) (accepted is_accepted xs) (accepted is_accepted ys)
    ∙ ap (λ (cs : List TaskCall). runs_after (owner_calls a) (accepted is_accepted xs) ++ runs_after cs (accepted is_accepted ys)) (sym calls)))

pub grows_same : (h : TaskSight) → Grows h [] h
grows_same h = record { id = refl; ledger = refl; list = sym (append-nil (owner_list h)); times = none_more h h refl }

pub grows_more : (a b c : TaskSight) (xs ys : TaskEntries) → Grows a xs b → Grows b ys c → Grows a (xs ++ ys) c
grows_more a b c xs ys p q = record {
  id = q.id ∙ p.id;
  ledger = q.ledger ∙ p.ledger;
  list = q.list ∙ (ap (λ (l : TaskEntries). l ++ ys) p.list ∙ append_assoc (owner_list a) xs ys);
  times = subst (λ (times : List ℕ). TimesGrow a.times times c.times) (runs_in a b xs ys p.list)
      (times_more a.times b.times c.times (runs_after (owner_calls a) (accepted is_accepted xs)) (runs_after (owner_calls b) (accepted is_accepted ys)) p.times q.times);
}

-- one call of the owner is one entry more
pub grows_by_call : (old new : TaskSight) (call : TaskCall) (reply : Reply TaskRow) → new.id ≡ old.id → new.token.ledger ≡ old.token.ledger → old.token.view.caller ≡ 0
    → Calls task_meaning old.token.view call reply new.token.view → TimesGrow old.times (runs_after (owner_calls old) (accepted is_accepted (entry 0 call reply ∷ []))) new.times
    → Grows old (entry 0 call reply ∷ []) new
grows_by_call old new call reply id ledger caller k times = record {
  id = id;
  ledger = ledger;
  list = subst (λ (n : ℕ). own n new.token.view.seen ≡ own n old.token.view.seen ++ entry n call reply ∷ []) caller k.mine;
  times = times;
}

pub stays_timed : StaysTimed
stays_timed old new entries timed g =
    let calls : owner_calls new ≡ owner_calls old ++ accepted is_accepted entries = ap (λ (l : TaskEntries). accepted is_accepted l) g.list ∙ accepted_append (owner_list old) entries in
    λ t is. subst (λ (cs : List TaskCall). AreTimesOf cs t) (sym calls) (stays_timed_by (owner_calls old) (accepted is_accepted entries) old.times new.times timed g.times t is)

-- ---- polling, by the owner's list

abbrev picked : TaskEntries → List Bool
picked h = filter_map poll_of (accepted is_accepted h)

abbrev polling_by : TaskEntries → Bool
polling_by h = unwrap_or (last (picked h)) false

polling_is : (h : TaskSight) → is_polling h ≡ polling_by (owner_list h)
unfolding last_of
polling_is h = refl

picked_append : (xs ys : TaskEntries) → picked (xs ++ ys) ≡ picked xs ++ picked ys
unfolding accepted
picked_append xs ys = rw (filter-append, map-append, filter_map-append) refl

picked_cons : (e : Entry TaskCall (Reply TaskRow)) (h : TaskEntries) → poll_of e.call ≡ None → picked (e ∷ h) ≡ picked h
unfolding accepted
picked_cons e h none = go (is_accepted e.reply)
  where
    go : (b : Bool) → filter_map poll_of (map (λ (x : Entry TaskCall (Reply TaskRow)). x.call) (cond b (e ∷ filter (λ (x : Entry TaskCall (Reply TaskRow)). is_accepted x.reply) h) (filter (λ (x : Entry TaskCall (Reply TaskRow)). is_accepted x.reply) h))) ≡ picked h
    go true = rw none refl
    go false = refl

scope_polls_none : (call : TaskCall) → is_scope_call call ≡ true → poll_of call ≡ None
scope_polls_none (PollStart m) is = absurd cc
scope_polls_none (PollEnd m) is = absurd cc
scope_polls_none (Close m) is = refl
scope_polls_none CloneWaker is = refl
scope_polls_none (WakeVal m from_self) is = refl
scope_polls_none (WakeRef m from_self) is = refl
scope_polls_none Release is = refl
scope_polls_none Enlist is = refl
scope_polls_none Read is = refl

both : (x y : Bool) → (x && y) ≡ true → (x ≡ true) × (y ≡ true)
both true y e = (refl, e)
both false y e = absurd cc

picked_of_scope : (h : TaskEntries) → AreOfScope h → picked h ≡ []
unfolding accepted
picked_of_scope [] all = refl
picked_of_scope (e ∷ h) all =
    let parts = both (is_scope_call e.call) (list_all (λ (x : Entry TaskCall (Reply TaskRow)). is_scope_call x.call) h) all in
    picked_cons e h (scope_polls_none e.call parts.0) ∙ picked_of_scope h parts.1

-- entries that start and end no poll leave whether one is open
pub polling_stays : (a b : TaskSight) (entries : TaskEntries) → Grows a entries b → picked entries ≡ [] → is_polling b ≡ is_polling a
polling_stays a b entries g none =
    polling_is b ∙ (ap (λ (h : TaskEntries). polling_by h) g.list
    ∙ (ap (λ (l : List Bool). unwrap_or (last l) false) (picked_append (owner_list a) entries ∙ (ap (λ (l : List Bool). picked (owner_list a) ++ l) none ∙ append-nil (picked (owner_list a)))) ∙ sym (polling_is a)))

pub polling_in_scope : (a b : Scoped) → ScopeGrows a b → is_polling b.owner ≡ is_polling a.owner
polling_in_scope a b g = polling_stays a.owner b.owner g.entries g.grows (picked_of_scope g.entries g.of_scope)

last_snoc : (xs : List Bool) (b : Bool) → unwrap_or (last (xs ++ b ∷ [])) false ≡ b
last_snoc xs b = rw (last_or_push None xs b) refl

after_one : (a b : TaskSight) (e : Entry TaskCall (Reply TaskRow)) (polled : Bool) → picked (e ∷ []) ≡ polled ∷ [] → Grows a (e ∷ []) b → is_polling b ≡ polled
after_one a b e polled one g =
    polling_is b ∙ (ap (λ (h : TaskEntries). polling_by h) g.list
    ∙ (ap (λ (l : List Bool). unwrap_or (last l) false) (picked_append (owner_list a) (e ∷ []) ∙ ap (λ (l : List Bool). picked (owner_list a) ++ l) one) ∙ last_snoc (picked (owner_list a)) polled))

-- a start opens a poll, and an end closes it
pub polling_started : (a b : TaskSight) (m : ℕ) → Grows a (entry 0 (PollStart m) Done ∷ []) b → is_polling b ≡ true
unfolding accepted
polling_started a b m g = after_one a b (entry 0 (PollStart m) Done) true refl g

pub polling_ended : (a b : TaskSight) (m : ℕ) → Grows a (entry 0 (PollEnd m) Done ∷ []) b → is_polling b ≡ false
unfolding accepted
polling_ended a b m g = after_one a b (entry 0 (PollEnd m) Done) false refl g

-- ---- scopes

-- nothing done
pub scope_same : (s : Scoped) → ScopeGrows s s
scope_same s = record { moment = refl; entries = []; of_scope = refl; grows = grows_same s.owner }

pub scope_more : (a b c : Scoped) → ScopeGrows a b → ScopeGrows b c → ScopeGrows a c
scope_more a b c p q = record {
  moment = q.moment ∙ p.moment;
  entries = p.entries ++ q.entries;
  of_scope = list_all-append (λ (x : Entry TaskCall (Reply TaskRow)). is_scope_call x.call) p.entries q.entries ∙ cc (p.of_scope, q.of_scope);
  grows = grows_more a.owner b.owner c.owner p.entries q.entries p.grows q.grows;
}

abbrev pub at_moment : ℕ → TaskSight → Scoped
at_moment moment owner = record { owner = owner; moment = moment }

module _ (moment : ℕ) (old new : TaskSight) (id : new.id ≡ old.id) (ledger : new.token.ledger ≡ old.token.ledger) (caller : old.token.view.caller ≡ 0) (same : new.times ≡ old.times) where
  by_call : (call : TaskCall) (reply : Reply TaskRow) → is_scope_call call ≡ true → end_at call ≡ None → Calls task_meaning old.token.view call reply new.token.view → ScopeGrows (at_moment moment old) (at_moment moment new)
  by_call call reply is none k = record {
    moment = refl;
    entries = entry 0 call reply ∷ [];
    of_scope = cc is;
    grows = grows_by_call old new call reply id ledger caller k (times_stay (owner_calls old) call reply old.times new.times none same);
  }

  -- a wake by the scope
  pub scope_wakes : (m : ℕ) (reply : Reply TaskRow) → Calls task_meaning old.token.view (WakeRef m true) reply new.token.view → ScopeGrows (at_moment moment old) (at_moment moment new)
  scope_wakes m reply k = by_call (WakeRef m true) reply refl refl k

  -- a clone by the scope
  pub scope_clones : (made : Known TaskRow TaskCall (Reply TaskRow)) → Drew task_meaning old.token CloneWaker new.token made → ScopeGrows (at_moment moment old) (at_moment moment new)
  scope_clones made d = record {
    moment = refl;
    entries = entry 0 CloneWaker (Number d.number) ∷ [];
    of_scope = refl;
    grows = record {
      id = id;
      ledger = ledger;
      list = ap (λ (t : Known TaskRow TaskCall (Reply TaskRow)). own 0 t.view.seen) d.kept
          ∙ subst (λ (n : ℕ). own n d.view.seen ≡ own n old.token.view.seen ++ entry n CloneWaker (Number d.number) ∷ []) caller d.entry.mine;
      times = times_stay (owner_calls old) CloneWaker (Number d.number) old.times new.times refl same;
    };
  }

  -- or none
  pub scope_clones_none : (r : Refusal) → NotDrawn task_meaning old.token CloneWaker r new.token → ScopeGrows (at_moment moment old) (at_moment moment new)
  scope_clones_none Memory is = record {
    moment = refl;
    entries = [];
    of_scope = refl;
    grows = record {
      id = id;
      ledger = ledger;
      list = ap (λ (t : Known TaskRow TaskCall (Reply TaskRow)). own 0 t.view.seen) is ∙ sym (append-nil (owner_list old));
      times = none_more old new same;
    };
  }
  scope_clones_none HandlesSpent k = by_call CloneWaker (Refused HandlesSpent) refl refl k.1
  scope_clones_none AlreadyPolling none = absurd none
  scope_clones_none NotPolling none = absurd none
  scope_clones_none Closed none = absurd none
  scope_clones_none NoAttribute none = absurd none
  scope_clones_none WrongKind none = absurd none
  scope_clones_none OutOfRange none = absurd none

  pub scope_cloned : (result : Result TaskSight Refusal) → IfOk result (λ made. Drew task_meaning old.token CloneWaker new.token made.token) → IfErr result (λ refusal. NotDrawn task_meaning old.token CloneWaker refusal new.token)
      → ScopeGrows (at_moment moment old) (at_moment moment new)
  scope_cloned (Ok made) ok err = scope_clones made.token ok
  scope_cloned (Err refusal) ok err = scope_clones_none refusal err
