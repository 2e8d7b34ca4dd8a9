-- What a hand called, after a call of it and after a reading beside it.
use Rattle.std.proofs.Common.{◌≡◌, ℕ, ◌<◌, true, false, cond, Bool, List, [], ◌∷◌, ◌++◌, Some, refl, ap, sym, ◌∙◌, subst, inl, inr, arith, eq-eqb}
use Rattle.std.specs.Prelude.{map, filter, is_some}
use Rattle.std.specs.List.{AllByRecursion}
use Rattle.std.proofs.lemmas.List.{map-append}
use Rattle.tk_core.specs.declared.history.Entry.{Entry}
use Rattle.tk_core.specs.declared.op.call.OpCall.TheVariants as op_calls
use Rattle.tk_core.specs.declared.reply.Reply.{Reply}
use Rattle.tk_core.specs.declared.reply.Reply.TheVariants.{Number, Shown}
use Rattle.tk_core.specs.declared.resource.call.ResourceCall.TheVariants as resource_calls
use Rattle.tk_core.specs.declared.task.call.TaskCall.TheVariants as task_calls
use Rattle.tk_core.specs.Fold.{is_accepted}
use Rattle.tk_core.specs.History.{calls_of, accepted}
use Rattle.tk_core.specs.Lists.{last_of}
use Rattle.tk_core.specs.Meaning.{Meaning}
use Rattle.tk_core.specs.Op as op_rules
use Rattle.tk_core.specs.OpMeaning.{op_meaning}
use Rattle.tk_core.specs.Polls.{is_polling}
use Rattle.tk_core.specs.Resource as resource_rules
use Rattle.tk_core.specs.ResourceMeaning.{resource_meaning}
use Rattle.tk_core.specs.Task as task_rules
use Rattle.tk_core.specs.TaskMeaning.{task_meaning}
use Rattle.tk_cell.specs.declared.view.View.{View}
use Rattle.tk_cell.specs.Calls.{entry}
use Rattle.tk_cell.specs.Views.{Known, times, Holds}
use Rattle.tk_cell.specs.Ours.{ours, CallsBeside}
use Rattle.tk_ledgers.specs.Beside.{ShowsCallsOf}
use Rattle.tk_ledgers.specs.Called.{HasCalled, CallsAreCalled, ReadingsShowCalled, TasksTellCalled, OpsTellCalled, ResourcesTellCalled}
use Rattle.tk_ledgers.specs.Callers.{CallsAs, HoldsAllBut}
use Rattle.tk_ledgers.proofs.HeldLemmas.{calls_keep_all, beside_keeps_all}
use Rattle.tk_ledgers.proofs.ToldLemmas.{tasks_tell, ops_tell, resources_tell}

all_push : {A : Type 0} (P : A → Type 0) (xs : List A) (x : A) → AllByRecursion P xs → P x → AllByRecursion P (xs ++ x ∷ [])
all_push P [] x all here = (here, tt)
all_push P (y ∷ xs) x all here = (all.0, all_push P xs x all.1 here)

module _ {Row C : Type 0} (m : Meaning Row C (Reply Row)) where
  pub calls_are_called : CallsAreCalled m
  calls_are_called old new n call reply others opening calls k passed has = record {
    opened = k.made.same_opening ∙ has.opened;
    in_order = ap (λ (h : List (Entry C (Reply Row))). calls_of h) k.calls
        ∙ (map-append (λ (e : Entry C (Reply Row)). e.call) (ours old.view) (entry n call reply ∷ []) ∙ ap (λ (l : List C). l ++ call ∷ []) has.in_order);
    accepted = subst (λ (h : List (Entry C (Reply Row))). AllByRecursion (λ (e : Entry C (Reply Row)). is_accepted e.reply ≡ true) h) (sym k.calls)
        (all_push (λ (e : Entry C (Reply Row)). is_accepted e.reply ≡ true) (ours old.view) (entry n call reply) has.accepted passed);
    holds = calls_keep_all m old new n call reply others k has.holds;
  }

  same_opening : (a b : Row) → Some a ≡ Some b → a ≡ b
  same_opening a b e = cc

  pub readings_show_called : (read : C) → ReadingsShowCalled m read
  readings_show_called read v q w u row others opening calls k shows has = (
    record {
      opened = ap (λ (x : View Row C (Reply Row)). x.opening) k.again.first_is ∙ (ap (λ (x : View Row C (Reply Row)). x.opening) k.before.first_is ∙ has.opened);
      in_order = ap (λ (h : List (Entry C (Reply Row))). calls_of h) shows.hand_stays ∙ has.in_order;
      accepted = subst (λ (h : List (Entry C (Reply Row))). AllByRecursion (λ (e : Entry C (Reply Row)). is_accepted e.reply ≡ true) h) (sym shows.hand_stays) has.accepted;
      holds = beside_keeps_all m v q w u read (Shown row) others k has.holds;
    },
    shows.row_is ∙ (ap (λ (l : List C). m.row_after shows.opening l) has.in_order ∙ ap (λ (o : Row). m.row_after o calls) (same_opening shows.opening opening (sym shows.opened ∙ has.opened))),
  )

  -- a new owner has called one `Enlist`, which was answered 1
  pub owner_called : ((n : ℕ) → m.number (Number n) ≡ Some n) → (enlist : C) (row : Row)
      → HasCalled m (1 ∷ []) row (enlist ∷ []) (record { caller = 0; seen = entry 0 enlist (Number 1) ∷ []; held = 0 ∷ []; opening = Some row })
  owner_called plain enlist row = record { opened = refl; in_order = refl; accepted = (refl, tt); holds = whom }
    where
      one : Entry C (Reply Row)
      one = entry 0 enlist (Number 1)

      numbered : (n : ℕ) → m.number (Number 1) ≡ Some n → 1 ≡ n
      numbered n e = let p = plain 1 in cc

      whom : HoldsAllBut m (1 ∷ []) (record { caller = 0; seen = one ∷ []; held = 0 ∷ []; opening = Some row })
      whom [] after e cut n is =
          let same : e ≡ one = cc in
          let is_one : m.number (Number 1) ≡ Some n = ap (λ (x : Entry C (Reply Row)). m.number x.reply) (sym same) ∙ is in
          inr (subst (λ (k : ℕ). 0 < times k (1 ∷ [])) (numbered n is_one) (omega arith))
      whom (b ∷ before) after e cut n is = absurd (none before after e (tails before after e cut))
        where
          tails : (before after : List (Entry C (Reply Row))) (e : Entry C (Reply Row)) → b ∷ before ++ e ∷ after ≡ one ∷ [] → before ++ e ∷ after ≡ []
          tails before after e cut = cc

          none : (before after : List (Entry C (Reply Row))) (e : Entry C (Reply Row)) → before ++ e ∷ after ≡ [] → ⊥
          none [] after e cut = cc
          none (x ∷ before) after e cut = cc

module _ {Row C : Type 0} where
  -- entries that are all accepted
  pub all_accepted : (h : List (Entry C (Reply Row))) → AllByRecursion (λ (e : Entry C (Reply Row)). is_accepted e.reply ≡ true) h → accepted is_accepted h ≡ calls_of h
  unfolding accepted
  all_accepted h all = ap (λ (l : List (Entry C (Reply Row))). map (λ (e : Entry C (Reply Row)). e.call) l) (kept h all)
    where
      kept : (h : List (Entry C (Reply Row))) → AllByRecursion (λ (e : Entry C (Reply Row)). is_accepted e.reply ≡ true) h → filter (λ (e : Entry C (Reply Row)). is_accepted e.reply) h ≡ h
      kept [] all = refl
      kept (e ∷ h) all = rw (all.0) (ap (λ (l : List (Entry C (Reply Row))). e ∷ l) (kept h all.1))

  pub accepted_called : (m : Meaning Row C (Reply Row)) (others : List ℕ) (opening : Row) (calls : List C) (v : View Row C (Reply Row)) → HasCalled m others opening calls v → accepted is_accepted (ours v) ≡ calls
  accepted_called m others opening calls v has = all_accepted (ours v) has.accepted ∙ has.in_order

pub tasks_tell_called : TasksTellCalled
tasks_tell_called h new n call reply others opening calls k has =
    let told = tasks_tell h.token new n call reply k in
    let same = accepted_called task_meaning others opening calls h.token.view has in (
      told.0 ∙ ap (is_polling task_rules.start_at task_rules.end_at) same,
      told.1 ∙ ap (λ l. is_some (last_of task_rules.close_at l)) same,
    )

pub ops_tell_called : OpsTellCalled
ops_tell_called h new n call reply others opening calls k has =
    let told = ops_tell h.token new n call reply k in
    let same = accepted_called op_meaning others opening calls h.token.view has in (
      told.0 ∙ ap (is_polling op_rules.start_at op_rules.end_at) same,
      told.1 ∙ ap (λ l. is_some (last_of op_rules.close_at l)) same,
    )

pub resources_tell_called : ResourcesTellCalled
resources_tell_called h new n call reply others opening calls k has =
    resources_tell h.token new n call reply k ∙ ap (λ l. is_some (last_of resource_rules.close_at l)) (accepted_called resource_meaning others opening calls h.token.view has)
