-- What all calls of a hand tell of its owner's, and whom an owner holds that draws handles.
use Rattle.std.proofs.Common.{◌≡◌, ◌≢◌, ℕ, ◌<◌, ◌==◌, Bool, true, false, cond, filter, List, [], ◌∷◌, ◌++◌, Option, Some, None, refl, ap, sym, ◌∙◌, subst, arith, ⊎_elim}
use Rattle.std.specs.Prelude.{unwrap_or, is_some}
use Rattle.std.proofs.lemmas.Bool.{eq-eqb, ne_eqb}
use Rattle.tk_core.specs.declared.history.Entry.{Entry}
use Rattle.tk_core.specs.declared.reply.Reply.{Reply}
use Rattle.tk_core.specs.declared.reply.Reply.TheVariants.{Number}
use Rattle.tk_core.specs.Fold.{is_accepted}
use Rattle.tk_core.specs.History.{accepted}
use Rattle.tk_core.specs.Legal.{own, IsLegal}
use Rattle.tk_core.specs.Lists.{last, last_of}
use Rattle.tk_core.specs.Meaning.{Meaning}
use Rattle.tk_core.specs.Op as op_rules
use Rattle.tk_core.specs.OpMeaning.{op_meaning}
use Rattle.tk_core.specs.Resource as resource_rules
use Rattle.tk_core.specs.ResourceMeaning.{resource_meaning}
use Rattle.tk_core.specs.Task as task_rules
use Rattle.tk_core.specs.TaskMeaning.{task_meaning}
use Rattle.tk_cell.specs.declared.view.View.{View}
use Rattle.tk_cell.specs.Views.{times, without, Holds, Known, after_split, as_caller}
use Rattle.tk_cell.specs.Ours.{is_held, ours}
use Rattle.tk_cell.proofs.HistoryLemmas.{prefix_is_legal}
use Rattle.tk_cell.proofs.ListLemmas.{dec_eq, times_other}
use Rattle.tk_cell.proofs.RoleLemmas.{call_begins, drawn_other}
use Rattle.tk_ledgers.specs.Callers.{CallsAs}
use Rattle.tk_ledgers.specs.Handles.{DrawsAlone}
use Rattle.tk_ledgers.specs.Ops.{OpsTellPolls}
use Rattle.tk_ledgers.specs.Resources.{ResourcesTellCloses}
use Rattle.tk_ledgers.specs.Tasks.{TasksTellPolls}
use Rattle.tk_ledgers.proofs.HeldLemmas.{stands_filtered, test_held}
use Rattle.tk_ledgers.proofs.OpPollLemmas as op_polls
use Rattle.tk_ledgers.proofs.OwnerLemmas.{OthersMakeNone, picked, same_picked, legal_others}
use Rattle.tk_ledgers.proofs.ResourceCloseLemmas.{made_open}
use Rattle.tk_ledgers.proofs.TaskPollLemmas as task_polls

-- a test after one that it implies
filter_within : {A : Type 0} (p q : A → Bool) (l : List A) → ((x : A) → p x ≡ true → q x ≡ true) → filter p (filter q l) ≡ filter p l
filter_within p q [] within = refl
filter_within {A = A} p q (x ∷ l) within = go (p x) (q x) refl refl (filter_within p q l within)
  where
    go : (a b : Bool) → p x ≡ a → q x ≡ b → filter p (filter q l) ≡ filter p l → filter p (cond b (x ∷ filter q l) (filter q l)) ≡ cond a (x ∷ filter p l) (filter p l)
    go true true is it rest = rw is (ap (λ (t : List A). x ∷ t) rest)
    go true false is it rest = let both = within x is in absurd cc
    go false true is it rest = rw is rest
    go false false is it rest = rest

module _ {Row C : Type 0} (m : Meaning Row C (Reply Row)) where
  -- the entries of a caller that a hand holds are those of the hand's calls
  pub own_of_ours : (v : View Row C (Reply Row)) (n : ℕ) → Holds v n → own n (ours v) ≡ own n v.seen
  own_of_ours v n there = filter_within (λ (e : Entry C (Reply Row)). e.caller == n) (λ (e : Entry C (Reply Row)). is_held v e.caller) v.seen (λ e is. ⊎_elim
      (λ (same : e.caller ≡ n). subst (λ (k : ℕ). is_held v k ≡ true) (sym same) (test_held (times n v.held) there))
      (λ (ne : e.caller ≢ n). let isnt = ne_eqb e.caller n ne in absurd cc)
      (dec_eq e.caller n))

  -- the last of the calls that the owner alone makes
  module _ {X : Type 0} (f : C → Option X) (others : (made call : C) → m.made_may made call ≡ true → f call ≡ None) where
    pub last_of_ours : (old new : Known Row C (Reply Row)) (n : ℕ) (call : C) (reply : Reply Row) → CallsAs m old n call reply new
        → last_of f (accepted is_accepted (own 0 old.view.seen)) ≡ last_of f (accepted is_accepted (ours old.view))
    unfolding last_of
    last_of_ours old new n call reply k =
        let v = old.view in
        let legal : IsLegal m k.made.opening old.view.seen = prefix_is_legal m k.made.opening old.view.seen new.view.seen (call_begins m (as_caller n old.view) call reply new.view k.made) k.made.legal in
        let none : OthersMakeNone m f others (ours old.view) = λ before later e cut isnt.
        let s = stands_filtered (λ (x : Entry C (Reply Row)). is_held old.view x.caller) old.view.seen e (before, later, cut) in
        legal_others m f others k.made.opening old.view.seen legal s.0.0 s.0.1 e s.0.2 isnt in
        ap (λ (xs : List X). last xs) (sym (same_picked m f others (ours old.view) none ∙ ap (λ (l : List (Entry C (Reply Row))). picked m f others l) (own_of_ours old.view 0 k.owner_held)))

  -- an owner draws a handle
  pub draws_alone : ((n : ℕ) → m.number (Number n) ≡ Some n) → DrawsAlone m
  draws_alone plain old new made call d alone =
      let itself : Holds old.view old.view.caller = d.entry.holds_itself in
      let caller : old.view.caller ≡ 0 = ⊎_elim
      (λ (is : 0 ≡ old.view.caller). sym is)
      (λ (ne : 0 ≢ old.view.caller). let none = times_other 0 old.view.caller ne in let here : 0 < times old.view.caller (0 ∷ []) = subst (λ (l : List ℕ). 0 < times old.view.caller l) alone itself in absurd (omega (arith, none, here)))
      (dec_eq 0 old.view.caller) in
      let other : d.number ≢ 0 = λ is. drawn_other m old.view call (Number d.number) d.view d.entry d.number (plain d.number) (is ∙ (sym caller ∙ sym d.entry.same_caller)) in
      let held : d.view.held ≡ 0 ∷ (d.number ∷ []) = d.entry.now_held ∙ (ap (λ (l : List ℕ). l ++ Rattle.tk_cell.specs.Views.list_of (m.number (Number d.number))) alone ∙ ap (λ (o : Option ℕ). (0 ∷ []) ++ Rattle.tk_cell.specs.Views.list_of o) (plain d.number)) in
      ap (λ (t : Known Row C (Reply Row)). t.view.held) d.kept ∙ (ap (λ (l : List ℕ). without d.number l) held ∙ rw (ne_eqb 0 d.number (λ s. other (sym s)), eq-eqb d.number d.number refl) refl)

pub tasks_tell : TasksTellPolls
tasks_tell old new n call reply k = (
  ap (λ (x : Option Bool). unwrap_or x false) (last_of_ours task_meaning task_polls.poll_of (λ made c may. (task_polls.made_quiet made c may).0) old new n call reply k),
  ap (λ (x : Option ℕ). is_some x) (last_of_ours task_meaning task_rules.close_at (λ made c may. (task_polls.made_quiet made c may).1) old new n call reply k),
)

pub ops_tell : OpsTellPolls
ops_tell old new n call reply k = (
  ap (λ (x : Option Bool). unwrap_or x false) (last_of_ours op_meaning op_polls.poll_of (λ made c may. (op_polls.made_quiet made c may).0) old new n call reply k),
  ap (λ (x : Option ℕ). is_some x) (last_of_ours op_meaning op_rules.close_at (λ made c may. (op_polls.made_quiet made c may).1) old new n call reply k),
)

pub resources_tell : ResourcesTellCloses
resources_tell old new n call reply k = ap (λ (x : Option ℕ). is_some x) (last_of_ours resource_meaning resource_rules.close_at made_open old new n call reply k)
