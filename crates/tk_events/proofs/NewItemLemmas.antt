-- What the first call on a new ledger is answered, and what its owner and the caller that it made know then.
use Rattle.std.proofs.Common.{suc, length, length-append, ◌≡◌, ◌≢◌, ℕ, ◌+◌, Bool, true, List, [], ◌∷◌, ◌++◌, Option, Some, None, Result, Ok, Err, refl, ap, sym, ◌∙◌, subst, arith, ⊎_elim}
use Rattle.std.specs.Prelude.{◌==◌}
use Rattle.std.proofs.lemmas.Bool.{eq-eqb}
use Rattle.std.proofs.lemmas.List.Elements.{filter-append}
use Rattle.tk_core.specs.declared.history.Entry.{Entry}
use Rattle.tk_core.specs.declared.op.call.OpCall.TheVariants.{Enlist as EnlistOp}
use Rattle.tk_core.specs.declared.reply.Refusal.{Refusal}
use Rattle.tk_core.specs.declared.reply.Refusal.TheVariants.{Memory, HandlesSpent, AlreadyPolling, NotPolling, Closed, NoAttribute, WrongKind, OutOfRange}
use Rattle.tk_core.specs.declared.reply.Reply.{Reply}
use Rattle.tk_core.specs.declared.reply.Reply.TheVariants.{Number, Refused}
use Rattle.tk_core.specs.declared.resource.call.ResourceCall.TheVariants.{Enlist as EnlistResource}
use Rattle.tk_core.specs.declared.task.call.TaskCall.TheVariants.{Enlist as EnlistTask}
use Rattle.tk_core.specs.declared.task.row.TaskRow.{TaskRow}
use Rattle.tk_core.specs.declared.times.call.TimesCall.TheVariants.{Enlist as EnlistTimes}
use Rattle.tk_ids.specs.declared.attr.AttrValue.{AttrValue}
use Rattle.tk_core.specs.Fold.{reply_after, fold_of}
use Rattle.tk_core.specs.History.{accepted}
use Rattle.tk_core.specs.Legal.{own, may_call}
use Rattle.tk_core.specs.Meaning.{Meaning}
use Rattle.tk_core.specs.Lists.{count_of}
use Rattle.tk_core.specs.Op.{opening_row as op_row, row_of as op_row_of}
use Rattle.tk_core.specs.OpMeaning.{op_meaning}
use Rattle.tk_core.specs.Resource.{opening_row as resource_row, row_of as resource_row_of}
use Rattle.tk_core.specs.ResourceMeaning.{resource_meaning}
use Rattle.tk_core.specs.Task.{row_of as task_row_of}
use Rattle.tk_core.specs.TaskMeaning.{task_meaning}
use Rattle.tk_core.specs.Times.{opening_row as times_row, row_of as times_row_of}
use Rattle.tk_core.specs.TimesMeaning.{times_meaning}
use Rattle.tk_cell.specs.declared.view.View.{View}
use Rattle.tk_cell.specs.Views.{Known, opened, after_split, split_off}
use Rattle.tk_cell.specs.Calls.{entry, Calls}
use Rattle.tk_cell.proofs.HistoryLemmas.{may_made}
use Rattle.tk_cell.proofs.ListLemmas.{dec_eq}
use Rattle.tk_ledgers.specs.Handles.{KnownTimes, Drew, NotDrawn}
use Rattle.tk_ledgers.specs.Times.{TimesSight, IsNewHistogram, DrawsTimes, InspectsTimes}
use Rattle.tk_events.specs.Items.{owner_view, inspector_view, HasNewTimes, InspectsNewTimes}
use Rattle.tk_events.specs.Offers.{times_ledger}

module _ {O C R : Type 0} (m : Meaning O C R) where
  -- of an empty history only the owner makes a call
  nobody : (n : ℕ) (call : C) → n ≢ 0 → may_call m [] n call ≡ true → ⊥
  nobody n call ne may = let made = may_made m n [] call ne may in let none = made.1 in absurd cc

  own_cons : (h : List (Entry C R)) (e : Entry C R) → e.caller ≡ 0 → length (own 0 (e ∷ h)) ≡ suc (length (own 0 h))
  own_cons h e z = rw (eq-eqb e.caller 0 z) refl

  own_last : (h : List (Entry C R)) (e : Entry C R) → e.caller ≡ 0 → length (own 0 (h ++ e ∷ [])) ≡ length (own 0 h) + 1
  own_last h e z =
      let g : Entry C R → Bool = λ x. x.caller == 0 in
      let one : length (own 0 (e ∷ [])) ≡ 1 = own_cons [] e z in
      ap (λ (l : List (Entry C R)). length l) (filter-append g h (e ∷ [])) ∙ (length-append (own 0 h) (own 0 (e ∷ [])) ∙ omega (arith, one))

  module _ (row : O) (call : C) (reply : R) (w : View O C R) (k : Calls m (opened row) call reply w) where
    abbrev pub new : Entry C R
    new = entry 0 call reply

    nothing_between : (b : List (Entry C R)) → k.between ≡ b → b ≡ []
    nothing_between [] is = refl
    nothing_between (e ∷ rest) is =
        let all_seen : w.seen ≡ e ∷ (rest ++ new ∷ []) = k.grows ∙ ap (λ (l : List (Entry C R)). l ++ new ∷ []) is in
        let role = (k.legal [] (rest ++ new ∷ []) e (sym all_seen)).role in
        ⊎_elim
        (λ (z : e.caller ≡ 0).
        let once : length (own 0 w.seen) ≡ 1 = ap (λ (l : List (Entry C R)). length l) k.mine in
        let more : length (own 0 w.seen) ≡ suc (length (own 0 (rest ++ new ∷ []))) = ap (λ (l : List (Entry C R)). length (own 0 l)) all_seen ∙ own_cons (rest ++ new ∷ []) e z in
        let last : length (own 0 (rest ++ new ∷ [])) ≡ length (own 0 rest) + 1 = own_last rest new refl in
        absurd (omega (arith, once, more, last)))
        (λ (ne : e.caller ≢ 0). absurd (nobody e.caller e.call ne role))
        (dec_eq e.caller 0)

    pub first_seen : w.seen ≡ new ∷ []
    first_seen = k.grows ∙ ap (λ (l : List (Entry C R)). l ++ new ∷ []) (nothing_between k.between refl)

    same_row : k.opening ≡ row
    same_row = let is = k.opened in cc

    pub first_reply : reply ≡ m.reply_after row [] call
    first_reply = (k.legal [] [] new (sym first_seen)).reply ∙ ap (λ (o : O). m.reply_after o [] call) same_row

number_same : {Row : Type 0} (x y : Reply Row) (a b : ℕ) → x ≡ Number a → y ≡ Number b → x ≡ y → a ≡ b
number_same x y a b p q e = cc

refused_number : {Row : Type 0} (x y : Reply Row) (refusal : Refusal) (n : ℕ) → x ≡ Refused refusal → y ≡ Number n → x ≡ y → ⊥
refused_number x y refusal n p q e = absurd cc

module _ {Row C : Type 0} (m : Meaning Row C (Reply Row)) (row : Row) (call : C) (is : m.reply_after row [] call ≡ Number 1) (number_is : (n : ℕ) → m.number (Number n) ≡ Some n) where
  module _ (old after made : Known Row C (Reply Row)) (at : old.view ≡ opened row) (d : Drew m old call after made) where
    k : Calls m (opened row) call (Number d.number) d.view
    k = subst (λ (v : View Row C (Reply Row)). Calls m v call (Number d.number) d.view) at d.entry

    one : d.number ≡ 1
    one = number_same (Number d.number) (m.reply_after row [] call) d.number 1 refl is (first_reply m row call (Number d.number) d.view k)

    view_is : d.view ≡ record { caller = 0; seen = entry 0 call (Number 1) ∷ []; held = 0 ∷ (1 ∷ []); opening = Some row }
    view_is =
        let seen = first_seen m row call (Number d.number) d.view k ∙ ap (λ (n : ℕ). entry 0 call (Number n) ∷ []) one in
        let held : d.view.held ≡ 0 ∷ (1 ∷ []) = k.now_held ∙ ap (λ (o : Option ℕ). 0 ∷ Rattle.tk_cell.specs.Views.list_of o) (number_is d.number ∙ ap (λ (n : ℕ). Some n) one) in
        λ i. record { caller = k.same_caller i; seen = seen i; held = held i; opening = k.same_opening i }

    pub owner_is : after.view ≡ owner_view call row
    owner_is = ap (λ (t : Known Row C (Reply Row)). t.view) d.kept ∙ (λ i. after_split (one i) (view_is i))

    pub inspector_is : made.view ≡ inspector_view call row
    inspector_is = ap (λ (t : Known Row C (Reply Row)). t.view) d.given ∙ (λ i. split_off (one i) (view_is i))

  -- a first call that draws a number is refused for want of memory alone
  pub only_memory : (old after : Known Row C (Reply Row)) (refusal : Refusal) → old.view ≡ opened row → refusal ≢ Memory → NotDrawn m old call refusal after → ⊥
  only_memory old after Memory at ne none = ne refl
  only_memory old after HandlesSpent at ne none =
      let k : Calls m (opened row) call (Refused HandlesSpent) after.view = subst (λ (v : View Row C (Reply Row)). Calls m v call (Refused HandlesSpent) after.view) at none.1 in
      refused_number (Refused HandlesSpent) (m.reply_after row [] call) HandlesSpent 1 refl is (first_reply m row call (Refused HandlesSpent) after.view k)
  only_memory old after AlreadyPolling at ne none = none
  only_memory old after NotPolling at ne none = none
  only_memory old after Closed at ne none = none
  only_memory old after NoAttribute at ne none = none
  only_memory old after WrongKind at ne none = none
  only_memory old after OutOfRange at ne none = none

pub task_first : (opening : TaskRow) → task_meaning.reply_after opening [] EnlistTask ≡ Number 1
unfolding reply_after fold_of accepted task_row_of count_of
task_first opening = refl

pub times_first : times_meaning.reply_after times_row [] EnlistTimes ≡ Number 1
unfolding reply_after fold_of accepted times_row_of count_of
times_first = refl

pub resource_first : (created : ℕ) (values : List AttrValue) → resource_meaning.reply_after (resource_row created values) [] EnlistResource ≡ Number 1
unfolding reply_after fold_of accepted resource_row_of count_of
resource_first created values = refl

pub op_first : (created : ℕ) (values : List AttrValue) → op_meaning.reply_after (op_row created values) [] EnlistOp ≡ Number 1
unfolding reply_after fold_of accepted op_row_of count_of
op_first created values = refl

-- ---- a new histogram, of which the first inspector is drawn

drawn_is : (found drawn : Result TimesSight Refusal) → Some found ≡ Some drawn → drawn ≡ found
drawn_is found drawn e = cc

module _ (id : ℕ) (old new : Option KnownTimes) (begins : IsNewHistogram old) where
  of_new : (found : Option (Result TimesSight Refusal)) → InspectsTimes id old found new → InspectsTimes id (Some begins.0) found new
  of_new found i = subst (λ (o : Option KnownTimes). InspectsTimes id o found new) begins.1 i

  pub new_inspected : (made : TimesSight) → InspectsTimes id old (Some (Ok made)) new → HasNewTimes new × InspectsNewTimes new (Some made.token)
  new_inspected made i =
      let n = of_new (Some (Ok made)) i in
      let d : DrawsTimes id begins.0 (Ok made) n.1 = subst (λ (r : Result TimesSight Refusal). DrawsTimes id begins.0 r n.1) (drawn_is (Ok made) n.0 n.2) n.4 in
      let owner = owner_is times_meaning times_row EnlistTimes times_first (λ k. refl) begins.0 n.1 made.token begins.2 d.ok in
      let inspector = inspector_is times_meaning times_row EnlistTimes times_first (λ k. refl) begins.0 n.1 made.token begins.2 d.ok in (
        (n.1, n.3, owner),
        (n.1, made.token, n.3, refl, d.made_ledger ∙ sym d.ledger, inspector),
      )

  pub new_refused : (refusal : Refusal) → InspectsTimes id old (Some (Err refusal)) new → refusal ≢ Memory → ⊥
  new_refused refusal i ne =
      let n = of_new (Some (Err refusal)) i in
      let d : DrawsTimes id begins.0 (Err refusal) n.1 = subst (λ (r : Result TimesSight Refusal). DrawsTimes id begins.0 r n.1) (drawn_is (Err refusal) n.0 n.2) n.4 in
      only_memory times_meaning times_row EnlistTimes times_first (λ k. refl) begins.0 n.1 refusal begins.2 ne d.err

  pub new_inspects : InspectsTimes id old None new → ⊥
  new_inspects i = let n = of_new None i in let bad = n.2 in absurd cc

-- the owner's histogram and that of the event are one
pub same_times_ledger : (owned times : Option KnownTimes) → InspectsNewTimes owned times → times_ledger times ≡ times_ledger owned
same_times_ledger owned times i = ap (λ (o : Option KnownTimes). times_ledger o) i.3 ∙ (ap (λ x. Some x) i.4 ∙ sym (ap (λ (o : Option KnownTimes). times_ledger o) i.2))
