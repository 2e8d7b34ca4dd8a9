-- Why the text stops a change of an attribute.
use Rattle.std.proofs.Common.{◌≡◌, ℕ, ◌+◌, ◌==◌, Bool, true, false, cond, List, [], ◌∷◌, ◌++◌, Option, Some, None, refl, ap, sym, ◌∙◌}
use Rattle.std.specs.Prelude.{slice_get, is_some, option_map}
use Rattle.std.specs.List.{filter_map, cons_option, list_any}
use Rattle.std.proofs.lemmas.List.{append-nil}
use Rattle.std.proofs.lemmas.List.Elements.{filter_map-append}
use Rattle.tk_ids.specs.declared.attr.AttrValue.{AttrValue}
use Rattle.tk_core.specs.Attributes.{values_from, value_of, refused_by}
use Rattle.tk_core.specs.declared.attrs.AttrOp.{AttrOp}
use Rattle.tk_core.specs.declared.history.Entry.{Entry}
use Rattle.tk_core.specs.declared.op.call.OpCall.{OpCall}
use Rattle.tk_core.specs.declared.op.call.OpCall.TheVariants as op_calls
use Rattle.tk_core.specs.declared.op.row.OpRow.{OpRow}
use Rattle.tk_core.specs.declared.reply.Refusal.{Refusal}
use Rattle.tk_core.specs.declared.reply.Refusal.TheVariants.{Closed}
use Rattle.tk_core.specs.declared.reply.Reply.{Reply}
use Rattle.tk_core.specs.declared.reply.Reply.TheVariants.{Done, Refused}
use Rattle.tk_core.specs.declared.resource.call.ResourceCall.{ResourceCall}
use Rattle.tk_core.specs.declared.resource.call.ResourceCall.TheVariants as resource_calls
use Rattle.tk_core.specs.declared.resource.row.ResourceRow.{ResourceRow}
use Rattle.tk_core.specs.Fold.{is_accepted, refused_or, fold_of, answer_at, answer, Follows, row_after}
use Rattle.tk_core.specs.History.{accepted, with_call}
use Rattle.tk_core.specs.Laws.Answered.{accepted_push, IsAnswered-push}
use Rattle.tk_core.specs.Laws.Pushed.{last_of_push}
use Rattle.tk_core.specs.Laws.ResourceLaws.{begins}
use Rattle.tk_core.specs.Legal.{own, IsLegal}
use Rattle.tk_core.specs.Lists.{last_of}
use Rattle.tk_core.specs.Op as op_rules
use Rattle.tk_core.specs.Op.{op_kind, made_may, inspector_may, row_of as op_row_of}
use Rattle.tk_core.specs.OpMeaning.{op_meaning}
use Rattle.tk_core.specs.Resource as resource_rules
use Rattle.tk_core.specs.Resource.{resource_kind, IsOpening, row_of as resource_row_of}
use Rattle.tk_cell.specs.declared.view.View.{View}
use Rattle.tk_cell.specs.Roles.{IsOwner}
use Rattle.tk_cell.specs.Views.{Known, as_caller}
use Rattle.tk_cell.specs.Ours.{is_held, ours}
use Rattle.tk_cell.proofs.HistoryLemmas.{prefix_is_legal}
use Rattle.tk_cell.proofs.RoleLemmas.{call_begins}
use Rattle.tk_ledgers.specs.Callers.{CallsAs}
use Rattle.tk_ledgers.proofs.CalledLemmas.{accepted_called}
use Rattle.tk_ledgers.proofs.HeldLemmas.{stands_filtered}
use Rattle.tk_ledgers.proofs.OpPollLemmas.{op_polls}
use Rattle.tk_ledgers.proofs.OwnerLemmas.{OthersMakeNone, picked, same_picked, legal_others, picked_of_owner, list_before, legal_before}
use Rattle.tk_ledgers.proofs.PollLemmas.{at, reply_at, dropped_at}
use Rattle.tk_ledgers.proofs.ToldLemmas.{own_of_ours}
use Rattle.tk_live.specs.Items.{IsOp, KeepsValues, change_in}
use Rattle.tk_live.specs.Pasts.{ResourcePast, OpPast, and_called, resource_values, op_values}
use Rattle.tk_live.specs.Stops.{unless_refused}
use Rattle.tk_live.specs.declared.items.OpItem.{OpItem}
use Rattle.tk_script.specs.declared.stop.Stop.{Stop}
use Rattle.tk_script.specs.declared.stop.Stop.TheVariants.{Call}
use Rattle.tk_live.proofs.Calling.{op_told}

-- ---- the values that calls leave are those that their changes leave

-- a change of this index
abbrev of_index : ℕ → ℕ × AttrOp → Option AttrOp
of_index i c = cond (i == c.0) (Some c.1) None

abbrev change_of_index : ℕ → Option (ℕ × AttrOp) → Option AttrOp
change_of_index i None = None
change_of_index i (Some c) = of_index i c

module _ {C : Type 0} (change_of : ℕ → C → Option AttrOp) (change : C → Option (ℕ × AttrOp)) (agree : (i : ℕ) (call : C) → change_of i call ≡ change_of_index i (change call)) where
  of_changes : (i : ℕ) (calls : List C) → filter_map (change_of i) calls ≡ filter_map (of_index i) (filter_map change calls)
  of_changes i [] = refl
  of_changes i (call ∷ calls) = ap (λ (o : Option AttrOp). cons_option o (filter_map (change_of i) calls)) (agree i call) ∙ go (change call) (of_changes i calls)
    where
      go : (o : Option (ℕ × AttrOp)) → filter_map (change_of i) calls ≡ filter_map (of_index i) (filter_map change calls)
          → cons_option (change_of_index i o) (filter_map (change_of i) calls) ≡ filter_map (of_index i) (cons_option o (filter_map change calls))
      go None rest = rest
      go (Some c) rest = ap (λ (l : List AttrOp). cons_option (of_index i c) l) rest

  pub values_by_changes : (i : ℕ) (firsts : List AttrValue) (xs ys : List C) → filter_map change xs ≡ filter_map change ys → values_from change_of i firsts xs ≡ values_from change_of i firsts ys
  values_by_changes i [] xs ys same = refl
  values_by_changes i (first ∷ firsts) xs ys same =
      let here : filter_map (change_of i) xs ≡ filter_map (change_of i) ys = of_changes i xs ∙ (ap (filter_map (of_index i)) same ∙ sym (of_changes i ys)) in
      ap (λ (l : List AttrOp). value_of first l ∷ values_from change_of (i + 1) firsts xs) here
      ∙ ap (λ (l : List AttrValue). value_of first (filter_map (change_of i) ys) ∷ l) (values_by_changes (i + 1) firsts xs ys same)

-- ---- what an answer to a change says of the stop

-- a change is answered so, where attributes have these values
abbrev pub changed_reply : {Row : Type 0} → ℕ → AttrOp → List AttrValue → Reply Row
changed_reply index change values = refused_or (refused_by (slice_get values index) change) Done

abbrev as_stop : Refusal → Stop
as_stop refusal = Call refusal

pub done_goes : {Row : Type 0} (index : ℕ) (change : AttrOp) (values : List AttrValue) → ◌≡◌ {A = Reply Row} Done (changed_reply index change values) → unless_refused index change values ≡ None
done_goes {Row = Row} index change values e = go (refused_by (slice_get values index) change) e
  where
    go : (o : Option Refusal) → ◌≡◌ {A = Reply Row} Done (refused_or o Done) → option_map as_stop o ≡ None
    go None is = refl
    go (Some r) is = absurd cc

pub refused_stops : {Row : Type 0} (index : ℕ) (change : AttrOp) (values : List AttrValue) (refusal : Refusal) → ◌≡◌ {A = Reply Row} (Refused refusal) (changed_reply index change values)
    → unless_refused index change values ≡ Some (Call refusal)
refused_stops {Row = Row} index change values refusal e = go (refused_by (slice_get values index) change) e
  where
    go : (o : Option Refusal) → ◌≡◌ {A = Reply Row} (Refused refusal) (refused_or o Done) → option_map as_stop o ≡ Some (as_stop refusal)
    go None is = absurd cc
    go (Some r) is = let same : refusal ≡ r = cc in ap (λ (x : Refusal). Some (as_stop x)) (sym same)

-- an answer that is no refusal is that it is done
pub unrefused : {Row : Type 0} (index : ℕ) (change : AttrOp) (values : List AttrValue) (reply : Reply Row) → reply ≡ changed_reply index change values → ((refusal : Refusal) → reply ≡ Refused refusal → ⊥)
    → (unless_refused index change values ≡ None) × (reply ≡ Done)
unrefused {Row = Row} index change values reply e isnt = go (refused_by (slice_get values index) change) e
  where
    go : (o : Option Refusal) → reply ≡ refused_or o Done → (option_map as_stop o ≡ None) × (reply ≡ Done)
    go None is = (refl, is)
    go (Some r) is = absurd (isnt r is)

-- ---- operations, whose owner alone changes attributes

abbrev op_change : OpCall → Option (ℕ × AttrOp)
op_change (op_calls.Attr index change) = Some (index, change)
op_change _ = None

op_changes_agree : (i : ℕ) (call : OpCall) → op_rules.change_of i call ≡ change_of_index i (op_change call)
op_changes_agree i (op_calls.PollStart m) = refl
op_changes_agree i (op_calls.PollEnd m) = refl
op_changes_agree i (op_calls.Close m) = refl
op_changes_agree i (op_calls.SetTask id) = refl
op_changes_agree i (op_calls.Attr index change) = refl
op_changes_agree i op_calls.Enlist = refl
op_changes_agree i op_calls.Read = refl

inspectors_change_none : (call : OpCall) → inspector_may call ≡ true → op_change call ≡ None
inspectors_change_none (op_calls.PollStart m) may = refl
inspectors_change_none (op_calls.PollEnd m) may = refl
inspectors_change_none (op_calls.Close m) may = refl
inspectors_change_none (op_calls.SetTask id) may = refl
inspectors_change_none (op_calls.Attr i change) may = absurd cc
inspectors_change_none op_calls.Enlist may = refl
inspectors_change_none op_calls.Read may = refl

others_change_none : (made call : OpCall) → made_may made call ≡ true → op_change call ≡ None
others_change_none (op_calls.PollStart m) call may = absurd cc
others_change_none (op_calls.PollEnd m) call may = absurd cc
others_change_none (op_calls.Close m) call may = absurd cc
others_change_none (op_calls.SetTask id) call may = absurd cc
others_change_none (op_calls.Attr i change) call may = absurd cc
others_change_none op_calls.Enlist call may = inspectors_change_none call may
others_change_none op_calls.Read call may = absurd cc

op_attrs_of : (opening : OpRow) (h : List (Entry OpCall (Reply OpRow))) → (fold_of op_kind opening h).attrs ≡ values_from op_rules.change_of 0 opening.attrs (accepted is_accepted h)
unfolding fold_of op_row_of
op_attrs_of opening h = refl

-- nobody ends
none_ends : (h : List (Entry OpCall (Reply OpRow))) → list_any (λ (e : Entry OpCall (Reply OpRow)). op_meaning.is_last e.call) h ≡ false
none_ends [] = refl
none_ends (e ∷ h) = none_ends h

change_answer : (row : OpRow) (index : ℕ) (change : AttrOp) → is_some row.dropped ≡ false → answer_at op_kind row (op_calls.Attr index change) ≡ changed_reply index change row.attrs
change_answer row index change unclosed = ap (λ (b : Bool). refused_or (cond b (Some Closed) (refused_by (slice_get row.attrs index) change)) Done) unclosed

module _ (old : OpItem) (new : Known OpRow OpCall (Reply OpRow)) (index : ℕ) (change : AttrOp) (reply : Reply OpRow)
    (k : CallsAs op_meaning old.callers.token 0 (op_calls.Attr index change) reply new) where
  abbrev call : OpCall
  call = op_calls.Attr index change

  abbrev seen_by : View OpRow OpCall (Reply OpRow)
  seen_by = old.callers.token.view

  abbrev v : View OpRow OpCall (Reply OpRow)
  v = as_caller 0 seen_by

  owns : IsOwner op_meaning v
  owns = record { caller = refl; going = none_ends (own 0 seen_by.seen) }

  abbrev row : OpRow
  row = at op_polls v call reply new.view k.made owns

  -- the changes of the whole history are those of the hand
  same_changes : (n : ℕ) (p : OpPast) → IsOp n p old → picked op_meaning op_change others_change_none (v.seen ++ k.made.between) ≡ filter_map op_change p.called
  same_changes n p i =
      let legal : IsLegal op_meaning k.made.opening seen_by.seen = prefix_is_legal op_meaning k.made.opening seen_by.seen new.view.seen (call_begins op_meaning v call reply new.view k.made) k.made.legal in
      let none : OthersMakeNone op_meaning op_change others_change_none (ours seen_by) = λ before later e cut isnt.
      let s = stands_filtered (λ (x : Entry OpCall (Reply OpRow)). is_held seen_by x.caller) seen_by.seen e (before, later, cut) in
      legal_others op_meaning op_change others_change_none k.made.opening seen_by.seen legal s.0.0 s.0.1 e s.0.2 isnt in
      picked_of_owner op_meaning op_change others_change_none k.made.opening (v.seen ++ k.made.between) (legal_before op_meaning v call reply new.view k.made owns)
      ∙ (ap (λ (l : List (Entry OpCall (Reply OpRow))). picked op_meaning op_change others_change_none l) (list_before op_meaning v call reply new.view k.made owns ∙ sym (own_of_ours op_meaning seen_by 0 k.owner_held))
      ∙ (sym (same_picked op_meaning op_change others_change_none (ours seen_by) none)
      ∙ ap (λ (l : List OpCall). filter_map op_change l) (accepted_called op_meaning (1 ∷ []) p.opening p.called seen_by i.called)))

  same_opening : (n : ℕ) (p : OpPast) → IsOp n p old → k.made.opening ≡ p.opening
  same_opening n p i = let both : Some k.made.opening ≡ Some p.opening = sym k.made.opened ∙ i.called.opened in cc

  pub op_change_answered : old.closed ≡ false → (n : ℕ) (p : OpPast) → IsOp n p old → reply ≡ changed_reply index change (op_values p)
  op_change_answered open_yet n p i =
      let unclosed : is_some row.dropped ≡ false = ap (λ (o : Option ℕ). is_some o) (dropped_at op_polls v call reply new.view k.made owns) ∙ (op_told old new 0 call reply k open_yet n p i).1 in
      let values : row.attrs ≡ op_values p = op_attrs_of k.made.opening (v.seen ++ k.made.between)
      ∙ (values_by_changes op_rules.change_of op_change op_changes_agree 0 k.made.opening.attrs (accepted is_accepted (v.seen ++ k.made.between)) p.called (same_changes n p i)
      ∙ ap (λ (o : OpRow). values_from op_rules.change_of 0 o.attrs p.called) (same_opening n p i)) in
      reply_at op_polls v call reply new.view k.made owns ∙ (change_answer row index change unclosed ∙ ap (λ (l : List AttrValue). changed_reply index change l) values)

-- ---- resources, of which the values are kept

resource_changes_agree : (i : ℕ) (call : ResourceCall) → resource_rules.change_of i call ≡ change_of_index i (change_in call)
resource_changes_agree i (resource_calls.Close m) = refl
resource_changes_agree i (resource_calls.Attr index change) = refl
resource_changes_agree i resource_calls.Enlist = refl
resource_changes_agree i resource_calls.Read = refl

resource_attrs_of : (opening : ResourceRow) (h : List (Entry ResourceCall (Reply ResourceRow))) → (fold_of resource_kind opening h).attrs ≡ values_from resource_rules.change_of 0 opening.attrs (accepted is_accepted h)
unfolding fold_of resource_row_of
resource_attrs_of opening h = refl

resource_dropped_of : (opening : ResourceRow) (h : List (Entry ResourceCall (Reply ResourceRow))) → (fold_of resource_kind opening h).dropped ≡ last_of resource_rules.close_at (accepted is_accepted h)
unfolding fold_of resource_row_of
resource_dropped_of opening h = refl

-- a new resource has its first values
pub keeps_first : (p : ResourcePast) (kept : ResourceRow) → kept ≡ p.opening → IsOpening p.opening → filter_map change_in p.called ≡ [] → KeepsValues p kept
unfolding row_after accepted last_of
keeps_first p kept is opens none = record {
  changes = [];
  answered = tt;
  is_row = begins p.opening opens ∙ sym is;
  unclosed = refl;
  same = sym none;
}

-- a call that changes no attribute leaves them
pub keeps_on : (p : ResourcePast) (kept : ResourceRow) (call : ResourceCall) → change_in call ≡ None → KeepsValues p kept → KeepsValues (and_called (call ∷ []) p) kept
keeps_on p kept call none k = record {
  changes = k.changes;
  answered = k.answered;
  is_row = k.is_row;
  unclosed = k.unclosed;
  same = k.same ∙ sym (filter_map-append change_in p.called (call ∷ []) ∙ (ap (λ (o : Option (ℕ × AttrOp)). filter_map change_in p.called ++ cons_option o []) none ∙ append-nil (filter_map change_in p.called)));
}

module _ (p : ResourcePast) (row : ResourceRow) (index : ℕ) (change : AttrOp) (next : ResourceRow × Reply ResourceRow) (follows : Follows resource_kind row (resource_calls.Attr index change) next) (k : KeepsValues p row) where
  abbrev the_call : ResourceCall
  the_call = resource_calls.Attr index change

  stepped : next ≡ (fold_of resource_kind p.opening (with_call (answer resource_kind p.opening) k.changes 0 the_call), answer resource_kind p.opening k.changes the_call)
  stepped = follows p.opening k.changes 0 k.answered k.is_row

  answers : answer resource_kind p.opening k.changes the_call ≡ changed_reply index change (resource_values p)
  answers =
      let at_then : ResourceRow = fold_of resource_kind p.opening k.changes in
      let unclosed : is_some at_then.dropped ≡ false = ap (λ (o : Option ℕ). is_some o) (resource_dropped_of p.opening k.changes ∙ k.unclosed) in
      let values : at_then.attrs ≡ resource_values p = resource_attrs_of p.opening k.changes ∙ values_by_changes resource_rules.change_of change_in resource_changes_agree 0 p.opening.attrs (accepted is_accepted k.changes) p.called k.same in
      ap (λ (b : Bool). refused_or (cond b (Some Closed) (refused_by (slice_get at_then.attrs index) change)) Done) unclosed
      ∙ ap (λ (l : List AttrValue). changed_reply index change l) values

  pub kept_answer : next.1 ≡ changed_reply index change (resource_values p)
  kept_answer = ap (λ (s : ResourceRow × Reply ResourceRow). s.1) stepped ∙ answers

  -- and a change that isn't refused makes the next ones
  pub keeps_changed : next.1 ≡ Done → KeepsValues (and_called (the_call ∷ []) p) next.0
  keeps_changed done =
      let e : Entry ResourceCall (Reply ResourceRow) = record { caller = 0; call = the_call; reply = answer resource_kind p.opening k.changes the_call } in
      let accepts : is_accepted e.reply ≡ true = ap (λ (r : Reply ResourceRow). is_accepted r) (sym (ap (λ (s : ResourceRow × Reply ResourceRow). s.1) stepped) ∙ done) in
      let pushed : accepted is_accepted (k.changes ++ e ∷ []) ≡ accepted is_accepted k.changes ++ the_call ∷ [] = accepted_push is_accepted k.changes e ∙ ap (λ (b : Bool). accepted is_accepted k.changes ++ cond b (the_call ∷ []) []) accepts in
      record {
        changes = k.changes ++ e ∷ [];
        answered = IsAnswered-push (answer resource_kind p.opening) k.changes 0 the_call k.answered;
        is_row = sym (ap (λ (s : ResourceRow × Reply ResourceRow). s.0) stepped);
        unclosed = ap (λ (l : List ResourceCall). last_of resource_rules.close_at l) pushed ∙ (last_of_push resource_rules.close_at (accepted is_accepted k.changes) the_call ∙ k.unclosed);
        same = ap (λ (l : List ResourceCall). filter_map change_in l) pushed
            ∙ (filter_map-append change_in (accepted is_accepted k.changes) (the_call ∷ [])
            ∙ (ap (λ (l : List (ℕ × AttrOp)). l ++ (index, change) ∷ []) k.same ∙ sym (filter_map-append change_in p.called (the_call ∷ []))));
      }
