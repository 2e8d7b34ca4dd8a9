-- A resource is closed by its owner alone, who makes no call after it.
use Rattle.std.proofs.Common.{◌≡◌, ℕ, true, cond, if◌then◌else◌, [], Option, Some, None, Result, Ok, Err, OnOk, IfErr, refl, ap, sym, ◌∙◌, subst}
use Rattle.std.specs.Prelude.{is_some}
use Rattle.std.specs.Option.{option_or}
use Rattle.std.proofs.Common.{Bool, false, ◌++◌}
use Rattle.tk_core.specs.declared.reply.Refusal.{Refusal}
use Rattle.tk_core.specs.declared.reply.Refusal.TheVariants.{AlreadyPolling, NotPolling, Closed, HandlesSpent, NoAttribute, WrongKind, OutOfRange, Memory}
use Rattle.tk_core.specs.declared.reply.Reply.{Reply}
use Rattle.tk_core.specs.declared.reply.Reply.TheVariants.{Done, Number, Refused}
use Rattle.tk_core.specs.declared.resource.row.ResourceRow.{ResourceRow}
use Rattle.tk_core.specs.declared.resource.call.ResourceCall.{ResourceCall}
use Rattle.tk_core.specs.declared.resource.call.ResourceCall.TheVariants.{Close, Attr, Enlist, Read}
use Rattle.tk_core.specs.Lists.{last_of}
use Rattle.tk_core.specs.History.{accepted}
use Rattle.tk_core.specs.Fold.{is_accepted, refused_or, fold_of, answer_at, row_after, reply_after}
use Rattle.tk_core.specs.Legal.{own}
use Rattle.tk_core.specs.Resource.{close_at, row_of, resource_kind, made_may, user_may}
use Rattle.tk_core.specs.ResourceMeaning.{resource_meaning}
use Rattle.tk_core.specs.Laws.ResourceLaws.{legal_fold}
use Rattle.tk_cell.specs.declared.view.View.{View}
use Rattle.tk_cell.specs.Views.{Known, as_caller}
use Rattle.tk_cell.specs.Calls.{Calls}
use Rattle.tk_cell.specs.Roles.{IsOwner}
use Rattle.tk_cell.proofs.RoleLemmas.{call_reply}
use Rattle.tk_ledgers.specs.Callers.{CallsAs}
use Rattle.tk_ledgers.specs.Handles.{Caller, Drew, NotDrawn}
use Rattle.tk_ledgers.specs.Hands.{IsHand}
use Rattle.tk_ledgers.proofs.OwnerLemmas.{legal_before, last_before, last_after}

abbrev Seen : Type 0
Seen = View ResourceRow ResourceCall (Reply ResourceRow)

user_open : (call : ResourceCall) → user_may call ≡ true → close_at call ≡ None
user_open (Close m) may = absurd cc
user_open (Attr i change) may = refl
user_open Enlist may = refl
user_open Read may = refl

pub made_open : (made call : ResourceCall) → made_may made call ≡ true → close_at call ≡ None
made_open (Close m) call may = absurd cc
made_open (Attr i change) call may = absurd cc
made_open Enlist call may = user_open call may
made_open Read call may = absurd cc

-- what an owner keeps of its view: it hasn't closed the resource
abbrev pub Keeps : Seen → Type 0
Keeps v = last_of close_at (accepted is_accepted (own 0 v.seen)) ≡ None

module _ (v : Seen) (call : ResourceCall) (reply : Reply ResourceRow) (w : Seen) (k : Calls resource_meaning v call reply w) (o : IsOwner resource_meaning v) where
  -- the row at the call
  abbrev at : ResourceRow
  at = fold_of resource_kind k.opening (v.seen ++ k.between)

  reply_at : reply ≡ answer_at resource_kind at call
  unfolding reply_after row_after
  reply_at = call_reply resource_meaning v call reply w k ∙ ap (λ (row : ResourceRow). answer_at resource_kind row call) (sym (legal_fold k.opening (v.seen ++ k.between) (legal_before resource_meaning v call reply w k o)))

  dropped_at : at.dropped ≡ last_of close_at (accepted is_accepted (own 0 v.seen))
  unfolding fold_of row_of
  dropped_at = last_before resource_meaning close_at made_open v call reply w k o

  -- a call that doesn't close leaves what the owner keeps
  pub kept : close_at call ≡ None → Keeps v → Keeps w
  kept quiet keeps = last_after resource_meaning close_at made_open v call reply w k o ∙ (none (is_accepted reply) (close_at call) (last_of close_at (accepted is_accepted (own 0 v.seen))) quiet ∙ keeps)
    where
      none : (b : Bool) (x y : Option ℕ) → x ≡ None → option_or (cond b x None) y ≡ y
      none true x y is = rw is refl
      none false x y is = refl

-- its close is done
pub is_closed : (v : Seen) (m : ℕ) (reply : Reply ResourceRow) (w : Seen) → Calls resource_meaning v (Close m) reply w → IsOwner resource_meaning v → Keeps v → reply ≡ Done
is_closed v m reply w k o keeps = reply_at v (Close m) reply w k o ∙ answers (at v (Close m) reply w k o) (dropped_at v (Close m) reply w k o ∙ keeps)
  where
    answers : (row : ResourceRow) → row.dropped ≡ None → answer_at resource_kind row (Close m) ≡ Done
    answers row d = rw d refl

-- a new resource isn't closed
pub none_yet : (v : Seen) → v.seen ≡ [] → Keeps v
unfolding accepted last_of
none_yet v is = rw is refl

-- a handle that was drawn, or wasn't
pub kept_drawn : (old : Known ResourceRow ResourceCall (Reply ResourceRow)) (call : ResourceCall) (new made : Known ResourceRow ResourceCall (Reply ResourceRow)) → Drew resource_meaning old call new made → IsOwner resource_meaning old.view → close_at call ≡ None → Keeps old.view → Keeps new.view
kept_drawn old call new made d o quiet keeps = subst (λ (t : Known ResourceRow ResourceCall (Reply ResourceRow)). Keeps t.view) (sym d.kept) (kept old.view call (Number d.number) d.view d.entry o quiet keeps)

pub kept_not_drawn : (old : Known ResourceRow ResourceCall (Reply ResourceRow)) (call : ResourceCall) (r : Refusal) (new : Known ResourceRow ResourceCall (Reply ResourceRow)) → NotDrawn resource_meaning old call r new → IsOwner resource_meaning old.view → close_at call ≡ None → Keeps old.view → Keeps new.view
kept_not_drawn old call Memory new is o quiet keeps = subst (λ (t : Known ResourceRow ResourceCall (Reply ResourceRow)). Keeps t.view) (sym is) keeps
kept_not_drawn old call HandlesSpent new k o quiet keeps = kept old.view call (Refused HandlesSpent) new.view k.1 o quiet keeps
kept_not_drawn old call AlreadyPolling new none o quiet keeps = absurd none
kept_not_drawn old call NotPolling new none o quiet keeps = absurd none
kept_not_drawn old call Closed new none o quiet keeps = absurd none
kept_not_drawn old call NoAttribute new none o quiet keeps = absurd none
kept_not_drawn old call WrongKind new none o quiet keeps = absurd none
kept_not_drawn old call OutOfRange new none o quiet keeps = absurd none

-- a close in a hand is refused where its owner has closed the resource
close_answer : (row : ResourceRow) (m : ℕ) → answer_at resource_kind row (Close m) ≡ refused_or (if is_some row.dropped then Some Closed else None) Done
close_answer row m = refl

abbrev closed_in : Seen → Bool
closed_in v = is_some (last_of close_at (accepted is_accepted (own 0 v.seen)))

module _ (role : Caller ResourceCall) (old new : Known ResourceRow ResourceCall (Reply ResourceRow)) (hand : IsHand resource_meaning role old.view) (m : ℕ) where
  answered : (reply : Reply ResourceRow) → CallsAs resource_meaning old 0 (Close m) reply new → reply ≡ refused_or (if closed_in old.view then Some Closed else None) Done
  answered reply k =
      let o : IsOwner resource_meaning (as_caller 0 old.view) = record { caller = refl; going = hand.owner_goes_on } in
      reply_at (as_caller 0 old.view) (Close m) reply new.view k.made o
      ∙ (close_answer (at (as_caller 0 old.view) (Close m) reply new.view k.made o) m
      ∙ ap (λ (d : Option ℕ). refused_or (if is_some d then Some Closed else None) Done) (dropped_at (as_caller 0 old.view) (Close m) reply new.view k.made o))

  not_closed : (b : Bool) → ◌≡◌ {A = Reply ResourceRow} Done (refused_or (if b then Some Closed else None) Done) → b ≡ false
  not_closed true e = absurd cc
  not_closed false e = refl

  was_closed : (b : Bool) (r : Refusal) → ◌≡◌ {A = Reply ResourceRow} (Refused r) (refused_or (if b then Some Closed else None) Done) → (r ≡ Closed) × (b ≡ true)
  was_closed true r e = (cc, refl)
  was_closed false r e = absurd cc

  pub hand_closed : (result : Result (Unit {0}) Refusal) → OnOk result (CallsAs resource_meaning old 0 (Close m) Done new) → OnOk result ((closed_in old.view ≡ false) × CallsAs resource_meaning old 0 (Close m) Done new)
  hand_closed (Ok x) ok = (not_closed (closed_in old.view) (answered Done ok), ok)
  hand_closed (Err r) ok = ok

  pub hand_not_closed : (result : Result (Unit {0}) Refusal) → IfErr result (λ r. CallsAs resource_meaning old 0 (Close m) (Refused r) new)
      → IfErr result (λ r. (r ≡ Closed) × (closed_in old.view ≡ true) × CallsAs resource_meaning old 0 (Close m) (Refused Closed) new)
  hand_not_closed (Ok x) err = err
  hand_not_closed (Err r) err =
      let is = was_closed (closed_in old.view) r (answered (Refused r) err) in
      (is.0, is.1, subst (λ (s : Refusal). CallsAs resource_meaning old 0 (Close m) (Refused s) new) is.0 err)
