-- A handle's role: what it allows, and that calls, splits and joins keep it.
use Rattle.std.proofs.Common.{◌≡◌, ℕ, true, false, Some, ◌++◌, ⊎_elim, ap, sym, ◌∙◌, subst}
use Rattle.tk_core.specs.declared.reply.Refusal.TheVariants.{HandlesSpent}
use Rattle.tk_core.specs.declared.reply.Reply.{Reply}
use Rattle.tk_core.specs.declared.reply.Reply.TheVariants.{Number, Refused}
use Rattle.tk_core.specs.Meaning.{Meaning, NumbersAreNew}
use Rattle.tk_core.specs.History.{calls_of}
use Rattle.tk_core.specs.Legal.{may_call, has_ended}
use Rattle.tk_cell.specs.declared.view.View.{View}
use Rattle.tk_cell.specs.Views.{after_split, split_off}
use Rattle.tk_cell.specs.Calls.{Calls, Joins, Meets}
use Rattle.tk_cell.specs.Ours.{CallsBeside}
use Rattle.tk_cell.proofs.RoleLemmas.{owner_role, made_role, owner_calls, made_calls, owner_after_split, made_after_split, owner_joins, made_joins, drawn_made, call_reply, first_caller, first_begins, first_mine, second_caller, second_begins, second_mine, later_owner, later_made}
use Rattle.tk_ledgers.specs.Handles.{Caller, owner, made_by, role_may, HasRole, Gives, IsDrawing, IsReading, IsWake}

module _ {O C R : Type 0} (m : Meaning O C R) where
  pub allowed : (role : Caller C) (v : View O C R) (call : C) → HasRole m role v → role_may m role call ≡ true → may_call m v.seen v.caller call ≡ true
  allowed owner v call has may = owner_role m v call has may
  allowed (made_by made) v call has may = made_role m made v call has may

  pub going : (role : Caller C) (v : View O C R) → HasRole m role v → has_ended m v.seen v.caller ≡ false
  going owner v has = has.going
  going (made_by made) v has = has.going

  pub role_calls : (role : Caller C) (v : View O C R) (call : C) (reply : R) (w : View O C R) → Calls m v call reply w → m.is_last call ≡ false → HasRole m role v → HasRole m role w
  role_calls owner v call reply w k isnt has = owner_calls m v call reply w k isnt has
  role_calls (made_by made) v call reply w k isnt has = made_calls m v call reply w k made isnt has

  pub role_after_split : (role : Caller C) (v : View O C R) (n : ℕ) → HasRole m role v → HasRole m role (after_split n v)
  role_after_split owner v n has = owner_after_split m v n has
  role_after_split (made_by made) v n has = made_after_split m made v n has

  pub role_joins : (role : Caller C) (v other w : View O C R) → Joins m v other w → HasRole m role v → HasRole m role w
  role_joins owner v other w k has = owner_joins m v other w k has
  role_joins (made_by made) v other w k has = made_joins m v other w k made has

  role_meets : (role : Caller C) (v q w u : View O C R) → Meets m v q w u → HasRole m role q → HasRole m role u
  role_meets owner v q w u k has = later_owner m q u (second_caller m v q w u k) (second_begins m v q w u k) (second_mine m v q w u k) has
  role_meets (made_by made) v q w u k has = later_made m q u (second_caller m v q w u k) (second_begins m v q w u k) (second_mine m v q w u k) made has

  -- beside another token
  pub role_beside : (role : Caller C) (v q w u : View O C R) (call : C) (reply : R) → CallsBeside m v q call reply w u → m.is_last call ≡ false → HasRole m role q → HasRole m role u
  role_beside role v q w u call reply k isnt has =
      role_meets role k.v_met k.q_called w u k.again (role_calls role k.q_met call reply k.q_called k.entry isnt (role_meets role v q k.v_met k.q_met k.before has))

  role_stays : (role : Caller C) (v q w u : View O C R) → Meets m v q w u → HasRole m role v → HasRole m role w
  role_stays owner v q w u k has = later_owner m v w (first_caller m v q w u k) (first_begins m v q w u k) (first_mine m v q w u k) has
  role_stays (made_by made) v q w u k has = later_made m v w (first_caller m v q w u k) (first_begins m v q w u k) (first_mine m v q w u k) made has

  -- and of that other token
  pub role_lends : (role : Caller C) (v q w u : View O C R) (call : C) (reply : R) → CallsBeside m v q call reply w u → HasRole m role v → HasRole m role w
  role_lends role v q w u call reply k has = role_stays role k.v_met k.q_called w u k.again (role_stays role v q k.v_met k.q_met k.before has)

  -- the caller of a number that was drawn has the role that the drawing call gives
  pub drawn_role : (role : Caller C) (v : View O C R) (call : C) (reply : R) (w : View O C R) → Calls m v call reply w → NumbersAreNew m → role ≡ made_by call → (n : ℕ) → m.number reply ≡ Some n → HasRole m role (split_off n w)
  drawn_role role v call reply w k law is n drawn = subst (λ (o : Caller C). HasRole m o (split_off n w)) (sym is) (drawn_made m v call reply w k n drawn law)

module _ {Row C : Type 0} (m : Meaning Row C (Reply Row)) where
  -- the number that a drawing call is answered is the reply's
  pub drawn_number : (v : View Row C (Reply Row)) (call : C) (n : ℕ) (w : View Row C (Reply Row)) → Calls m v call (Number n) w → Gives m (IsDrawing m) call → m.number (Number n) ≡ Some n
  drawn_number v call n w k draws =
      let is = call_reply m v call (Number n) w k in
      ⊎_elim
      (λ (d : (j : ℕ) × (m.reply_after k.opening (calls_of (v.seen ++ k.between)) call ≡ Number j) × (m.number (m.reply_after k.opening (calls_of (v.seen ++ k.between)) call) ≡ Some j)).
      let same : n ≡ d.0 = cc (is, d.1) in ap m.number is ∙ (d.2 ∙ ap (λ (j : ℕ). Some j) (sym same)))
      (λ (spent : m.reply_after k.opening (calls_of (v.seen ++ k.between)) call ≡ Refused HandlesSpent). absurd cc)
      (draws k.opening (calls_of (v.seen ++ k.between)))

  -- the reply to a call that was made has the form that it has wherever the call is made
  pub reply_form : (Form : Reply Row → Type 0) (v : View Row C (Reply Row)) (call : C) (reply : Reply Row) (w : View Row C (Reply Row)) → Gives m Form call → Calls m v call reply w → Form reply
  reply_form Form v call reply w form k = subst Form (sym (call_reply m v call reply w k)) (form k.opening (calls_of (v.seen ++ k.between)))

  pub reads : (v : View Row C (Reply Row)) (call : C) (reply : Reply Row) (w : View Row C (Reply Row)) → Gives m IsReading call → Calls m v call reply w → IsReading reply
  reads v call reply w form k = reply_form IsReading v call reply w form k

  pub wakes : (v : View Row C (Reply Row)) (call : C) (reply : Reply Row) (w : View Row C (Reply Row)) → Gives m IsWake call → Calls m v call reply w → IsWake reply
  wakes v call reply w form k = reply_form IsWake v call reply w form k
