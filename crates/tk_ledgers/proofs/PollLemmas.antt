-- Items that their owner alone polls and closes, as tasks and async operations are: the owner's own list tells what these calls are answered.
use Rattle.std.proofs.Common.{◌≡◌, ℕ, Bool, true, false, cond, if◌then◌else◌, List, [], ◌++◌, Option, Some, None, Result, Ok, Err, OnOk, IfErr, refl, ap, sym, ◌∙◌, subst}
use Rattle.std.specs.Prelude.{unwrap_or}
use Rattle.std.specs.Option.{option_or}
use Rattle.tk_core.specs.declared.history.Entry.{Entry}
use Rattle.tk_core.specs.declared.reply.Refusal.{Refusal}
use Rattle.tk_core.specs.declared.reply.Refusal.TheVariants.{AlreadyPolling, NotPolling, Closed, HandlesSpent, NoAttribute, WrongKind, OutOfRange, Memory}
use Rattle.tk_core.specs.declared.reply.Reply.{Reply}
use Rattle.tk_core.specs.declared.reply.Reply.TheVariants.{Done, Number, Refused}
use Rattle.tk_core.specs.Lists.{last_of}
use Rattle.tk_core.specs.Polls.{starts_or_ends, is_polling}
use Rattle.tk_core.specs.History.{accepted, calls_of}
use Rattle.tk_core.specs.Fold.{Kind, is_accepted, fold_of, answer_at}
use Rattle.tk_core.specs.Meaning.{Meaning}
use Rattle.tk_core.specs.Legal.{own, IsLegal}
use Rattle.tk_cell.specs.declared.view.View.{View}
use Rattle.tk_cell.specs.Views.{Known}
use Rattle.tk_cell.specs.Calls.{Calls}
use Rattle.tk_cell.specs.Roles.{IsOwner}
use Rattle.tk_cell.proofs.RoleLemmas.{call_reply}
use Rattle.tk_ledgers.specs.Handles.{Drew, NotDrawn}
use Rattle.tk_ledgers.proofs.OwnerLemmas.{legal_before, last_before, last_after}

-- what an item says of its polls and its close
pub record Polled {Row C : Type 0} (m : Meaning Row C (Reply Row)) : Type 0 where
  pub kind : Kind Row C
  -- the calls, and at which moment a call is one
  pub start : ℕ → C
  pub end : ℕ → C
  pub close : ℕ → C
  pub start_at : C → Option ℕ
  pub end_at : C → Option ℕ
  pub close_at : C → Option ℕ
  pub starts : (at : ℕ) → (starts_or_ends start_at end_at (start at) ≡ Some true) × (close_at (start at) ≡ None)
  pub ends : (at : ℕ) → (starts_or_ends start_at end_at (end at) ≡ Some false) × (close_at (end at) ≡ None)
  -- nobody but the owner makes them
  pub made_quiet : (made call : C) → m.made_may made call ≡ true → (starts_or_ends start_at end_at call ≡ None) × (close_at call ≡ None)
  -- the row tells whether a poll is open, and when the item was closed
  pub polling : Row → Bool
  pub dropped : Row → Option ℕ
  pub polling_is : (opening : Row) (h : List (Entry C (Reply Row))) → polling (fold_of kind opening h) ≡ is_polling start_at end_at (accepted is_accepted h)
  pub dropped_is : (opening : Row) (h : List (Entry C (Reply Row))) → dropped (fold_of kind opening h) ≡ last_of close_at (accepted is_accepted h)
  -- replies are the answers of the row, and these are those of a row that isn't closed
  pub replies : (opening : Row) (h : List (Entry C (Reply Row))) (call : C) → IsLegal m opening h → m.reply_after opening (calls_of h) call ≡ answer_at kind (fold_of kind opening h) call
  pub start_answer : (row : Row) (at : ℕ) (b : Bool) → dropped row ≡ None → polling row ≡ b → answer_at kind row (start at) ≡ (if b then Refused AlreadyPolling else Done)
  pub end_answer : (row : Row) (at : ℕ) (b : Bool) → dropped row ≡ None → polling row ≡ b → answer_at kind row (end at) ≡ (if b then Done else Refused NotPolling)
  pub close_answer : (row : Row) (at : ℕ) (b : Bool) → dropped row ≡ None → polling row ≡ b → answer_at kind row (close at) ≡ (if b then Refused AlreadyPolling else Done)

module _ {Row C : Type 0} {m : Meaning Row C (Reply Row)} (p : Polled m) where
  abbrev Seen : Type 0
  Seen = View Row C (Reply Row)

  abbrev done : Reply Row
  done = Done

  abbrev not_done : Refusal → Reply Row
  not_done r = Refused r

  abbrev poll_of : C → Option Bool
  poll_of call = starts_or_ends p.start_at p.end_at call

  -- a call that neither polls nor closes
  abbrev pub IsQuiet : C → Type 0
  IsQuiet call = (poll_of call ≡ None) × (p.close_at call ≡ None)

  -- the owner's calls that were accepted
  abbrev owned : Seen → List C
  owned v = accepted is_accepted (own 0 v.seen)

  -- what an owner keeps of its view: whether a poll is open, and that it hasn't closed the item
  abbrev pub Keeps : Seen → Bool → Type 0
  Keeps v polling = (is_polling p.start_at p.end_at (owned v) ≡ polling) × (last_of p.close_at (owned v) ≡ None)

  module _ (v : Seen) (call : C) (reply : Reply Row) (w : Seen) (k : Calls m v call reply w) (o : IsOwner m v) where
    -- the row at the call
    abbrev pub at : Row
    at = fold_of p.kind k.opening (v.seen ++ k.between)

    pub reply_at : reply ≡ answer_at p.kind at call
    reply_at = call_reply m v call reply w k ∙ p.replies k.opening (v.seen ++ k.between) call (legal_before m v call reply w k o)

    pub polling_at : p.polling at ≡ is_polling p.start_at p.end_at (owned v)
    polling_at = p.polling_is k.opening (v.seen ++ k.between)
        ∙ ap (λ (x : Option Bool). unwrap_or x false) (last_before m poll_of (λ made c may. (p.made_quiet made c may).0) v call reply w k o)

    pub dropped_at : p.dropped at ≡ last_of p.close_at (owned v)
    dropped_at = p.dropped_is k.opening (v.seen ++ k.between) ∙ last_before m p.close_at (λ made c may. (p.made_quiet made c may).1) v call reply w k o

    pub polling_then : is_polling p.start_at p.end_at (owned w) ≡ unwrap_or (option_or (cond (is_accepted reply) (poll_of call) None) (last_of poll_of (owned v))) false
    polling_then = ap (λ (x : Option Bool). unwrap_or x false) (last_after m poll_of (λ made c may. (p.made_quiet made c may).0) v call reply w k o)

    closed_then : last_of p.close_at (owned w) ≡ option_or (cond (is_accepted reply) (p.close_at call) None) (last_of p.close_at (owned v))
    closed_then = last_after m p.close_at (λ made c may. (p.made_quiet made c may).1) v call reply w k o

    -- a call that is refused, or neither polls nor closes, leaves what the owner keeps
    pub kept : IsQuiet call → (polling : Bool) → Keeps v polling → Keeps w polling
    kept quiet polling keeps = (
      polling_then ∙ (go (is_accepted reply) (poll_of call) (last_of poll_of (owned v)) quiet.0 ∙ keeps.0),
      closed_then ∙ (none (is_accepted reply) (p.close_at call) (last_of p.close_at (owned v)) quiet.1 ∙ keeps.1),
    )
      where
        go : (b : Bool) (x y : Option Bool) → x ≡ None → unwrap_or (option_or (cond b x None) y) false ≡ unwrap_or y false
        go true x y is = rw is refl
        go false x y is = refl

        none : (b : Bool) (x y : Option ℕ) → x ≡ None → option_or (cond b x None) y ≡ y
        none true x y is = rw is refl
        none false x y is = refl

    pub kept_refused : is_accepted reply ≡ false → (polling : Bool) → Keeps v polling → Keeps w polling
    kept_refused refused polling keeps = (
      polling_then ∙ (ap (λ (b : Bool). unwrap_or (option_or (cond b (poll_of call) None) (last_of poll_of (owned v))) false) refused ∙ keeps.0),
      closed_then ∙ (ap (λ (b : Bool). option_or (cond b (p.close_at call) None) (last_of p.close_at (owned v))) refused ∙ keeps.1),
    )

    -- a call that starts a poll or ends one, and is done
    polls : (b : Bool) → (poll_of call ≡ Some b) × (p.close_at call ≡ None) → reply ≡ done → last_of p.close_at (owned v) ≡ None → Keeps w b
    polls b is accepts unclosed_yet = (
      polling_then ∙ (ap (λ (r : Reply Row). unwrap_or (option_or (cond (is_accepted r) (poll_of call) None) (last_of poll_of (owned v))) false) accepts
          ∙ ap (λ (x : Option Bool). unwrap_or (option_or x (last_of poll_of (owned v))) false) is.0),
      closed_then ∙ (ap (λ (r : Reply Row). option_or (cond (is_accepted r) (p.close_at call) None) (last_of p.close_at (owned v))) accepts
          ∙ (ap (λ (x : Option ℕ). option_or x (last_of p.close_at (owned v))) is.1 ∙ unclosed_yet)),
    )

    answer_started : (moment : ℕ) → call ≡ p.start moment → (polling : Bool) → Keeps v polling → reply ≡ (if polling then not_done AlreadyPolling else Done)
    answer_started moment is polling keeps = reply_at ∙ (ap (λ (c : C). answer_at p.kind at c) is ∙ p.start_answer at moment polling (dropped_at ∙ keeps.1) (polling_at ∙ keeps.0))

    answer_ended : (moment : ℕ) → call ≡ p.end moment → (polling : Bool) → Keeps v polling → reply ≡ (if polling then Done else not_done NotPolling)
    answer_ended moment is polling keeps = reply_at ∙ (ap (λ (c : C). answer_at p.kind at c) is ∙ p.end_answer at moment polling (dropped_at ∙ keeps.1) (polling_at ∙ keeps.0))

    answer_closed : (moment : ℕ) → call ≡ p.close moment → (polling : Bool) → Keeps v polling → reply ≡ (if polling then not_done AlreadyPolling else Done)
    answer_closed moment is polling keeps = reply_at ∙ (ap (λ (c : C). answer_at p.kind at c) is ∙ p.close_answer at moment polling (dropped_at ∙ keeps.1) (polling_at ∙ keeps.0))

  -- a call that an open poll forbids, done or refused
  idle : (b : Bool) → done ≡ (if b then not_done AlreadyPolling else Done) → b ≡ false
  idle true e = absurd cc
  idle false e = refl

  busy : (r : Refusal) (b : Bool) → not_done r ≡ (if b then not_done AlreadyPolling else Done) → (b ≡ true) × (r ≡ AlreadyPolling)
  busy r true e = (refl, cc)
  busy r false e = absurd cc

  -- a start of a poll that is done, and one that is refused
  pub started : (v : Seen) (moment : ℕ) (w : Seen) → Calls m v (p.start moment) Done w → IsOwner m v → (polling : Bool) → Keeps v polling → (polling ≡ false) × Keeps w true
  started v moment w k o polling keeps = (
    idle polling (answer_started v (p.start moment) Done w k o moment refl polling keeps),
    polls v (p.start moment) Done w k o true (p.starts moment) refl keeps.1,
  )

  pub unstarted : (v : Seen) (moment : ℕ) (r : Refusal) (w : Seen) → Calls m v (p.start moment) (Refused r) w → IsOwner m v → (polling : Bool) → Keeps v polling → (polling ≡ true) × (r ≡ AlreadyPolling)
  unstarted v moment r w k o polling keeps = busy r polling (answer_started v (p.start moment) (Refused r) w k o moment refl polling keeps)

  -- an end of a poll that is done, and one that is refused
  pub ended : (v : Seen) (moment : ℕ) (w : Seen) → Calls m v (p.end moment) Done w → IsOwner m v → (polling : Bool) → Keeps v polling → (polling ≡ true) × Keeps w false
  ended v moment w k o polling keeps = (
    go polling (answer_ended v (p.end moment) Done w k o moment refl polling keeps),
    polls v (p.end moment) Done w k o false (p.ends moment) refl keeps.1,
  )
    where
      go : (b : Bool) → done ≡ (if b then Done else not_done NotPolling) → b ≡ true
      go true e = refl
      go false e = absurd cc

  pub unended : (v : Seen) (moment : ℕ) (r : Refusal) (w : Seen) → Calls m v (p.end moment) (Refused r) w → IsOwner m v → (polling : Bool) → Keeps v polling → (polling ≡ false) × (r ≡ NotPolling)
  unended v moment r w k o polling keeps = go polling (answer_ended v (p.end moment) (Refused r) w k o moment refl polling keeps)
    where
      go : (b : Bool) → not_done r ≡ (if b then Done else not_done NotPolling) → (b ≡ false) × (r ≡ NotPolling)
      go true e = absurd cc
      go false e = (refl, cc)

  -- a close that is done, and one that is refused
  pub closed : (v : Seen) (moment : ℕ) (w : Seen) → Calls m v (p.close moment) Done w → IsOwner m v → (polling : Bool) → Keeps v polling → polling ≡ false
  closed v moment w k o polling keeps = idle polling (answer_closed v (p.close moment) Done w k o moment refl polling keeps)

  pub unclosed : (v : Seen) (moment : ℕ) (r : Refusal) (w : Seen) → Calls m v (p.close moment) (Refused r) w → IsOwner m v → (polling : Bool) → Keeps v polling → (polling ≡ true) × (r ≡ AlreadyPolling)
  unclosed v moment r w k o polling keeps = busy r polling (answer_closed v (p.close moment) (Refused r) w k o moment refl polling keeps)

  -- a new item isn't polled
  pub none_yet : (v : Seen) → v.seen ≡ [] → Keeps v false
  unfolding accepted last_of
  none_yet v is = rw is (refl, refl)

  -- a call that is done or refused, and neither polls nor closes
  pub kept_attempt : (v : Seen) (call : C) (result : Result (Unit {0}) Refusal) (w : Seen) → OnOk result (Calls m v call Done w) → IfErr result (λ r. Calls m v call (Refused r) w)
      → IsOwner m v → IsQuiet call → (polling : Bool) → Keeps v polling → Keeps w polling
  kept_attempt v call (Ok x) w ok err o quiet polling keeps = kept v call Done w ok o quiet polling keeps
  kept_attempt v call (Err r) w ok err o quiet polling keeps = kept v call (Refused r) w err o quiet polling keeps

  -- a handle that was drawn, or wasn't
  pub kept_drawn : (old : Known Row C (Reply Row)) (call : C) (new made : Known Row C (Reply Row)) → Drew m old call new made → IsOwner m old.view → IsQuiet call → (polling : Bool) → Keeps old.view polling → Keeps new.view polling
  kept_drawn old call new made d o quiet polling keeps = subst (λ (t : Known Row C (Reply Row)). Keeps t.view polling) (sym d.kept) (kept old.view call (Number d.number) d.view d.entry o quiet polling keeps)

  pub kept_not_drawn : (old : Known Row C (Reply Row)) (call : C) (r : Refusal) (new : Known Row C (Reply Row)) → NotDrawn m old call r new → IsOwner m old.view → (polling : Bool) → Keeps old.view polling → Keeps new.view polling
  kept_not_drawn old call Memory new is o polling keeps = subst (λ (t : Known Row C (Reply Row)). Keeps t.view polling) (sym is) keeps
  kept_not_drawn old call HandlesSpent new k o polling keeps = kept_refused old.view call (Refused HandlesSpent) new.view k.1 o refl polling keeps
  kept_not_drawn old call AlreadyPolling new none o polling keeps = absurd none
  kept_not_drawn old call NotPolling new none o polling keeps = absurd none
  kept_not_drawn old call Closed new none o polling keeps = absurd none
  kept_not_drawn old call NoAttribute new none o polling keeps = absurd none
  kept_not_drawn old call WrongKind new none o polling keeps = absurd none
  kept_not_drawn old call OutOfRange new none o polling keeps = absurd none
