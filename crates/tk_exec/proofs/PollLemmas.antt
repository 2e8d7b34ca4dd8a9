-- One poll, from its parts.
use Rattle.std.proofs.Common.{◌≡◌, ℕ, false, [], ◌∷◌, Option, Some, None, subst, refl, ap, sym, ◌∙◌}
use Rattle.futures.specs.declared.task.Poll.TheVariants.{Ready, Pending}
use Rattle.tk_core.specs.declared.reply.Reply.TheVariants.{Done, Shown}
use Rattle.tk_core.specs.declared.task.call.TaskCall.TheVariants.{PollStart, PollEnd, Close, Read}
use Rattle.tk_core.specs.declared.task.row.TaskRow.{TaskRow}
use Rattle.tk_core.specs.History.{accepted}
use Rattle.tk_cell.specs.Calls.{entry}
use Rattle.tk_ledgers.specs.Tasks.{TaskSight, TaskEntries, is_polling}
use Rattle.tk_ledgers.specs.Scopes.{Scoped, Grows, ScopeGrows}
use Rattle.tk_ledgers.proofs.ScopeLemmas.{grows_more, polling_stays}
use Rattle.tk_exec.specs.Polls.{IsAtRest, poll_entries}

-- with an owner there is no receipt
pub at_rest : (id : ℕ) (owner : TaskSight) (o r : Option TaskSight) → o ≡ Some owner → IsAtRest id o r → (r ≡ None) × (owner.id ≡ id) × (is_polling owner ≡ false)
at_rest id owner None r e is = absurd cc
at_rest id owner (Some x) (Some y) e is = absurd is
at_rest id owner (Some x) None e is = let s : x ≡ owner = cc in (refl, ap (λ (h : TaskSight). h.id) (sym s) ∙ is.0, ap (λ (h : TaskSight). is_polling h) (sym s) ∙ is.1)

pub rests : (id : ℕ) (h : TaskSight) (r : Option TaskSight) → r ≡ None → h.id ≡ id → is_polling h ≡ false → IsAtRest id (Some h) r
rests id h r e i p = subst (λ (x : Option TaskSight). IsAtRest id (Some h) x) (sym e) (i, p)

abbrev starts : ℕ → TaskEntries
starts m = entry 0 (PollStart m) Done ∷ []

abbrev ends : ℕ → TaskEntries
ends m = entry 0 (PollEnd m) Done ∷ []

abbrev closes : ℕ → TaskEntries
closes m = entry 0 (Close m) Done ∷ []

module _ (a s w e : TaskSight) (first second : ℕ) (entries : TaskEntries) (p : Grows a (starts first) s) (q : Grows s entries w) (r : Grows w (ends second) e) where
  pub pending_entries : (A : Type 0) → Grows a (poll_entries {A = A} Pending first entries second) e
  pending_entries A = grows_more a w e (entry 0 (PollStart first) Done ∷ entries) (ends second) (grows_more a s w (starts first) entries p q) r

  pub ready_entries : {A : Type 0} (x : A) (c : TaskSight) → Grows e (closes second) c → Grows a (poll_entries (Ready x) first entries second) c
  ready_entries x c t = grows_more a w c (entry 0 (PollStart first) Done ∷ entries) (entry 0 (PollEnd second) Done ∷ closes second)
      (grows_more a s w (starts first) entries p q)
      (grows_more w e c (ends second) (closes second) r t)

-- an end, and a close after it
pub over_and_shut : (w e c : TaskSight) (second : ℕ) → Grows w (ends second) e → Grows e (closes second) c → Grows w (entry 0 (PollEnd second) Done ∷ closes second) c
over_and_shut w e c second r t = grows_more w e c (ends second) (closes second) r t

-- what grew up to an owner, or from it, where the scope holds it
pub grows_to : {entries : TaskEntries} (a s w : TaskSight) → w ≡ s → Grows a entries s → Grows a entries w
grows_to {entries} a s w same g = subst (λ (h : TaskSight). Grows a entries h) (sym same) g

pub grows_from : {entries : TaskEntries} (w s b : TaskSight) → s ≡ w → Grows s entries b → Grows w entries b
grows_from {entries} w s b same g = subst (λ (h : TaskSight). Grows h entries b) same g

-- what grew in the scope, of the owner that went into it and came out
pub grew_in : (s w : TaskSight) (a b : Scoped) → a.owner ≡ s → w ≡ b.owner → (g : ScopeGrows a b) → Grows s g.entries w
grew_in s w a b e f g = subst (λ (h : TaskSight). Grows s g.entries h) (sym f) (subst (λ (h : TaskSight). Grows h g.entries b.owner) e g.grows)

-- a reading leaves whether a poll is open
pub polling_read : (a b : TaskSight) (row : TaskRow) → Grows a (entry 0 Read (Shown row) ∷ []) b → is_polling b ≡ is_polling a
unfolding accepted
polling_read a b row g = polling_stays a b (entry 0 Read (Shown row) ∷ []) g refl
