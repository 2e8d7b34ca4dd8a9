-- Callers of a hand that are handed out, call elsewhere, and are taken back.
use Rattle.std.proofs.Common.{◌≡◌, ℕ, false, Option, None, Result, Ok, Err, OnOk, IfErr, refl, ap, ◌∙◌, sym, subst, inr}
use Rattle.tk_core.specs.declared.reply.Refusal.{Refusal}
use Rattle.tk_core.specs.declared.reply.Reply.{Reply}
use Rattle.tk_core.specs.declared.reply.Reply.TheVariants.{Done, Refused}
use Rattle.tk_core.specs.Fold.{number_of}
use Rattle.tk_core.specs.Meaning.{Meaning}
use Rattle.tk_cell.specs.declared.view.View.{View}
use Rattle.tk_cell.specs.Views.{Known}
use Rattle.tk_cell.specs.Calls.{Calls}
use Rattle.tk_ledgers.specs.Callers.{IsLive, CallsAs, HandsOut, TakesBack}
use Rattle.tk_ledgers.proofs.CallersLemmas.{calls_keep_live, handing_out_keeps_live, handles_stay_live, taking_back_keeps_live}

module _ {O C R : Type 0} (m : Meaning O C R) where
  -- who called elsewhere, not for the last time, is live in the hand again
  pub back_live : (old new made other back : Known O C R) (n : ℕ) (call : C) (reply : R) → HandsOut m old n new made → Calls m made.view call reply other.view
      → m.is_last call ≡ false → TakesBack m new other back → IsLive m back.view n
  back_live old new made other back n call reply k calls isnt taken =
      let alive = (handing_out_keeps_live m old new made n k).1 in
      let same : made.view.caller ≡ n = ap (λ (t : Known O C R). t.view.caller) k.given in
      let there = handles_stay_live m made.view other.view call reply calls (subst (λ (j : ℕ). IsLive m made.view j) (sym same) alive) isnt in
      taking_back_keeps_live m new other back n taken (inr (subst (λ (j : ℕ). IsLive m other.view j) (calls.same_caller ∙ same) there))

-- what an attempt is answered
pub answered : {Row : Type 0} (Holds : Reply Row → Type 0) (result : Result (Unit {0}) Refusal) → OnOk result (Holds Done) → IfErr result (λ r. Holds (Refused r)) → (reply : Reply Row) × (number_of reply ≡ None) × Holds reply
answered Holds (Ok x) ok err = (Done, refl, ok)
answered Holds (Err r) ok err = (Refused r, refl, err)
