-- What holds of a taker that knows each recorder.
use Rattle.std.proofs.Common.{◌≡◌, ℕ, ◌≤◌, List, ap, sym, ◌∙◌, subst, length}
use Rattle.std.specs.List.{All}
use Rattle.tk_events.specs.declared.item.Offer.{Offer}
use Rattle.tk_events.specs.declared.buffer.view.Returned.{Returned}
use Rattle.tk_events.specs.declared.buffer.view.View.{View}
use Rattle.tk_events.specs.Offers.{Rises}
use Rattle.tk_events.specs.Buffer.{IsNamed, IsBalanced}
use Rattle.tk_events.specs.Handles.{Taking, HasOwnIds, IsSettled, IsWhole}
use Rattle.tk_events.proofs.BufferLemmas.{rises_taken, named_taken}
use Rattle.tk_events.proofs.FinishLemmas.{no_more}

pub settled : (v : View) (left : List Offer) (recorders : ℕ) (t : Taking) → IsBalanced v left → v.made ≡ recorders → recorders ≤ 64 → IsWhole recorders v.known → All HasOwnIds v.known
    → t.recorders ≡ recorders → t.taken ≡ v.taken → t.known ≡ v.known → IsSettled t
settled v left recorders t b made few whole own_ids same taken known = record {
  few = subst (λ (n : ℕ). n ≤ 64) (sym same) few;
  whole = subst (λ (x : ℕ × List Returned). IsWhole x.0 x.1) (λ i. (sym same i, sym known i)) whole;
  no_more = ap (λ (l : List Returned). length l) known ∙ (no_more v left recorders b made whole ∙ sym same);
  own_ids = subst (λ (l : List Returned). All HasOwnIds l) (sym known) own_ids;
  named = subst (λ (x : ℕ × List Offer). All (IsNamed x.0) x.1) (λ i. ((made ∙ sym same) i, sym taken i)) (named_taken v left b);
  rises = subst (λ (l : List Offer). Rises l) (sym taken) (rises_taken v left b);
}
