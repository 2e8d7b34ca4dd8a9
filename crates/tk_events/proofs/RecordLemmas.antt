-- A recorder after one more offer.
use Rattle.std.proofs.Common.{◌≡◌, ℕ, ◌+◌, ◌<◌, ◌≤◌, List, [], ◌∷◌, ◌++◌, length, length-append, Option, Some, refl, ap, sym, ◌∙◌, subst, arith}
use Rattle.std.specs.List.{All}
use Rattle.std.proofs.lemmas.List.Elements.{All-push}
use Rattle.atomic_table.specs.Seated.{TableId}
use Rattle.atomic_table.specs.declared.shared.Seat.{Seat}
use Rattle.crossbeam_queue.specs.declared.array_queue.Doing.{Doing}
use Rattle.crossbeam_queue.specs.declared.array_queue.Slotted.{Slotted}
use Rattle.crossbeam_queue.specs.Passes.{Pass, view, IsSamePass}
use Rattle.tk_ids.specs.IdBlocks.{Given, last_number}
use Rattle.tk_events.specs.declared.buffer.view.View.{View}
use Rattle.tk_events.specs.declared.counts.view.View.{View as Count}
use Rattle.tk_events.specs.declared.item.Offer.{Offer}
use Rattle.tk_events.specs.declared.recorder.Recorded.{Recorded}
use Rattle.tk_events.specs.declared.recorder.Recorded.TheVariants.{Kept, DroppedFull}
use Rattle.tk_events.specs.Offers.{Item, tasks_in, resources_in, ops_in}
use Rattle.tk_events.specs.Buffer.{keeps, notes, returned}
use Rattle.tk_events.specs.Handles.{HasOwnIds}
use Rattle.tk_events.specs.Parts.{given_with, recording, HasNextId, IsRecording, IsAdding}
use Rattle.tk_events.proofs.IdLemmas.{given_kept, given_refused}
use Rattle.tk_events.proofs.OwnIdLemmas.{own_kept, own_refused}

-- the ids that a view tells of
abbrev given_by : View → Given
given_by v = record { recorder = v.number; tasks = tasks_in v.kept + tasks_in v.refused; resources = resources_in v.kept + resources_in v.refused; ops = ops_in v.kept + ops_in v.refused }

module _ {Q A : Type 0} (q : Slotted (Option Item) (Doing Item View) Q A) (counts : TableId) (p after : Pass Item View) (s seat : Seat ℕ Count) (ids more : Given) (made limit : ℕ) (o : Offer) (was : IsRecording q counts p s ids made limit) (same : IsSamePass p after) (number : o.number ≡ made + 1) (room : made < limit) (is_more : more ≡ given_with (recording q counts p limit) o.event) (next : HasNextId (recording q counts p limit) o.event) (adding : IsAdding counts seat (view after)) where
  one_more : (made' : ℕ) (k r : List Offer) → length k + length r ≡ made' → length (k ++ o ∷ []) + length r ≡ made' + 1
  one_more made' k r e = let a = length-append k (o ∷ []) in omega (arith, a, e)

  one_refused : (made' : ℕ) (k r : List Offer) → length k + length r ≡ made' → length k + length (r ++ o ∷ []) ≡ made' + 1
  one_refused made' k r e = let a = length-append r (o ∷ []) in omega (arith, a, e)

  still_below : All (λ (x : Offer). x.number ≤ made + 1) (view p).kept
  still_below k d lt = let a = was.below k d lt in omega (arith, a)

  still_refused_below : All (λ (x : Offer). x.number ≤ made + 1) (view p).refused
  still_refused_below d k lt = let a = was.refused_below d k lt in omega (arith, a)

  few : length (view p).kept + length (view p).refused < last_number
  few = let a = was.made_is in let b = was.small in omega (arith, a, b, room)

  after_kept : view after ≡ keeps (view p) o → IsRecording q counts after seat more (made + 1) limit
  after_kept is = record {
    own = (same.0 ∙ was.own.0, same.2 ∙ was.own.1);
    role = ap (λ (u : View). u.role) is ∙ was.role;
    ids_are = is_more ∙ (sym (given_kept (recording q counts p limit) o) ∙ sym (ap (λ (u : View). given_by u) is));
    low = subst (λ (u : View). 0 < u.number) (sym is) was.low;
    high = subst (λ (u : View). u.number ≤ u.recorders) (sym is) was.high;
    made_is = ap (λ (u : View). length u.kept + length u.refused) is ∙ one_more made (view p).kept (view p).refused was.made_is;
    below = subst (λ (u : View). All (λ (x : Offer). x.number ≤ made + 1) u.kept) (sym is) (All-push (λ (x : Offer). x.number ≤ made + 1) (view p).kept o still_below (omega (arith, number)));
    refused_below = subst (λ (u : View). All (λ (x : Offer). x.number ≤ made + 1) u.refused) (sym is) still_refused_below;
    own_ids = subst (λ (u : View). HasOwnIds (returned u)) (sym is) (own_kept (recording q counts p limit) made o number was.below was.refused_below next few was.own_ids);
    room = omega (arith, room);
    small = was.small;
    adding = adding;
  }

  after_refused : view after ≡ notes (Some o) (view p) → IsRecording q counts after seat more (made + 1) limit
  after_refused is = record {
    own = (same.0 ∙ was.own.0, same.2 ∙ was.own.1);
    role = ap (λ (u : View). u.role) is ∙ was.role;
    ids_are = is_more ∙ (sym (given_refused (recording q counts p limit) o) ∙ sym (ap (λ (u : View). given_by u) is));
    low = subst (λ (u : View). 0 < u.number) (sym is) was.low;
    high = subst (λ (u : View). u.number ≤ u.recorders) (sym is) was.high;
    made_is = ap (λ (u : View). length u.kept + length u.refused) is ∙ one_refused made (view p).kept (view p).refused was.made_is;
    below = subst (λ (u : View). All (λ (x : Offer). x.number ≤ made + 1) u.kept) (sym is) still_below;
    refused_below = subst (λ (u : View). All (λ (x : Offer). x.number ≤ made + 1) u.refused) (sym is) (All-push (λ (x : Offer). x.number ≤ made + 1) (view p).refused o still_refused_below (omega (arith, number)));
    own_ids = subst (λ (u : View). HasOwnIds (returned u)) (sym is) (own_refused (recording q counts p limit) made o number was.below was.refused_below next few was.own_ids);
    room = omega (arith, room);
    small = was.small;
    adding = adding;
  }

  pub recorded_one : (became : Recorded) → (became ≡ Kept → view after ≡ keeps (view p) o) → (became ≡ DroppedFull → view after ≡ notes (Some o) (view p)) → IsRecording q counts after seat more (made + 1) limit
  recorded_one Kept kept refused = after_kept (kept refl)
  recorded_one DroppedFull kept refused = after_refused (refused refl)
