-- What the only recorder of a console knows of a full buffer.
use Rattle.std.proofs.Common.{◌≡◌, ℕ, zero, suc, refl, ◌+◌, ◌<◌, ◌≤◌, List, ◌++◌, length, ap, sym, ◌∙◌, arith, length-append}
use Rattle.std.specs.List.{All}
use Rattle.std.proofs.lemmas.List.{length-map}
use Rattle.std.proofs.lemmas.List.Elements.{filter-append, All-push, All-nil}
use Rattle.tk_events.specs.Offers.{Item}
use Rattle.tk_events.specs.declared.item.Offer.{Offer}
use Rattle.tk_events.specs.declared.buffer.view.View.{View}
use Rattle.tk_events.specs.Offers.{by, offer_of, offers_of}
use Rattle.tk_events.specs.Buffer.{IsContentFor}
use Rattle.tk_events.specs.Handles.{Place, Recording, new_recording, new_recordings}
use Rattle.tk_events.proofs.ListLemmas.{by_whole}

pub held_alone : (v : View) (items : List Item) → IsContentFor v items → v.recorders ≡ 1 → 0 < v.number → v.number ≤ v.recorders → length items + v.gone ≤ length v.kept
held_alone v items h one low high =
    let offers = offers_of items in
    let mine : All (λ (o : Offer). o.recorder ≡ v.number) offers = λ k d lt. let n = h.named k d lt in omega (arith, n.0, n.1, one, low, high) in
    let all : by v.number offers ≡ offers = by_whole v.number offers mine in
    let parts : by v.number h.before ++ by v.number offers ≡ v.kept = sym (filter-append (λ (y : Offer). Rattle.std.specs.Prelude.nat_eq y.recorder v.number) h.before offers) ∙ h.mine in
    let lengths : length (by v.number h.before) + length (by v.number offers) ≡ length v.kept = sym (length-append (by v.number h.before) (by v.number offers)) ∙ ap length parts in
    let same : length (by v.number offers) ≡ length items = ap length all ∙ length-map items offer_of in
    omega (arith, lengths, same, h.gone)

-- the recorders of a console are of this console
pub own_console : (console : Place) (capacity recorders limit n : ℕ) → All (λ (r : Recording). r.console ≡ console) (new_recordings console capacity recorders limit n)
own_console console capacity recorders limit zero = All-nil (λ (r : Recording). r.console ≡ console)
own_console console capacity recorders limit (suc n) = All-push (λ (r : Recording). r.console ≡ console) (new_recordings console capacity recorders limit n) (new_recording console capacity recorders limit (suc n)) (own_console console capacity recorders limit n) refl
