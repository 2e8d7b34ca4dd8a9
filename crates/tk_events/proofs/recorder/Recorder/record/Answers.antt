use Rattle.std.proofs.Common.{◌≡◌, ◌+◌, ◌<◌, ◌≤◌, length, ap, sym, ◌∙◌, subst, ℕ}
use Rattle.std.specs.Arc.{arc_value}
use Rattle.crossbeam_queue.specs.Passes.{view, ruled_capacity}
use Rattle.tk_events.specs.declared.event.Event.{Event}
use Rattle.tk_events.specs.Offers.{Item, shown, offer_of}
use Rattle.tk_events.specs.Handles.{Recording}
use Rattle.tk_events.specs.Parts.{given_with, recording, HasNextId, IsAdding}
use Rattle.tk_events.proofs.RecordLemmas.{recorded_one}
use Rattle.tk_events.proofs.AloneLemmas.{held_alone}
use Rattle.tk_events.proofs.recorder.Recorder.record.Goals as goal

pub returns-clause-alone : goal.returns-clause-alone
returns-clause-alone g c dropped one =
    let v = view c.self.inside.pass in
    let was = c.self.invariant in
    let held = c.offer_counted-recorded.ensures.full dropped in
    let low : 0 < v.number = was.low in
    let high : v.number ≤ v.recorders = was.high in
    let few = held_alone v held.0 held.2 (ap (λ (r : Recording). r.recorders) c.self.view_is ∙ one) low high in
    let capacity : ruled_capacity (arc_value c.self.inside.buffer) + v.gone ≤ length v.kept = subst (λ b. ruled_capacity b + v.gone ≤ length v.kept) c.deref.ensures (subst (λ (n : ℕ). n + v.gone ≤ length v.kept) held.1 few) in
    subst (λ (r : Recording). r.capacity + r.gone ≤ length r.kept) c.self.view_is capacity

pub invariant_of-self : goal.invariant_of-self
invariant_of-self g c =
    let q = arc_value c.self.inside.buffer in
    let counts = (arc_value c.self.inside.counts).shared.table_id in
    let item = c.new-item.result in
    let event : item.event ≡ c.args.event = ap (λ (x : Item). x.event) c.new-item.ensures in
    let old : given_with (recording q counts c.self.inside.pass c.self.inside.limit) (shown item.event) ≡ c.args.ids =
    ap (λ (r : Recording). given_with r (shown item.event)) c.self.view_is ∙ (ap (λ (e : Event). given_with c.args.self.now (shown e)) event ∙ sym c.requires.ids) in
    let next : HasNextId (recording q counts c.self.inside.pass c.self.inside.limit) (shown item.event) =
    subst (λ (r : Recording). HasNextId r (shown item.event)) (sym c.self.view_is) (subst (λ (e : Event). HasNextId c.args.self.now (shown e)) (sym event) c.requires.next) in
    let room = c.requires.room in
    let made = c.self.invariant.made_is in
    let is = c.self.view_is in
    let below : c.self.inside.made < c.self.inside.limit = subst (λ (n : ℕ). n < c.self.inside.limit) made (subst (λ (r : Recording). length r.kept + length r.refused < r.limit) (sym is) room) in
    let adding : IsAdding counts c.offer_counted-recorded.new.seat (view c.offer_counted-recorded.new.pass) = subst (λ t. IsAdding t.shared.table_id c.offer_counted-recorded.new.seat (view c.offer_counted-recorded.new.pass)) c.deref-2.ensures c.offer_counted-recorded.ensures.adding in
    recorded_one q counts c.self.inside.pass c.offer_counted-recorded.new.pass c.self.inside.seat c.offer_counted-recorded.new.seat c.self.inside.ids c.args.ids c.self.inside.made c.self.inside.limit (offer_of item) c.self.invariant
    c.offer_counted-recorded.ensures.own (ap (λ (x : Item). x.number) c.new-item.ensures) below (sym old) next adding c.offer_counted-recorded.result c.offer_counted-recorded.ensures.kept c.offer_counted-recorded.ensures.refused
