use Rattle.std.proofs.Common.{ℕ, ◌≤◌, refl, ap, sym, ◌∙◌, subst}
use Rattle.std.specs.List.{All}
use Rattle.std.specs.Arc.{arc_value}
use Rattle.crossbeam_queue.specs.Passes.{view, ruled_capacity}
use Rattle.tk_events.specs.declared.buffer.view.View.{View}
use Rattle.tk_events.specs.Handles.{Taking, HasOwnIds, IsWhole, with_taken, place}
use Rattle.tk_events.specs.Parts.{totals_of}
use Rattle.tk_events.specs.declared.event.Event.{Event}
use Rattle.tk_events.specs.Offers.{shown, offer_of, offers_of}
use Rattle.tk_events.proofs.BufferLemmas.{rises_taken}
use Rattle.tk_events.proofs.SettledLemmas.{settled}
use Rattle.tk_events.proofs.taker.Taker.take.Goals as goal

pub returns-in_err-item-clause-rises : goal.returns-in_err-item-clause-rises
returns-in_err-item-clause-rises g c = rises_taken _ _ c.pop.ensures.left.1

pub returns-in_err-item-clause-left : goal.returns-in_err-item-clause-left
returns-in_err-item-clause-left g c = let l = c.pop.ensures.left in (offers_of l.0, λ k d lt. (l.1.known k d lt).kept)

pub returns-clause-some : goal.returns-clause-some
returns-clause-some g c =
    let x = c.in_ok-item.item in
    let buffer = arc_value c.self.inside.buffer in
    let shows : View → Taking = λ v. record { console = place buffer.table.shared.table_id (arc_value c.self.inside.counts).shared.table_id; capacity = ruled_capacity buffer; recorders = v.recorders; taken = v.taken; known = v.known; last = totals_of v.recorders c.self.inside.seat.me.0.seen; finished = c.self.inside.finished } in
    (x.recorder, x.number, ap shows c.in_ok-item.ensures.some ∙ ap (λ (t : Taking). with_taken t (offer_of x)) c.self.view_is ∙ ap (λ (e : Event). with_taken c.args.self.now (record { recorder = x.recorder; number = x.number; event = shown e })) (sym c.into_event.ensures.event))

pub returns-clause-rises : goal.returns-clause-rises
returns-clause-rises g c = rises_taken _ _ c.pop.ensures.left.1

pub returns-clause-left : goal.returns-clause-left
returns-clause-left g c = let l = c.pop.ensures.left in (offers_of l.0, λ k d lt. (l.1.known k d lt).kept)

pub returns-in_err-item-clause-settled : goal.returns-in_err-item-clause-settled
returns-in_err-item-clause-settled g c finished =
    let was = c.self.invariant in
    let l = c.pop.ensures.left in
    let same = c.in_err-item.ensures.none.0 in
    let n = c.self.inside.recorders in
    settled (view c.pop.new.pass) (offers_of l.0) n _ l.1 (ap (λ (u : View). u.made) same ∙ was.made_is) (subst (λ (k : ℕ). k ≤ 64) was.recorders_is was.reading.few)
    (subst (λ (u : View). IsWhole n u.known) (sym same) (was.whole finished)) (subst (λ (u : View). All HasOwnIds u.known) (sym same) was.own_ids)
    (ap (λ (u : View). u.recorders) same ∙ was.recorders_is) refl refl

pub returns-clause-settled : goal.returns-clause-settled
returns-clause-settled g c finished =
    let was = c.self.invariant in
    let l = c.pop.ensures.left in
    let same = c.in_ok-item.ensures.some in
    let n = c.self.inside.recorders in
    settled (view c.pop.new.pass) (offers_of l.0) n _ l.1 (ap (λ (u : View). u.made) same ∙ was.made_is) (subst (λ (k : ℕ). k ≤ 64) was.recorders_is was.reading.few)
    (subst (λ (u : View). IsWhole n u.known) (sym same) (was.whole finished)) (subst (λ (u : View). All HasOwnIds u.known) (sym same) was.own_ids)
    (ap (λ (u : View). u.recorders) same ∙ was.recorders_is) refl refl
