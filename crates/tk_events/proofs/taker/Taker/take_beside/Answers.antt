use Rattle.std.proofs.Common.{◌≡◌, ℕ, List, ap, sym, ◌∙◌, subst}
use Rattle.std.specs.Prelude.{All}
use Rattle.std.specs.Arc.{arc_value}
use Rattle.crossbeam_queue.specs.Passes.{view, ruled_capacity}
use Rattle.tk_events.specs.declared.buffer.view.View.{View}
use Rattle.tk_events.specs.declared.event.Event.{Event}
use Rattle.tk_events.specs.declared.item.Offer.{Offer}
use Rattle.tk_events.specs.Buffer.{IsBalanced, IsNamed}
use Rattle.tk_events.specs.Handles.{Taking, with_taken, place}
use Rattle.tk_events.specs.Parts.{totals_of}
use Rattle.tk_events.specs.Offers.{shown, offer_of, offers_of}
use Rattle.tk_events.proofs.BufferLemmas.{named_taken}
use Rattle.tk_events.proofs.taker.Taker.take_beside.Goals as goal

pub returns-clause-some : goal.returns-clause-some
returns-clause-some g c =
    let x = c.in_ok-item.item in
    let buffer = arc_value c.self.inside.buffer in
    let shows : View → Taking = λ v. record { console = place buffer.table.shared.table_id (arc_value c.self.inside.counts).shared.table_id; capacity = ruled_capacity buffer; recorders = v.recorders; taken = v.taken; known = v.known; last = totals_of v.recorders c.self.inside.seat.me.0.seen; finished = c.self.inside.finished } in
    (x.recorder, x.number, ap shows c.in_ok-item.ensures.some ∙ ap (λ (t : Taking). with_taken t (offer_of x)) c.self.view_is ∙ ap (λ (e : Event). with_taken c.args.self.now (record { recorder = x.recorder; number = x.number; event = shown e })) (sym c.into_event.ensures.event))

-- as many recorders were made as the console has
named_all : (v : View) (left : List Offer) (recorders : ℕ) → IsBalanced v left → v.made ≡ recorders → v.recorders ≡ recorders → All (IsNamed v.recorders) v.taken
named_all v left recorders b made all = subst (λ (n : ℕ). All (IsNamed n) v.taken) (made ∙ sym all) (named_taken v left b)

pub returns-clause-named : goal.returns-clause-named
returns-clause-named g c =
    let was = c.self.invariant in
    let l = c.pop_lent.ensures.left in
    let same = c.in_ok-item.ensures.some in
    named_all (view c.pop_lent.new.pass) (offers_of l.0) c.self.inside.recorders l.1 (ap (λ (u : View). u.made) same ∙ was.made_is) (ap (λ (u : View). u.recorders) same ∙ was.recorders_is)

pub returns-in_err-item-clause-named : goal.returns-in_err-item-clause-named
returns-in_err-item-clause-named g c =
    let was = c.self.invariant in
    let l = c.pop_lent.ensures.left in
    let same = c.in_err-item.ensures.none in
    named_all (view c.pop_lent.new.pass) (offers_of l.0) c.self.inside.recorders l.1 (ap (λ (u : View). u.made) same ∙ was.made_is) (ap (λ (u : View). u.recorders) same ∙ was.recorders_is)
