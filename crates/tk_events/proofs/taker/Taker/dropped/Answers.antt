use Rattle.std.proofs.Common.{◌≡◌, ℕ, List, true, ap, ◌∙◌, subst}
use Rattle.crossbeam_queue.specs.Passes.{view}
use Rattle.tk_ids.specs.declared.info.Dropped.{Dropped}
use Rattle.tk_events.specs.declared.buffer.view.Returned.{Returned}
use Rattle.tk_events.specs.Handles.{Taking, AreExact}
use Rattle.tk_events.specs.Offers.{offers_of}
use Rattle.tk_events.proofs.DropLemmas.{counted_whole, counted_zero, counted_one, counted_two}
use Rattle.tk_events.proofs.taker.Taker.dropped.Goals as goal

pub returns-clause-exact : goal.returns-clause-exact
returns-clause-exact c done =
    let was = c.self.invariant in
    let v = view c.self.inside.pass in
    let n = c.self.inside.recorders in
    let is = c.self.view_is in
    let known = c.self.inside.seat.me.0.known in
    let left = was.left in
    let whole = was.whole (ap (λ (t : Taking). t.finished) is ∙ done) in
    let found : Dropped = c.totals.result in
    let counted = c.totals.ensures.exact (counted_whole n v (offers_of left.0) known was.reading.known left.1 was.made_is whole) in
    let exact : AreExact v.known found.tasks found.resources found.ops = record {
      tasks_are = ap (λ (d : Dropped). d.tasks) counted ∙ counted_zero known v.known was.reading.known;
      resources_are = ap (λ (d : Dropped). d.resources) counted ∙ counted_one known v.known was.reading.known;
      ops_are = ap (λ (d : Dropped). d.ops) counted ∙ counted_two known v.known was.reading.known;
    } in
    subst (λ (l : List Returned). AreExact l found.tasks found.resources found.ops) (ap (λ (t : Taking). t.known) is) exact
