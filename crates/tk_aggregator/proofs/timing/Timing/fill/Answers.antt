use Rattle.std.proofs.Common.{◌∷◌, ◌++◌, [], length, vec_capacity, ap, ap₂, ◌∙◌, arith}
use Rattle.tk_stream.specs.Tables.{changed_at}
use Rattle.tk_stream.specs.Times.{TaskTimes, times_shown, times_with}
use Rattle.tk_aggregator.specs.Timing.{TimingView}
use Rattle.tk_aggregator.proofs.TakeInLemmas.{length-changed_at}
use Rattle.tk_aggregator.proofs.TimedLemmas.{others_timed}
use Rattle.tk_aggregator.proofs.timing.Timing.fill.Goals as goal

pub invariant_of-self : goal.invariant_of-self
invariant_of-self g c =
    let a = c.self.inside in
    others_timed a.reads a.times a.told (vec_capacity a.readers) c.self.invariant c.set.new.table c.set.new.self (vec_capacity c.push.new.self)
    (ap length c.set.ensures.table ∙ length-changed_at (λ (t : TaskTimes). times_with t c.of.result) a.times c.len-place.result) c.set.ensures.count c.set.ensures.room (omega (arith, c.in-Ok.ensures.capacity))

pub returns : goal.returns
returns g c =
    let a = c.self.inside in
    let row = c.read-row.result in
    let read = c.read-row.new.self in
    let shown = c.set.ensures.table ∙ ap₂ (λ times n. changed_at (λ (t : TaskTimes). times_with t times) a.times n) c.of.ensures (c.len-place.ensures ∙ a.readers.ok.0) in (
      row,
      read,
      record { id = c.read-row.ensures.id; ledger = c.read-row.ensures.ledger; entry = c.read-row.ensures.entry },
      (λ i. record { reads = a.reads; shown = shown i; told = c.set.ensures.told i; readers = c.in-Ok.ensures.items i })
          ∙ ap (λ (t : TimingView). record t { shown = changed_at (λ x. times_with x (times_shown row)) t.shown (length t.readers); readers = t.readers ++ read ∷ [] }) c.self.view_is,
    )
