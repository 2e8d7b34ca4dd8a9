use Rattle.std.proofs.Common.{◌≤◌, List, length, take, vec_capacity, sym, subst, ap, ◌∙◌, arith}
use Rattle.tk_stream.specs.Fronts.{as_told, with_rows}
use Rattle.tk_stream.specs.Times.{TaskTimes, times_with}
use Rattle.tk_aggregator.specs.Timing.{TimingView, AreTimed}
use Rattle.tk_aggregator.proofs.TimedLemmas.{told_count, told_front, front_timed}
use Rattle.tk_aggregator.proofs.timing.Timing.cancel.Goals as goal

-- all that were told are among the first ones, of which there are as many as readers
few : (c : goal.After-cut) → length c.self.inside.told.rows ≤ c.len.result
few c =
    let a = c.self.inside in
    let told = subst (λ (t : TimingView). length t.told ≤ length t.readers) (sym c.self.view_is) c.requires in
    omega (arith, told, told_count a.times a.told.rows c.self.invariant.told, c.len.ensures, a.readers.ok.0)

pub invariant_of-self : goal.invariant_of-self
invariant_of-self c =
    let a = c.self.inside in
    subst (λ (xs : List TaskTimes). AreTimed a.reads xs a.told (vec_capacity a.readers)) (sym c.cut.ensures) (front_timed a.reads a.times a.told (vec_capacity a.readers) c.self.invariant c.len.result (few c))

pub returns : goal.returns
returns c =
    let a = c.self.inside in
    let shown = c.cut.ensures ∙ ap (λ n. take n a.times) (c.len.ensures ∙ a.readers.ok.0) in
    let told = ap (λ (xs : List TaskTimes). with_rows (as_told times_with) xs a.told.rows) c.cut.ensures ∙ told_front c.len.result a.times a.told.rows (few c) in
    (λ i. record { reads = a.reads; shown = shown i; told = told i; readers = a.readers.items })
    ∙ ap (λ (t : TimingView). record t { shown = take (length t.readers) t.shown }) c.self.view_is
