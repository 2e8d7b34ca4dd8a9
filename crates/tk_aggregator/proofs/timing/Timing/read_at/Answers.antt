use Rattle.std.proofs.Common.{Some, ap, ◌∙◌, subst, length, vec_capacity, arith}
use Rattle.tk_stream.specs.Tables.{changed_at}
use Rattle.tk_stream.specs.Times.{TaskTimes, times_with}
use Rattle.tk_stream.specs.declared.tables.times.PollTimes.{PollTimes}
use Rattle.tk_ledgers.specs.Times.{added_times}
use Rattle.tk_aggregator.specs.Timing.{TimingView, ReadsShown, ReadsTimesBeside, times_of}
use Rattle.tk_aggregator.proofs.TakeInLemmas.{length-changed_at}
use Rattle.tk_aggregator.proofs.TimedLemmas.{timing_of, others_timed}
use Rattle.tk_aggregator.proofs.timing.Timing.read_at.Goals as goal

pub invariant_of-self : goal.invariant_of-self
invariant_of-self g c =
    let a = c.self.inside in
    let k = c.read_at.ensures in
    others_timed a.reads a.times a.told (vec_capacity a.readers) c.self.invariant c.read_at.new.table c.read_at.new.told (vec_capacity c.read_at.new.handles)
    (ap length k.reads.6 ∙ length-changed_at (λ (t : TaskTimes). times_with t k.reads.2) a.times c.args.place) k.told.count k.told.room (omega (arith, k.seats))

pub returns-clause-reads : goal.returns-clause-reads
returns-clause-reads g c =
    let a = c.self.inside in
    let k = c.read_at.ensures in
    let owner = c.args.owner.now in
    let times : PollTimes = times_of (added_times owner.token) in
    let reader = k.reads.0 in
    let read = k.reads.1 in
    let beside = k.reads.4 in
    subst (λ (old : TimingView). ReadsTimesBeside owner old (timing_of a.reads c.read_at.new.table c.read_at.new.told c.read_at.new.handles.items) (Some c.args.place)) c.self.view_is (
      reader,
      read,
      k.reads.3,
      subst (λ (shown : PollTimes). ReadsShown reader shown read) beside.shows beside.reading,
      λ i. record {
        reads = a.reads;
        shown = (k.reads.6 ∙ ap (λ (shown : PollTimes). changed_at (λ (t : TaskTimes). times_with t shown) a.times c.args.place) beside.shows) i;
        told = k.told.same i;
        readers = k.reads.5 i;
      },
    )
