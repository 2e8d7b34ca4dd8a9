use Rattle.std.proofs.Common.{◌≡◌, length, vec_capacity, sym, subst}
use Rattle.tk_aggregator.specs.Timing.{TimingView, ReadsTimes}
use Rattle.tk_aggregator.proofs.TimedLemmas.{timing_of, read_timed, each_read}
use Rattle.tk_aggregator.proofs.timing.Timing.refresh.Goals as goal

pub invariant_of-self : goal.invariant_of-self
invariant_of-self g c =
    let a = c.self.inside in
    let k = c.refresh_all.ensures in
    let step = subst (λ (t : TimingView). length t.readers ≡ length t.shown) (sym c.self.view_is) c.requires in
    read_timed a.reads a.times a.told a.readers.items c.refresh_all.new.table c.refresh_all.new.told c.refresh_all.new.handles.items k.reads.0 k.reads.1 k.reads.2 k.told
    (vec_capacity a.readers) c.self.invariant step (vec_capacity c.refresh_all.new.handles) k.seats

pub returns : goal.returns
returns g c =
    let a = c.self.inside in
    let k = c.refresh_all.ensures in
    subst (λ (old : TimingView). ReadsTimes old (timing_of a.reads c.refresh_all.new.table c.refresh_all.new.told c.refresh_all.new.handles.items)) c.self.view_is
    (each_read a.reads a.times a.told a.readers.items c.refresh_all.new.table c.refresh_all.new.told c.refresh_all.new.handles.items k.reads.0 k.reads.1 k.reads.2 k.told)
