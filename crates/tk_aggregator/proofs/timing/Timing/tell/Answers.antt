use Rattle.std.proofs.Common.{◌≡◌, ◌≤◌, List, length, vec_capacity, sym, subst}
use Rattle.std.specs.Prelude.{unwrap_or}
use Rattle.tk_stream.specs.Lines.{none_gone}
use Rattle.tk_stream.specs.Times.{TaskTimes}
use Rattle.tk_aggregator.specs.Timing.{TimingView, timing_told}
use Rattle.tk_aggregator.proofs.TimedLemmas.{timing_of, fewer_stay, told_timed, all_are_told}
use Rattle.tk_aggregator.proofs.timing.Timing.tell.Goals as goal

pub tell-requires : goal.tell-requires
tell-requires c =
    let a = c.self.inside in
    subst (λ (xs : List TaskTimes). length xs ≤ a.told.room) (sym c.remove.ensures.times) (fewer_stay (unwrap_or c.args.leaving.now none_gone).tasks a.times a.told.room c.self.invariant.room)

pub invariant_of-self : goal.invariant_of-self
invariant_of-self c =
    let a = c.self.inside in
    told_timed a.reads a.times a.told (vec_capacity a.readers) c.self.invariant (unwrap_or c.args.leaving.now none_gone).tasks c.remove.new.times c.tell.new.self (vec_capacity c.remove.new.readers)
    c.remove.ensures.times c.tell.ensures c.remove.ensures.seats

pub returns : goal.returns
returns c =
    let a = c.self.inside in
    let gone = (unwrap_or c.args.leaving.now none_gone).tasks in
    subst (λ (old : TimingView). timing_of a.reads c.remove.new.times c.tell.new.self c.remove.new.readers.items ≡ timing_told gone old) c.self.view_is
    (all_are_told a.reads a.times a.told a.readers.items gone c.remove.new.times c.tell.new.self c.remove.new.readers.items c.remove.ensures.times c.tell.ensures c.remove.ensures.readers)
