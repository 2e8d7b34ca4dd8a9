use Rattle.std.proofs.Common.{◌≡◌, sym, subst}
use Rattle.tk_ledgers.specs.Times.{TimesSight}
use Rattle.tk_stream.specs.Places.{place_with}
use Rattle.tk_stream.specs.Times.{times_id}
use Rattle.tk_aggregator.specs.Aggregates.{Aggregating}
use Rattle.tk_aggregator.specs.Timing.{ReadTimes, AreOfOwner}
use Rattle.tk_aggregator.proofs.BesideLemmas.{reader_of, all_get}
use Rattle.tk_aggregator.proofs.HandledLemmas.{pairs-count}
use Rattle.tk_aggregator.proofs.ReadAtLemmas.{times_at_stand}
use Rattle.tk_aggregator.proofs.aggregator.Aggregator.read_times_beside.Goals as goal

pub read_beside-requires-clause-in_step : goal.read_beside-requires-clause-in_step
read_beside-requires-clause-in_step g c = pairs-count ReadTimes _ _ c.self.invariant.1.pairs

pub read_beside-requires-clause-of : goal.read_beside-requires-clause-of
read_beside-requires-clause-of g c place reader at is =
    let t = c.self.inside.timing in
    let owner = c.args.owner.now in
    let all : AreOfOwner owner t.readers = subst (λ (x : Aggregating). AreOfOwner owner x.timing.readers) (sym c.self.view_is) c.requires in
    all_get (λ (s : TimesSight). s.id ≡ owner.id → s.token.ledger ≡ owner.token.ledger) t.readers place reader all is
    (reader_of ReadTimes times_id (λ (s : TimesSight). s.id) (λ x s p. p.0) t.shown t.readers place owner.id reader c.self.invariant.1.pairs at is)

pub invariant_of-self : goal.invariant_of-self
invariant_of-self g c =
    let a = c.self.inside in
    (c.self.invariant.0, times_at_stand a.tables.tasks c.args.owner.now a.timing c.read_beside.new.self (place_with times_id c.args.owner.now.id a.timing.shown) c.read_beside.ensures.reads c.self.invariant.1)
