use Rattle.std.proofs.Common.{◌≡◌, ℕ, ap, ◌∙◌, sym}
use Rattle.tk_ledgers.specs.Ops.{OpSight}
use Rattle.tk_stream.specs.Places.{place_with}
use Rattle.tk_stream.specs.Tables.{op_id}
use Rattle.tk_aggregator.specs.Aggregates.{Aggregating, ReadOp}
use Rattle.tk_aggregator.proofs.BesideLemmas.{reader_of, all_get}
use Rattle.tk_aggregator.proofs.aggregator.Aggregator.read_op_beside.Goals as goal

pub read_op_at-requires-clause-of : goal.read_op_at-requires-clause-of
read_op_at-requires-clause-of g c reader is =
    let a = c.args.self.now in
    let hand = c.args.callers.now in
    all_get (λ (s : OpSight). s.id ≡ hand.id → s.token.ledger ≡ hand.token.ledger) a.ops c.in-Some.place reader c.requires is
    (reader_of ReadOp op_id (λ (s : OpSight). s.id) (λ x s p. p.0) a.tables.ops a.ops c.in-Some.place hand.id reader c.tables.ensures.sound.ops (ap (λ (n : ℕ). place_with op_id n a.tables.ops) (sym c.id.ensures) ∙ (ap (λ (x : Aggregating). place_with op_id c.id.result x.tables.ops) (sym c.self.view_is) ∙ (sym c.op_place.ensures ∙ c.in-Some.is))) is)
