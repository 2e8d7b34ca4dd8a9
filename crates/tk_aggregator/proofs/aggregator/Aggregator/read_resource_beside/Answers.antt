use Rattle.std.proofs.Common.{◌≡◌, ℕ, ap, ◌∙◌, sym}
use Rattle.tk_ledgers.specs.Resources.{ResourceSight}
use Rattle.tk_stream.specs.Places.{place_with}
use Rattle.tk_stream.specs.Tables.{resource_id}
use Rattle.tk_aggregator.specs.Aggregates.{Aggregating, ReadResource}
use Rattle.tk_aggregator.proofs.BesideLemmas.{reader_of, all_get}
use Rattle.tk_aggregator.proofs.aggregator.Aggregator.read_resource_beside.Goals as goal

pub read_resource_at-requires-clause-of : goal.read_resource_at-requires-clause-of
read_resource_at-requires-clause-of g c reader is =
    let a = c.args.self.now in
    let hand = c.args.callers.now in
    all_get (λ (s : ResourceSight). s.id ≡ hand.id → s.token.ledger ≡ hand.token.ledger) a.resources c.in-Some.place reader c.requires is
    (reader_of ReadResource resource_id (λ (s : ResourceSight). s.id) (λ x s p. p.0) a.tables.resources a.resources c.in-Some.place hand.id reader c.tables.ensures.sound.resources (ap (λ (n : ℕ). place_with resource_id n a.tables.resources) (sym c.id.ensures) ∙ (ap (λ (x : Aggregating). place_with resource_id c.id.result x.tables.resources) (sym c.self.view_is) ∙ (sym c.resource_place.ensures ∙ c.in-Some.is))) is)
