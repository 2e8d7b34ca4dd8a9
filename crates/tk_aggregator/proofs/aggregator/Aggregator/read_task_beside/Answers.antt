use Rattle.std.proofs.Common.{◌≡◌, ℕ, ap, ◌∙◌, sym}
use Rattle.tk_ledgers.specs.Tasks.{TaskSight}
use Rattle.tk_stream.specs.Places.{place_with}
use Rattle.tk_stream.specs.Tables.{task_id}
use Rattle.tk_aggregator.specs.Aggregates.{Aggregating, ReadTask}
use Rattle.tk_aggregator.proofs.BesideLemmas.{reader_of, all_get}
use Rattle.tk_aggregator.proofs.aggregator.Aggregator.read_task_beside.Goals as goal

pub read_task_at-requires-clause-of : goal.read_task_at-requires-clause-of
read_task_at-requires-clause-of g c reader is =
    let a = c.args.self.now in
    let hand = c.args.callers.now in
    all_get (λ (s : TaskSight). s.id ≡ hand.id → s.token.ledger ≡ hand.token.ledger) a.tasks c.in-Some.place reader c.requires is
    (reader_of ReadTask task_id (λ (s : TaskSight). s.id) (λ x s p. p.0) a.tables.tasks a.tasks c.in-Some.place hand.id reader c.tables.ensures.sound.tasks (ap (λ (n : ℕ). place_with task_id n a.tables.tasks) (sym c.id.ensures) ∙ (ap (λ (x : Aggregating). place_with task_id c.id.result x.tables.tasks) (sym c.self.view_is) ∙ (sym c.task_place.ensures ∙ c.in-Some.is))) is)
