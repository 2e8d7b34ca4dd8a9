use Rattle.std.proofs.Common.{sym, subst}
use Rattle.tk_stream.specs.Tables.{TablesView}
use Rattle.tk_aggregator.specs.Standing.{TimesStand}
use Rattle.tk_events.specs.declared.event.Event.TheVariants as events
use Rattle.tk_aggregator.specs.Aggregates.{TakesIn}
use Rattle.tk_aggregator.proofs.StandingLemmas.{whole}
use Rattle.tk_aggregator.proofs.TakeInLemmas.{not_there, op_put_stands, op_put_takes}
use Rattle.tk_aggregator.proofs.aggregator.Aggregator.add_op.Goals as goal

pub invariant_of-self-2 : goal.invariant_of-self-2
invariant_of-self-2 g c =
    let a = c.self.inside in
    let k = c.in_ok-put_op.ensures.ok in (
      op_put_stands a.tables a.told a.tasks.items a.resources.items a.ops.items a.held a.last c.self.invariant.0 c.put_op.new.told.ops.room c.put_op.new.tables c.put_op.new.told c.put_op.new.handles.items c.put_op.ensures.told
          c.args.info c.args.handle k.0 k.1 c.requires k.2 k.3 k.4 c.in_ok-put_op.ensures.room,
      subst (λ (t : TablesView). TimesStand t.tasks a.timing) (sym k.3) c.self.invariant.1,
    )

pub returns-clause-ok : goal.returns-clause-ok
returns-clause-ok g c =
    let a = c.self.inside in
    let k = c.in_ok-put_op.ensures.ok in
    subst (λ old. TakesIn old (events.Op c.args.info c.args.handle) (whole c.put_op.new.tables c.put_op.new.told a.tasks.items a.resources.items c.put_op.new.handles.items a.held a.last a.broken a.retention a.timing)) c.self.view_is
    (op_put_takes a.tables a.told a.tasks.items a.resources.items a.ops.items a.held a.last c.self.invariant.0 c.put_op.new.told.ops.room c.put_op.new.tables c.put_op.new.told c.put_op.new.handles.items c.put_op.ensures.told
    c.args.info c.args.handle k.0 k.1 c.requires k.2 k.3 k.4 c.in_ok-put_op.ensures.room a.broken a.retention a.timing (not_there (λ (x : _). x.now) c.op.result _ _ c.op.ensures c.is_some.ensures c.if-is_some.false))
