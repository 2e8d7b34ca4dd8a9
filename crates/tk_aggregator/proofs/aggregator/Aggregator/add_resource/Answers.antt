use Rattle.std.proofs.Common.{sym, subst}
use Rattle.tk_stream.specs.Tables.{TablesView}
use Rattle.tk_aggregator.specs.Standing.{TimesStand}
use Rattle.tk_events.specs.declared.event.Event.TheVariants as events
use Rattle.tk_aggregator.specs.Aggregates.{TakesIn}
use Rattle.tk_aggregator.proofs.StandingLemmas.{whole}
use Rattle.tk_aggregator.proofs.TakeInLemmas.{not_there, resource_put_stands, resource_put_takes}
use Rattle.tk_aggregator.proofs.aggregator.Aggregator.add_resource.Goals as goal

pub invariant_of-self-2 : goal.invariant_of-self-2
invariant_of-self-2 g c =
    let a = c.self.inside in
    let k = c.in_ok-put_resource.ensures.ok in (
      resource_put_stands a.tables a.told a.tasks.items a.resources.items a.ops.items a.held a.last c.self.invariant.0 c.put_resource.new.told.resources.room c.put_resource.new.tables c.put_resource.new.told c.put_resource.new.handles.items c.put_resource.ensures.told
          c.args.info c.args.handle k.0 k.1 c.requires k.2 k.3 k.4 c.in_ok-put_resource.ensures.room,
      subst (λ (t : TablesView). TimesStand t.tasks a.timing) (sym k.3) c.self.invariant.1,
    )

pub returns-clause-ok : goal.returns-clause-ok
returns-clause-ok g c =
    let a = c.self.inside in
    let k = c.in_ok-put_resource.ensures.ok in
    subst (λ old. TakesIn old (events.Resource c.args.info c.args.handle) (whole c.put_resource.new.tables c.put_resource.new.told a.tasks.items c.put_resource.new.handles.items a.ops.items a.held a.last a.broken a.retention a.timing)) c.self.view_is
    (resource_put_takes a.tables a.told a.tasks.items a.resources.items a.ops.items a.held a.last c.self.invariant.0 c.put_resource.new.told.resources.room c.put_resource.new.tables c.put_resource.new.told c.put_resource.new.handles.items c.put_resource.ensures.told
    c.args.info c.args.handle k.0 k.1 c.requires k.2 k.3 k.4 c.in_ok-put_resource.ensures.room a.broken a.retention a.timing (not_there (λ (x : _). x.now) c.resource.result _ _ c.resource.ensures c.is_some.ensures c.if-is_some.false))
