use Rattle.std.proofs.Common.{sym, subst}
use Rattle.tk_stream.specs.Tables.{TablesView}
use Rattle.tk_aggregator.specs.Standing.{TimesStand}
use Rattle.tk_aggregator.specs.Aggregates.{ReadResource, ReadsResources}
use Rattle.tk_aggregator.proofs.StandingLemmas.{whole}
use Rattle.tk_aggregator.proofs.HandledLemmas.{pairs-count}
use Rattle.tk_aggregator.proofs.RefreshLemmas.{resources_standing, resources_read}
use Rattle.tk_aggregator.proofs.aggregator.Aggregator.refresh_resources.Goals as goal

pub read_resources-requires : goal.read_resources-requires
read_resources-requires g c = pairs-count ReadResource _ _ c.self.invariant.0.resources

pub invariant_of-self : goal.invariant_of-self
invariant_of-self g c =
    let a = c.self.inside in
    let k = c.read_resources.ensures in (
      resources_standing a.tables a.told a.tasks.items a.resources.items a.ops.items a.held a.last c.self.invariant.0 c.read_resources.new.tables c.read_resources.new.told
          k.reads.0 c.read_resources.new.handles.items k.reads.1 k.reads.2 k.alone k.told,
      subst (λ (t : TablesView). TimesStand t.tasks a.timing) (sym k.reads.2) c.self.invariant.1,
    )

pub returns : goal.returns
returns g c =
    let a = c.self.inside in
    let k = c.read_resources.ensures in
    subst (λ old. ReadsResources old (whole c.read_resources.new.tables c.read_resources.new.told a.tasks.items c.read_resources.new.handles.items a.ops.items a.held a.last a.broken a.retention a.timing)) c.self.view_is
    (resources_read a.tables a.told a.tasks.items a.resources.items a.ops.items a.held a.last c.self.invariant.0 c.read_resources.new.tables c.read_resources.new.told
    k.reads.0 c.read_resources.new.handles.items k.reads.1 k.reads.2 k.alone k.told a.broken a.retention a.timing)
