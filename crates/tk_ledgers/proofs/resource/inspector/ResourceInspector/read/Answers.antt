use Rattle.std.proofs.Common.{subst}
use Rattle.tk_core.specs.ResourceMeaning.{resource_meaning}
use Rattle.tk_ledgers.specs.Sums.{HoldsAll}
use Rattle.tk_ledgers.specs.Resources.{ResourceSight, CountsAre, CountsReach}
use Rattle.tk_ledgers.proofs.ResourceSumLemmas.{reads_least, reads_exact}
use Rattle.tk_ledgers.proofs.resource.inspector.ResourceInspector.read.Goals as goal

pub returns-clause-least : goal.returns-clause-least
returns-clause-least g c = subst (λ (h : ResourceSight). CountsReach h.token.view c.read.result) c.self.view_is
    (reads_least c.self.inside.handle.view c.read.result c.read.new.self.view c.read.ensures.entry)

pub returns-clause-exact : goal.returns-clause-exact
returns-clause-exact g c = subst (λ (h : ResourceSight). HoldsAll resource_meaning h.token.view → CountsAre h.token.view c.read.result) c.self.view_is
    (reads_exact c.self.inside.handle.view c.read.result c.read.new.self.view c.read.ensures.entry)
