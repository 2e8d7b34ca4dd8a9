use Rattle.std.proofs.Common.{subst}
use Rattle.tk_core.specs.OpMeaning.{op_meaning}
use Rattle.tk_ledgers.specs.Sums.{HoldsAll}
use Rattle.tk_ledgers.specs.Ops.{OpSight, CountsAre, CountsReach}
use Rattle.tk_ledgers.proofs.OpSumLemmas.{reads_least, reads_exact}
use Rattle.tk_ledgers.proofs.op.inspector.OpInspector.read.Goals as goal

pub returns-clause-least : goal.returns-clause-least
returns-clause-least g c = subst (λ (h : OpSight). CountsReach h.token.view c.read.result) c.self.view_is
    (reads_least c.self.inside.handle.view c.read.result c.read.new.self.view c.read.ensures.entry)

pub returns-clause-exact : goal.returns-clause-exact
returns-clause-exact g c = subst (λ (h : OpSight). HoldsAll op_meaning h.token.view → CountsAre h.token.view c.read.result) c.self.view_is
    (reads_exact c.self.inside.handle.view c.read.result c.read.new.self.view c.read.ensures.entry)
