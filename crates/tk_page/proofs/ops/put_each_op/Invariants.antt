use Rattle.std.proofs.Common.{take}
use Rattle.std.specs.Prelude.{flat_map}
use Rattle.tk_paper.specs.Pieces.{Writes}
use Rattle.tk_page.specs.Items as spec
use Rattle.tk_page.proofs.ops.put_each_op.Given as goal

-- the rows so far
abbrev pub invariant-loop-op : goal.invariant-loop-op
invariant-loop-op l = Writes l.initial.paper l.paper (flat_map (λ o. spec.op l.tables.tasks o.now) (take l.op-index l.ops))
