use Rattle.std.proofs.Common.{take}
use Rattle.std.specs.Prelude.{flat_map}
use Rattle.tk_paper.specs.Pieces.{Writes}
use Rattle.tk_page.specs.Idle as spec
use Rattle.tk_page.proofs.idle.put_awaited_ops.Given as goal

-- the lines so far
abbrev pub invariant-loop-op : goal.invariant-loop-op
invariant-loop-op l = Writes l.initial.paper l.paper (flat_map (λ o. spec.awaited_op l.scale l.tables o.now) (take l.op-index l.ops))
