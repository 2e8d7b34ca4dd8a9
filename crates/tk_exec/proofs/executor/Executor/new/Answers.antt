use Rattle.std.proofs.Common.{ℕ, List, subst, sym}
use Rattle.tk_exec.specs.Places.{AreOrdered}
use Rattle.tk_exec.proofs.OrderLemmas.{none_ordered}
use Rattle.tk_exec.proofs.executor.Executor.new.Goals as goal

pub invariant_of-result : goal.invariant_of-result
invariant_of-result g c =
    subst (λ (l : List (ℕ × ℕ)). AreOrdered c.in_ok-with_capacity.field-0.slots l 0 0) (sym c.in_ok-with_capacity-2.ensures.empty) (none_ordered c.in_ok-with_capacity.field-0.slots)
