use Rattle.std.proofs.Common.{ℕ, nat_eq, subst, ap, ◌∙◌}
use Rattle.std.specs.Prelude.{IfSome, IfNone, position, is_some}
use Rattle.std.specs.Map.{lookup, keys_of}
use Rattle.tk_exec.specs.Places.{IsOnlyAt}
use Rattle.tk_exec.specs.Seats.{Tasks}
use Rattle.tk_exec.specs.Turns.{HoldsId}
use Rattle.tk_exec.proofs.OrderLemmas.{found_only, not_held}
use Rattle.tk_exec.proofs.executor.Executor.place_of.Goals as goal

pub returns-clause-found : goal.returns-clause-found
returns-clause-found g c =
    let index = c.get_index_of.ensures.index ∙ ap (λ (n : ℕ). position (nat_eq n) (keys_of c.self.inside.order.entries)) c.value.ensures.value in
    subst (λ (t : Tasks g.row.W.Denot g.row.W-Out.Denot). IfSome c.get_index_of.result (λ place. IsOnlyAt t.seats c.args.id place)) c.self.view_is
    (found_only c.self.inside.order.entries _ c.self.invariant.named c.args.id c.get_index_of.result index c.get_index_of.ensures.unique)

pub returns-clause-absent : goal.returns-clause-absent
returns-clause-absent g c =
    let found = c.get_index_of.ensures.found ∙ ap (λ (n : ℕ). is_some (lookup (nat_eq n) c.self.inside.order.entries)) c.value.ensures.value in
    subst (λ (t : Tasks g.row.W.Denot g.row.W-Out.Denot). IfNone c.get_index_of.result (HoldsId t.seats c.args.id → ⊥)) c.self.view_is
    (not_held c.self.inside.order.entries _ c.self.invariant.named c.args.id c.get_index_of.result found)
