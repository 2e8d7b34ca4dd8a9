use Rattle.std.proofs.Common.{◌≡◌, ◌++◌, ◌∷◌, ℕ, List, Some, None, zero, suc, length, subst, ap, sym, ◌∙◌, refl, arith, rules}
use Rattle.std.specs.Map.{values_of}
use Rattle.tk_exec.specs.Places.{values_at, AreKept}
use Rattle.tk_exec.specs.Seats.{outputs_of}
use Rattle.tk_exec.proofs.OrderLemmas.{whole, long_values}
use Rattle.tk_exec.proofs.DriveLemmas.{rest_are, rest_outputs, output_behind, no_output}
use Rattle.tk_exec.proofs.executor.Executor.into_outputs.Goals as goal

pub remove-requires : goal.remove-requires
remove-requires g c =
    let head : c.loop-key.key-iterator ≡ c.in-Some.key ∷ c.next.new.self = search rules in
    let are = subst (λ (l : List ℕ). AreKept c.loop-key.tasks.slots l) head c.loop-key.invariant.0 in
    are.kept zero (omega arith)

pub loop-key-preserved-in-Some-into_output : goal.loop-key-preserved-in-Some-into_output
loop-key-preserved-in-Some-into_output g c =
    let inv = c.loop-key.invariant in
    let head : c.loop-key.key-iterator ≡ c.in-Some.key ∷ c.next.new.self = search rules in
    let are = subst (λ (l : List ℕ). AreKept c.loop-key.tasks.slots l) head inv.0 in
    let outputs = rest_outputs c.loop-key.tasks.slots c.remove.new.self.slots c.in-Some.key c.next.new.self are c.remove.result c.remove.ensures.value c.remove.ensures.updates.others in
    let out : c.remove.result.out ≡ Some c.in-Some-into_output.output = sym c.into_output.ensures ∙ c.in-Some-into_output.is in
    let before = ap (λ (l : List g.row.W-Out.Denot). c.loop-key.outputs.items ++ l) (sym outputs)
    ∙ (ap (λ (l : List ℕ). c.loop-key.outputs.items ++ outputs_of (values_at c.loop-key.tasks.slots l)) (sym head) ∙ inv.1) in
    let long : length c.loop-key.key-iterator ≡ suc (length c.next.new.self) = ap (λ (l : List ℕ). length l) head in (
      rest_are c.loop-key.tasks.slots c.remove.new.self.slots c.in-Some.key c.next.new.self are c.remove.result c.remove.ensures.value c.remove.ensures.updates.others,
      ap (λ (l : List g.row.W-Out.Denot). l ++ outputs_of (values_at c.remove.new.self.slots c.next.new.self)) c.push_reserved.ensures.items
          ∙ output_behind c.loop-key.outputs.items (outputs_of (values_at c.remove.new.self.slots c.next.new.self)) _ c.remove.result.out c.in-Some-into_output.output out before,
      omega (arith, long, inv.2, c.push_reserved.ensures.len, c.push_reserved.ensures.capacity),
    )

pub loop-key-preserved : goal.loop-key-preserved
loop-key-preserved g c =
    let inv = c.loop-key.invariant in
    let head : c.loop-key.key-iterator ≡ c.in-Some.key ∷ c.next.new.self = search rules in
    let are = subst (λ (l : List ℕ). AreKept c.loop-key.tasks.slots l) head inv.0 in
    let outputs = rest_outputs c.loop-key.tasks.slots c.remove.new.self.slots c.in-Some.key c.next.new.self are c.remove.result c.remove.ensures.value c.remove.ensures.updates.others in
    let out : c.remove.result.out ≡ None = sym c.into_output.ensures ∙ c.in_default.is in
    let before = ap (λ (l : List g.row.W-Out.Denot). c.loop-key.outputs.items ++ l) (sym outputs)
    ∙ (ap (λ (l : List ℕ). c.loop-key.outputs.items ++ outputs_of (values_at c.loop-key.tasks.slots l)) (sym head) ∙ inv.1) in
    let long : length c.loop-key.key-iterator ≡ suc (length c.next.new.self) = ap (λ (l : List ℕ). length l) head in (
      rest_are c.loop-key.tasks.slots c.remove.new.self.slots c.in-Some.key c.next.new.self are c.remove.result c.remove.ensures.value c.remove.ensures.updates.others,
      no_output c.loop-key.outputs.items (outputs_of (values_at c.remove.new.self.slots c.next.new.self)) _ c.remove.result.out out before,
      omega (arith, long, inv.2),
    )

pub loop-key-init : goal.loop-key-init
loop-key-init g c =
    let keys : c.into_iter-key-iterator.result ≡ values_of c.self.inside.order.entries = c.into_iter-key-iterator.ensures.into_iter_gives ∙ c.into_values-key-items.ensures.rest in
    let all = whole c.self.inside.tasks.slots c.self.inside.order.entries c.self.inside.next c.self.inside.unfinished c.self.invariant c.self.inside.next c.args.self c.self.view_is in
    let long : length c.into_iter-key-iterator.result ≡ length (values_of c.self.inside.order.entries) = ap (λ (l : List ℕ). length l) keys in
    (subst (λ (l : List ℕ). AreKept c.self.inside.tasks.slots l) (sym keys) c.self.invariant.kept, refl, omega (arith, c.requires, all, long, long_values c.self.inside.order.entries))
