use Rattle.std.proofs.Common.{◌≡◌, ◌+◌, ◌∷◌, [], List, ℕ, length, None, subst, sym, ap, ◌∙◌, arith}
use Rattle.std.specs.Prelude.{IfSome, IfNone}
use Rattle.std.specs.Map.{values_of}
use Rattle.std.proofs.lemmas.List.{map-append}
use Rattle.tk_exec.specs.Places.{values_at, AreOrdered, IsOnlyAt}
use Rattle.tk_exec.specs.Seats.{Tasks}
use Rattle.tk_exec.specs.Turns.{HoldsId}
use Rattle.tk_exec.proofs.PlaceLemmas.{push_values, spawned}
use Rattle.tk_exec.proofs.OrderLemmas.{only_holds, none_holds, few, seat_is, pushed_entries, pushed_ordered}
use Rattle.tk_exec.proofs.executor.Executor.spawn.Goals as goal

pub returns-then-is_some-clause-refused : goal.returns-then-is_some-clause-refused
returns-then-is_some-clause-refused g c =
    only_holds c.args.self.now.seats c.args.task.id c.place_of.result (sym c.is_some.ensures ∙ c.if-is_some.true)
    (subst (λ (id : ℕ). IfSome c.place_of.result (λ place. IsOnlyAt c.args.self.now.seats id place)) c.id-id.ensures c.place_of.ensures.found)

pub returns-then-is_err-clause-refused : goal.returns-then-is_err-clause-refused
returns-then-is_err-clause-refused g c =
    none_holds c.args.self.now.seats c.args.task.id c.place_of.result (sym c.is_some.ensures ∙ c.if-is_some.false)
    (subst (λ (id : ℕ). IfNone c.place_of.result (HoldsId c.args.self.now.seats id → ⊥)) c.id-id.ensures c.place_of.ensures.absent)

pub returns-in-Err-clause-refused : goal.returns-in-Err-clause-refused
returns-in-Err-clause-refused g c =
    none_holds c.args.self.now.seats c.args.task.id c.place_of.result (sym c.is_some.ensures ∙ c.if-is_some.false)
    (subst (λ (id : ℕ). IfNone c.place_of.result (HoldsId c.args.self.now.seats id → ⊥)) c.id-id.ensures c.place_of.ensures.absent)

pub returns-in-Ok-insert-clause-fresh : goal.returns-in-Ok-insert-clause-fresh
returns-in-Ok-insert-clause-fresh g c =
    none_holds c.args.self.now.seats c.args.task.id c.place_of.result (sym c.is_some.ensures ∙ c.if-is_some.false)
    (subst (λ (id : ℕ). IfNone c.place_of.result (HoldsId c.args.self.now.seats id → ⊥)) c.id-id.ensures c.place_of.ensures.absent)

pub overflow_add-self : goal.overflow_add-self
overflow_add-self g c =
    let all = few c.self.inside.tasks.slots c.self.inside.order.entries c.self.inside.next c.self.inside.unfinished c.self.invariant in
    let same : length c.reserve.new.self.entries ≡ length c.self.inside.order.entries = ap (λ (l : List (ℕ × ℕ)). length l) c.reserve.ensures.entries in
    omega (arith, all, same, c.len-held.ensures.len, c.len-held.ensures.small)

pub invariant_of-self-in-Ok : goal.invariant_of-self-in-Ok
invariant_of-self-in-Ok g c =
    let free = none_holds c.args.self.now.seats c.args.task.id c.place_of.result (sym c.is_some.ensures ∙ c.if-is_some.false)
    (subst (λ (id : ℕ). IfNone c.place_of.result (HoldsId c.args.self.now.seats id → ⊥)) c.id-id.ensures c.place_of.ensures.absent) in
    let named : c.value.result ≡ c.new.result.task.id = c.value.ensures.value ∙ (c.id-id.ensures ∙ ap (λ t. t.id) (sym c.new.ensures.task)) in
    let entries = pushed_entries c.reserve.new.self c.self.inside.order.entries c.insert-in-Ok.new.self.entries (values_at c.self.inside.tasks.slots (values_of c.self.inside.order.entries)) c.value.result c.new.result.task.id c.in-Ok.key c.reserve.ensures.entries c.self.invariant.named
    (subst (λ (t : Tasks g.row.W.Denot g.row.W-Out.Denot). HoldsId t.seats c.new.result.task.id → ⊥) (sym c.self.view_is) (subst (λ (id : ℕ). HoldsId c.args.self.now.seats id → ⊥) (ap (λ t. t.id) (sym c.new.ensures.task)) free)) named c.in-Ok-insert.ensures.entries in
    subst (λ (l : List (ℕ × ℕ)). AreOrdered c.insert.new.self.slots l c.self.inside.next (c.self.inside.unfinished + 1)) (sym entries)
    (pushed_ordered c.self.inside.tasks.slots c.self.inside.order.entries c.self.inside.next c.self.inside.unfinished c.self.invariant c.insert.new.self.slots c.in-Ok.key c.new.result c.in-Ok.ensures.was_vacant c.in-Ok.ensures.updates.changed c.in-Ok.ensures.updates.others c.new.ensures.out)

pub returns-in-Ok-insert-clause-ok : goal.returns-in-Ok-insert-clause-ok
returns-in-Ok-insert-clause-ok g c =
    let free = none_holds c.args.self.now.seats c.args.task.id c.place_of.result (sym c.is_some.ensures ∙ c.if-is_some.false)
    (subst (λ (id : ℕ). IfNone c.place_of.result (HoldsId c.args.self.now.seats id → ⊥)) c.id-id.ensures c.place_of.ensures.absent) in
    let named : c.value.result ≡ c.new.result.task.id = c.value.ensures.value ∙ (c.id-id.ensures ∙ ap (λ t. t.id) (sym c.new.ensures.task)) in
    let entries = pushed_entries c.reserve.new.self c.self.inside.order.entries c.insert-in-Ok.new.self.entries (values_at c.self.inside.tasks.slots (values_of c.self.inside.order.entries)) c.value.result c.new.result.task.id c.in-Ok.key c.reserve.ensures.entries c.self.invariant.named
    (subst (λ (t : Tasks g.row.W.Denot g.row.W-Out.Denot). HoldsId t.seats c.new.result.task.id → ⊥) (sym c.self.view_is) (subst (λ (id : ℕ). HoldsId c.args.self.now.seats id → ⊥) (ap (λ t. t.id) (sym c.new.ensures.task)) free)) named c.in-Ok-insert.ensures.entries in
    let es = c.self.inside.order.entries in
    let seat : c.new.result ≡ record { task = c.args.task; out = None } = seat_is c.new.result c.args.task c.new.ensures.task c.new.ensures.out in
    let values = push_values c.self.inside.tasks.slots c.insert.new.self.slots (values_of es) c.self.invariant.kept c.in-Ok.key c.new.result c.in-Ok.ensures.was_vacant c.in-Ok.ensures.updates.changed c.in-Ok.ensures.updates.others in
    let keys = ap (λ (l : List (ℕ × ℕ)). values_of l) entries ∙ map-append (λ e. e.1) es ((c.new.result.task.id, c.in-Ok.key) ∷ []) in
    spawned c.self.inside.tasks.slots c.insert.new.self.slots (values_of es) (values_of c.insert-in-Ok.new.self.entries) c.in-Ok.key c.new.result (record { task = c.args.task; out = None }) c.self.inside.next c.args.self.now c.self.view_is keys seat values
