use Rattle.std.proofs.Common.{◌≡◌, ◌++◌, ◌∷◌, [], ℕ, List, zero, suc, length, subst, ap, sym, ◌∙◌, append_assoc, append-nil, arith, rules}
use Rattle.std.specs.Map.{values_of}
use Rattle.tk_ledgers.specs.Tasks.{TaskSight}
use Rattle.tk_exec.specs.Places.{values_at, AreKept}
use Rattle.tk_exec.specs.Seats.{Seat, Tasks, AreClosedAt}
use Rattle.tk_exec.proofs.OrderLemmas.{whole, long_values}
use Rattle.tk_exec.proofs.DriveLemmas.{rest_are, head_values}
use Rattle.tk_exec.proofs.executor.Executor.close_into.Goals as goal

pub remove-requires : goal.remove-requires
remove-requires g c =
    let head : c.loop-key.key-iterator ≡ c.in-Some.key ∷ c.next.new.self = search rules in
    let are = subst (λ (l : List ℕ). AreKept c.loop-key.tasks.slots l) head c.loop-key.invariant.0 in
    are.kept zero (omega arith)

pub loop-key-preserved : goal.loop-key-preserved
loop-key-preserved g c =
    let inv = c.loop-key.invariant in
    let head : c.loop-key.key-iterator ≡ c.in-Some.key ∷ c.next.new.self = search rules in
    let are = subst (λ (l : List ℕ). AreKept c.loop-key.tasks.slots l) head inv.0 in
    let values : values_at c.loop-key.tasks.slots c.loop-key.key-iterator ≡ c.remove.result ∷ values_at c.remove.new.self.slots c.next.new.self =
    ap (λ (l : List ℕ). values_at c.loop-key.tasks.slots l) head
    ∙ head_values c.loop-key.tasks.slots c.remove.new.self.slots c.in-Some.key c.next.new.self are c.remove.result c.remove.ensures.value c.remove.ensures.updates.others in
    let long : length c.loop-key.key-iterator ≡ suc (length c.next.new.self) = ap (λ (l : List ℕ). length l) head in (
      rest_are c.loop-key.tasks.slots c.remove.new.self.slots c.in-Some.key c.next.new.self are c.remove.result c.remove.ensures.value c.remove.ensures.updates.others,
      (λ rest closed. subst (λ (l : List TaskSight). AreClosedAt c.args.moment (values_at c.self.inside.tasks.slots c.into_iter-key-iterator.result) l)
          (sym (append_assoc c.loop-key.receipts.items (c.close.result ∷ []) rest) ∙ ap (λ (l : List TaskSight). l ++ rest) (sym c.push_reserved.ensures.items))
          (inv.1 (c.close.result ∷ rest) (subst (λ (l : List (Seat g.row.W.Denot g.row.W-Out.Denot)). AreClosedAt c.args.moment l (c.close.result ∷ rest)) (sym values) (c.close.ensures, closed)))),
      omega (arith, long, inv.2, c.push_reserved.ensures.len, c.push_reserved.ensures.capacity),
    )

pub loop-key-init : goal.loop-key-init
loop-key-init g c =
    let keys : c.into_iter-key-iterator.result ≡ values_of c.self.inside.order.entries = c.into_iter-key-iterator.ensures.into_iter_gives ∙ c.into_values-key-items.ensures.rest in
    let all = whole c.self.inside.tasks.slots c.self.inside.order.entries c.self.inside.next c.self.inside.unfinished c.self.invariant c.self.inside.next c.args.self c.self.view_is in
    let long : length c.into_iter-key-iterator.result ≡ length (values_of c.self.inside.order.entries) = ap (λ (l : List ℕ). length l) keys in (
      subst (λ (l : List ℕ). AreKept c.self.inside.tasks.slots l) (sym keys) c.self.invariant.kept,
      (λ rest closed. subst (λ (l : List TaskSight). AreClosedAt c.args.moment (values_at c.self.inside.tasks.slots c.into_iter-key-iterator.result) (l ++ rest)) (sym c.requires.empty) closed),
      omega (arith, c.requires.room, all, long, long_values c.self.inside.order.entries),
    )

pub returns : goal.returns
returns g c =
    let none : c.loop-key.key-iterator ≡ [] = search rules in
    let keys : c.into_iter-key-iterator.result ≡ values_of c.self.inside.order.entries = c.into_iter-key-iterator.ensures.into_iter_gives ∙ c.into_values-key-items.ensures.rest in
    let closed = c.loop-key.invariant.1 [] (subst (λ (l : List ℕ). AreClosedAt c.args.moment (values_at c.loop-key.tasks.slots l) []) (sym none) tt) in
    subst (λ (t : Tasks g.row.W.Denot g.row.W-Out.Denot). AreClosedAt c.args.moment t.seats c.loop-key.receipts.items) c.self.view_is
    (subst (λ (l : List ℕ). AreClosedAt c.args.moment (values_at c.self.inside.tasks.slots l) c.loop-key.receipts.items) keys
    (subst (λ (l : List TaskSight). AreClosedAt c.args.moment (values_at c.self.inside.tasks.slots c.into_iter-key-iterator.result) l) (append-nil c.loop-key.receipts.items) closed))
