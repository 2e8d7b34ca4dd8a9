use Rattle.std.proofs.Common.{◌≡◌, ◌+◌, ◌<◌, ◌≤◌, ◌⊎◌, ℕ, List, Some, is_some, refl, subst, sym, ap, ◌∙◌, arith, rules, true, false}
use Rattle.std.specs.List.{slice_get, remove}
use Rattle.std.specs.Map.{values_of}
use Rattle.tk_exec.specs.Places.{values_at, AreOrdered}
use Rattle.tk_exec.specs.Seats.{Tasks}
use Rattle.tk_exec.specs.Turns.{NoneFinished}
use Rattle.tk_exec.proofs.PlaceLemmas.{key_kept, key_stands}
use Rattle.tk_exec.proofs.OrderLemmas.{key_at, long_values, only_within, none_held, stays_unfinished, finished_named, taken_ordered, taken_left, takes, never_none, if_none}
use Rattle.tk_exec.proofs.executor.Executor.take.Goals as goal

pub returns-in_err-place-clause-none : goal.returns-in_err-place-clause-none
returns-in_err-place-clause-none g c =
    if_none c.from_residual.result (NoneFinished c.args.self.now.seats c.args.id × (c.args.self.now ≡ c.args.self.now)) (none_held c.args.self.now.seats c.args.id c.in_err-place.ensures.absent, refl)

pub index-key-requires : goal.index-key-requires
index-key-requires g c =
    let less = only_within c.self.inside.tasks.slots c.self.inside.order.entries c.self.inside.next c.self.inside.unfinished c.self.invariant c.self.inside.next c.args.self.now c.args.id c.in_ok-place.place c.self.view_is c.in_ok-place.ensures.found in
    omega (arith, less, long_values c.self.inside.order.entries)

pub index-requires : goal.index-requires
index-requires g c =
    let less = only_within c.self.inside.tasks.slots c.self.inside.order.entries c.self.inside.next c.self.inside.unfinished c.self.invariant c.self.inside.next c.args.self.now c.args.id c.in_ok-place.place c.self.view_is c.in_ok-place.ensures.found in
    let is = key_at c.self.inside.order.entries c.in_ok-place.place c.index-key.result.now c.index-key.ensures in
    key_kept c.self.inside.tasks.slots (values_of c.self.inside.order.entries) c.self.invariant.kept c.in_ok-place.place less c.index-key.result.now is

pub returns-then-not-is_finished-clause-none : goal.returns-then-not-is_finished-clause-none
returns-then-not-is_finished-clause-none g c =
    let less = only_within c.self.inside.tasks.slots c.self.inside.order.entries c.self.inside.next c.self.inside.unfinished c.self.invariant c.self.inside.next c.args.self.now c.args.id c.in_ok-place.place c.self.view_is c.in_ok-place.ensures.found in
    let is = key_at c.self.inside.order.entries c.in_ok-place.place c.index-key.result.now c.index-key.ensures in
    let stood : slice_get c.args.self.now.seats c.in_ok-place.place ≡ Some c.index.result.now = ap (λ (t : Tasks g.row.W.Denot g.row.W-Out.Denot). slice_get t.seats c.in_ok-place.place) (sym c.self.view_is)
    ∙ (key_stands c.self.inside.tasks.slots (values_of c.self.inside.order.entries) c.self.invariant.kept c.in_ok-place.place less c.index-key.result.now is ∙ c.index.ensures) in
    let out : is_some c.index.result.now.out ≡ false = search rules in
    (stays_unfinished c.args.self.now.seats c.args.id c.in_ok-place.place c.in_ok-place.ensures.found c.index.result.now stood out, refl)

pub remove-requires : goal.remove-requires
remove-requires g c =
    let less = only_within c.self.inside.tasks.slots c.self.inside.order.entries c.self.inside.next c.self.inside.unfinished c.self.invariant c.self.inside.next c.args.self.now c.args.id c.in_ok-place.place c.self.view_is c.in_ok-place.ensures.found in
    let is = key_at c.self.inside.order.entries c.in_ok-place.place c.index-key.result.now c.index-key.ensures in
    key_kept c.self.inside.tasks.slots (values_of c.self.inside.order.entries) c.self.invariant.kept c.in_ok-place.place less c.index-key.result.now is

pub invariant_of-self : goal.invariant_of-self
invariant_of-self g c =
    let less = only_within c.self.inside.tasks.slots c.self.inside.order.entries c.self.inside.next c.self.inside.unfinished c.self.invariant c.self.inside.next c.args.self.now c.args.id c.in_ok-place.place c.self.view_is c.in_ok-place.ensures.found in
    let is = key_at c.self.inside.order.entries c.in_ok-place.place c.index-key.result.now c.index-key.ensures in
    let done : is_some c.index.result.now.out ≡ true = search rules in
    subst (λ (l : List (ℕ × ℕ)). AreOrdered c.remove.new.self.slots l c.next_without-self-inside.result c.self.inside.unfinished) (sym c.shift_remove_index.ensures.entries)
    (taken_ordered c.self.inside.tasks.slots c.self.inside.order.entries c.self.inside.next c.self.inside.unfinished c.self.invariant c.in_ok-place.place less c.index-key.result.now is c.index.result.now c.index.ensures
    c.remove.new.self.slots c.next_without-self-inside.result done c.remove.ensures.updates.others c.next_without-self-inside.ensures)

pub returns-clause-some : goal.returns-clause-some
returns-clause-some g c =
    let less = only_within c.self.inside.tasks.slots c.self.inside.order.entries c.self.inside.next c.self.inside.unfinished c.self.invariant c.self.inside.next c.args.self.now c.args.id c.in_ok-place.place c.self.view_is c.in_ok-place.ensures.found in
    let is = key_at c.self.inside.order.entries c.in_ok-place.place c.index-key.result.now c.index-key.ensures in
    let stood : slice_get c.args.self.now.seats c.in_ok-place.place ≡ Some c.remove.result = ap (λ (t : Tasks g.row.W.Denot g.row.W-Out.Denot). slice_get t.seats c.in_ok-place.place) (sym c.self.view_is)
    ∙ (key_stands c.self.inside.tasks.slots (values_of c.self.inside.order.entries) c.self.invariant.kept c.in_ok-place.place less c.index-key.result.now is ∙ c.remove.ensures.value) in
    let named = finished_named c.args.self.now.seats c.args.id c.in_ok-place.place c.in_ok-place.ensures.found c.remove.result stood in
    let left : values_at c.remove.new.self.slots (values_of c.shift_remove_index.new.self.entries) ≡ remove c.args.self.now.seats c.in_ok-place.place =
    ap (λ (l : List (ℕ × ℕ)). values_at c.remove.new.self.slots (values_of l)) c.shift_remove_index.ensures.entries
    ∙ (taken_left c.self.inside.tasks.slots c.self.inside.order.entries c.self.inside.next c.self.inside.unfinished c.self.invariant c.in_ok-place.place less c.index-key.result.now is c.remove.result c.remove.ensures.value c.remove.new.self.slots c.remove.ensures.updates.others
    ∙ ap (λ (t : Tasks g.row.W.Denot g.row.W-Out.Denot). remove t.seats c.in_ok-place.place) c.self.view_is) in
    let next = subst (λ (t : Tasks g.row.W.Denot g.row.W-Out.Denot). ((c.in_ok-place.place < t.next) × (c.next_without-self-inside.result + 1 ≡ t.next)) ⊎ ((t.next ≤ c.in_ok-place.place) × (c.next_without-self-inside.result ≡ t.next))) c.self.view_is c.next_without-self-inside.ensures in
    takes c.args.self.now _ c.args.id c.in_ok-place.place c.remove.result c.into_answer.result c.into_answer.ensures.out c.into_answer.ensures.receipt stood named left next

pub returns-clause-none : goal.returns-clause-none
returns-clause-none g c =
    never_none c.into_answer.result _ (c.into_answer.ensures.exact ∙ search rules)
