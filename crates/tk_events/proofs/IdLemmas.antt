-- Which ids a recorder has given out after one more offer.
use Rattle.std.proofs.Common.{◌≡◌, ℕ, ◌+◌, ◌<◌, Bool, true, false, cond, if◌then◌else◌, List, [], ◌∷◌, ◌++◌, Option, length, length-append, refl, ap, sym, ◌∙◌, subst, arith}
use Rattle.std.specs.List.{count_by, filter}
use Rattle.std.proofs.lemmas.List.Elements.{filter-append}
use Rattle.std.proofs.lemmas.List.Sums.{count_by-le-length, length-filter}
use Rattle.tk_ids.specs.declared.info.OpInfo.{OpInfo}
use Rattle.tk_ids.specs.declared.info.ResourceInfo.{ResourceInfo}
use Rattle.tk_ids.specs.declared.info.TaskInfo.{TaskInfo}
use Rattle.tk_ids.specs.declared.spec.OpSpec.{OpSpec}
use Rattle.tk_ids.specs.declared.spec.ResourceSpec.{ResourceSpec}
use Rattle.tk_ids.specs.declared.spec.TaskSpec.{TaskSpec}
use Rattle.tk_ids.specs.Ids.{id_of}
use Rattle.tk_ids.specs.IdBlocks.{Given}
use Rattle.atomic_table.specs.Seated.{TableId}
use Rattle.tk_events.specs.declared.event.PollOp.{PollOp}
use Rattle.tk_events.specs.declared.event.Shown.{Shown}
use Rattle.tk_events.specs.declared.event.Shown.TheVariants.{MadeTask, MadeResource, MadeOp, Polled}
use Rattle.tk_events.specs.declared.item.Offer.{Offer}
use Rattle.tk_events.specs.Offers.{is_task, is_resource, is_op, tasks_in, resources_in, ops_in}
use Rattle.tk_events.specs.Handles.{Recording, with_kept, with_refused}
use Rattle.tk_events.specs.Items.{task_info, resource_info, op_info}
use Rattle.tk_events.specs.Parts.{given, given_with, HasNextId}

count_snoc : {X : Type 0} (f : X → Bool) (xs : List X) (x : X) → count_by f (xs ++ x ∷ []) ≡ count_by f xs + (if f x then 1 else 0)
count_snoc {X = X} f xs x =
    let a = length-filter f (xs ++ x ∷ []) in
    let b = length-filter f xs in
    let c : length (filter f (xs ++ x ∷ [])) ≡ length (filter f xs ++ filter f (x ∷ [])) = ap (λ (l : List X). length l) (filter-append f xs (x ∷ [])) in
    let d = length-append (filter f xs) (filter f (x ∷ [])) in
    let e : length (filter f (x ∷ [])) ≡ (if f x then 1 else 0) = go (f x) in
    omega (arith, a, b, c, d, e)
  where
    go : (b : Bool) → length (cond b (x ∷ []) []) ≡ (if b then 1 else 0)
    go true = refl
    go false = refl

more_left : (f : Offer → Bool) (xs ys : List Offer) (o : Offer) → count_by f (xs ++ o ∷ []) + count_by f ys ≡ count_by f xs + count_by f ys + (if f o then 1 else 0)
more_left f xs ys o = let a = count_snoc f xs o in omega (arith, a)

more_right : (f : Offer → Bool) (xs ys : List Offer) (o : Offer) → count_by f xs + count_by f (ys ++ o ∷ []) ≡ count_by f xs + count_by f ys + (if f o then 1 else 0)
more_right f xs ys o = let a = count_snoc f ys o in omega (arith, a)

pub given_kept : (r : Recording) (o : Offer) → given (with_kept r o) ≡ given_with r o.event
given_kept r o = λ i. record {
  recorder = r.number;
  tasks = more_left (λ (x : Offer). is_task x.event) r.kept r.refused o i;
  resources = more_left (λ (x : Offer). is_resource x.event) r.kept r.refused o i;
  ops = more_left (λ (x : Offer). is_op x.event) r.kept r.refused o i;
}

pub given_refused : (r : Recording) (o : Offer) → given (with_refused r o) ≡ given_with r o.event
given_refused r o = λ i. record {
  recorder = r.number;
  tasks = more_right (λ (x : Offer). is_task x.event) r.kept r.refused o i;
  resources = more_right (λ (x : Offer). is_resource x.event) r.kept r.refused o i;
  ops = more_right (λ (x : Offer). is_op x.event) r.kept r.refused o i;
}

none : (n : ℕ) → n ≡ n + 0
none n = omega arith

module _ (r : Recording) (ids : Given) (is : ids ≡ given r) where
  pub given_polled : (op : PollOp) → ids ≡ given_with r (Polled op)
  given_polled op = is ∙ (λ i. record { recorder = r.number; tasks = none (tasks_in r.kept + tasks_in r.refused) i; resources = none (resources_in r.kept + resources_in r.refused) i; ops = none (ops_in r.kept + ops_in r.refused) i })

  module _ (s : Shown) (id : ℕ) (ledger : TableId) where
    pub next_task_has : (spec : TaskSpec) (times : Option TableId) → s ≡ MadeTask (task_info id spec) ledger 1 times → id ≡ id_of ids.recorder (ids.tasks + 1) → HasNextId r s
    next_task_has spec times e at = subst (λ (x : Shown). HasNextId r x) (sym e) (at ∙ ap (λ (g : Given). id_of g.recorder (g.tasks + 1)) is)

    pub next_resource_has : (spec : ResourceSpec) → s ≡ MadeResource (resource_info id spec) ledger 1 → id ≡ id_of ids.recorder (ids.resources + 1) → HasNextId r s
    next_resource_has spec e at = subst (λ (x : Shown). HasNextId r x) (sym e) (at ∙ ap (λ (g : Given). id_of g.recorder (g.resources + 1)) is)

    pub next_op_has : (spec : OpSpec) → s ≡ MadeOp (op_info id spec) ledger 1 → id ≡ id_of ids.recorder (ids.ops + 1) → HasNextId r s
    next_op_has spec e at = subst (λ (x : Shown). HasNextId r x) (sym e) (at ∙ ap (λ (g : Given). id_of g.recorder (g.ops + 1)) is)

  module _ (after : Given) (s : Shown) where
    pub given_task : (info : TaskInfo) (ledger : TableId) (times : Option TableId) → s ≡ MadeTask info ledger 1 times → after ≡ record ids { tasks = ids.tasks + 1 } → after ≡ given_with r s
    given_task info ledger times e more = more ∙ (ap (λ (g : Given). record g { tasks = g.tasks + 1 }) is ∙ ((λ i. record { recorder = r.number; tasks = tasks_in r.kept + tasks_in r.refused + 1; resources = none (resources_in r.kept + resources_in r.refused) i; ops = none (ops_in r.kept + ops_in r.refused) i }) ∙ sym (ap (λ (x : Shown). given_with r x) e)))

    pub given_resource : (info : ResourceInfo) (ledger : TableId) → s ≡ MadeResource info ledger 1 → after ≡ record ids { resources = ids.resources + 1 } → after ≡ given_with r s
    given_resource info ledger e more = more ∙ (ap (λ (g : Given). record g { resources = g.resources + 1 }) is ∙ ((λ i. record { recorder = r.number; tasks = none (tasks_in r.kept + tasks_in r.refused) i; resources = resources_in r.kept + resources_in r.refused + 1; ops = none (ops_in r.kept + ops_in r.refused) i }) ∙ sym (ap (λ (x : Shown). given_with r x) e)))

    pub given_op : (info : OpInfo) (ledger : TableId) → s ≡ MadeOp info ledger 1 → after ≡ record ids { ops = ids.ops + 1 } → after ≡ given_with r s
    given_op info ledger e more = more ∙ (ap (λ (g : Given). record g { ops = g.ops + 1 }) is ∙ ((λ i. record { recorder = r.number; tasks = none (tasks_in r.kept + tasks_in r.refused) i; resources = none (resources_in r.kept + resources_in r.refused) i; ops = ops_in r.kept + ops_in r.refused + 1 }) ∙ sym (ap (λ (x : Shown). given_with r x) e)))

-- of the offers that were made no more make an item than there are
pub few : (f : Offer → Bool) (xs ys : List Offer) (n : ℕ) → length xs + length ys < n → count_by f xs + count_by f ys < n
few f xs ys n lt = let a = count_by-le-length f xs in let b = count_by-le-length f ys in omega (arith, a, b, lt)
