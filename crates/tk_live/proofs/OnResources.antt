-- What an interpreter stands for after a command that calls on a resource.
use Rattle.std.proofs.Common.{◌≡◌, ◌⊎◌, ℕ, ◌+◌, Bool, true, false, cond, List, [], ◌∷◌, ◌++◌, length, Option, Some, None, inl, refl, sym, ap, ◌∙◌, subst}
use Rattle.std.specs.Prelude.{slice_get, slice_set, is_some, Result, Ok, Err}
use Rattle.tk_core.specs.declared.attrs.AttrOp.{AttrOp}
use Rattle.tk_core.specs.declared.resource.call.ResourceCall.{ResourceCall}
use Rattle.tk_core.specs.declared.reply.Refusal.TheVariants.{Closed}
use Rattle.tk_stream.specs.Streams.{Sending}
use Rattle.tk_script.specs.Commands.{Said}
use Rattle.tk_live.specs.Course.{Course, step}
use Rattle.tk_live.specs.Items.{EachFrom, IsResource, Holds, IsSameResource, ResourceDid}
use Rattle.tk_live.specs.Named.{made_item}
use Rattle.tk_live.specs.Pasts.{ResourcePast, Pasts, and_called, called_at, resource_called, resource_values, unless_closed, open_resource, is_closed_resource}
use Rattle.tk_live.specs.Runs.{Numbers, numbers_of, Represents, SilentSpec}
use Rattle.tk_live.specs.Stops.{change_of_resource, unless_refused, stop_by_text}
use Rattle.tk_live.specs.declared.interpreter.Interpreter.{Interpreter}
use Rattle.tk_live.specs.declared.items.ResourceItem.{ResourceItem}
use Rattle.tk_script.specs.declared.settings.Settings.{Settings}
use Rattle.tk_script.specs.declared.stop.Stop.{Stop}
use Rattle.tk_script.specs.declared.stop.Stop.TheVariants.{Call, NoSuchItem}
use Rattle.tk_live.proofs.Places.{made_put, at_place, each_made, each_there, each_with}
use Rattle.tk_live.proofs.Standing.{called_put, length_called, open_there, none_open, ResourcesStay, tasks_rest, ops_rest, untold, went_on, calling}

-- a change of a resource that wasn't made, and of one that is closed
pub change_unmade : (index : ℕ) (change : AttrOp) (o : Option ResourcePast) → is_some o ≡ false → change_of_resource index change o ≡ Some NoSuchItem
change_unmade index change None e = refl
change_unmade index change (Some p) e = absurd cc

pub change_shut : (index : ℕ) (change : AttrOp) (o : Option ResourcePast) → is_some o ≡ true → unless_closed is_closed_resource o ≡ None → change_of_resource index change o ≡ Some (Call Closed)
change_shut index change None e none = absurd cc
change_shut index change (Some p) e none = go (is_closed_resource p) none
  where
    go : (b : Bool) → cond b None (Some p) ≡ None → cond b (Some (Call Closed)) (unless_refused index change (resource_values p)) ≡ Some (Call Closed)
    go true is = refl
    go false is = absurd cc

-- ---- a call on a resource

pub resources_numbered : (n : ℕ) (call : ResourceCall) (ps : Pasts) → numbers_of (resource_called n call ps) ≡ numbers_of ps
resources_numbered n call ps = ap {B = Numbers} (λ (l : ℕ). record { tasks = length ps.tasks; resources = l; ops = length ps.ops }) (length_called n (call ∷ []) ps.resources)

-- a resource made this call
pub resource_went : (i new : Interpreter) (settings : Settings) (c : Course) (kept : List Bool) (sent : List Sending) (n place : ℕ) (old next : ResourceItem) (call : ResourceCall) → Represents i settings c kept sent
    → slice_get i.resources.items place ≡ Some old → n ≡ place + 1 → new.resources.items ≡ slice_set i.resources.items place next → IsSameResource old next
    → ((p : ResourcePast) → IsResource n p old → IsResource n (and_called (call ∷ []) p) next)
    → new ≡ record i { resources = new.resources } → Represents new settings (calling c (resource_called n call c.pasts)) (kept ++ []) sent
resource_went i new settings c kept sent n place old next call stands stood is put same did whole =
    let now = record i { resources = new.resources } in
    let there = each_made IsResource c.pasts.resources i.resources.items n old stands.holds.resources_are (at_place n place i.resources.items is ∙ stood) in
    let each : EachFrom IsResource 1 (called_at n (call ∷ []) c.pasts.resources) (slice_set i.resources.items place next) =
    subst (λ (l : List ResourcePast). EachFrom IsResource 1 l (slice_set i.resources.items place next)) (sym (called_put n (call ∷ []) c.pasts.resources there.0 there.1))
    (each_with IsResource c.pasts.resources i.resources.items n place (and_called (call ∷ []) there.0) next stands.holds.resources_are is (did there.0 there.2)) in
    subst (λ (j : Interpreter). Represents j settings (calling c (resource_called n call c.pasts)) (kept ++ []) sent) (sym whole)
    (untold now settings (record c { pasts = resource_called n call c.pasts }) kept sent
    (went_on i now settings c (resource_called n call c.pasts) kept sent stands
    (subst (λ (resources : List ResourceItem). Holds i.tasks.items i.wakers.items resources i.ops.items (resource_called n call c.pasts)) (sym put) (record {
      tasks_are = record { tasks_are = stands.holds.tasks_are.tasks_are; wakers_are = stands.holds.tasks_are.wakers_are; are_live = stands.holds.tasks_are.are_live };
      resources_are = each;
      ops_are = stands.holds.ops_are;
    }))
    (tasks_rest i.tasks.items)
    (subst (λ (resources : List ResourceItem). ResourcesStay i.resources.items resources) (sym put)
    (λ m r made. made_put (λ k x y. y.callers.token.ledger ≡ x.callers.token.ledger) (λ k x. refl) i.resources.items place old next m r stood same.ledger made))
    (ops_rest i.ops.items) (resources_numbered n call c.pasts)))

-- a command that calls on an open resource did what the call did, where this is what the text tells of one that is open
pub resource_did : (i new : Interpreter) (line n place : ℕ) (s : Said) (call : ResourceCall) (stop : ResourcePast → Option Stop) (old next : ResourceItem) (result : Result (Unit {0}) Stop)
    → slice_get i.resources.items place ≡ Some old → n ≡ place + 1 → old.closed ≡ false → new.resources.items ≡ slice_set i.resources.items place next → IsSameResource old next → ResourceDid stop call old next result
    → ((c : Course) (p : ResourcePast) → made_item n c.pasts.resources ≡ Some p → is_closed_resource p ≡ false → open_resource n c.pasts ≡ Some p → stop_by_text c s ≡ stop p) → ((c : Course) → step c line s ≡ calling c (resource_called n call c.pasts))
    → new ≡ record i { resources = new.resources } → SilentSpec line s i new result
resource_did i new line n place s call stop old next (Ok done) stood is unshut put same did stops steps whole settings c kept sent stands =
    let made = at_place n place i.resources.items is ∙ stood in
    let there = open_there IsResource is_closed_resource (λ r. r.closed) (λ m p r h. h.is_closed) c.pasts.resources i.resources.items n old stands.holds.resources_are made unshut in (
      stops c there.0 there.1 (sym there.2.is_closed ∙ unshut) there.3 ∙ (did n there.0 there.2).0,
      [],
      subst (λ (d : Course). Represents new settings d (kept ++ []) sent) (sym (steps c))
          (resource_went i new settings c kept sent n place old next call stands stood is put same (λ p h. (did n p h).1) whole),
    )
resource_did i new line n place s call stop old next (Err why) stood is unshut put same did stops steps whole settings c kept sent stands =
    let made = at_place n place i.resources.items is ∙ stood in
    let there = open_there IsResource is_closed_resource (λ r. r.closed) (λ m p r h. h.is_closed) c.pasts.resources i.resources.items n old stands.holds.resources_are made unshut in
    inl (stops c there.0 there.1 (sym there.2.is_closed ∙ unshut) there.3 ∙ did n there.0 there.2)

-- a command on a resource that wasn't made or is closed stops
pub no_resource : (i : Interpreter) (line n : ℕ) (s : Said) (why : Stop) → (made_item n i.resources.items ≡ None) ⊎ ((r : ResourceItem) × (made_item n i.resources.items ≡ Some r) × (r.closed ≡ true))
    → ((c : Course) → is_some (made_item n c.pasts.resources) ≡ is_some (made_item n i.resources.items) → open_resource n c.pasts ≡ None → stop_by_text c s ≡ Some why) → SilentSpec line s i i (Err why)
no_resource i line n s why none stops settings c kept sent stands =
    inl (stops c (each_there IsResource c.pasts.resources i.resources.items n stands.holds.resources_are)
    (none_open IsResource is_closed_resource (λ r. r.closed) (λ m p r h. h.is_closed) c.pasts.resources i.resources.items n stands.holds.resources_are none))
