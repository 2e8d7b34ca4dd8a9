-- What an interpreter stands for after a command that calls on an async operation.
use Rattle.std.proofs.Common.{◌≡◌, ◌⊎◌, ℕ, ◌+◌, Bool, true, false, List, [], ◌∷◌, ◌++◌, length, Option, Some, None, inl, refl, sym, ap, ◌∙◌, subst}
use Rattle.std.specs.Prelude.{slice_get, slice_set, Result, Ok, Err}
use Rattle.tk_core.specs.declared.op.call.OpCall.{OpCall}
use Rattle.tk_stream.specs.Streams.{Sending}
use Rattle.tk_script.specs.Commands.{Said}
use Rattle.tk_live.specs.Course.{Course, step}
use Rattle.tk_live.specs.Items.{EachFrom, IsOp, Holds, IsSameOp, OpDid}
use Rattle.tk_live.specs.Named.{made_item}
use Rattle.tk_live.specs.Pasts.{OpPast, Pasts, and_called, called_at, op_called, open_op, is_closed_op}
use Rattle.tk_live.specs.Runs.{Numbers, numbers_of, Represents, SilentSpec}
use Rattle.tk_live.specs.Stops.{stop_by_text}
use Rattle.tk_live.specs.declared.interpreter.Interpreter.{Interpreter}
use Rattle.tk_live.specs.declared.items.OpItem.{OpItem}
use Rattle.tk_script.specs.declared.settings.Settings.{Settings}
use Rattle.tk_script.specs.declared.stop.Stop.{Stop}
use Rattle.tk_script.specs.declared.stop.Stop.TheVariants.{NoSuchItem}
use Rattle.tk_live.proofs.Places.{made_put, at_place, each_made, each_with}
use Rattle.tk_live.proofs.Standing.{called_put, length_called, open_there, none_open, OpsStay, tasks_rest, resources_rest, untold, went_on, calling}

pub ops_numbered : (n : ℕ) (call : OpCall) (ps : Pasts) → numbers_of (op_called n call ps) ≡ numbers_of ps
ops_numbered n call ps = ap {B = Numbers} (λ (l : ℕ). record { tasks = length ps.tasks; resources = length ps.resources; ops = l }) (length_called n (call ∷ []) ps.ops)

-- an operation made this call
pub op_went : (i new : Interpreter) (settings : Settings) (c : Course) (kept : List Bool) (sent : List Sending) (n place : ℕ) (old next : OpItem) (call : OpCall) → Represents i settings c kept sent
    → slice_get i.ops.items place ≡ Some old → n ≡ place + 1 → new.ops.items ≡ slice_set i.ops.items place next → IsSameOp old next
    → ((p : OpPast) → IsOp n p old → IsOp n (and_called (call ∷ []) p) next)
    → new ≡ record i { ops = new.ops } → Represents new settings (calling c (op_called n call c.pasts)) (kept ++ []) sent
op_went i new settings c kept sent n place old next call stands stood is put same did whole =
    let now = record i { ops = new.ops } in
    let there = each_made IsOp c.pasts.ops i.ops.items n old stands.holds.ops_are (at_place n place i.ops.items is ∙ stood) in
    let each : EachFrom IsOp 1 (called_at n (call ∷ []) c.pasts.ops) (slice_set i.ops.items place next) =
    subst (λ (l : List OpPast). EachFrom IsOp 1 l (slice_set i.ops.items place next)) (sym (called_put n (call ∷ []) c.pasts.ops there.0 there.1))
    (each_with IsOp c.pasts.ops i.ops.items n place (and_called (call ∷ []) there.0) next stands.holds.ops_are is (did there.0 there.2)) in
    subst (λ (j : Interpreter). Represents j settings (calling c (op_called n call c.pasts)) (kept ++ []) sent) (sym whole)
    (untold now settings (record c { pasts = op_called n call c.pasts }) kept sent
    (went_on i now settings c (op_called n call c.pasts) kept sent stands
    (subst (λ (ops : List OpItem). Holds i.tasks.items i.wakers.items i.resources.items ops (op_called n call c.pasts)) (sym put) (record {
      tasks_are = record { tasks_are = stands.holds.tasks_are.tasks_are; wakers_are = stands.holds.tasks_are.wakers_are; are_live = stands.holds.tasks_are.are_live };
      resources_are = stands.holds.resources_are;
      ops_are = each;
    }))
    (tasks_rest i.tasks.items) (resources_rest i.resources.items)
    (subst (λ (ops : List OpItem). OpsStay i.ops.items ops) (sym put)
    (λ m o made. made_put (λ k x y. y.callers.token.ledger ≡ x.callers.token.ledger) (λ k x. refl) i.ops.items place old next m o stood same.ledger made))
    (ops_numbered n call c.pasts)))

-- a command that calls on an open operation did what the call did. The text tells so of what the interpreter stands for
pub op_did : (i new : Interpreter) (line n place : ℕ) (s : Said) (call : OpCall) (stop : OpPast → Option Stop) (old next : OpItem) (result : Result (Unit {0}) Stop)
    → slice_get i.ops.items place ≡ Some old → n ≡ place + 1 → old.closed ≡ false → new.ops.items ≡ slice_set i.ops.items place next → IsSameOp old next → OpDid stop call old next result
    → ((settings : Settings) (c : Course) (kept : List Bool) (sent : List Sending) (p : OpPast) → Represents i settings c kept sent → open_op n c.pasts ≡ Some p → stop_by_text c s ≡ stop p)
    → ((c : Course) → step c line s ≡ calling c (op_called n call c.pasts))
    → new ≡ record i { ops = new.ops } → SilentSpec line s i new result
op_did i new line n place s call stop old next (Ok done) stood is unshut put same did stops steps whole settings c kept sent stands =
    let made = at_place n place i.ops.items is ∙ stood in
    let there = open_there IsOp is_closed_op (λ o. o.closed) (λ m p o h. h.is_closed) c.pasts.ops i.ops.items n old stands.holds.ops_are made unshut in (
      stops settings c kept sent there.0 stands there.3 ∙ (did n there.0 there.2).0,
      [],
      subst (λ (d : Course). Represents new settings d (kept ++ []) sent) (sym (steps c))
          (op_went i new settings c kept sent n place old next call stands stood is put same (λ p h. (did n p h).1) whole),
    )
op_did i new line n place s call stop old next (Err why) stood is unshut put same did stops steps whole settings c kept sent stands =
    let made = at_place n place i.ops.items is ∙ stood in
    let there = open_there IsOp is_closed_op (λ o. o.closed) (λ m p o h. h.is_closed) c.pasts.ops i.ops.items n old stands.holds.ops_are made unshut in
    inl (stops settings c kept sent there.0 stands there.3 ∙ did n there.0 there.2)

-- a command on an operation that wasn't made or is closed stops
pub no_op : (i : Interpreter) (line n : ℕ) (s : Said) → (made_item n i.ops.items ≡ None) ⊎ ((o : OpItem) × (made_item n i.ops.items ≡ Some o) × (o.closed ≡ true))
    → ((settings : Settings) (c : Course) (kept : List Bool) (sent : List Sending) → Represents i settings c kept sent → open_op n c.pasts ≡ None → stop_by_text c s ≡ Some NoSuchItem) → SilentSpec line s i i (Err NoSuchItem)
no_op i line n s none stops settings c kept sent stands =
    inl (stops settings c kept sent stands (none_open IsOp is_closed_op (λ o. o.closed) (λ m p o h. h.is_closed) c.pasts.ops i.ops.items n stands.holds.ops_are none))
