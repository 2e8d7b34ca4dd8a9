-- What an interpreter stands for after a command by which the owner of a task calls.
use Rattle.std.proofs.Common.{◌≡◌, ◌⊎◌, ℕ, ◌+◌, Bool, true, false, List, [], ◌++◌, length, Option, Some, None, inl, refl, sym, ap, ◌∙◌, subst}
use Rattle.std.specs.Prelude.{map, slice_get, slice_set, Result, Ok, Err}
use Rattle.tk_core.specs.declared.task.call.TaskCall.{TaskCall}
use Rattle.tk_core.specs.TaskMeaning.{task_meaning}
use Rattle.tk_ledgers.specs.Callers.{IsLive}
use Rattle.tk_stream.specs.Streams.{Sending}
use Rattle.tk_script.specs.Commands.{Said}
use Rattle.tk_live.specs.Course.{Course, step}
use Rattle.tk_live.specs.Items.{EachFrom, IsTask, AreWakers, Holds, IsSameTask, TaskDid, times_ledger_of}
use Rattle.tk_live.specs.Named.{made_item}
use Rattle.tk_live.specs.Pasts.{TaskPast, Pasts, Piece, one, and_called, called_at, task_called, open_task, is_closed}
use Rattle.tk_live.specs.Runs.{Numbers, numbers_of, Represents, SilentSpec}
use Rattle.tk_live.specs.Stops.{stop_by_text}
use Rattle.tk_live.specs.declared.interpreter.Interpreter.{Interpreter}
use Rattle.tk_live.specs.declared.items.TaskItem.{TaskItem}
use Rattle.tk_live.specs.declared.items.WakerItem.{WakerItem}
use Rattle.tk_script.specs.declared.settings.Settings.{Settings}
use Rattle.tk_script.specs.declared.stop.Stop.{Stop}
use Rattle.tk_script.specs.declared.stop.Stop.TheVariants.{NoSuchItem}
use Rattle.tk_live.proofs.Places.{made_put, at_place, each_made, each_with}
use Rattle.tk_live.proofs.Standing.{called_put, length_called, open_there, none_open, TasksStay, resources_rest, ops_rest, untold, went_on, calling}

-- as many items stay, whatever is called on them
pub tasks_numbered : (n : ℕ) (calls : List TaskCall) (ps : Pasts) → numbers_of (task_called n calls ps) ≡ numbers_of ps
tasks_numbered n calls ps = ap {B = Numbers} (λ (l : ℕ). record { tasks = l; resources = length ps.resources; ops = length ps.ops }) (length_called n (map one calls) ps.tasks)

-- a task's ledgers are those of another
abbrev SameLedgers : TaskItem → TaskItem → Type 0
SameLedgers x y = (y.callers.token.ledger ≡ x.callers.token.ledger) × (times_ledger_of y ≡ times_ledger_of x)

own_ledgers : (x : TaskItem) → SameLedgers x x
own_ledgers x = (refl, refl)

module _ (tasks : List TaskItem) (place : ℕ) (old next : TaskItem) (stood : slice_get tasks place ≡ Some old) where
  -- each task stays, of its ledger
  pub tasks_stay : next.callers.token.ledger ≡ old.callers.token.ledger → times_ledger_of next ≡ times_ledger_of old → TasksStay tasks (slice_set tasks place next)
  tasks_stay ledger times n t made =
      let same : SameLedgers old next = (ledger, times) in
      let there = made_put (λ m x y. SameLedgers x y) (λ m x. own_ledgers x) tasks place old next n t stood same made in
      (there.0, there.1, there.2.0, there.2.1)

  -- each waker stays live
  pub wakers_stay : (wakers : List (Option WakerItem)) → IsSameTask old next → AreWakers tasks wakers → AreWakers (slice_set tasks place next) wakers
  wakers_stay wakers same are = record {
    live = λ w a live.
        let was = are.live w a live in
        let now = made_put (λ m x y. (k : ℕ) → IsLive task_meaning x.callers.token.view k → IsLive task_meaning y.callers.token.view k) (λ m x k h. h) tasks place old next a.task was.0 stood same.live was.1 in
        (now.0, now.1, now.2 a.number was.2);
    apart = are.apart;
  }

  -- the task at the place made these calls
  pub tasks_called : (n : ℕ) → n ≡ place + 1 → (calls : List (Piece TaskCall)) → ((p : TaskPast) → IsTask n p old → IsTask n (and_called calls p) next)
      → (ps : List TaskPast) → EachFrom IsTask 1 ps tasks → EachFrom IsTask 1 (called_at n calls ps) (slice_set tasks place next)
  tasks_called n is calls did ps each =
      let there = each_made IsTask ps tasks n old each (at_place n place tasks is ∙ stood) in
      subst (λ (l : List TaskPast). EachFrom IsTask 1 l (slice_set tasks place next)) (sym (called_put n calls ps there.0 there.1))
      (each_with IsTask ps tasks n place (and_called calls there.0) next each is (did there.0 there.2))

-- a task made these calls
pub task_went : (i new : Interpreter) (settings : Settings) (c : Course) (kept : List Bool) (sent : List Sending) (n place : ℕ) (old next : TaskItem) (calls : List TaskCall) → Represents i settings c kept sent
    → slice_get i.tasks.items place ≡ Some old → n ≡ place + 1 → new.tasks.items ≡ slice_set i.tasks.items place next → IsSameTask old next
    → ((p : TaskPast) → IsTask n p old → IsTask n (and_called (map one calls) p) next)
    → new ≡ record i { tasks = new.tasks } → Represents new settings (calling c (task_called n calls c.pasts)) (kept ++ []) sent
task_went i new settings c kept sent n place old next calls stands stood is put same did whole =
    let now = record i { tasks = new.tasks } in
    let held = stands.holds.tasks_are in
    let holds = λ (tasks : List TaskItem). Holds tasks i.wakers.items i.resources.items i.ops.items (task_called n calls c.pasts) in
    subst (λ (j : Interpreter). Represents j settings (calling c (task_called n calls c.pasts)) (kept ++ []) sent) (sym whole)
    (untold now settings (record c { pasts = task_called n calls c.pasts }) kept sent
    (went_on i now settings c (task_called n calls c.pasts) kept sent stands
    (subst holds (sym put) (record {
      tasks_are = record {
        tasks_are = tasks_called i.tasks.items place old next stood n is (map one calls) did c.pasts.tasks held.tasks_are;
        wakers_are = held.wakers_are;
        are_live = wakers_stay i.tasks.items place old next stood i.wakers.items same held.are_live;
      };
      resources_are = stands.holds.resources_are;
      ops_are = stands.holds.ops_are;
    }))
    (subst (λ (tasks : List TaskItem). TasksStay i.tasks.items tasks) (sym put) (tasks_stay i.tasks.items place old next stood same.ledger same.times))
    (resources_rest i.resources.items) (ops_rest i.ops.items) (tasks_numbered n calls c.pasts)))

-- a command by which the owner of an open task calls, did what the call did
pub task_did : (i new : Interpreter) (line n place : ℕ) (s : Said) (calls : List TaskCall) (stop : TaskPast → Option Stop) (old next : TaskItem) (result : Result (Unit {0}) Stop)
    → slice_get i.tasks.items place ≡ Some old → n ≡ place + 1 → old.closed ≡ false → new.tasks.items ≡ slice_set i.tasks.items place next → IsSameTask old next → TaskDid stop calls old next result
    → ((c : Course) (p : TaskPast) → open_task n c.pasts ≡ Some p → stop_by_text c s ≡ stop p) → ((c : Course) → step c line s ≡ calling c (task_called n calls c.pasts))
    → new ≡ record i { tasks = new.tasks } → SilentSpec line s i new result
task_did i new line n place s calls stop old next (Ok done) stood is unshut put same did stops steps whole settings c kept sent stands =
    let made = at_place n place i.tasks.items is ∙ stood in
    let there = open_there IsTask is_closed (λ t. t.closed) (λ m p t h. h.is_closed) c.pasts.tasks i.tasks.items n old stands.holds.tasks_are.tasks_are made unshut in (
      stops c there.0 there.3 ∙ (did n there.0 there.2).0,
      [],
      subst (λ (d : Course). Represents new settings d (kept ++ []) sent) (sym (steps c))
          (task_went i new settings c kept sent n place old next calls stands stood is put same (λ p h. (did n p h).1) whole),
    )
task_did i new line n place s calls stop old next (Err why) stood is unshut put same did stops steps whole settings c kept sent stands =
    let made = at_place n place i.tasks.items is ∙ stood in
    let there = open_there IsTask is_closed (λ t. t.closed) (λ m p t h. h.is_closed) c.pasts.tasks i.tasks.items n old stands.holds.tasks_are.tasks_are made unshut in
    inl (stops c there.0 there.3 ∙ did n there.0 there.2)

-- a command on a task that wasn't made or is closed stops
pub no_task : (i : Interpreter) (line n : ℕ) (s : Said) → (made_item n i.tasks.items ≡ None) ⊎ ((t : TaskItem) × (made_item n i.tasks.items ≡ Some t) × (t.closed ≡ true))
    → ((c : Course) → open_task n c.pasts ≡ None → stop_by_text c s ≡ Some NoSuchItem) → SilentSpec line s i i (Err NoSuchItem)
no_task i line n s none stops settings c kept sent stands =
    inl (stops c (none_open IsTask is_closed (λ t. t.closed) (λ m p t h. h.is_closed) c.pasts.tasks i.tasks.items n stands.holds.tasks_are.tasks_are none))
