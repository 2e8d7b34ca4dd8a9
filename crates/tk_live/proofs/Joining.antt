-- What an interpreter stands for after a block whose threads are joined.
use Rattle.std.proofs.Common.{◌≡◌, ℕ, zero, suc, ◌+◌, Bool, List, [], ◌∷◌, length, Option, Some, Result, Ok, Err, OnOk, refl, sym, ap, ◌∙◌, subst}
use Rattle.std.specs.Prelude.{slice_get}
use Rattle.std.specs.List.{AllZip}
use Rattle.tk_stream.specs.Streams.{Sending}
use Rattle.tk_live.specs.Blocks.{Block, tasks_after, lines_of_both, after_block}
use Rattle.tk_live.specs.Course.{Course, joined}
use Rattle.tk_live.specs.Items.{Holds, HoldsTasks}
use Rattle.tk_live.specs.Pasts.{TaskPast, Pasts}
use Rattle.tk_live.specs.Runs.{numbers_of, Represents}
use Rattle.tk_live.specs.Threads.{Apart, AreSameTasks}
use Rattle.tk_live.specs.declared.interpreter.Interpreter.{Interpreter}
use Rattle.tk_live.specs.declared.items.TaskItem.{TaskItem}
use Rattle.tk_script.specs.declared.block.WorkerLine.{WorkerLine}
use Rattle.tk_script.specs.declared.settings.Settings.{Settings}
use Rattle.tk_script.specs.declared.stop.Stop.{Stop}
use Rattle.tk_live.proofs.Places.{at_place, made_place}
use Rattle.tk_live.proofs.Standing.{TasksStay, resources_rest, ops_rest, went_on}

same_get : {X Y : Type 0} (R : X → Y → Type 0) (xs : List X) (ys : List Y) (i : ℕ) (x : X) → AllZip R xs ys → slice_get xs i ≡ Some x → (y : Y) × (slice_get ys i ≡ Some y) × R x y
same_get R [] ys i x all at = absurd cc
same_get R (z ∷ xs) [] i x all at = absurd all
same_get R (z ∷ xs) (w ∷ ys) zero x all at = let e : z ≡ x = cc in (w, refl, subst (λ v. R v w) e all.0)
same_get R (z ∷ xs) (w ∷ ys) (suc i) x all at = same_get R xs ys i x all.1 at

-- each task is there by its ledger
same_stay : (old new : List TaskItem) → AreSameTasks old new → TasksStay old new
same_stay old new same n t made =
    let p = made_place n old t made in
    let q = same_get _ old new p.0 t same p.2 in
    (q.0, at_place n p.0 new p.1 ∙ q.1, q.2.1, q.2.2)

-- a block makes no task
after_long : (n : ℕ) (wakers : List (Option ℕ)) (ls : List WorkerLine) (ps : List TaskPast) → length (tasks_after n wakers ls ps) ≡ length ps
after_long n wakers ls [] = refl
after_long n wakers ls (p ∷ ps) = ap suc (after_long (n + 1) wakers ls ps)

-- which block is open makes no difference
unblocked : (i : Interpreter) (settings : Settings) (c : Course) (b : Block) (kept : List Bool) (sent : List Sending) → Represents i settings (record c { pasts = after_block b c.pasts }) kept sent → Represents i settings (joined c b) kept sent
unblocked i settings c b kept sent stands = record {
  came = stands.came;
  rise = stands.rise;
  offered = stands.offered;
  takes = stands.takes;
  taken = stands.taken;
  gone = stands.gone;
  has_told = stands.has_told;
  timed = stands.timed;
  holds = stands.holds;
  linked = stands.linked;
  polled = stands.polled;
  capacity_said = stands.capacity_said;
  retention_said = stands.retention_said;
  times_said = stands.times_said;
  waits_said = stands.waits_said;
  begun = stands.begun;
  times_is = stands.times_is;
}

module _ (i new : Interpreter) (b : Block) (whole : new ≡ record i { tasks = new.tasks; wakers = new.wakers }) where
  join_went : AreSameTasks i.tasks.items new.tasks.items → ((ps : Pasts) → HoldsTasks i.tasks.items i.wakers.items ps → Apart b.first b.second → HoldsTasks new.tasks.items new.wakers.items (after_block b ps))
      → (settings : Settings) (c : Course) (kept : List Bool) (sent : List Sending) → Apart b.first b.second → Represents i settings c kept sent → Represents new settings (joined c b) kept sent
  join_went same ran settings c kept sent apart stands =
      let now = record i { tasks = new.tasks; wakers = new.wakers } in
      let ps = after_block b c.pasts in
      let holds : Holds now.tasks.items now.wakers.items now.resources.items now.ops.items ps =
      record { tasks_are = ran c.pasts stands.holds.tasks_are apart; resources_are = stands.holds.resources_are; ops_are = stands.holds.ops_are } in
      let numbers : numbers_of ps ≡ numbers_of c.pasts = ap (λ (n : ℕ). record (numbers_of c.pasts) { tasks = n }) (after_long 1 c.pasts.wakers (lines_of_both b) c.pasts.tasks) in
      subst (λ (j : Interpreter). Represents j settings (joined c b) kept sent) (sym whole)
      (unblocked now settings c b kept sent
      (went_on i now settings c ps kept sent stands holds (same_stay i.tasks.items new.tasks.items same) (resources_rest i.resources.items) (ops_rest i.ops.items) numbers))

  pub join_goes : (result : Result (Unit {0}) Stop) → OnOk result (AreSameTasks i.tasks.items new.tasks.items)
      → OnOk result ((ps : Pasts) → HoldsTasks i.tasks.items i.wakers.items ps → Apart b.first b.second → HoldsTasks new.tasks.items new.wakers.items (after_block b ps))
      → OnOk result ((settings : Settings) (c : Course) (kept : List Bool) (sent : List Sending) → Apart b.first b.second → Represents i settings c kept sent → Represents new settings (joined c b) kept sent)
  join_goes (Ok done) same ran = join_went same ran
  join_goes (Err stop) same ran = ran
