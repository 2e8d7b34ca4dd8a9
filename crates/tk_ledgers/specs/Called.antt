-- What a hand called: the calls of an item, where all its callers but some are in one hand.
use Rattle.std.specs.Prelude.{◌≡◌, ℕ, true, List, [], ◌∷◌, ◌++◌, Some, is_some}
use Rattle.std.specs.List.{AllByRecursion}
use Rattle.tk_core.specs.declared.history.Entry.{Entry}
use Rattle.tk_core.specs.declared.op.call.OpCall.{OpCall}
use Rattle.tk_core.specs.declared.op.row.OpRow.{OpRow}
use Rattle.tk_core.specs.declared.reply.Reply.{Reply}
use Rattle.tk_core.specs.declared.reply.Reply.TheVariants.{Shown}
use Rattle.tk_core.specs.declared.resource.call.ResourceCall.{ResourceCall}
use Rattle.tk_core.specs.declared.resource.row.ResourceRow.{ResourceRow}
use Rattle.tk_core.specs.declared.task.call.TaskCall.{TaskCall}
use Rattle.tk_core.specs.declared.task.row.TaskRow.{TaskRow}
use Rattle.tk_core.specs.Fold.{is_accepted}
use Rattle.tk_core.specs.History.{calls_of}
use Rattle.tk_core.specs.Lists.{last_of}
use Rattle.tk_core.specs.Meaning.{Meaning}
use Rattle.tk_core.specs.Op as op_rules
use Rattle.tk_core.specs.OpMeaning.{op_meaning}
use Rattle.tk_core.specs.Polls.{is_polling}
use Rattle.tk_core.specs.Resource as resource_rules
use Rattle.tk_core.specs.ResourceMeaning.{resource_meaning}
use Rattle.tk_core.specs.Task as task_rules
use Rattle.tk_core.specs.TaskMeaning.{task_meaning}
use Rattle.tk_cell.specs.declared.view.View.{View}
use Rattle.tk_cell.specs.Views.{Known}
use Rattle.tk_cell.specs.Ours.{ours, CallsBeside}
use Rattle.tk_ledgers.specs.Beside.{ShowsCallsOf}
use Rattle.tk_ledgers.specs.Callers.{CallsAs, HoldsAllBut}
use Rattle.tk_ledgers.specs.Ops.{OpSight}
use Rattle.tk_ledgers.specs.Ops as ops
use Rattle.tk_ledgers.specs.Resources.{ResourceSight}
use Rattle.tk_ledgers.specs.Resources as resources
use Rattle.tk_ledgers.specs.Tasks.{TaskSight}
use Rattle.tk_ledgers.specs.Tasks as tasks

module _ {Row C : Type 0} (m : Meaning Row C (Reply Row)) where
  -- what a hand called: from the row that its ledger opened with, these calls, in their order, and each was accepted. Whom they made the hand
  -- holds, or it is one of these others
  pub record HasCalled (others : List ℕ) (opening : Row) (calls : List C) (v : View Row C (Reply Row)) : Type 0 where
    pub opened : v.opening ≡ Some opening
    pub in_order : calls_of (ours v) ≡ calls
    pub accepted : AllByRecursion (λ (e : Entry C (Reply Row)). is_accepted e.reply ≡ true) (ours v)
    pub holds : HoldsAllBut m others v

  -- ---- so it stays

  -- a call of the hand that is accepted is one more
  abbrev pub CallsAreCalled : Type 0
  CallsAreCalled = (old new : Known Row C (Reply Row)) (n : ℕ) (call : C) (reply : Reply Row) (others : List ℕ) (opening : Row) (calls : List C) → CallsAs m old n call reply new → is_accepted reply ≡ true
      → HasCalled others opening calls old.view → HasCalled others opening (calls ++ call ∷ []) new.view

  -- a reading beside it shows the row after just these calls, and leaves them
  abbrev pub ReadingsShowCalled : C → Type 0
  ReadingsShowCalled read = (v q w u : View Row C (Reply Row)) (row : Row) (others : List ℕ) (opening : Row) (calls : List C) → CallsBeside m v q read (Shown row) w u → ShowsCallsOf m read v w u row
      → HasCalled others opening calls v → HasCalled others opening calls w × (row ≡ m.row_after opening calls)

-- whether a poll is open, and whether the task is closed, is told of by what its hand called
abbrev pub TasksTellCalled : Type 0
TasksTellCalled = (h : TaskSight) (new : Known TaskRow TaskCall (Reply TaskRow)) (n : ℕ) (call : TaskCall) (reply : Reply TaskRow) (others : List ℕ) (opening : TaskRow) (calls : List TaskCall)
    → CallsAs task_meaning h.token n call reply new → HasCalled task_meaning others opening calls h.token.view
    → (tasks.is_polling h ≡ is_polling task_rules.start_at task_rules.end_at calls) × (tasks.is_closed h ≡ is_some (last_of task_rules.close_at calls))

-- the same of an operation
abbrev pub OpsTellCalled : Type 0
OpsTellCalled = (h : OpSight) (new : Known OpRow OpCall (Reply OpRow)) (n : ℕ) (call : OpCall) (reply : Reply OpRow) (others : List ℕ) (opening : OpRow) (calls : List OpCall)
    → CallsAs op_meaning h.token n call reply new → HasCalled op_meaning others opening calls h.token.view
    → (ops.is_polling h ≡ is_polling op_rules.start_at op_rules.end_at calls) × (ops.is_closed h ≡ is_some (last_of op_rules.close_at calls))

-- and whether a resource is closed
abbrev pub ResourcesTellCalled : Type 0
ResourcesTellCalled = (h : ResourceSight) (new : Known ResourceRow ResourceCall (Reply ResourceRow)) (n : ℕ) (call : ResourceCall) (reply : Reply ResourceRow) (others : List ℕ) (opening : ResourceRow) (calls : List ResourceCall)
    → CallsAs resource_meaning h.token n call reply new → HasCalled resource_meaning others opening calls h.token.view
    → resources.is_closed h ≡ is_some (last_of resource_rules.close_at calls)
