-- The lines of a block's threads, and the wakers that they are handed. Inner: no public clause cites it.
use Rattle.std.specs.Prelude.{◌≡◌, ℕ, nat_eq, List, ◌∷◌, ◌++◌, Bool, true, false, Some, None, if◌then◌else◌}
use Rattle.std.specs.HashMap.{HashMap, get}
use Rattle.std.specs.List.{AllZip}
use Rattle.tk_live.specs.Blocks.{is_named, spends}
use Rattle.tk_live.specs.Items.{times_ledger_of}
use Rattle.tk_live.specs.declared.items.TaskItem.{TaskItem}
use Rattle.tk_script.specs.declared.block.WorkerLine.{WorkerLine}

-- no waker is named by lines of both lists
abbrev pub Apart : List WorkerLine → List WorkerLine → Type 0
Apart first second = (w : ℕ) → is_named w first ≡ true → is_named w second ≡ false

-- no line is of a waker whose last call stands in the lines before it
abbrev pub LastsAreLast : List WorkerLine → Type 0
LastsAreLast ls = (before after : List WorkerLine) (l : WorkerLine) → before ++ l ∷ after ≡ ls → spends l.waker before ≡ false

-- marks tell of each waker whether lines name it, and whether they have its last call
abbrev pub AreMarked : {S : Type 0} → List WorkerLine → HashMap ℕ Bool S → Type 0
AreMarked ls marks = (w : ℕ) → get nat_eq marks w ≡ if is_named w ls then Some (spends w ls) else None

-- the same tasks, by their ids and ledgers and those of their histograms, in order
abbrev pub AreSameTasks : List TaskItem → List TaskItem → Type 0
AreSameTasks old new = AllZip (λ (s t : TaskItem). (t.callers.id ≡ s.callers.id) × (t.callers.token.ledger ≡ s.callers.token.ledger) × (times_ledger_of t ≡ times_ledger_of s)) old new
