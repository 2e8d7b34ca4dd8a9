-- Blocks of threads: what the lines of their workers call.
use Rattle.std.specs.Prelude.{ℕ, ◌+◌, List, [], ◌∷◌, ◌++◌, map, filter, Bool, true, false, ◌==◌, ◌&&◌, Option, Some, None, if◌then◌else◌}
use Rattle.std.specs.List.{list_any}
use Rattle.tk_core.specs.declared.task.call.TaskCall.{TaskCall}
use Rattle.tk_core.specs.declared.task.call.TaskCall.TheVariants.{WakeRef, WakeVal, Release}
use Rattle.tk_live.specs.Pasts.{TaskPast, Pasts, beside, and_called}
use Rattle.tk_script.specs.declared.block.WakerCall.{WakerCall}
use Rattle.tk_script.specs.declared.block.WakerCall.TheVariants as calls
use Rattle.tk_script.specs.declared.block.WorkerLine.{WorkerLine}
use Rattle.tk_script.specs.declared.block.Worker.{Worker}
use Rattle.tk_script.specs.declared.block.Worker.TheVariants.{One, Two}

-- a line names a waker
abbrev pub is_named : ℕ → List WorkerLine → Bool
is_named w ls = list_any (λ l. l.waker == w) ls

-- a call is the last of its waker
abbrev pub is_last : WakerCall → Bool
is_last (calls.WakeRef moment) = false
is_last (calls.Wake moment) = true
is_last calls.Release = true

-- lines have the last call of a waker
abbrev pub spends : ℕ → List WorkerLine → Bool
spends w ls = list_any (λ l. (l.waker == w) && is_last l.call) ls

-- the lines of a block: those of worker 1 and those of worker 2, each in order
pub record Block : Type 0 where
  pub first : List WorkerLine
  pub second : List WorkerLine

-- a block that has none yet
abbrev pub no_lines : Block
no_lines = record { first = []; second = [] }

-- the lines of a worker, those of the other one, and those of both
abbrev pub lines_of_worker : Worker → Block → List WorkerLine
lines_of_worker One b = b.first
lines_of_worker Two b = b.second

abbrev pub lines_of_other : Worker → Block → List WorkerLine
lines_of_other One b = b.second
lines_of_other Two b = b.first

abbrev pub lines_of_both : Block → List WorkerLine
lines_of_both b = b.first ++ b.second

-- a block with one line more of a worker
abbrev pub with_line : Worker → WorkerLine → Block → Block
with_line One l b = record b { first = b.first ++ l ∷ [] }
with_line Two l b = record b { second = b.second ++ l ∷ [] }

-- the call of a line
abbrev pub call_of : WakerCall → TaskCall
call_of (calls.WakeRef moment) = WakeRef moment false
call_of (calls.Wake moment) = WakeVal moment false
call_of calls.Release = Release

-- what lines call by a waker, in their order
abbrev pub calls_by : ℕ → List WorkerLine → List TaskCall
calls_by w ls = map (λ l. call_of l.call) (filter (λ l. l.waker == w) ls)

-- what lines call on a task: of each of its wakers the calls, where these are all wakers from a number on
abbrev pub calls_on : ℕ → ℕ → List (Option ℕ) → List WorkerLine → List (List TaskCall)
calls_on n w [] ls = []
calls_on n w (Some t ∷ wakers) ls = if t == n then calls_by w ls ∷ calls_on n (w + 1) wakers ls else calls_on n (w + 1) wakers ls
calls_on n w (None ∷ wakers) ls = calls_on n (w + 1) wakers ls

-- tasks, from a number on, with what lines called on each, by these wakers
abbrev pub tasks_after : ℕ → List (Option ℕ) → List WorkerLine → List TaskPast → List TaskPast
tasks_after n wakers ls [] = []
tasks_after n wakers ls (p ∷ ps) = and_called (beside (calls_on n 1 wakers ls) ∷ []) p ∷ tasks_after (n + 1) wakers ls ps

-- wakers, from a number on, after lines: those whose last call these have are spent
abbrev pub wakers_after : ℕ → List WorkerLine → List (Option ℕ) → List (Option ℕ)
wakers_after w ls [] = []
wakers_after w ls (o ∷ wakers) = (if spends w ls then None else o) ∷ wakers_after (w + 1) ls wakers

-- the items after a block. No waker has lines of both workers, so the calls of each waker have one order
abbrev pub after_block : Block → Pasts → Pasts
after_block b ps = record ps { tasks = tasks_after 1 ps.wakers (lines_of_both b) ps.tasks; wakers = wakers_after 1 (lines_of_both b) ps.wakers }
