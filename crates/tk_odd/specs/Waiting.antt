-- Which tasks wait now.
use Rattle.std.specs.Prelude.{ℕ, ◌+◌, max, ◌&&◌, if◌then◌else◌, List, fold}
use Rattle.tk_client.specs.Warnings.{is_spawn}
use Rattle.tk_core.specs.Lasting.{waits_for}
use Rattle.tk_core.specs.Lists.{capped}
use Rattle.tk_odd.specs.Gains.{waits}
use Rattle.tk_stream.specs.declared.tables.task.Task.{Task}
use Rattle.tk_odd.specs.declared.waiting.Waiting.{Waiting}

-- so many tasks wait, and a task
abbrev pub with_task : ℕ → Waiting → Task → Waiting
with_task now w t =
    if is_spawn t.info.kind && waits t.row then record { count = capped (w.count + 1); longest = max w.longest (waits_for t.row now) } else w

-- how many tasks wait for a poll at a moment, and for how long the longest of them does
abbrev pub waiting_of : ℕ → List Task → Waiting
waiting_of now tasks = fold (with_task now) (record { count = 0; longest = 0 }) tasks
