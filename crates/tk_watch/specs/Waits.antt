-- How many tasks waited at each of a stream's last lines.
use Rattle.std.specs.Prelude.{ℕ, List, map}
use Rattle.tk_odd.specs.Waiting.{waiting_of}
use Rattle.tk_stream.specs.Tables.{TablesView}
use Rattle.tk_watch.specs.Lasts.{last_of}

-- how many tasks of tables wait
abbrev pub waits_at : TablesView → ℕ
waits_at t = (waiting_of t.now t.tasks).count

-- the same after each of the last 40 lines, the last one last
abbrev pub waits_after : List TablesView → List ℕ
waits_after shown = last_of 40 (map waits_at shown)
