-- All that is told of one place.
use Rattle.std.specs.Prelude.{ℕ, ◌==◌, ◌&&◌, List, [], ◌∷◌, ◌++◌, flat_map, Bool, false, is_none, if◌then◌else◌}
use Rattle.std.specs.Str.{bytes_eq}
use Rattle.tk_screen.specs.Screens.{LineView}
use Rattle.tk_odd.specs.Places.{place_of}
use Rattle.tk_stream.specs.Tables.{TablesView}
use Rattle.tk_stream.specs.declared.tables.task.Task.{Task}
use Rattle.tk_frame.specs.Findings.{OddView, own_part}
use Rattle.tk_frame.specs.Lines.{heading, plain, task_heading, task_text}
use Rattle.tk_frame.specs.PlaceLines.{place_heading, place_line}
use Rattle.tk_frame.specs.Places.{PlaceRow}

-- a task is open, and of the place of this text
abbrev pub is_open_at : List ℕ → Task → Bool
is_open_at site t = is_none t.row.dropped && bytes_eq (place_of t.info) site

-- the line of such a task
abbrev pub task_if : ℕ → List ℕ → Task → List LineView
task_if now site t = if is_open_at site t then plain (task_text now t) ∷ [] else []

-- the open tasks of a place
abbrev pub tasks_at : TablesView → List ℕ → List LineView
tasks_at tables site = heading task_heading ∷ flat_map (task_if tables.now site) tables.tasks

-- what its tasks came to, the findings about it, each with what to do, and its open tasks
abbrev pub place_part : TablesView → OddView → PlaceRow → List LineView
place_part tables odd p = heading place_heading ∷ place_line false p ∷ (own_part tables.tasks p.0 odd.told ++ tasks_at tables p.0)

-- the same, where it has this number
abbrev pub part_if : ℕ → TablesView → OddView → PlaceRow → List LineView
part_if n tables odd p = if p.1.number == n then place_part tables odd p else []

-- all that is told of the place of a number. No two places have the same
abbrev pub place_view : ℕ → TablesView → OddView → List LineView
place_view n tables odd = flat_map (part_if n tables odd) odd.places
