-- Who ran or waited in a step, while its lines are read.
use Rattle.std.specs.Prelude.{ℕ, ◌==◌, List, [], ◌∷◌, map, take, fold, ◌&&◌, if◌then◌else◌}
use Rattle.std.specs.Option.{option_map_or}
use Rattle.tk_client.specs.Warnings.{is_spawn}
use Rattle.tk_stream.specs.Tables.{TablesView, task_with}
use Rattle.tk_stream.specs.declared.tables.task.Task.{Task}
use Rattle.tk_odd.specs.declared.gain.Gain.{Gain}
use Rattle.tk_odd.specs.declared.moved.Moved.{Moved}
use Rattle.tk_odd.specs.Gains.{fresh, gain_since, has_gained, plus}
use Rattle.tk_odd.specs.Places.{place_of}

-- the id of a task, its place, and what it did in the step
abbrev pub Member : Type 0
Member = ℕ × List ℕ × Moved

-- what a task of tables gained since those before them
abbrev pub gain_of : TablesView → TablesView → Task → Gain
gain_of before tables t = gain_since before.now tables.now (option_map_or (λ o. o.row) (task_with t.info.id before.tasks) (fresh t.row)) t.row

-- a task that gained this in the step
abbrev pub moved_by : Task → Gain → Moved
moved_by t gain = record { task = t.info.id; row = t.row; gain = gain }

-- members, and what a task gained besides
abbrev pub with_gain : Task → Gain → List Member → List Member
with_gain t gain [] = (t.info.id, place_of t.info, moved_by t gain) ∷ []
with_gain t gain (y ∷ ys) =
    if t.info.id == y.0 then (y.0, place_of t.info, moved_by t (plus y.2.gain gain)) ∷ ys else y ∷ with_gain t gain ys

-- members after a line, as far as one task says. Tasks of kind spawn alone run on an executor's threads
abbrev pub with_task : TablesView → TablesView → List Member → Task → List Member
with_task before tables members t =
    if is_spawn t.info.kind && has_gained (gain_of before tables t) then with_gain t (gain_of before tables t) members else members

-- members after a line
abbrev pub members_after : TablesView → TablesView → List Member → List Member
members_after before tables members = fold (with_task before tables) members tables.tasks

-- of a step no more than 2^31 tasks are looked at
abbrev pub looked_at : List Member → List Member
looked_at members = take 2147483648 members

-- what those did
abbrev pub moved_of : List Member → List Moved
moved_of members = map (λ x. x.2) (looked_at members)
