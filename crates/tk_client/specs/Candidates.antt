-- Which tasks can be warned of, whatever the lints and the moment, and how they are listed. Public clauses cite `places_by` alone.
use Rattle.std.specs.Prelude.{◌≡◌, ℕ, suc, ◌==◌, List, [], ◌∷◌, Bool, false, ◌&&◌, ◌||◌, nat_lt, if◌then◌else◌}
use Rattle.std.specs.List.{flat_map, slice_get}
use Rattle.std.specs.Option.{option_map_or, option_to_list}
use Rattle.tk_core.specs.declared.task.row.TaskRow.{TaskRow}
use Rattle.tk_stream.specs.declared.tables.task.Task.{Task}
use Rattle.tk_stream.specs.Places.{place_with}
use Rattle.tk_stream.specs.Tables.{TablesView, task_id, task_with, is_among}
use Rattle.tk_client.specs.declared.warning.Warning.{Warning}
use Rattle.tk_client.specs.Warnings.{LintsView, has_lost_waker, is_spawn, warnings_of}

-- a row that one of the three warnings can hold of: some wake was its own, or its waker is lost, or it is in its first poll
abbrev pub can_hold : TaskRow → Bool
can_hold x = (nat_lt 0 x.wakes && nat_lt 0 x.self_wakes) || (has_lost_waker x || (x.polling && x.polls == 1))

-- a task that can be warned of
abbrev pub can_warn : Task → Bool
can_warn t = is_spawn t.info.kind && can_hold t.row

-- the places of what passes a test, rising, where the first one has this place
abbrev pub places_by : {A : Type 0} → (A → Bool) → ℕ → List A → List ℕ
places_by test i [] = []
places_by test i (x ∷ xs) = if test x then i ∷ places_by test (suc i) xs else places_by test (suc i) xs

-- the places of the tasks that can be warned of, rising
abbrev pub places_of : List Task → List ℕ
places_of tasks = places_by can_warn 0 tasks

-- the warnings of the task at a place
abbrev pub warnings_at : LintsView → TablesView → ℕ → List Warning
warnings_at lints tables i = option_map_or (warnings_of lints tables.now) (slice_get tables.tasks i) []

-- ---- the list of those tasks by their ids

-- whether the task with an id is there, and can be warned of
abbrev pub is_able : List Task → ℕ → Bool
is_able tasks id = option_map_or can_warn (task_with id tasks) false

-- the ids of the tasks that can be warned of, in some order
abbrev pub AreAble : List ℕ → List Task → Type 0
AreAble ids tasks = (id : ℕ) → is_among ids id ≡ is_able tasks id

-- the places of the tasks with these ids, in the order of the ids
abbrev pub places_with : List Task → List ℕ → List ℕ
places_with tasks ids = flat_map (λ id. option_to_list (place_with task_id id tasks)) ids
