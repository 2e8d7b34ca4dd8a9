-- What tasks are told apart by, and which labels stand by themselves where these have an end.
use Rattle.std.specs.Prelude.{ℕ, List, [], ◌∷◌, ◌++◌, map, codes, Option, None, option_map, if◌then◌else◌}
use Rattle.std.specs.Option.{option_map_or}
use Rattle.tk_client.specs.Changes.{tasks_beside}
use Rattle.tk_series.specs.Limited.{LimitedView, limited, names_of}
use Rattle.tk_series.specs.Series.{is_seen}
use Rattle.tk_stream.specs.Tables.{TablesView, empty_tables}
use Rattle.tk_stream.specs.declared.tables.task.Task.{Task}
use Rattle.tk_metrics.specs.Blame.{plus_tally}
use Rattle.tk_metrics.specs.Samples.{label, with_label}
use Rattle.tk_metrics.specs.Stays.{stays}
use Rattle.tk_metrics.specs.Sums.{task_labels}
use Rattle.tk_metrics.specs.declared.apart.Apart.{Apart}
use Rattle.tk_metrics.specs.declared.blame.Tally.{Tally}
use Rattle.tk_metrics.specs.declared.by.By.{By}
use Rattle.tk_metrics.specs.declared.by.By.TheVariants.{Name, Id, Place}
use Rattle.tk_metrics.specs.declared.keys.Keys.{Keys}

-- each stands by itself
abbrev pub endless : By → Keys
endless by = record { by = by; names = None }

-- ---- the labels that there are

-- a task that came is one, under its labels
abbrev pub came_name : By → Task → List ℕ × Tally
came_name by t = (task_labels by t, record { tasks = 1 })

-- one that left is no task more, but its labels are known then, too: they may be others than it came with
abbrev pub left_name : By → Task → List ℕ × Tally
left_name by t = (task_labels by t, record { tasks = 0 })

-- those of the tasks that came and left from tables to the next
abbrev pub names_between : By → TablesView → TablesView → List (List ℕ × Tally)
names_between by old new = map (came_name by) (tasks_beside new old) ++ map (left_name by) (tasks_beside old new)

-- the same since tables, line by line
abbrev pub names_since : By → TablesView → List TablesView → List (List ℕ × Tally)
names_since by old [] = []
names_since by old (new ∷ shown) = names_between by old new ++ names_since by new shown

-- how many labels stand by themselves: where each task is shown by itself, all do
abbrev pub room_of : Apart → Option ℕ
room_of apart = if stays apart.by then apart.most else None

-- the first so many labels after these lines, in the order in which a task that has them came
abbrev pub keys_after : Apart → List TablesView → Keys
keys_after apart shown =
    record { by = apart.by; names = option_map (λ room. limited room plus_tally (names_since apart.by empty_tables shown)) (room_of apart) }

-- ---- the labels of a task

-- the labels of all tasks whose own don't stand by themselves. No kind is written so
abbrev pub others_labels : By → List ℕ
others_labels Name = with_label (label (codes "name") (codes "(others)")) (codes "kind") (codes "-")
others_labels Id = with_label (label (codes "name") (codes "(others)")) (codes "kind") (codes "-")
others_labels Place = with_label (with_label (label (codes "name") (codes "(others)")) (codes "kind") (codes "-")) (codes "location") (codes "-")

-- labels, if they stand by themselves, or else those of all others
abbrev pub own_or_others : By → List ℕ → LimitedView Tally → List ℕ
own_or_others by labels names = if is_seen (names_of names.first) labels then labels else others_labels by

-- the labels that a task's samples have
abbrev pub labels_in : Keys → Task → List ℕ
labels_in keys t = option_map_or (own_or_others keys.by (task_labels keys.by t)) keys.names (task_labels keys.by t)

-- how many tasks came whose labels don't stand by themselves
abbrev pub others_in : LimitedView Tally → ℕ
others_in names = option_map_or (λ (o : Tally). o.tasks) names.rest 0
