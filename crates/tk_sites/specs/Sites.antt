-- The places of a stream's tasks, those that have left among them.
use Rattle.std.specs.Prelude.{ℕ, List, [], ◌∷◌, ◌++◌, map, flat_map}
use Rattle.std.specs.Option.{option_map_or}
use Rattle.tk_stream.specs.Tables.{TablesView, empty_tables, task_with}
use Rattle.tk_stream.specs.declared.tables.task.Task.{Task}
use Rattle.tk_client.specs.Changes.{tasks_beside}
use Rattle.tk_client.specs.declared.any_warnings.AnyWarning.{AnyWarning}
use Rattle.tk_series.specs.Limited.{LimitedView, limited}
use Rattle.tk_odd.specs.Places.{place_of}
use Rattle.tk_sites.specs.Site.{room}
use Rattle.tk_sites.specs.Sums.{came, left, plus, there, there_until, warned}
use Rattle.tk_sites.specs.Warned.{one_warning, warned_task}
use Rattle.tk_sites.specs.declared.sums.Sums.{Sums}

-- what a place has of a task that came, of one that left, and of one that is there
abbrev pub came_entry : Task → List ℕ × Sums
came_entry t = (place_of t.info, came)

abbrev pub left_entry : Task → List ℕ × Sums
left_entry t = (place_of t.info, left t.row)

abbrev pub there_entry : Task → List ℕ × Sums
there_entry t = (place_of t.info, there t.row)

-- of one that is there, with what lasts at a moment
abbrev pub until_entry : ℕ → Task → List ℕ × Sums
until_entry now t = (place_of t.info, there_until now t.row)

-- and of a warning about a task of these tables
abbrev pub warned_entries : TablesView → AnyWarning → List (List ℕ × Sums)
warned_entries tables w = option_map_or (λ (t : Task). (place_of t.info, warned (one_warning w)) ∷ []) (task_with (warned_task w) tables.tasks) []

-- what came and left from tables to the next
abbrev pub changes : TablesView → TablesView → List (List ℕ × Sums)
changes old new = map came_entry (tasks_beside new old) ++ map left_entry (tasks_beside old new)

-- what came and left since tables, line by line
abbrev pub changes_since : TablesView → List TablesView → List (List ℕ × Sums)
changes_since old [] = []
changes_since old (new ∷ shown) = changes old new ++ changes_since new shown

-- what all places are added up from: what came and left in these lines, what is there in the tables that they led to, and whom these are the warnings of
abbrev pub entries_of : List TablesView → TablesView → List AnyWarning → List (List ℕ × Sums)
entries_of shown tables warnings =
    changes_since empty_tables shown ++ (map there_entry tables.tasks ++ flat_map (warned_entries tables) warnings)

-- the places after these lines, which have led to these tables with these warnings: what came, what left as it was last shown, what is there, and
-- who is warned of. They stand in the order in which a first task of each came; past the room that there is, all are one
abbrev pub sites_of : List TablesView → TablesView → List AnyWarning → LimitedView Sums
sites_of shown tables warnings = limited room plus (entries_of shown tables warnings)

-- the same places, with what lasts at the moment of these tables, and without warnings
abbrev pub sites_until : List TablesView → TablesView → LimitedView Sums
sites_until shown tables = limited room plus (changes_since empty_tables shown ++ map (until_entry tables.now) tables.tasks)
