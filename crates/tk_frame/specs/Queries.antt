-- Which items a screen shows, and in which order.
use Rattle.std.specs.Option.{option_map, option_map_or}
use Rattle.std.specs.Prelude.{◌==◌, ◌&&◌, ◌||◌, ◌-◌, ℕ, suc, List, [], ◌∷◌, ◌++◌, take, filter, length, Bool, true, false, is_none, Option, Some, None, if◌then◌else◌}
use Rattle.tk_core.specs.declared.task.row.TaskRow.{TaskRow}
use Rattle.tk_stream.specs.declared.tables.task.Task.{Task}
use Rattle.tk_stream.specs.declared.tables.resource.Resource.{Resource}
use Rattle.tk_stream.specs.declared.tables.op.Op.{Op}
use Rattle.tk_stream.specs.Tables.{TablesView, PollCounts, counts_of}
use Rattle.tk_screen.specs.Rankings.{ranking}
use Rattle.tk_screen.specs.declared.top.Ranked.{Ranked}
use Rattle.tk_core.specs.Lasting.{busy_until, sched_until}
use Rattle.tk_frame.specs.Findings.{OddView}
use Rattle.tk_frame.specs.Places.{PlaceRow, RecentView, location_in, name_in}
use Rattle.tk_frame.specs.Typed.{typed_text}
use Rattle.tk_frame.specs.declared.places.Figures.{Figures}
use Rattle.tk_frame.specs.declared.query.Column.{Column}
use Rattle.tk_frame.specs.declared.query.Column.TheVariants.{Busy, Sched, Polls, Wakes, SelfWakes, HeldUp}
use Rattle.tk_frame.specs.declared.query.Query.{Query}

-- the number of a task in a column, at a moment
abbrev pub number_in : Column → TaskRow → ℕ → ℕ
number_in Busy x now = busy_until x now
number_in Sched x now = sched_until x now
number_in Polls x now = x.polls
number_in Wakes x now = x.wakes
number_in SelfWakes x now = x.self_wakes
number_in HeldUp x now = busy_until x now

-- the number of a place in a column
abbrev pub place_number : Column → Figures → ℕ
place_number Busy f = f.sums.busy
place_number Sched f = f.sums.waited
place_number Polls f = f.sums.polls
place_number Wakes f = f.sums.wakes
place_number SelfWakes f = f.sums.own
place_number HeldUp f = f.held_up

-- a text begins with another
abbrev pub begins : List ℕ → List ℕ → Bool
begins [] text = true
begins (x ∷ part) [] = false
begins (x ∷ part) (y ∷ text) = (x == y) && begins part text

-- a text stands somewhere in another
abbrev pub stands_in : List ℕ → List ℕ → Bool
stands_in part [] = begins part []
stands_in part (y ∷ text) = begins part (y ∷ text) || stands_in part text

-- a text stands in the name of a task, or in that of the file where it was made
abbrev pub names : List ℕ → Task → Bool
names text t = stands_in text t.info.name || stands_in text t.info.location.file

-- an open task is shown which two texts name: the one that was asked for, and the one that was typed
abbrev pub is_shown : Query → Task → Bool
is_shown query t = is_none t.row.dropped && (names query.filter.now t && names (typed_text query.typed) t)

-- how many tasks are shown, on one screen or on several
abbrev pub shown_count : Query → TablesView → ℕ
shown_count query tables = length (filter (is_shown query) tables.tasks)

-- the rank of a number: the greatest is first, or the least
abbrev pub rank_of : Bool → ℕ → ℕ
rank_of rising n = if rising then 18446744073709551615 - n else n

-- the key of a task that is shown, at a moment: the rank of its number in the column
abbrev pub task_key : Query → ℕ → Task → Option ℕ
task_key query now t = if is_shown query t then Some (rank_of query.rising (number_in query.sort t.row now)) else None

-- a text stands in where the tasks of a place were spawned, or in their name
abbrev pub names_place : List ℕ → List ℕ → Bool
names_place text site = stands_in text (location_in site) || stands_in text (name_in site)

-- a place is shown which two texts name
abbrev pub is_place_shown : Query → PlaceRow → Bool
is_place_shown query p = names_place query.filter.now p.0 && names_place (typed_text query.typed) p.0

-- what places came to in the last while, or where lines don't reach back so far, in all
abbrev pub recent_places : OddView → List PlaceRow
recent_places odd = option_map_or (λ (r : RecentView). r.places) odd.recent odd.places

-- how long that while is
abbrev pub recent_time : OddView → Option ℕ
recent_time odd = option_map (λ (r : RecentView). r.time) odd.recent

-- the places as they are shown: with what they came to in the last while, or in all
abbrev pub places_by : Bool → OddView → List PlaceRow
places_by recent odd = if recent then recent_places odd else odd.places

-- how many places are shown, on one screen or on several
abbrev pub places_count : Query → OddView → ℕ
places_count query odd = length (filter (is_place_shown query) (places_by query.recent odd))

-- how many rows there are of what is shown: of places, or of tasks
abbrev pub rows_count : Query → TablesView → OddView → ℕ
rows_count query tables odd = if query.by_place then places_count query odd else shown_count query tables

-- the key of a place that is shown: the rank of its number in the column
abbrev pub place_key : Query → PlaceRow → Option ℕ
place_key query p = if is_place_shown query p then Some (rank_of query.rising (place_number query.sort p.1)) else None

-- the key of a resource that is shown, which is open: how many of its poll operations were pending
abbrev pub resource_key_by : ℕ → Resource → Option ℕ
resource_key_by pending r = if is_none r.row.dropped then Some pending else None

abbrev pub resource_key : List PollCounts → Resource → Option ℕ
resource_key counts r = resource_key_by (counts_of r.info.id counts).1 r

-- the key of an async operation that is shown, which is open: how many polls of it started
abbrev pub op_key : Op → Option ℕ
op_key o = if is_none o.row.dropped then Some o.row.polls else None

-- an item at a place, where it has a key
abbrev pub rank_at : Option ℕ → ℕ → List Ranked
rank_at None place = []
rank_at (Some key) place = record { key = key; place = place } ∷ []

-- the items that have keys, by their places, which begin here
abbrev pub ranked_from : {X : Type 0} → (X → Option ℕ) → ℕ → List X → List Ranked
ranked_from key place [] = []
ranked_from key place (x ∷ xs) = rank_at (key x) place ++ ranked_from key (suc place) xs

-- the first so many of their ranking: those of the greatest keys, and of equal ones the earlier
abbrev pub top_of : {X : Type 0} → (X → Option ℕ) → ℕ → List X → List Ranked
top_of key rows xs = take rows (ranking (ranked_from key 0 xs))

-- what is shown of tables: the first so many
abbrev pub top_tasks : Query → ℕ → TablesView → List Ranked
top_tasks query rows tables = top_of (task_key query tables.now) rows tables.tasks

abbrev pub top_resources : ℕ → TablesView → List Ranked
top_resources rows tables = top_of (resource_key tables.counts) rows tables.resources

abbrev pub top_ops : ℕ → TablesView → List Ranked
top_ops rows tables = top_of op_key rows tables.ops

-- the first places, where those of equal numbers stay in their order
abbrev pub top_places : Query → ℕ → OddView → List Ranked
top_places query rows odd = top_of (place_key query) rows (places_by query.recent odd)
