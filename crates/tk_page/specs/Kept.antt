-- What is kept of the lines of a stream: of each task the course of just its lines, what all tasks gained, and how many left.
use Rattle.std.specs.Prelude.{◌≡◌, ℕ, ◌+◌, ◌≤◌, nat_eq, Bool, not, List, [], ◌∷◌, ◌++◌, length, Option, Some, None, is_some, unwrap_or, if◌then◌else◌, map, fold, flat_map, reverse, take_while, slice_get, count_by, drop}
use Rattle.std.specs.List.{last_or}
use Rattle.std.specs.Map.{lookup}
use Rattle.std.specs.Option.{option_map_or}
use Rattle.indexmap.specs.IndexMap.{get}
use Rattle.tk_core.specs.Lists.{capped}
use Rattle.tk_core.specs.declared.task.row.TaskRow.{TaskRow}
use Rattle.tk_stream.specs.declared.tables.task.Task.{Task}
use Rattle.tk_stream.specs.Tables.{TablesView, empty_tables, is_among, task_id, task_with}
use Rattle.tk_odd.specs.Keeping.{lasts_in, row_in}
use Rattle.tk_paper.specs.Courses.{CourseView, IsCourse, no_items, with_item, with_items}
use Rattle.tk_page.specs.declared.history.History.{History}
use Rattle.tk_page.specs.declared.track.Track.{Track}
use Rattle.tk_page.specs.declared.tracks.Tracks.{Tracks}
use Rattle.tk_page.specs.declared.sample.Sample.{Sample}
use Rattle.tk_page.specs.Samples.{gained, nothing, plus, sample_of}

-- ---- the samples of a task

-- tables have a task
abbrev pub has_task : ℕ → TablesView → Bool
has_task id tables = is_some (task_with id tables.tasks)

-- what a task had come to in tables, where they have it
abbrev pub sample_in : ℕ → TablesView → List Sample
sample_in id tables = option_map_or (λ t. sample_of t.row tables.now ∷ []) (task_with id tables.tasks) []

-- the last of these tables, as far back as all of them have the task
abbrev pub run_of : ℕ → List TablesView → List TablesView
run_of id shown = reverse (take_while (has_task id) (reverse shown))

-- what a task had come to after each of the last lines, since it came: none where it is not in the last tables
abbrev pub samples_of : ℕ → List TablesView → List Sample
samples_of id shown = flat_map (sample_in id) (run_of id shown)

-- the samples with the tables of one line more
abbrev pub samples_more : ℕ → TablesView → List Sample → List Sample
samples_more id tables xs = if has_task id tables then xs ++ sample_in id tables else []

-- the last of samples; nothing where there is none
abbrev pub latest : List Sample → Sample
latest xs = unwrap_or (last_or None xs) (nothing 0)

-- ---- all tasks

-- the tables after the last line; empty ones before the first
abbrev pub last_of : List TablesView → TablesView
last_of shown = unwrap_or (last_or None shown) empty_tables

-- what a task had come to in tables; nothing where they don't have it
abbrev pub come_to : ℕ → TablesView → Sample
come_to id tables = option_map_or (λ t. sample_of t.row tables.now) (task_with id tables.tasks) (nothing 0)

-- what a task of tables gained since the tables before them
abbrev pub gain_of : TablesView → TablesView → Task → Sample
gain_of before tables t = gained (sample_of t.row tables.now) (come_to (task_id t) before)

-- what all tasks have gained: so much before, and what each task of tables gained since the tables before them
unfoldable pub total_more : Sample → TablesView → TablesView → Sample
total_more total before tables = fold (λ sum t. plus sum (gain_of before tables t)) (plus (nothing tables.now) total) tables.tasks

-- the same after each line, from tables on and what was gained up to them
unfoldable pub totals_from : Sample → TablesView → List TablesView → List Sample
totals_from total before [] = []
totals_from total before (tables ∷ more) = total_more total before tables ∷ totals_from (total_more total before tables) tables more

-- what all tasks had gained after each line, those that have left among them
unfoldable pub totals_of : List TablesView → List Sample
totals_of shown = totals_from (nothing 0) empty_tables shown

-- and after the last one
abbrev pub total_of : List TablesView → Sample
total_of shown = latest (totals_of shown)

-- how many tasks of tables are no more there in those after them
abbrev pub left_in : TablesView → TablesView → ℕ
left_in before tables = count_by (λ t. not (has_task (task_id t) tables)) before.tasks

-- how many tasks left in these lines, from tables on
unfoldable pub gone_from : TablesView → List TablesView → ℕ
gone_from before [] = 0
gone_from before (tables ∷ more) = left_in before tables + gone_from tables more

-- how many tasks have left
unfoldable pub gone_of : List TablesView → ℕ
gone_of shown = gone_from empty_tables shown

-- ---- what is kept

-- the moments of lines
abbrev pub moments_of : List TablesView → List ℕ
moments_of shown = map (λ (t : TablesView). t.now) shown

-- what a task had come to at moments, whose row was the same at all of them
abbrev pub samples_at : TaskRow → List ℕ → List Sample
samples_at row moments = map (sample_of row) moments

-- the course of a track after the lines at these moments: the task was as it was last told at those that the track doesn't have yet
abbrev pub caught_up : List ℕ → Track → CourseView Sample
caught_up moments track = with_items track.course (samples_at track.row (drop track.lines moments))

-- the track of a task that comes after the lines at these moments
abbrev pub begun : List ℕ → TaskRow → Track
begun moments row = record { course = no_items; row = row; lines = length moments }

-- a track after one line more, which tells of its task
abbrev pub told_again : List ℕ → ℕ → TaskRow → Track → Track
told_again moments now row track = record { course = with_item (caught_up moments track) (sample_of row now); row = row; lines = length moments + 1 }

-- the track of a task after one line more, which tells of it: none where the task isn't there
abbrev pub told_track : List ℕ → ℕ → Option TaskRow → Option Track → Option Track
told_track moments now None track = None
told_track moments now (Some row) None = Some (told_again moments now row (begun moments row))
told_track moments now (Some row) (Some track) = Some (told_again moments now row track)

-- what a task had come to at a moment, by its track; nothing where it has none
abbrev pub come_by : ℕ → Option Track → Sample
come_by moment track = option_map_or (λ (t : Track). sample_of t.row moment) track (nothing 0)

-- a sum with what a task of tables gained since a moment, by its track
abbrev pub with_gain_by : ℕ → TablesView → Tracks → Sample → Task → Sample
with_gain_by moment tables tracks sum t = plus sum (gained (sample_of t.row tables.now) (come_by moment (get nat_eq tracks.tasks (task_id t))))

-- a track tells of a task after the lines at these moments: with the lines since those that it has it is the course of the task's
-- samples, and it has the row that the task has now
pub record Follows (moments : List ℕ) (xs : List Sample) (now : Option TaskRow) (track : Track) : Type 0 where
  pub within : track.lines ≤ length moments
  pub row : now ≡ Some track.row
  pub course : IsCourse xs (caught_up moments track)

-- the same where there may be no track: then there is no task
abbrev pub FollowsAt : List ℕ → List Sample → Option TaskRow → Option Track → Type 0
FollowsAt moments xs now None = (now ≡ None) × (xs ≡ [])
FollowsAt moments xs now (Some track) = Follows moments xs now track

-- the track of a task stands there
abbrev pub StandsAt : List (ℕ × Track) → ℕ → ℕ → Type 0
StandsAt entries i id = (track : Track) × (slice_get entries i ≡ Some (id, track)) × (lookup (nat_eq id) entries ≡ Some track)

-- tracks tell of the tasks of the last of tables, and which of these run or wait
pub record AreTracks (shown : List TablesView) (tracks : Tracks) : Type 0 where
  pub tasks : (id : ℕ) → FollowsAt (moments_of shown) (samples_of id shown) (row_in (last_of shown) id) (get nat_eq tracks.tasks id)
  pub lasting : (id : ℕ) → is_among tracks.lasting.keys id ≡ lasts_in (last_of shown) id

-- the samples that are kept of a task
abbrev pub kept_of : History → ℕ → List Sample
kept_of history id = option_map_or (λ (track : Track). (caught_up history.moments.items track).kept) (get nat_eq history.tracks.tasks id) []

-- the moment of the first of tables
abbrev pub first_of : List TablesView → ℕ
first_of [] = 0
first_of (tables ∷ more) = tables.now

-- a history tells of the tables after each line: the moment of each, of each task the course of just its lines, what all tasks
-- gained, and how many left
pub record Tells (shown : List TablesView) (history : History) : Type 0 where
  pub moments : history.moments.items ≡ moments_of shown
  pub tracks : AreTracks shown history.tracks
  pub gone : history.gone ≡ capped (gone_of shown)
  pub sums : IsCourse (totals_of shown) history.sums
  pub last : history.last ≡ total_of shown
