-- What is written of one place: its line, its tasks that are there, and its warnings.
use Rattle.std.specs.Prelude.{ℕ, ◌-◌, List, [], ◌++◌, Bool, Option, not, is_some, flat_map, slice_get, if◌then◌else◌}
use Rattle.std.specs.Option.{option_map_or}
use Rattle.std.specs.Str.{bytes_eq}
use Rattle.tk_report.specs.Timed.{task_lines}
use Rattle.tk_series.specs.Limited.{LimitedView, names_of}
use Rattle.tk_series.specs.Series.{is_seen}
use Rattle.tk_stream.specs.Tables.{TablesView}
use Rattle.tk_stream.specs.Times.{TaskTimes}
use Rattle.tk_stream.specs.declared.tables.task.Task.{Task}
use Rattle.tk_sites.specs.Lines.{first_line, listed, sites_text, timed_line, warned_lines}
use Rattle.tk_odd.specs.Places.{place_of}
use Rattle.tk_sites.specs.declared.sites_view.SitesView.{SitesView}
use Rattle.tk_sites.specs.declared.sites_view.SitesView.TheVariants.{All, One}
use Rattle.tk_sites.specs.declared.sums.Sums.{Sums}
use Rattle.tk_sites.specs.declared.times.SiteTimes.{SiteTimes}

-- whether a task is of the place at an index among those that stand by themselves; past them, whether it is of none of these
abbrev pub is_of : List (List ℕ × Sums) → ℕ → Task → Bool
is_of own index t = option_map_or (λ x. bytes_eq (place_of t.info) x.0) (slice_get own index) (not (is_seen (names_of own) (place_of t.info)))

-- the lines of a task where this holds of it, and else nothing. Its own histograms stand below it where they are shown
abbrev pub lines_if : (Task → Bool) → Bool → List TaskTimes → Task → List ℕ
lines_if holds shown own t = if holds t then task_lines shown own t else []

-- a place of a number: its line, the lines of its tasks in these tables, and its warnings; histograms stand below the place and its tasks where they are shown
abbrev pub place_text : (Task → Bool) → ℕ → TablesView → List TaskTimes → Option (LimitedView SiteTimes) → List ℕ × Sums → List ℕ
place_text holds number tables own times x =
    timed_line times number x ++ (flat_map (lines_if holds (is_some times) own) tables.tasks ++ warned_lines number x)

-- the first line, and the place of this number, if there is one
abbrev pub one_text : ℕ → TablesView → List TaskTimes → LimitedView Sums → Option (LimitedView SiteTimes) → List ℕ
one_text number tables own sites times =
    first_line tables sites.rest
    ++ option_map_or (place_text (is_of sites.first (number - 1)) number tables own times) (slice_get (listed sites) (number - 1)) []

-- what such a view writes: all places, or one
abbrev pub written : SitesView → TablesView → List TaskTimes → LimitedView Sums → Option (LimitedView SiteTimes) → List ℕ
written (All view) tables own sites times = sites_text view tables sites times
written (One number) tables own sites times = one_text number tables own sites times
