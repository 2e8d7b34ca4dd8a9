-- What stands below a place: how long the polls of its tasks ran, and how long they waited.
use Rattle.std.specs.Prelude.{ℕ, ◌==◌, List, [], ◌++◌, codes, Option, Some, if◌then◌else◌, option_and_then, slice_get}
use Rattle.std.specs.Option.{option_map_or}
use Rattle.tk_report.specs.Report.{rest_of_line}
use Rattle.tk_report.specs.Timed.{histogram_words}
use Rattle.tk_series.specs.Limited.{LimitedView}
use Rattle.tk_sites.specs.declared.times.Histogram.{Histogram}
use Rattle.tk_sites.specs.declared.times.SiteTimes.{SiteTimes}

-- the line of a histogram, after these words
abbrev pub histogram_line : List ℕ → Histogram → List ℕ
histogram_line words h = histogram_words words h.longest h.counts ++ rest_of_line []

-- the same where a task has such a histogram, and else nothing
abbrev pub line_if_any : List ℕ → Histogram → List ℕ
line_if_any words h = if h.tasks == 0 then [] else histogram_line words h

-- the lines of a place's histograms, after two spaces each
abbrev pub times_lines : SiteTimes → List ℕ
times_lines times = line_if_any (codes "  polls ") times.polls ++ line_if_any (codes "  waits ") times.waits

-- the histograms of the place at an index. Past those that stand by themselves, they are those of all others
abbrev pub times_at : LimitedView SiteTimes → ℕ → Option SiteTimes
times_at times index = option_map_or (λ x. Some x.1) (slice_get times.first index) times.rest

-- the same, where histograms are shown
abbrev pub shown_at : Option (LimitedView SiteTimes) → ℕ → Option SiteTimes
shown_at times index = option_and_then (λ all. times_at all index) times

-- what stands below the place at an index, where histograms are shown
abbrev pub below : Option (LimitedView SiteTimes) → ℕ → List ℕ
below times index = option_map_or times_lines (shown_at times index) []
