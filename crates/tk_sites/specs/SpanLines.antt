-- The text of places within a span.
use Rattle.std.specs.Prelude.{ℕ, ◌-◌, ◌==◌, List, [], ◌∷◌, ◌++◌, codes, decimal, Option, if◌then◌else◌}
use Rattle.std.specs.Option.{option_map_or}
use Rattle.tk_report.specs.Report.{line, rest_of_line}
use Rattle.tk_report.specs.Timed.{histogram_words_by}
use Rattle.tk_series.specs.Limited.{LimitedView}
use Rattle.tk_stream.specs.Tables.{TablesView}
use Rattle.tk_sites.specs.Below.{shown_at}
use Rattle.tk_sites.specs.Lines.{first_line, listed, numbered, site_line, warned_lines}
use Rattle.tk_sites.specs.Span.{sums_by, times_since, times_then, value_then}
use Rattle.tk_sites.specs.declared.places_then.PlacesThen.{PlacesThen}
use Rattle.tk_sites.specs.declared.span.Longest.{Longest}
use Rattle.tk_sites.specs.declared.span.Longest.TheVariants.{Known, AtMost}
use Rattle.tk_sites.specs.declared.span.SpanHistogram.{SpanHistogram}
use Rattle.tk_sites.specs.declared.span.SpanTimes.{SpanTimes}
use Rattle.tk_sites.specs.declared.sums.Sums.{Sums}
use Rattle.tk_sites.specs.declared.times.SiteTimes.{SiteTimes}

-- ---- below a place

-- the words before the longest time, and this time
abbrev pub longest_words : Longest → List ℕ
longest_words (Known time) = codes " longest "
longest_words (AtMost time) = codes " longest-at-most "

abbrev pub longest_time : Longest → ℕ
longest_time (Known time) = time
longest_time (AtMost time) = time

-- the line of a histogram, after these words. Its percentiles go by the longest time, or by the bound
abbrev pub span_histogram_line : List ℕ → SpanHistogram → List ℕ
span_histogram_line words h = histogram_words_by words (longest_words h.longest) (longest_time h.longest) h.counts ++ rest_of_line []

-- the same where a task has such a histogram, and else nothing
abbrev pub span_line_if_any : List ℕ → SpanHistogram → List ℕ
span_line_if_any words h = if h.tasks == 0 then [] else span_histogram_line words h

-- the lines of a place's histograms, after two spaces each
abbrev pub span_times_lines : SpanTimes → List ℕ
span_times_lines times = span_line_if_any (codes "  polls ") times.polls ++ span_line_if_any (codes "  waits ") times.waits

-- what stands below the place at an index, where histograms are shown: they, since the moment
abbrev pub span_below : Option (LimitedView SiteTimes) → Option (LimitedView SiteTimes) → ℕ → List ℕ
span_below old times index = option_map_or (λ own. span_times_lines (times_since (times_then old index) own)) (shown_at times index) []

-- ---- places

-- the line of the place of this number, with its sums since the moment, and below it its histograms since then
abbrev pub span_line : PlacesThen → Option (LimitedView SiteTimes) → ℕ → List ℕ × Sums → List ℕ
span_line old times number x =
    site_line number (x.0, sums_by (value_then old.sites (number - 1)) x.1) ++ span_below old.times times (number - 1)

-- the second line: the moment, and how much later the end is
abbrev pub since_line : ℕ → ℕ → List ℕ
since_line moment now = line (codes "since") (decimal moment ∷ codes "span" ∷ decimal (now - moment) ∷ [])

-- what is written of places at the end, since they had come to what they had at the moment: the first line, the span, the lines of each place, and their
-- warnings as they stand at the end
abbrev pub span_text : PlacesThen → TablesView → LimitedView Sums → Option (LimitedView SiteTimes) → List ℕ
span_text old tables sites times =
    first_line tables sites.rest
    ++ (since_line old.moment tables.now
    ++ (numbered (span_line old times) 1 (listed sites)
    ++ numbered warned_lines 1 (listed sites)))
