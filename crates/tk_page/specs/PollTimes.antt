-- How long the polls of a place's tasks ran and how long they waited, in cells.
use Rattle.std.specs.Prelude.{ℕ, ◌+◌, ◌*◌, ◌/◌, ◌==◌, max, if◌then◌else◌, List, [], ◌∷◌, ◌++◌, codes, fold, Option, Some, None, option_and_then}
use Rattle.std.specs.Option.{option_map_or}
use Rattle.tk_paper.specs.Parts.{Bit, text, span, opens, ends, close, having, having_number, value, quote}
use Rattle.tk_paper.specs.declared.marks.Attr.TheVariants as attrs
use Rattle.tk_paper.specs.declared.marks.Tag.TheVariants as tags
use Rattle.tk_report.specs.Timed.{percentile_high}
use Rattle.tk_series.specs.Limited.{LimitedView}
use Rattle.tk_sites.specs.Below.{shown_at}
use Rattle.tk_sites.specs.declared.times.Histogram.{Histogram}
use Rattle.tk_sites.specs.declared.times.SiteTimes.{SiteTimes}
use Rattle.tk_page.specs.Figures.{share_of}
use Rattle.tk_page.specs.Rows.{cell}
use Rattle.tk_page.specs.Strips.{box, drawing}

-- a histogram, if any task has one
abbrev pub if_any : Histogram → Option Histogram
if_any h = if h.tasks == 0 then None else Some h

-- the histogram of the polls of the place at an index, or past all of them of all others: none where no task has one
abbrev pub polls_at : Option (LimitedView SiteTimes) → ℕ → Option Histogram
polls_at times index = option_and_then (λ (own : SiteTimes). if_any own.polls) (shown_at times index)

-- the same of their waits
abbrev pub waits_at : Option (LimitedView SiteTimes) → ℕ → Option Histogram
waits_at times index = option_and_then (λ (own : SiteTimes). if_any own.waits) (shown_at times index)

-- a cell without a number
abbrev pub dash_cell : List Bit
dash_cell = cell 0 (text (226 ∷ 128 ∷ 147 ∷ []) ∷ [])

-- a cell with a time
abbrev pub time_cell : ℕ → List Bit
time_cell time = cell time (span time ∷ [])

-- what so many of a hundred times don't pass; a dash where none has ended
abbrev pub percentile_cell : ℕ → Histogram → List Bit
percentile_cell percent h = option_map_or time_cell (percentile_high percent h.longest h.counts) dash_cell

-- ---- the histogram, drawn

-- how high so many polls stand of at most so many, of 16: at least 1 where there are any
abbrev pub bar_high : ℕ → ℕ → ℕ
bar_high most count = if count == 0 then 0 else max (share_of count most * 16 / 1000) 1

-- the bar of a bucket
abbrev pub bar : ℕ → ℕ → ℕ → List Bit
bar most bucket count = box (record { x = bucket * 6; wide = 5; base = 16; high = bar_high most count })

-- the bars of counts, from this bucket on
abbrev pub bars_from : ℕ → ℕ → List ℕ → List Bit
bars_from most bucket [] = []
bars_from most bucket (count ∷ counts) = bar most bucket count ++ bars_from most (bucket + 1) counts

-- the greatest count
abbrev pub most_of : List ℕ → ℕ
most_of counts = fold max 0 counts

-- a histogram, the shortest polls at its left
abbrev pub bars : List ℕ → List Bit
bars counts =
    drawing (codes "hist") 84 16 ++ having attrs.AriaHidden (codes "true") ∷ ends ∷ opens tags.Path ∷ having attrs.Class (codes "busy") ∷ value attrs.D
    ∷ [] ++ (bars_from (most_of counts) 0 counts ++ quote ∷ ends ∷ close tags.Path ∷ close tags.Svg ∷ [])

-- a cell with the histogram and the longest poll
abbrev pub longest_cell : Histogram → List Bit
longest_cell h =
    opens tags.Td ∷ having_number attrs.DataV h.longest ∷ having attrs.Class (codes "num") ∷ ends
    ∷ [] ++ (bars h.counts ++ text (codes " ") ∷ span h.longest ∷ close tags.Td ∷ [])

-- the cells of polls: what half of them don't pass, what 99 of a hundred don't, and the longest
abbrev pub known_cells : Histogram → List Bit
known_cells h = percentile_cell 50 h ++ (percentile_cell 99 h ++ longest_cell h)

-- the same where nothing is known
abbrev pub unknown_cells : List Bit
unknown_cells = dash_cell ++ (dash_cell ++ dash_cell)

-- the cells of a place's polls: dashes where there is no histogram
abbrev pub polls_cells : Option Histogram → List Bit
polls_cells None = unknown_cells
polls_cells (Some h) = known_cells h

-- the cell of a place's waits, what 99 of a hundred don't pass: a dash where there is no histogram
abbrev pub waits_cell : Option Histogram → List Bit
waits_cell None = dash_cell
waits_cell (Some h) = percentile_cell 99 h
