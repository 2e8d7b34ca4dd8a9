-- The table of places: what the tasks of each came to, those that left among them.
use Rattle.std.specs.Prelude.{ℕ, ◌+◌, nat_le, if◌then◌else◌, Option, Some, None, List, [], ◌∷◌, ◌++◌, codes, fold, length, take, slice_get, flat_map}
use Rattle.std.specs.Str.{bytes_eq}
use Rattle.std.specs.Option.{option_map_or}
use Rattle.tk_core.specs.Lists.{capped}
use Rattle.tk_odd.specs.declared.held.Held.{Held}
use Rattle.tk_series.specs.Limited.{LimitedView}
use Rattle.tk_sites.specs.declared.sums.Sums.{Sums}
use Rattle.tk_sites.specs.declared.times.SiteTimes.{SiteTimes}
use Rattle.tk_paper.specs.Pieces.{Writes}
use Rattle.tk_paper.specs.Escaping.{PaperView}
use Rattle.tk_paper.specs.Parts.{Bit, text, opens, ends, close, start, class, having, having_number}
use Rattle.tk_paper.specs.declared.marks.Attr.TheVariants as attrs
use Rattle.tk_paper.specs.declared.marks.Tag.TheVariants as tags
use Rattle.tk_page.specs.declared.ranks.Rank.{Rank}
use Rattle.tk_page.specs.Badges.{section}
use Rattle.tk_page.specs.Charges.{Places}
use Rattle.tk_page.specs.Places.{more, site_text}
use Rattle.tk_page.specs.PollTimes.{dash_cell, polls_at, polls_cells, time_cell, waits_at, waits_cell}
use Rattle.tk_page.specs.declared.sites.Known.{Known}
use Rattle.tk_page.specs.Ranks.{AreSiteRanks}
use Rattle.tk_page.specs.Rows.{column, mean_cell, number_cell, numbers_column}

-- ---- a row

-- the row of a place begins with the place, as `view --by place` writes it. In the table it has a number, by which the column is sorted
abbrev pub site_name : ℕ → List ℕ → List Bit
site_name place site =
    start tags.Tr ∷ opens tags.Th ∷ having attrs.Scope (codes "row") ∷ having_number attrs.DataV place ∷ ends
    ∷ [] ++ (site_text site ++ close tags.Th ∷ [])

-- how many tasks of a place are open
abbrev pub open_of : Sums → ℕ
open_of sums = capped (capped (sums.idle + sums.scheduled) + sums.polling)

-- how many tasks are open, wait, and came, how long they ran, and by how many polls
abbrev pub site_work : Sums → List Bit
site_work sums =
    number_cell (open_of sums) ++ (number_cell sums.scheduled ++ (number_cell sums.tasks
    ++ (time_cell sums.busy ++ (number_cell sums.polls ++ mean_cell sums.busy sums.polls))))

-- what a place is charged with, if it is this one, and else what was found before
abbrev pub held_if : List ℕ → ℕ → List ℕ × Held → ℕ
held_if site found x = if bytes_eq site x.0 then x.1.charged else found

-- what a place is charged with, of those that others waited for
abbrev pub held_for : Places → List ℕ → ℕ
held_for held site = fold (held_if site) 0 held

-- a cell with that, if it is known
abbrev pub held_cell : Option ℕ → List Bit
held_cell None = dash_cell
held_cell (Some time) = time_cell time

-- how long they waited, all together, each in the mean, and as 99 of a hundred waits don't pass, how long others waited for them, and their own wakes
abbrev pub site_waits : Known → Sums → List Bit
site_waits known sums =
    time_cell sums.sched ++ (mean_cell sums.sched sums.tasks ++ (waits_cell known.waits ++ (held_cell known.held ++ number_cell sums.own)))

-- what is known of the place at an index, and past all of them of all others: their histograms, and for how long others waited for them
abbrev pub known_at : Option (LimitedView SiteTimes) → ℕ → Option ℕ → Known
known_at times place held = record { polls = polls_at times place; waits = waits_at times place; held = held }

-- the row of a place, with what is known of it
abbrev pub site_row : Known → ℕ → List ℕ × Sums → List Bit
site_row known place x = site_name place x.0 ++ (site_work x.1 ++ (polls_cells known.polls ++ (site_waits known x.1 ++ close tags.Tr ∷ [])))

-- the row of a place, of these histograms and these that held up others
abbrev pub full_row : Option (LimitedView SiteTimes) → Places → ℕ → List ℕ × Sums → List Bit
full_row times held place x = site_row (known_at times place (Some (held_for held x.0))) place x

-- the row of the place that stands there
abbrev pub site_row_at : Option (LimitedView SiteTimes) → Places → List (List ℕ × Sums) → Rank → List Bit
site_row_at times held sites rank = option_map_or (full_row times held rank.place) (slice_get sites rank.place) []

-- the row of what all other places add up to, if there are any. For how long these held up others isn't known
abbrev pub others_row : Option (LimitedView SiteTimes) → ℕ → Option Sums → List Bit
others_row times place rest = option_map_or (λ sums. site_row (known_at times place None) place (codes "(others)", sums)) rest []

-- ---- the table

abbrev pub sites_caption : List Bit
sites_caption =
    opens tags.Table ∷ having attrs.Id (codes "sites") ∷ ends ∷ start tags.Caption
    ∷ text (codes "Each row is a place: where tasks are made, as what, and by which name but for numbers. Its numbers are of all its tasks, those that left among them. Those that ran and waited longest come first. A dash stands where the stream has no histogram.")
    ∷ close tags.Caption ∷ start tags.Thead ∷ start tags.Tr ∷ []

-- the columns of the cells of polls
abbrev pub times_columns : List Bit
times_columns =
    numbers_column (codes "what half of their polls don't pass, by the buckets of the histogram") (codes "median")
    ++ (numbers_column (codes "what 99 of 100 polls don't pass, by the buckets of the histogram") (codes "p99")
    ++ numbers_column (codes "the longest poll that ended, beside a histogram of all") (codes "longest"))

abbrev pub sites_columns : List Bit
sites_columns =
    column [] (codes "in the order in which a first task of each came") (codes "place")
    ++ (numbers_column (codes "tasks that are open now") (codes "open")
    ++ (numbers_column (codes "tasks that wait for a poll now") (codes "wait now")
    ++ (numbers_column (codes "tasks that came, those that left among them") (codes "tasks")
    ++ (numbers_column (codes "how long their polls ran, but for polls that last") (codes "ran")
    ++ (numbers_column [] (codes "polls")
    ++ (numbers_column (codes "time that they ran by polls") (codes "a poll takes")
    ++ (times_columns
    ++ (numbers_column (codes "how long they waited for polls, but for waits that last") (codes "waited")
    ++ (numbers_column (codes "time that they waited by tasks") (codes "a task waited")
    ++ (numbers_column (codes "what 99 of 100 waits don't pass, by the buckets of the histogram") (codes "waits p99")
    ++ (numbers_column (codes "time that others waited for them, at least") (codes "held up others")
    ++ (numbers_column (codes "wakes from within them") (codes "own wakes") ++ close tags.Tr ∷ close tags.Thead ∷ start tags.Tbody ∷ []))))))))))))

-- the table of these places: the first 200 by their ranks, and what all others add up to
abbrev pub sites_table : Option (LimitedView SiteTimes) → Places → LimitedView Sums → List Rank → List Bit
sites_table times held sites ranks =
    sites_caption ++ (sites_columns ++ (flat_map (site_row_at times held sites.first) (take 200 ranks)
    ++ (others_row times (length sites.first) sites.rest ++ close tags.Tbody ∷ close tags.Table ∷ close tags.Div ∷ [])))

abbrev pub sites_head : List Bit
sites_head = section (codes "places") (codes "Places") ++ close tags.H2 ∷ class tags.Div (codes "scroll wide") ∷ []

-- the section of places
abbrev pub all_sites : Option (LimitedView SiteTimes) → Places → LimitedView Sums → List Rank → List Bit
all_sites times held sites ranks =
    sites_head ++ (sites_table times held sites ranks ++ (more (length sites.first) 200 (codes " places more, which ran and waited less") ++ close tags.Section ∷ []))

-- the same, if so many tasks came that one doesn't read them one by one: more than 50
abbrev pub sites_section : ℕ → Option (LimitedView SiteTimes) → Places → LimitedView Sums → List Rank → List Bit
sites_section tasks times held sites ranks = if nat_le tasks 50 then [] else all_sites times held sites ranks

-- that section was put
pub record WritesSites (tasks : ℕ) (times : Option (LimitedView SiteTimes)) (held : Places) (sites : LimitedView Sums) (old new : PaperView) : Type 0 where
  pub ranks : List Rank
  pub ranked : AreSiteRanks sites.first ranks
  pub wrote : Writes old new (sites_section tasks times held sites ranks)
