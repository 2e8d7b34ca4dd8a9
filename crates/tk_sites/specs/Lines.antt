-- The text of places: a line for each, and a line for each kind of warning of its tasks.
use Rattle.std.specs.Prelude.{ℕ, ◌+◌, ◌-◌, Option, Some, None, List, [], ◌∷◌, ◌++◌, codes, decimal}
use Rattle.std.specs.Option.{option_map_or}
use Rattle.tk_ids.specs.Ids.{id_text}
use Rattle.tk_series.specs.Limited.{LimitedView}
use Rattle.tk_stream.specs.Tables.{TablesView}
use Rattle.tk_report.specs.Report.{heading, line}
use Rattle.tk_report.specs.declared.view.View.{View}
use Rattle.tk_report.specs.declared.view.View.TheVariants.{Report, Lint}
use Rattle.tk_sites.specs.Below.{below}
use Rattle.tk_sites.specs.declared.sums.Sums.{Sums}
use Rattle.tk_sites.specs.declared.times.SiteTimes.{SiteTimes}
use Rattle.tk_sites.specs.declared.warned.Warned.{Warned}

-- how many tasks are in each state, and how many have left
abbrev pub state_words : Sums → List (List ℕ)
state_words s =
    codes "idle" ∷ decimal s.idle
    ∷ codes "scheduled" ∷ decimal s.scheduled
    ∷ codes "polling" ∷ decimal s.polling
    ∷ codes "closed" ∷ decimal s.closed
    ∷ codes "left" ∷ decimal s.left ∷ []

-- what was counted of them
abbrev pub count_words : Sums → List (List ℕ)
count_words s =
    codes "polls" ∷ decimal s.polls
    ∷ codes "wakes" ∷ decimal s.wakes
    ∷ codes "self" ∷ decimal s.own
    ∷ codes "clones" ∷ decimal s.clones
    ∷ codes "drops" ∷ decimal s.drops ∷ []

-- for how long they ran and waited
abbrev pub time_words : Sums → List (List ℕ)
time_words s = codes "busy" ∷ decimal s.busy ∷ codes "sched" ∷ decimal s.sched ∷ []

-- the words after which a place stands
abbrev pub place_words : List ℕ → List (List ℕ)
place_words site = codes "kind" ∷ site ∷ []

-- the line of the place of this number: how many of its tasks came, its sums, and last the place
abbrev pub site_line : ℕ → List ℕ × Sums → List ℕ
site_line number x = line (codes "place")
    ((decimal number ∷ codes "tasks" ∷ decimal x.1.tasks ∷ []) ++ (state_words x.1 ++ (count_words x.1 ++ (time_words x.1 ++ place_words x.0))))

-- the same, and below it the place's histograms, where they are shown
abbrev pub timed_line : Option (LimitedView SiteTimes) → ℕ → List ℕ × Sums → List ℕ
timed_line times number x = site_line number x ++ below times (number - 1)

-- the line of those tasks of a place that have a warning of one kind, if there are any: how many, the first, and last the place
abbrev pub warned_line : ℕ → List ℕ → List ℕ → Warned → List ℕ
warned_line number kind site w = option_map_or (λ task. line (codes "warn-place")
    ((decimal number ∷ kind ∷ decimal w.tasks ∷ codes "first" ∷ id_text task ∷ []) ++ place_words site)) w.first []

-- the lines of warnings of a place, kind by kind
abbrev pub warned_lines : ℕ → List ℕ × Sums → List ℕ
warned_lines number x =
    warned_line number (codes "self-wakes") x.0 x.1.warnings.self_wakes
    ++ (warned_line number (codes "lost-waker") x.0 x.1.warnings.lost_waker
    ++ (warned_line number (codes "never-yielded") x.0 x.1.warnings.never_yielded
    ++ (warned_line number (codes "long-poll") x.0 x.1.warnings.long_poll
    ++ warned_line number (codes "long-wait") x.0 x.1.warnings.long_wait)))

-- what is written of each place, of which the first has this number
abbrev pub numbered : (ℕ → List ℕ × Sums → List ℕ) → ℕ → List (List ℕ × Sums) → List ℕ
numbered text n [] = []
numbered text n (x ∷ xs) = text n x ++ numbered text (n + 1) xs

-- the place of all tasks that are of none by itself
abbrev pub more_site : List ℕ
more_site = codes "- at - name (others)"

-- what takes all that found no room among places, as one more
abbrev pub more_of : Option Sums → List (List ℕ × Sums)
more_of rest = option_map_or (λ (s : Sums). (more_site, s) ∷ []) rest []

-- places, and the one more
abbrev pub listed : LimitedView Sums → List (List ℕ × Sums)
listed sites = sites.first ++ more_of sites.rest

-- the first line of the report of these tables, and how many tasks are of no place by itself
abbrev pub heading_with : TablesView → ℕ → List ℕ
heading_with tables more = line (codes "now") (decimal tables.now
    ∷ codes "dropped" ∷ decimal tables.dropped.tasks ∷ decimal tables.dropped.resources ∷ decimal tables.dropped.ops
    ∷ codes "more" ∷ decimal more ∷ [])

-- the first line: that of the report of these tables, and how many tasks are of no place by itself, if there are any
abbrev pub first_line : TablesView → Option Sums → List ℕ
first_line tables None = heading tables
first_line tables (Some rest) = heading_with tables rest.tasks

-- what is written of places: a first line, the lines of each place, and their warnings; or these alone
abbrev pub sites_text : View → TablesView → LimitedView Sums → Option (LimitedView SiteTimes) → List ℕ
sites_text Report tables sites times = first_line tables sites.rest ++ (numbered (timed_line times) 1 (listed sites) ++ numbered warned_lines 1 (listed sites))
sites_text Lint tables sites times = numbered warned_lines 1 (listed sites)
