-- What is told of the histograms of one task: how long its polls ran, and how long it waited for them.
use Rattle.std.specs.Prelude.{ℕ, List, [], ◌∷◌, ◌++◌, codes, flat_map, Option}
use Rattle.std.specs.Option.{option_map_or}
use Rattle.tk_report.specs.Timed.{percentile_high}
use Rattle.tk_screen.specs.Screens.{LineView}
use Rattle.tk_screen.specs.Texts.{duration_text}
use Rattle.tk_stream.specs.Tables.{item_with}
use Rattle.tk_stream.specs.Times.{TaskTimes, times_id}
use Rattle.tk_stream.specs.declared.tables.times.PollTimes.{PollTimes}
use Rattle.tk_stream.specs.declared.tables.times.WaitTimes.{WaitTimes}
use Rattle.tk_frame.specs.Courses.{greatest, mark_of}
use Rattle.tk_frame.specs.Lines.{field}

-- what so many of a hundred times don't pass; a hyphen where there are none
abbrev pub high_text : ℕ → ℕ → List ℕ → List ℕ
high_text percent longest counts = option_map_or duration_text (percentile_high percent longest counts) (codes "-")

-- a mark for each bucket, from the shortest times to the longest, and where the first ends and the last begins
abbrev pub buckets_text : List ℕ → List ℕ
buckets_text counts = flat_map (mark_of (greatest counts)) counts ++ codes "  from under 16 us to over 67 ms, each twice the one before"

-- how long polls ran: what half of them don't pass, what 99 of a hundred don't, the longest, and how many lie in each bucket
abbrev pub poll_times_part : PollTimes → List LineView
poll_times_part x = field (codes "median poll") (high_text 50 x.longest x.counts)
    ∷ field (codes "p99 poll") (high_text 99 x.longest x.counts)
    ∷ field (codes "longest poll") (duration_text x.longest)
    ∷ field (codes "poll times") (buckets_text x.counts) ∷ []

-- the same of waits
abbrev pub wait_times_part : WaitTimes → List LineView
wait_times_part x = field (codes "median wait") (high_text 50 x.longest x.counts)
    ∷ field (codes "p99 wait") (high_text 99 x.longest x.counts)
    ∷ field (codes "longest wait") (duration_text x.longest)
    ∷ field (codes "wait times") (buckets_text x.counts) ∷ []

-- where waits are counted
abbrev pub waits_if : Option WaitTimes → List LineView
waits_if waits = option_map_or wait_times_part waits []

abbrev pub both_part : PollTimes → List LineView
both_part x = poll_times_part x ++ waits_if x.waits

-- the histograms of the task of an id, where the stream has some of it
abbrev pub times_part : List TaskTimes → ℕ → List LineView
times_part times id = option_map_or (λ (t : TaskTimes). both_part t.1) (item_with times_id id times) []
