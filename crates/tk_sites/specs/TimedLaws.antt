-- What the laws say of the histograms of places.
use Rattle.std.specs.Prelude.{ℕ, List, [], ◌∷◌, ◌++◌, map, get_or, Option, option_and_then}
use Rattle.std.specs.Option.{option_map_or}
use Rattle.tk_stream.specs.Tables.{TablesView}
use Rattle.tk_stream.specs.Times.{TaskTimes}
use Rattle.tk_stream.specs.declared.tables.task.Task.{Task}
use Rattle.tk_stream.specs.declared.tables.times.PollTimes.{PollTimes}
use Rattle.tk_stream.specs.declared.tables.times.WaitTimes.{WaitTimes}
use Rattle.tk_client.specs.Changes.{Timed, untimed}
use Rattle.tk_client.specs.declared.change.LeftTask.{LeftTask}
use Rattle.tk_sites.specs.TimedSites.{times_with, who_left}
use Rattle.tk_sites.specs.declared.times.SiteTimes.{SiteTimes}

-- the histograms of the tasks that left since these, line by line, each as it was last shown
abbrev pub times_left : Timed → List Timed → List (Option PollTimes)
times_left old [] = []
times_left old (new ∷ seen) = map (λ (left : LeftTask). left.times) (who_left old new) ++ times_left new seen

-- the histograms of all tasks: those that left, and those that are there
abbrev pub all_times : List Timed → TablesView → List TaskTimes → List (Option PollTimes)
all_times seen tables times = times_left untimed seen ++ map (λ (t : Task). times_with times t.info.id) tables.tasks

-- how many polls of a task lie in a bucket; none where it has no histogram
abbrev pub polls_in : ℕ → Option PollTimes → ℕ
polls_in bucket times = option_map_or (λ (t : PollTimes). get_or t.counts bucket 0) times 0

-- how many of its waits do; none where they aren't counted
abbrev pub waits_in : ℕ → Option PollTimes → ℕ
waits_in bucket times = option_map_or (λ (w : WaitTimes). get_or w.counts bucket 0) (option_and_then (λ (t : PollTimes). t.waits) times) 0

-- how many polls, and how many waits, of a place's tasks do
abbrev pub site_polls : ℕ → SiteTimes → ℕ
site_polls bucket times = get_or times.polls.counts bucket 0

abbrev pub site_waits : ℕ → SiteTimes → ℕ
site_waits bucket times = get_or times.waits.counts bucket 0
