-- The report with what is known of how long polls ran and waits took: below a task its histograms, and after its warnings its long poll and its long wait.
use Rattle.std.specs.Prelude.{ℕ, ◌*◌, ◌+◌, ◌==◌, List, [], ◌++◌, ◌∷◌, Bool, ◌||◌, false, codes, decimal, if◌then◌else◌, min, nat_le, Option, None, is_some, option_and_then}
use Rattle.std.specs.List.{flat_map, position_from}
use Rattle.std.specs.Option.{option_map, option_map_or}
use Rattle.tk_ids.specs.Ids.{id_text}
use Rattle.tk_core.specs.Lists.{capped}
use Rattle.tk_core.specs.Percentiles.{begin_of, end_of, total_of}
use Rattle.tk_core.specs.Task.{waiting_since}
use Rattle.tk_stream.specs.declared.tables.task.Task.{Task}
use Rattle.tk_stream.specs.declared.tables.times.PollTimes.{PollTimes}
use Rattle.tk_stream.specs.declared.tables.times.WaitTimes.{WaitTimes}
use Rattle.tk_stream.specs.Tables.{TablesView, item_with}
use Rattle.tk_stream.specs.Times.{TaskTimes, times_id}
use Rattle.tk_client.specs.declared.any_warnings.AnyWarning.{AnyWarning}
use Rattle.tk_client.specs.declared.any_warnings.AnyWarning.TheVariants as any
use Rattle.tk_client.specs.declared.any_warnings.TimeLimits.{TimeLimits}
use Rattle.tk_client.specs.declared.long_polls.LongPoll.{LongPoll}
use Rattle.tk_client.specs.declared.long_waits.LongWait.{LongWait}
use Rattle.tk_client.specs.AnyWarnings.{all_warnings_in, no_limits}
use Rattle.tk_client.specs.Warnings.{LintsView}
use Rattle.tk_report.specs.declared.view.View.{View}
use Rattle.tk_report.specs.declared.view.View.TheVariants.{Report, Lint}
use Rattle.tk_report.specs.declared.options.TimesOptions.{TimesOptions}
use Rattle.tk_report.specs.Known.{completed, longest_known}
use Rattle.tk_report.specs.Report.{rest_of_line, heading, line, op_lines, resource_lines, task_line, warn_line}

-- ---- percentiles

-- counts added up one after the other, to what was counted before them
abbrev pub sums_from : ℕ → List ℕ → List ℕ
sums_from before [] = []
sums_from before (n ∷ ns) = (before + n) ∷ sums_from (before + n) ns

-- the bucket of a percentile: the first with which at least so many of a hundred times are counted; none where there are no times
abbrev pub percentile_of : ℕ → List ℕ → Option ℕ
percentile_of percent counts =
    if total_of counts == 0 then None
    else position_from (λ seen. nat_le (percent * total_of counts) (100 * seen)) 0 (sums_from 0 counts)

-- what the times of a bucket don't pass: its end, or the longest of all where that is shorter
abbrev pub high_of : ℕ → ℕ → ℕ
high_of longest bucket = option_map_or (λ bound. min bound longest) (end_of bucket) longest

-- what so many of a hundred times don't pass, by the bucket in which that percentile lies: none where there are no times
abbrev pub percentile_high : ℕ → ℕ → List ℕ → Option ℕ
percentile_high percent longest counts = option_map (high_of longest) (percentile_of percent counts)

-- where a bucket ends. The last ends with the longest time, or with a hyphen where no histogram has such a longest time
abbrev pub high_word : ℕ → ℕ → List ℕ
high_word longest bucket =
    option_map_or decimal (end_of bucket) (if nat_le (begin_of bucket) longest then decimal longest else codes "-")

-- a percentile after a space: its name, and where its bucket begins and ends
abbrev pub bucket_words : ℕ → ℕ → ℕ → List ℕ
bucket_words percent longest bucket = codes " p" ++ decimal percent ++ (codes " " ++ decimal (begin_of bucket) ++ (codes " " ++ high_word longest bucket))

abbrev pub percentile_words : ℕ → List ℕ → ℕ → List ℕ
percentile_words longest counts percent = option_map_or (bucket_words percent longest) (percentile_of percent counts) []

-- what a histogram says, after a word that says of what: how many it counts, up to 2^64 - 1, the longest after the words of that, and three
-- percentiles where it counts any
abbrev pub histogram_words_by : List ℕ → List ℕ → ℕ → List ℕ → List ℕ
histogram_words_by word by longest counts =
    word ++ decimal (capped (total_of counts))
    ++ (by ++ decimal longest
    ++ (percentile_words longest counts 50
    ++ (percentile_words longest counts 90
    ++ percentile_words longest counts 99)))

-- the same of a histogram whose longest time is known
abbrev pub histogram_words : List ℕ → ℕ → List ℕ → List ℕ
histogram_words word longest counts = histogram_words_by word (codes " longest ") longest counts

-- ---- lines

-- the line of a histogram of polls, after two spaces
abbrev pub times_line : PollTimes → List ℕ
times_line times = histogram_words (codes "  polls ") times.longest times.counts ++ rest_of_line []

-- the line of a task's histogram of polls, where it has one
abbrev pub times_below : List TaskTimes → ℕ → List ℕ
times_below times id = option_map_or (λ (t : TaskTimes). times_line t.1) (item_with times_id id times) []

-- the histogram of waits of a task, where it has one
abbrev pub waits_with : List TaskTimes → ℕ → Option WaitTimes
waits_with times id = option_and_then (λ (t : TaskTimes). t.1.waits) (item_with times_id id times)

-- what a histogram of waits says
abbrev pub wait_words : Option WaitTimes → List ℕ
wait_words waits = option_map_or (λ (w : WaitTimes). histogram_words (codes " ") w.longest w.counts) waits []

-- since when a task waits, where it does
abbrev pub since_words : Option ℕ → List ℕ
since_words since = option_map_or (λ m. codes " since " ++ decimal m) since []

-- the line of a task's waits, after two spaces: its histogram where it has one, and since when it waits where it does and its row counts waits
abbrev pub waits_line : Option WaitTimes → Option ℕ → List ℕ
waits_line waits since =
    if is_some waits || is_some since then codes "  waits" ++ (wait_words waits ++ (since_words since ++ rest_of_line [])) else []

-- the lines below a task: that of its polls, and that of its waits
abbrev pub below : List TaskTimes → Task → List ℕ
below times t = times_below times t.info.id ++ waits_line (waits_with times t.info.id) (waiting_since t.row)

-- a task, and below it how long its polls ran and it waited, where that is shown
abbrev pub task_lines : Bool → List TaskTimes → Task → List ℕ
task_lines shown times t = task_line t ++ (if shown then below times t else [])

-- the line of a long poll
abbrev pub long_poll_line : LongPoll → List ℕ
long_poll_line p = line (codes "warn") (id_text p.task ∷ codes "long-poll" ∷ decimal p.time ∷ [])

-- the line of a long wait
abbrev pub long_wait_line : LongWait → List ℕ
long_wait_line w = line (codes "warn") (id_text w.task ∷ codes "long-wait" ∷ decimal w.time ∷ [])

-- the line of any warning
abbrev pub any_warn_line : TablesView → AnyWarning → List ℕ
any_warn_line tables (any.Usual w) = warn_line tables w
any_warn_line tables (any.LongPoll p) = long_poll_line p
any_warn_line tables (any.LongWait w) = long_wait_line w

-- the lines of warnings, in their order
abbrev pub any_warn_lines : TablesView → List AnyWarning → List ℕ
any_warn_lines tables warnings = flat_map (any_warn_line tables) warnings

-- ---- the report

-- the report of tables with these warnings, and with histograms where they are shown
abbrev pub timed_report_with : Bool → TablesView → List TaskTimes → List AnyWarning → List ℕ
timed_report_with shown tables times warnings =
    heading tables
    ++ (flat_map (task_lines shown times) tables.tasks
    ++ (flat_map (resource_lines tables.counts) tables.resources
    ++ (flat_map op_lines tables.ops
    ++ any_warn_lines tables warnings)))

-- the times that long polls go by, where they are asked for: the stream's histograms, and of a task that has none what the tables after each line show
abbrev pub times_by : TimeLimits → List TablesView → TablesView → List TaskTimes → List TaskTimes
times_by limits shown tables times = if is_some limits.poll_ms then completed (longest_known shown) tables.tasks times else times

-- the warnings that tables have, long polls and long waits among them where they are asked for. These are the tables after each line
abbrev pub warned_of : LintsView → TimesOptions → List TablesView → TablesView → List TaskTimes → List AnyWarning
warned_of lints options shown tables times = all_warnings_in lints options.limits tables (times_by options.limits shown tables times)

-- nothing of poll times and waits is shown
abbrev pub no_times : TimesOptions
no_times = record { times = false; limits = no_limits }

-- what is written of tables and histograms, and of the tables after each line
abbrev pub timed_text_of : View → LintsView → TimesOptions → List TablesView → TablesView → List TaskTimes → List ℕ
timed_text_of Report lints options shown tables times = timed_report_with options.times tables times (warned_of lints options shown tables times)
timed_text_of Lint lints options shown tables times = any_warn_lines tables (warned_of lints options shown tables times)
