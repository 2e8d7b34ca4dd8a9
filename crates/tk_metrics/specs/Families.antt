-- The families of a stream: what they are called, how they run, and what is said of them.
use Rattle.std.specs.Prelude.{ℕ, List, codes, Bool, true, false}
use Rattle.tk_metrics.specs.declared.family.Count.{Count}
use Rattle.tk_metrics.specs.declared.family.Count.TheVariants.{Polls, Busy, Scheduled, Wakes, SelfWakes, WakerClones, WakerDrops, OpenPoll, OpenWait, Waiting}
use Rattle.tk_metrics.specs.declared.family.Family.{Family}
use Rattle.tk_metrics.specs.declared.family.Family.TheVariants.{Task, Times, Tasks, PollOps, Warnings, Dropped, Lines, Moment, Build, Others, Findings, HeldUp, Waited}
use Rattle.tk_metrics.specs.declared.family.FamilyKind.{FamilyKind}
use Rattle.tk_metrics.specs.declared.family.Timing.TheVariants as timings
use Rattle.tk_metrics.specs.declared.family.FamilyKind.TheVariants.{Counter, Gauge, Histogram}

-- a family's name, without the end that its kind gives it
abbrev pub base_of : Family → List ℕ
base_of (Task Polls) = codes "taskscope_task_polls"
base_of (Task Busy) = codes "taskscope_task_busy_seconds"
base_of (Task Scheduled) = codes "taskscope_task_scheduled_seconds"
base_of (Task Wakes) = codes "taskscope_task_wakes"
base_of (Task SelfWakes) = codes "taskscope_task_self_wakes"
base_of (Task WakerClones) = codes "taskscope_task_waker_clones"
base_of (Task WakerDrops) = codes "taskscope_task_waker_drops"
base_of (Task OpenPoll) = codes "taskscope_task_open_poll_seconds"
base_of (Task OpenWait) = codes "taskscope_task_open_wait_seconds"
base_of (Task Waiting) = codes "taskscope_task_waiting_seconds"
base_of (Times timings.Polls) = codes "taskscope_task_poll_seconds"
base_of (Times timings.Waits) = codes "taskscope_task_wait_seconds"
base_of Tasks = codes "taskscope_tasks"
base_of PollOps = codes "taskscope_resource_poll_ops"
base_of Warnings = codes "taskscope_warnings"
base_of Dropped = codes "taskscope_dropped_events"
base_of Lines = codes "taskscope_stream_lines"
base_of Moment = codes "taskscope_stream_moment_seconds"
base_of Build = codes "taskscope_build_info"
base_of Others = codes "taskscope_other_tasks"
base_of Findings = codes "taskscope_findings"
base_of HeldUp = codes "taskscope_held_up_seconds"
base_of Waited = codes "taskscope_waited_seconds"

-- what it counts
abbrev pub help_of : Family → List ℕ
help_of (Task Polls) = codes "Polls of tasks that have started."
help_of (Task Busy) = codes "How long polls of tasks ran that have ended."
help_of (Task Scheduled) = codes "How long tasks were scheduled until polls of them started."
help_of (Task Wakes) = codes "Wakes of tasks."
help_of (Task SelfWakes) = codes "Wakes of tasks that came from within the task."
help_of (Task WakerClones) = codes "Clones of wakers of tasks."
help_of (Task WakerDrops) = codes "Drops of wakers of tasks."
help_of (Task OpenPoll) = codes "How long the longest poll has run that has not ended."
help_of (Task OpenWait) = codes "How long the longest wait for a poll has lasted that has not ended."
help_of (Task Waiting) = codes "How long all tasks that wait for a poll have waited for it."
help_of (Times timings.Polls) = codes "How long polls of tasks ran that have ended."
help_of (Times timings.Waits) = codes "How long tasks waited for polls that have started."
help_of Tasks = codes "Tasks by the state that they are in."
help_of PollOps = codes "Poll operations of resources by what they answered."
help_of Warnings = codes "Warnings about tasks."
help_of Dropped = codes "Events that the event buffer had no room for."
help_of Lines = codes "Lines of the stream."
help_of Moment = codes "The moment of the last line, by the clock of the stream."
help_of Build = codes "The program that made these numbers."
help_of Others = codes "Tasks that came and have no series of their own labels."
help_of Findings = codes "How many tasks a finding is about."
help_of HeldUp = codes "How long others waited while tasks of a place ran long."
help_of Waited = codes "How long tasks waited for a poll, by what for."

-- what has lasted by now is a gauge, and any other number of tasks only rises
abbrev pub count_kind : Count → FamilyKind
count_kind OpenPoll = Gauge
count_kind OpenWait = Gauge
count_kind Waiting = Gauge
count_kind other = Counter

-- counters only rise
abbrev pub kind_of : Family → FamilyKind
kind_of Tasks = Gauge
kind_of Warnings = Gauge
kind_of Findings = Gauge
kind_of Moment = Gauge
kind_of Build = Gauge
kind_of (Task count) = count_kind count
kind_of (Times timing) = Histogram
kind_of PollOps = Counter
kind_of Dropped = Counter
kind_of Lines = Counter
kind_of Others = Counter
kind_of HeldUp = Counter
kind_of Waited = Counter

-- the numbers that are times, in nanoseconds
abbrev pub is_time : Count → Bool
is_time Busy = true
is_time Scheduled = true
is_time OpenPoll = true
is_time OpenWait = true
is_time Waiting = true
is_time other = false

-- whether a family's values are times, which are written in seconds
abbrev pub is_in_seconds : Family → Bool
is_in_seconds (Task count) = is_time count
is_in_seconds (Times timing) = true
is_in_seconds HeldUp = true
is_in_seconds Waited = true
is_in_seconds Moment = true
is_in_seconds _ = false
