-- All that is told of one task.
use Rattle.std.specs.Prelude.{ℕ, List, [], ◌∷◌, ◌++◌, codes, decimal, Some}
use Rattle.std.specs.Option.{option_map_or}
use Rattle.tk_ids.specs.Ids.{id_text}
use Rattle.tk_core.specs.declared.task.row.TaskRow.{TaskRow}
use Rattle.tk_stream.specs.declared.tables.task.Task.{Task}
use Rattle.tk_stream.specs.Tables.{TablesView, task_with}
use Rattle.tk_stream.specs.Spelling.{kind_text}
use Rattle.tk_stream.specs.Times.{TaskTimes}
use Rattle.tk_report.specs.Report.{task_state}
use Rattle.tk_screen.specs.Screens.{LineView}
use Rattle.tk_screen.specs.Texts.{duration_text, share_text}
use Rattle.tk_core.specs.Lasting.{busy_until, sched_until, waits_for}
use Rattle.tk_frame.specs.Findings.{OddView, owns_part}
use Rattle.tk_frame.specs.Histograms.{times_part}
use Rattle.tk_frame.specs.Lines.{ago_text, field, heading, location_text, plain}
use Rattle.tk_frame.specs.PlaceLines.{known_text}
use Rattle.tk_frame.specs.Polled.{ops_part}

-- what was told of it once, and its state
abbrev pub info_part : Task → List LineView
info_part t = heading (codes "TASK " ++ id_text t.info.id)
    ∷ field (codes "name") t.info.name
    ∷ field (codes "kind") (kind_text t.info.kind)
    ∷ field (codes "location") (location_text t.info.location)
    ∷ field (codes "state") (task_state t.row) ∷ []

-- its polls, and how long they ran
abbrev pub polls_part : ℕ → TaskRow → List LineView
polls_part now x = field (codes "polls") (decimal x.polls)
    ∷ field (codes "busy") (duration_text (busy_until x now))
    ∷ field (codes "first poll") (ago_text now x.first_poll)
    ∷ field (codes "last poll") (ago_text now x.last_started)
    ∷ field (codes "last end") (ago_text now x.last_ended) ∷ []

-- its wakes, how long it waited for a poll in all, and how long it has waited for the next one, where it waits
abbrev pub wakes_part : ℕ → TaskRow → List LineView
wakes_part now x = field (codes "wakes") (decimal x.wakes)
    ∷ field (codes "self-wakes") (decimal x.self_wakes)
    ∷ field (codes "self share") (share_text x.self_wakes x.wakes)
    ∷ field (codes "last wake") (ago_text now x.last_wake)
    ∷ field (codes "sched") (duration_text (sched_until x now))
    ∷ field (codes "waiting") (known_text (waits_for x now)) ∷ []

-- its wakers and handles, and since when it is there
abbrev pub life_part : ℕ → TaskRow → List LineView
life_part now x = field (codes "clones") (decimal x.clones)
    ∷ field (codes "drops") (decimal x.drops)
    ∷ field (codes "handles") (decimal x.handles)
    ∷ field (codes "created") (ago_text now (Some x.created))
    ∷ field (codes "closed") (ago_text now x.dropped) ∷ []

-- all its statistics
abbrev pub row_part : ℕ → TaskRow → List LineView
row_part now x = polls_part now x ++ (wakes_part now x ++ life_part now x)

-- ---- all

-- all that is told of a task: what was told of it once, the operations that it polls with their resources, the findings about its place with what to do and
-- who waited, its histograms, and its statistics
abbrev pub details_of : TablesView → List TaskTimes → OddView → Task → List LineView
details_of tables times odd t =
    info_part t ++ (ops_part tables t.info.id ++ (owns_part tables.tasks t odd ++ (times_part times t.info.id ++ row_part tables.now t.row)))

-- a task that isn't there any more
abbrev pub gone_part : ℕ → List LineView
gone_part id = heading (codes "TASK " ++ id_text id) ∷ plain (codes "it has left the stream") ∷ []

-- all that is told of the task of an id
abbrev pub details_at : ℕ → TablesView → List TaskTimes → OddView → List LineView
details_at id tables times odd = option_map_or (details_of tables times odd) (task_with id tables.tasks) (gone_part id)
