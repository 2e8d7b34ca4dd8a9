-- The lines that tell of tasks, and of resources and async operations.
use Rattle.std.specs.Prelude.{◌==◌, ◌&&◌, ◌-◌, ℕ, List, [], ◌++◌, drop, length, codes, decimal, Option, Some, None, if◌then◌else◌}
use Rattle.std.specs.Str.{is_utf8}
use Rattle.tk_ids.specs.Ids.{id_text}
use Rattle.tk_ids.specs.declared.info.Dropped.{Dropped}
use Rattle.tk_ids.specs.declared.location.Location.{Location}
use Rattle.tk_core.specs.declared.task.row.TaskRow.{TaskRow}
use Rattle.tk_stream.specs.declared.tables.task.Task.{Task}
use Rattle.tk_stream.specs.declared.tables.resource.Resource.{Resource}
use Rattle.tk_stream.specs.declared.tables.op.Op.{Op}
use Rattle.tk_stream.specs.Tables.{TablesView}
use Rattle.tk_stream.specs.Spelling.{kind_text}
use Rattle.tk_report.specs.Report.{op_state, polled_by, task_state}
use Rattle.tk_screen.specs.Screens.{LineView}
use Rattle.tk_screen.specs.Texts.{duration_text, share_text, left, right}
use Rattle.tk_screen.specs.declared.canvas.Style.TheVariants as styles
use Rattle.tk_core.specs.Lasting.{busy_until, op_busy_until, sched_until}
use Rattle.tk_frame.specs.declared.ranks.States.{States}

-- ---- parts of lines

-- a text at the right of a column, and a space
abbrev pub cell : ℕ → List ℕ → List ℕ
cell width text = right width text ++ codes " "

-- a text at the left of a column, and a space
abbrev pub word : ℕ → List ℕ → List ℕ
word width text = left width text ++ codes " "

-- a place in a source file
abbrev pub location_text : Location → List ℕ
location_text l = l.file ++ (codes ":" ++ (decimal l.line ++ (codes ":" ++ decimal l.column)))

-- the end of a text, of at most so many bytes
abbrev pub end_of : ℕ → List ℕ → List ℕ
end_of width text = drop (length text - width) text

-- bytes that are text, or nothing
abbrev pub as_text : List ℕ → List ℕ
as_text bytes = if is_utf8 bytes then bytes else []

-- a place in a column, of which the end is shown where it is longer
abbrev pub place_cell : ℕ → Location → List ℕ
place_cell width l = word width (as_text (end_of width (location_text l)))

abbrev pub plain : List ℕ → LineView
plain text = record { style = styles.Plain; text = text }

abbrev pub heading : List ℕ → LineView
heading text = record { style = styles.Heading; text = text }

abbrev pub warned : List ℕ → LineView
warned text = record { style = styles.Warning; text = text }

-- a line about one task: what it tells, and its value
abbrev pub field : List ℕ → List ℕ → LineView
field label value = plain (word 12 label ++ value)

-- how long ago a moment was
abbrev pub gone_text : ℕ → List ℕ
gone_text nanos = duration_text nanos ++ codes " ago"

-- the same, where there is one
abbrev pub ago_text : ℕ → Option ℕ → List ℕ
ago_text now None = codes "-"
ago_text now (Some moment) = gone_text (now - moment)

-- ---- the first line

-- how many tasks there are, and how many in each state
abbrev pub states_text : ℕ → States → List ℕ
states_text tasks states =
    codes "  tasks " ++ (decimal tasks ++ (codes ": " ++ (decimal states.polling ++ (codes " polling, " ++ (decimal states.scheduled ++ (codes " scheduled, "
    ++ (decimal states.idle ++ (codes " idle, " ++ (decimal states.closed ++ codes " closed")))))))))

-- how many events were lost, where any were
abbrev pub lost_text : Dropped → List ℕ
lost_text d =
    if (d.tasks == 0) && ((d.resources == 0) && (d.ops == 0)) then [] else
    codes "  lost events of " ++ (decimal d.tasks ++ (codes " tasks, " ++ (decimal d.resources ++ (codes " resources, " ++ (decimal d.ops ++ codes " operations")))))

-- how long ago the service was started again, if it was: so long ago is its first line since
abbrev pub again_text : ℕ → Option ℕ → List ℕ
again_text now None = []
again_text now (Some moment) = codes ", started again " ++ gone_text (now - moment)

-- the moment, how long ago the service was started again, the tasks by their states, how many findings there are, and what was lost
abbrev pub head_text : TablesView → Option ℕ → States → ℕ → List ℕ
head_text tables again states findings =
    codes "now " ++ (duration_text tables.now ++ (again_text tables.now again ++ (states_text (length tables.tasks) states
    ++ ((codes "  findings " ++ decimal findings) ++ lost_text tables.dropped))))

-- ---- tasks

-- the columns of tasks
abbrev pub task_heading : List ℕ
task_heading = cell 6 (codes "TASK") ++ (word 9 (codes "STATE") ++ (cell 8 (codes "BUSY") ++ (cell 8 (codes "SCHED") ++ (cell 6 (codes "POLLS")
    ++ (cell 6 (codes "WAKES") ++ (cell 4 (codes "SELF") ++ (word 15 (codes "LOCATION") ++ (word 20 (codes "NAME") ++ codes "KIND"))))))))

-- how long a task ran, and how long it waited
abbrev pub times_text : ℕ → TaskRow → List ℕ
times_text now x = cell 8 (duration_text (busy_until x now)) ++ cell 8 (duration_text (sched_until x now))

-- a task at a moment: its id and state, how long it ran and waited, its polls and wakes, which share of these is its own, where it
-- was spawned, and its name and kind
abbrev pub task_text : ℕ → Task → List ℕ
task_text now t = cell 6 (id_text t.info.id) ++ (word 9 (task_state t.row)
    ++ (times_text now t.row ++ (cell 6 (decimal t.row.polls) ++ (cell 6 (decimal t.row.wakes) ++ (cell 4 (share_text t.row.self_wakes t.row.wakes)
    ++ (place_cell 15 t.info.location ++ (word 20 t.info.name ++ kind_text t.info.kind)))))))

-- ---- resources and async operations

-- the columns of resources
abbrev pub resource_heading : List ℕ
resource_heading = cell 8 (codes "RESOURCE") ++ (cell 8 (codes "READY") ++ (cell 8 (codes "PENDING") ++ codes "TYPE (KIND) LOCATION"))

-- a resource's type, and what it is for
abbrev pub type_text : List ℕ → List ℕ → List ℕ
type_text concrete kind = concrete ++ (codes " (" ++ (kind ++ codes ") "))

-- a resource, of whose poll operations so many were ready and so many pending
abbrev pub resource_text : ℕ × ℕ → Resource → List ℕ
resource_text polls r = cell 8 (id_text r.info.id) ++ (cell 8 (decimal polls.0) ++ (cell 8 (decimal polls.1)
    ++ (type_text r.info.concrete r.info.kind ++ location_text r.info.location)))

-- the columns of async operations
abbrev pub op_heading : List ℕ
op_heading = cell 9 (codes "OPERATION") ++ (word 7 (codes "STATE") ++ (cell 8 (codes "POLLS") ++ (cell 9 (codes "BUSY")
    ++ (cell 8 (codes "TASK") ++ (cell 8 (codes "RESOURCE") ++ codes "SOURCE")))))

-- an async operation at a moment: its id and state, its polls, how long they ran, the task that polls it, its resource, and the
-- call that made it
abbrev pub op_text : ℕ → Op → List ℕ
op_text now o = cell 9 (id_text o.info.id) ++ (word 7 (op_state o.row) ++ (cell 8 (decimal o.row.polls)
    ++ (cell 9 (duration_text (op_busy_until o.row now)) ++ (cell 8 (polled_by o.row.task)
    ++ (cell 8 (id_text o.info.resource) ++ o.info.source)))))
