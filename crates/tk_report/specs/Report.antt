-- The report of tables: a text of lines, each of which is a function of the tables and of how much is too much.
use Rattle.std.specs.Prelude.{ℕ, ◌-◌, List, [], ◌++◌, ◌∷◌, codes, decimal, if◌then◌else◌, is_some, Option, Some, None, true, false}
use Rattle.std.specs.Fmt.{signed_decimal}
use Rattle.std.specs.List.{flat_map, zip}
use Rattle.std.specs.Option.{option_map_or}
use Rattle.tk_ids.specs.Ids.{id_text}
use Rattle.tk_ids.specs.declared.attr.AttrInfo.{AttrInfo}
use Rattle.tk_ids.specs.declared.attr.AttrValue.{AttrValue}
use Rattle.tk_ids.specs.declared.attr.AttrValue.TheVariants.{U64, Bool as Flag, I64}
use Rattle.tk_core.specs.declared.op.row.OpRow.{OpRow}
use Rattle.tk_core.specs.declared.resource.row.ResourceRow.{ResourceRow}
use Rattle.tk_core.specs.Task.{waited_of}
use Rattle.tk_core.specs.declared.task.row.TaskRow.{TaskRow}
use Rattle.tk_stream.specs.Spelling.{kind_text}
use Rattle.tk_stream.specs.declared.tables.op.Op.{Op}
use Rattle.tk_stream.specs.declared.tables.resource.Resource.{Resource}
use Rattle.tk_stream.specs.declared.tables.task.Task.{Task}
use Rattle.tk_stream.specs.Tables.{TablesView, PollCounts, counts_of, task_with}
use Rattle.tk_client.specs.declared.warning.Warning.{Warning}
use Rattle.tk_client.specs.declared.warning.WarningKind.{WarningKind}
use Rattle.tk_client.specs.declared.warning.WarningKind.TheVariants.{SelfWakes, LostWaker, NeverYielded}
use Rattle.tk_client.specs.Warnings.{LintsView, warnings_in}

-- ---- lines

-- the rest of a line after a word: these words, each with a space before it, and the line end
abbrev pub rest_of_line : List (List ℕ) → List ℕ
rest_of_line [] = 10 ∷ []
rest_of_line (word ∷ words) = 32 ∷ (word ++ rest_of_line words)

-- a line: its words with a space between two, and the line end
abbrev pub line : List ℕ → List (List ℕ) → List ℕ
line first words = first ++ rest_of_line words

-- ---- the first line

-- the moment of the tables, and how many events of tasks, resources and async operations were dropped
abbrev pub heading : TablesView → List ℕ
heading tables = line (codes "now") (decimal tables.now
    ∷ codes "dropped" ∷ decimal tables.dropped.tasks ∷ decimal tables.dropped.resources ∷ decimal tables.dropped.ops ∷ [])

-- ---- tasks

-- the first that holds of a task: it is closed, being polled, scheduled; else it is idle
abbrev pub task_state : TaskRow → List ℕ
task_state x =
    if is_some x.dropped then codes "closed" else
    (if x.polling then codes "polling" else
    (if x.scheduled then codes "scheduled" else codes "idle"))

-- how long a task waited, where its row counts that
abbrev pub waited_words : Option ℕ → List (List ℕ)
waited_words None = []
waited_words (Some time) = codes "waited" ∷ decimal time ∷ []

-- the line of a task
abbrev pub task_line : Task → List ℕ
task_line t = line (codes "task") (id_text t.info.id ∷ kind_text t.info.kind ∷ task_state t.row
    ∷ codes "polls" ∷ decimal t.row.polls
    ∷ codes "wakes" ∷ decimal t.row.wakes
    ∷ codes "self" ∷ decimal t.row.self_wakes
    ∷ codes "clones" ∷ decimal t.row.clones
    ∷ codes "drops" ∷ decimal t.row.drops
    ∷ codes "busy" ∷ decimal t.row.busy
    ∷ codes "sched" ∷ decimal t.row.sched
    ∷ (waited_words (waited_of t.row) ++ (codes "name" ∷ t.info.name ∷ [])))

-- ---- attributes

-- an attribute's value
abbrev pub value_word : AttrValue → List ℕ
value_word (U64 n) = decimal n
value_word (Flag true) = codes "true"
value_word (Flag false) = codes "false"
value_word (I64 n) = signed_decimal n

-- an attribute's unit, where it has one
abbrev pub unit_words : Option (List ℕ) → List (List ℕ)
unit_words None = []
unit_words (Some unit) = unit ∷ []

-- the line of an attribute, after two spaces
abbrev pub attr_line : AttrInfo × AttrValue → List ℕ
attr_line (attr, value) = codes "  " ++ line attr.name (codes "=" ∷ value_word value ∷ unit_words attr.unit)

-- the lines of an item's attributes, in the order in which it declared them
abbrev pub attr_lines : List AttrInfo → List AttrValue → List ℕ
attr_lines attrs values = flat_map attr_line (zip attrs values)

-- ---- resources

-- a resource is closed or live
abbrev pub resource_state : ResourceRow → List ℕ
resource_state x = if is_some x.dropped then codes "closed" else codes "live"

-- the line of a resource, of whose poll operations so many were ready and so many pending
abbrev pub resource_line : ℕ × ℕ → Resource → List ℕ
resource_line polls r = line (codes "resource") (id_text r.info.id ∷ resource_state r.row
    ∷ codes "ready" ∷ decimal polls.0
    ∷ codes "pending" ∷ decimal polls.1
    ∷ codes "type" ∷ r.info.concrete
    ∷ codes "kind" ∷ r.info.kind ∷ [])

-- a resource, and after it its attributes
abbrev pub resource_lines : List PollCounts → Resource → List ℕ
resource_lines counts r = resource_line (counts_of r.info.id counts) r ++ attr_lines r.info.attrs r.row.attrs

-- ---- async operations

-- the first that holds of an operation: it is closed, being polled; else it is idle
abbrev pub op_state : OpRow → List ℕ
op_state x = if is_some x.dropped then codes "closed" else (if x.polling then codes "polling" else codes "idle")

-- the task that polls an operation, or a hyphen where none was set
abbrev pub polled_by : Option ℕ → List ℕ
polled_by None = codes "-"
polled_by (Some task) = id_text task

-- the line of an async operation
abbrev pub op_line : Op → List ℕ
op_line o = line (codes "op") (id_text o.info.id ∷ op_state o.row
    ∷ codes "polls" ∷ decimal o.row.polls
    ∷ codes "busy" ∷ decimal o.row.busy
    ∷ codes "task" ∷ polled_by o.row.task
    ∷ codes "resource" ∷ id_text o.info.resource
    ∷ codes "source" ∷ o.info.source ∷ [])

-- an async operation, and after it its attributes
abbrev pub op_lines : Op → List ℕ
op_lines o = op_line o ++ attr_lines o.info.attrs o.row.attrs

-- ---- warnings

-- for how long a poll has run that started then; 0 where none did
abbrev pub run_time : ℕ → Option ℕ → ℕ
run_time now None = 0
run_time now (Some started) = now - started

-- what is odd about a task of this row, in tables of this moment
abbrev pub oddity : ℕ → TaskRow → WarningKind → List (List ℕ)
oddity now x SelfWakes = codes "self-wakes" ∷ decimal x.self_wakes ∷ codes "of" ∷ decimal x.wakes ∷ []
oddity now x LostWaker = codes "lost-waker" ∷ []
oddity now x NeverYielded = codes "never-yielded" ∷ decimal (run_time now x.last_started) ∷ []

-- the line of a warning about a task of this row
abbrev pub warn_line_of : ℕ → TaskRow → Warning → List ℕ
warn_line_of now x w = line (codes "warn") (id_text w.task ∷ oddity now x w.kind)

-- the line of a warning about the task with its id
abbrev pub warn_line : TablesView → Warning → List ℕ
warn_line tables w = option_map_or (λ (t : Task). warn_line_of tables.now t.row w) (task_with w.task tables.tasks) []

-- the lines of warnings, in their order
abbrev pub warn_lines : TablesView → List Warning → List ℕ
warn_lines tables warnings = flat_map (warn_line tables) warnings

-- ---- the report

-- the report of tables with these warnings: the first line; tasks, resources and async operations in table order; the warnings
abbrev pub report_with : TablesView → List Warning → List ℕ
report_with tables warnings =
    heading tables
    ++ (flat_map task_line tables.tasks
    ++ (flat_map (resource_lines tables.counts) tables.resources
    ++ (flat_map op_lines tables.ops
    ++ warn_lines tables warnings)))

-- the report of tables, with the warnings that they have
abbrev pub report_of : LintsView → TablesView → List ℕ
report_of lints tables = report_with tables (warnings_in lints tables)

-- the report's warning lines alone
abbrev pub lint_of : LintsView → TablesView → List ℕ
lint_of lints tables = warn_lines tables (warnings_in lints tables)
