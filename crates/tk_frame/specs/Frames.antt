-- The lines of a screen.
use Rattle.std.specs.Prelude.{ℕ, List, [], ◌∷◌, ◌++◌, drop, length, slice_get, flat_map, None, if◌then◌else◌}
use Rattle.std.specs.Option.{option_map_or}
use Rattle.tk_stream.specs.declared.tables.task.Task.{Task}
use Rattle.tk_stream.specs.declared.tables.resource.Resource.{Resource}
use Rattle.tk_stream.specs.declared.tables.op.Op.{Op}
use Rattle.tk_stream.specs.Tables.{TablesView, counts_of}
use Rattle.tk_screen.specs.Screens.{LineView, screen_text}
use Rattle.tk_screen.specs.declared.canvas.Canvas.{Canvas}
use Rattle.tk_screen.specs.declared.top.Ranked.{Ranked}
use Rattle.tk_frame.specs.Courses.{course_part}
use Rattle.tk_frame.specs.Findings.{OddView, findings_part}
use Rattle.tk_frame.specs.Lines.{head_text, heading, op_heading, op_text, plain, resource_heading, resource_text, task_heading, task_text}
use Rattle.tk_frame.specs.Pages.{page_of, page_text, table_rows}
use Rattle.tk_frame.specs.PlaceLines.{places_part}
use Rattle.tk_frame.specs.Queries.{rows_count, top_ops, top_resources, top_tasks}
use Rattle.tk_frame.specs.States.{states_of}
use Rattle.tk_frame.specs.declared.pages.Page.{Page}
use Rattle.tk_frame.specs.declared.query.Query.{Query}

-- the line of the task at a place
abbrev pub task_at : TablesView → Ranked → List LineView
task_at tables r = option_map_or (λ (t : Task). plain (task_text tables.now t) ∷ []) (slice_get tables.tasks r.place) []

-- the tasks of these ranks that stand on a page, and how many there are
abbrev pub table_part : TablesView → List Ranked → Page → List LineView
table_part tables top page = heading task_heading ∷ (flat_map (task_at tables) (drop page.from top) ++ (plain (page_text page) ∷ []))

-- the tasks on a page
abbrev pub tasks_part : Query → TablesView → Page → List LineView
tasks_part query tables page = table_part tables (top_tasks query page.to tables) page

abbrev pub resource_at : TablesView → Ranked → List LineView
resource_at tables r = option_map_or (λ (x : Resource). plain (resource_text (counts_of x.info.id tables.counts) x) ∷ []) (slice_get tables.resources r.place) []

-- the resources that are shown
abbrev pub resources_part : ℕ → TablesView → List LineView
resources_part rows tables = heading resource_heading ∷ flat_map (resource_at tables) (top_resources rows tables)

abbrev pub op_at : TablesView → Ranked → List LineView
op_at tables r = option_map_or (λ (o : Op). plain (op_text tables.now o) ∷ []) (slice_get tables.ops r.place) []

-- the async operations that are shown
abbrev pub ops_part : ℕ → TablesView → List LineView
ops_part rows tables = heading op_heading ∷ flat_map (op_at tables) (top_ops rows tables)

-- resources and async operations, where they were asked for
abbrev pub items_part : ℕ → Query → TablesView → List LineView
items_part rows query tables = if query.resources then resources_part rows tables ++ ops_part rows tables else []

-- the lines of a screen with this table: the first line, how many tasks waited, findings, the table, and resources and async operations
abbrev pub frame_with : List LineView → ℕ → Canvas → Query → TablesView → OddView → List LineView
frame_with table rows canvas query tables odd =
    plain (head_text tables odd.again (states_of tables.tasks) (length odd.findings))
    ∷ (course_part odd.waits ++ (findings_part canvas tables odd ++ (table ++ items_part rows query tables)))

-- the table: of places, or of tasks
abbrev pub main_part : Query → TablesView → OddView → Page → List LineView
main_part query tables odd page = if query.by_place then places_part None query odd page else tasks_part query tables page

-- the lines of a screen of tables of which this is odd: its table has the first rows, as many as fit
abbrev pub frame_by : ℕ → Canvas → Query → TablesView → OddView → List LineView
frame_by rows canvas query tables odd = frame_with (main_part query tables odd (page_of rows 0 (rows_count query tables odd))) rows canvas query tables odd

abbrev pub frame_of : Canvas → Query → TablesView → OddView → List LineView
frame_of canvas query tables odd = frame_by (table_rows canvas query odd 0) canvas query tables odd

-- the screen of tables, as it is written
abbrev pub frame_text : Canvas → Query → OddView → TablesView → List ℕ
frame_text canvas query odd tables = screen_text canvas (frame_of canvas query tables odd)
