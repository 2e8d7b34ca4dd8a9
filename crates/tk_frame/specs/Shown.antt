-- The lines of a screen that keys ask for.
use Rattle.std.specs.Prelude.{◌+◌, ◌-◌, ◌*◌, ◌==◌, ◌&&◌, ℕ, List, [], ◌∷◌, ◌++◌, take, drop, slice_get, flat_map, codes, Bool, true, false, Option, Some, None, if◌then◌else◌}
use Rattle.std.specs.Option.{option_map_or}
use Rattle.tk_core.specs.Lists.{capped}
use Rattle.tk_stream.specs.declared.tables.task.Task.{Task}
use Rattle.tk_stream.specs.Tables.{TablesView}
use Rattle.tk_stream.specs.Times.{TaskTimes}
use Rattle.tk_screen.specs.Screens.{LineView, screen_text}
use Rattle.tk_screen.specs.Texts.{duration_text}
use Rattle.tk_screen.specs.declared.canvas.Canvas.{Canvas}
use Rattle.tk_screen.specs.declared.top.Ranked.{Ranked}
use Rattle.tk_frame.specs.Details.{details_at}
use Rattle.tk_frame.specs.Findings.{OddView}
use Rattle.tk_frame.specs.Frames.{frame_with, task_at}
use Rattle.tk_frame.specs.Keys.{canvas_by, query_by}
use Rattle.tk_frame.specs.Lines.{as_text, heading, plain, task_heading, task_text}
use Rattle.tk_frame.specs.Pages.{chosen_of, page_of, page_text, table_rows}
use Rattle.tk_frame.specs.PlaceLines.{places_part}
use Rattle.tk_frame.specs.PlaceView.{place_view}
use Rattle.tk_frame.specs.Queries.{recent_time, rows_count, top_tasks}
use Rattle.tk_frame.specs.declared.keys.Asked.{Asked}
use Rattle.tk_frame.specs.declared.keys.Shown.{Shown}
use Rattle.tk_frame.specs.declared.keys.Shown.TheVariants as shown
use Rattle.tk_frame.specs.declared.pages.Page.{Page}
use Rattle.tk_frame.specs.declared.query.Column.{Column}
use Rattle.tk_frame.specs.declared.query.Column.TheVariants.{Busy, Sched, Polls, Wakes, SelfWakes, HeldUp}
use Rattle.tk_frame.specs.Typed.{is_empty, typed_text}
use Rattle.tk_frame.specs.declared.query.Query.{Query}
use Rattle.tk_frame.specs.declared.typed.Typed.{Typed}

-- the name of a column
abbrev pub column_word : Column → List ℕ
column_word Busy = codes "busy"
column_word Sched = codes "sched"
column_word Polls = codes "polls"
column_word Wakes = codes "wakes"
column_word SelfWakes = codes "self-wakes"
column_word HeldUp = codes "held-up"

-- by which column rows are sorted: tasks as by how long they ran, where the column is of places alone
abbrev pub sorted_by : Bool → Column → Column
sorted_by true column = column
sorted_by false HeldUp = Busy
sorted_by false column = column

-- whether the least is first
abbrev pub order_word : Bool → List ℕ
order_word rising = if rising then codes ", least first" else []

-- a text that names tasks, and what follows it
abbrev pub named_by : Typed → List ℕ → List ℕ
named_by t end = codes "  /" ++ (as_text (typed_text t) ++ end)

-- the text that names tasks, where there is one or it is typed
abbrev pub filter_word : Bool → Typed → List ℕ
filter_word types t = if types then named_by t (codes "_") else (if is_empty t then [] else named_by t [])

-- whether places are shown
abbrev pub by_word : Bool → List ℕ
by_word by_place = if by_place then codes "by place, " else []

-- of which time it is told what places came to, where not of all: how long it is, or that lines don't reach back so far
abbrev pub while_word : Option ℕ → List ℕ
while_word None = codes "the whole time so far, "
while_word (Some time) = codes "last " ++ (duration_text time ++ codes ", ")

abbrev pub tells_recent : Asked → Bool
tells_recent asked = asked.by_place && asked.recent

abbrev pub recent_word : Bool → Option ℕ → List ℕ
recent_word recent time = if recent then while_word time else []

-- how far what is shown lies behind what came, where it does
abbrev pub lag_text : ℕ → List ℕ
lag_text behind = codes ", " ++ (duration_text behind ++ codes " behind")

abbrev pub behind_word : ℕ → List ℕ
behind_word behind = if behind == 0 then [] else lag_text behind

-- whether screens stay as they are, and how far behind
abbrev pub pause_text : ℕ → List ℕ
pause_text behind = codes "  paused" ++ behind_word behind

abbrev pub paused_word : Bool → ℕ → List ℕ
paused_word paused behind = if paused then pause_text behind else []

-- for how long nothing has come, where that was said
abbrev pub silent_text : ℕ → List ℕ
silent_text seconds = codes "  nothing came for " ++ duration_text (capped (seconds * 1000000000))

abbrev pub silent_word : ℕ → List ℕ
silent_word seconds = if seconds == 0 then [] else silent_text seconds

-- the line that stands above a screen: whether places are shown, and what they came to in the last while, how they or tasks are sorted, whether it is paused and how far it then lies behind, for
-- how long nothing came, and which key shows the others
abbrev pub asked_text : Asked → Option ℕ → ℕ → List ℕ
asked_text asked time behind = by_word asked.by_place ++ (recent_word (tells_recent asked) time ++ (codes "sorted by " ++ (column_word (sorted_by asked.by_place asked.sort) ++ (order_word asked.rising ++ (filter_word asked.types asked.typed ++ (paused_word asked.paused behind ++ (silent_word asked.silent ++ codes "  ? shows the keys")))))))

-- what each key does
abbrev pub keys_part : List LineView
keys_part = heading (codes "KEY    WHAT IT DOES")
    ∷ plain (codes "b      sorts tasks by how long their polls ran")
    ∷ plain (codes "s      sorts them by how long they waited, scheduled")
    ∷ plain (codes "p      sorts them by how many polls of them started")
    ∷ plain (codes "w      sorts them by how often they were woken")
    ∷ plain (codes "o      sorts them by how often they woke themselves")
    ∷ plain (codes "h      sorts places by how long others waited while their tasks ran")
    ∷ plain (codes "v      sorts them the other way round")
    ∷ plain (codes "j, k   chooses the task below, or above, as arrows do")
    ∷ plain (codes "d, u   goes a page down, or up, as Page Down and Page Up do")
    ∷ plain (codes "<, >   chooses the first task, or the last, as Home and End do")
    ∷ plain (codes "Enter  shows all of the chosen task or place, or not any more")
    ∷ plain (codes "1..9   shows the task of the finding that has this number")
    ∷ plain (codes "/      shows only tasks that a text names, by their name or their file; Enter ends it")
    ∷ plain (codes "g      shows places, or tasks again")
    ∷ plain (codes "R      shows what places came to in the last 5 seconds, or in all again")
    ∷ plain (codes "r      shows resources and async operations, or not any more")
    ∷ plain (codes "space  pauses, or goes on")
    ∷ plain (codes "?      shows this, or not any more")
    ∷ plain (codes "q      quits") ∷ []

-- the line of the chosen task
abbrev pub chosen_at : TablesView → Ranked → List LineView
chosen_at tables r = option_map_or (λ (t : Task). heading (codes ">" ++ task_text tables.now t) ∷ []) (slice_get tables.tasks r.place) []

-- the tasks of these ranks, of which one is chosen
abbrev pub rows_part : TablesView → List Ranked → ℕ → List LineView
rows_part tables top chosen = flat_map (task_at tables) (take chosen top)
    ++ (option_map_or (chosen_at tables) (slice_get top chosen) [] ++ flat_map (task_at tables) (drop (chosen + 1) top))

-- the tasks of these ranks that stand on a page, of which one is chosen, and how many there are
abbrev pub page_part : TablesView → List Ranked → Page → ℕ → List LineView
page_part tables top page chosen =
    heading task_heading ∷ (rows_part tables (drop page.from top) (chosen_of chosen page.all - page.from) ++ (plain (page_text page) ∷ []))

abbrev pub page_at : ℕ → Query → TablesView → Page → List LineView
page_at chosen query tables page = page_part tables (top_tasks query page.to tables) page chosen

-- the table: of places, or of tasks, one of which is chosen
abbrev pub choice_part : ℕ → Query → TablesView → OddView → Page → List LineView
choice_part chosen query tables odd page =
    if query.by_place then places_part (Some (chosen_of chosen page.all - page.from)) query odd page else page_at chosen query tables page

-- the lines of tables as `frame_by` has them, with the page of the chosen row
abbrev pub choice_by : ℕ → ℕ → Canvas → Query → TablesView → OddView → List LineView
choice_by rows chosen canvas query tables odd =
    frame_with (choice_part chosen query tables odd (page_of rows chosen (rows_count query tables odd))) rows canvas query tables odd

-- the same, with as many rows as fit below one line
abbrev pub choice_of : ℕ → Canvas → Query → TablesView → OddView → List LineView
choice_of chosen canvas query tables odd = choice_by (table_rows canvas query odd 1) chosen canvas query tables odd

-- what is shown, below the first line
abbrev pub shown_part : Shown → Asked → Canvas → Query → TablesView → List TaskTimes → OddView → List LineView
shown_part shown.Tables asked canvas query tables times odd = choice_of asked.chosen canvas (query_by query asked) tables odd
shown_part shown.Keys asked canvas query tables times odd = keys_part
shown_part (shown.Task id) asked canvas query tables times odd = details_at id tables times odd
shown_part (shown.Place n) asked canvas query tables times odd = place_view n tables odd

-- the lines of a screen that keys ask for, of tables and histograms that lie so far behind what came
abbrev pub lines_of : Asked → ℕ → Canvas → Query → TablesView → List TaskTimes → OddView → List LineView
lines_of asked behind canvas query tables times odd =
    plain (asked_text asked (recent_time odd) behind) ∷ shown_part asked.shown asked canvas query tables times odd

-- the screen of such tables that keys ask for, as it is written: of the size that the terminal has
abbrev pub asked_screen : Canvas → Query → OddView → Asked → ℕ → TablesView → List TaskTimes → List ℕ
asked_screen canvas query odd asked behind tables times = screen_text (canvas_by canvas asked) (lines_of asked behind (canvas_by canvas asked) query tables times odd)
