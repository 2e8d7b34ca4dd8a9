-- The table of tasks.
use Rattle.std.specs.Prelude.{◌≡◌, ℕ, ◌-◌, ◌/◌, ◌==◌, nat_lt, max, Bool, is_some, if◌then◌else◌, List, [], ◌∷◌, ◌++◌, codes, length, take, slice_get, flat_map}
use Rattle.std.specs.List.Sorted.{IsPermutation}
use Rattle.std.specs.Option.{option_map_or}
use Rattle.tk_core.specs.declared.task.row.TaskRow.{TaskRow}
use Rattle.tk_ids.specs.declared.spec.TaskKind.{TaskKind}
use Rattle.tk_ids.specs.declared.spec.TaskKind.TheVariants.{Spawn, Blocking}
use Rattle.tk_stream.specs.declared.tables.task.Task.{Task}
use Rattle.tk_stream.specs.Tables.{TablesView}
use Rattle.tk_paper.specs.Pieces.{Writes}
use Rattle.tk_paper.specs.Escaping.{PaperView}
use Rattle.tk_paper.specs.Parts.{Bit, text, number, count, share, span, mean, opens, ends, close, start, class, having, having_number, value, quote}
use Rattle.tk_paper.specs.declared.marks.Attr.TheVariants as attrs
use Rattle.tk_paper.specs.declared.marks.Tag.TheVariants as tags
use Rattle.tk_page.specs.declared.blamed.Blamed.{Blamed}
use Rattle.tk_page.specs.declared.figures.Scale.{Scale}
use Rattle.tk_page.specs.declared.oddities.Signs.{Signs}
use Rattle.tk_page.specs.declared.picture.Split.{Split}
use Rattle.tk_page.specs.declared.ranks.Rank.{Rank}
use Rattle.tk_page.specs.declared.sample.Sample.{Sample}
use Rattle.tk_page.specs.declared.strips.Height.{Height}
use Rattle.tk_page.specs.Figures.{each_of, share_of, watched}
use Rattle.tk_page.specs.Badges.{badges, section}
use Rattle.tk_page.specs.Courses.{Courses}
use Rattle.tk_page.specs.Idle.{awaited}
use Rattle.tk_page.specs.Odd.{is_odd_at_all}
use Rattle.tk_page.specs.Places.{id, location, more}
use Rattle.tk_page.specs.Ranks.{AreInOrder, ranks_of}
use Rattle.tk_core.specs.Lasting.{busy_until, sched_until}
use Rattle.tk_page.specs.Picture.{marks, picture, splits_of, whom_legend}
use Rattle.tk_page.specs.Strips.{axis, drawing, most_waited, steps_of, strip}

-- ---- what stands above the rows

-- a colour and what it says
abbrev pub key : List ℕ → List ℕ → List Bit
key colour words = start tags.Span ∷ class tags.I colour ∷ close tags.I ∷ text words ∷ close tags.Span ∷ []

-- what the colours say
abbrev pub legend : List Bit
legend =
    class tags.P (codes "legend") ∷ [] ++ (key (codes "k-busy") (codes " busy: a poll runs")
    ++ (key (codes "k-wait") (codes " waiting: scheduled, and not polled")
    ++ (key (codes "k-alive") (codes " idle: waits to be woken")
    ++ (key (codes "k-lost") (codes " idle for good: no waker is left")
    ++ (key (codes "k-wake") (codes " wakes")
    ++ (key (codes "k-own") (codes " wakes of its own") ++ close tags.P ∷ []))))))

-- the filter, and what a script can do with the table
abbrev pub controls : List Bit
controls =
    class tags.P (codes "controls") ∷ start tags.Label ∷ text (codes "Show tasks whose name has ") ∷ opens tags.Input ∷ having attrs.Id (codes "filter")
    ∷ having attrs.Type (codes "search") ∷ ends ∷ close tags.Label ∷ start tags.Label ∷ opens tags.Input ∷ having attrs.Id (codes "only")
    ∷ having attrs.Type (codes "checkbox") ∷ ends ∷ text (codes " only odd ones") ∷ close tags.Label ∷ opens tags.Span ∷ having attrs.Id (codes "shown")
    ∷ having attrs.Role (codes "status") ∷ ends ∷ close tags.Span ∷ start tags.Span
    ∷ text (codes "The head of a column sorts by it. Point at a strip to read a step, or press Tab and the arrows. Drag over a strip, or hold Shift with the arrows, to choose a span.") ∷ close tags.Span ∷ close tags.P ∷ []

-- the head of a column, with a hint
abbrev pub column : List ℕ → List ℕ → List ℕ → List Bit
column colour hint words =
    opens tags.Th ∷ having attrs.Scope (codes "col") ∷ having attrs.Class colour ∷ having attrs.Title hint ∷ ends
    ∷ opens tags.Button ∷ having attrs.Type (codes "button") ∷ ends ∷ text words ∷ close tags.Button ∷ close tags.Th ∷ []

-- the head of a column of numbers
abbrev pub numbers_column : List ℕ → List ℕ → List Bit
numbers_column hint words = column (codes "num") hint words

abbrev pub first_columns : List Bit
first_columns =
    start tags.Tr ∷ [] ++ (column [] (codes "by order of arrival") (codes "task") ++ (column [] [] (codes "state")
    ++ opens tags.Th ∷ having attrs.Scope (codes "col") ∷ ends ∷ text (codes "course of time") ∷ close tags.Th ∷ []))

-- the columns of numbers, in the order of the cells of a row
abbrev pub last_columns : List Bit
last_columns =
    numbers_column (codes "how long its polls ran") (codes "busy")
    ++ (numbers_column (codes "how long it was scheduled and not polled") (codes "waiting")
    ++ (numbers_column (codes "busy time by polls") (codes "a poll takes")
    ++ (numbers_column [] (codes "polls")
    ++ (numbers_column [] (codes "wakes")
    ++ (numbers_column (codes "wakes from within it") (codes "own")
    ++ (numbers_column (codes "wakers that are out: cloned, less dropped") (codes "wakers") ++ close tags.Tr ∷ []))))))

-- up to where the drawing of all tasks goes, where that is less than the most
abbrev pub top : Height → List Bit
top height = if nat_lt height.top height.most then text (codes "; drawn up to ") ∷ mean height.top ∷ [] else []

-- how many tasks waited at a time
abbrev pub height_cell : Height → List Bit
height_cell height =
    class tags.Tr (codes "sum") ∷ opens tags.Td ∷ having attrs.Class (codes "lead") ∷ having_number attrs.Colspan 2 ∷ ends ∷ start tags.Div
    ∷ text (codes "Tasks waiting at a time") ∷ close tags.Div ∷ start tags.Small ∷ text (codes "at most ") ∷ mean height.most
    ∷ text (codes ", the mean of a step") ∷ [] ++ (top height ++ close tags.Small ∷ close tags.Td ∷ start tags.Td ∷ [])

-- the row of all tasks: for whom they waited, the picture of it, and the moments below
abbrev pub sum_row : Scale → Height → List Blamed → List Split → List Bit
sum_row scale height blamed splits =
    height_cell height ++ (whom_legend blamed ++ (picture scale height blamed splits ++ (axis (watched scale)
    ++ (close tags.Td ∷ opens tags.Td ∷ having_number attrs.Colspan 7 ∷ ends ∷ [] ++ (marks height ++ close tags.Td ∷ close tags.Tr ∷ [])))))

abbrev pub caption : ℕ → List Bit
caption time =
    opens tags.Table ∷ having attrs.Id (codes "table") ∷ having_number attrs.DataV time ∷ ends ∷ start tags.Caption
    ∷ text (codes "Each row is a task; its strip is its course of time from 0 to ") ∷ span time
    ∷ text (codes ".") ∷ close tags.Caption ∷ start tags.Thead ∷ []

abbrev pub table_head : Scale → Height → List Blamed → List Split → List Bit
table_head scale height blamed splits =
    caption (watched scale) ++ (sum_row scale height blamed splits ++ (first_columns ++ (last_columns ++ close tags.Thead ∷ start tags.Tbody ∷ [])))

-- ---- a row

-- the class of a task's state, and the word for it: the first that holds of it
abbrev pub state_class : TaskRow → List ℕ
state_class x =
    if is_some x.dropped then codes "st closed" else
    (if x.polling then codes "st running" else
    (if x.scheduled then codes "st waiting" else codes "st idle"))

abbrev pub state_word : TaskRow → List ℕ
state_word x =
    if is_some x.dropped then codes "closed" else
    (if x.polling then codes "running" else
    (if x.scheduled then codes "waiting" else codes "idle"))

-- a cell by whose number its column is sorted
abbrev pub cell : ℕ → List Bit → List Bit
cell n bits = opens tags.Td ∷ having_number attrs.DataV n ∷ having attrs.Class (codes "num") ∷ ends ∷ (bits ++ close tags.Td ∷ [])

-- a cell with a number
abbrev pub number_cell : ℕ → List Bit
number_cell n = cell n (count n ∷ [])

-- how long a bar is
abbrev pub bar_length : ℕ → ℕ
bar_length part = if nat_lt 0 part then max (part / 10) 1 else 0

-- a bar as long as a share
abbrev pub bar : List ℕ → ℕ → List Bit
bar colour part =
    drawing (codes "bar") 100 10 ++ having attrs.AriaHidden (codes "true") ∷ ends ∷ opens tags.Rect ∷ having attrs.Class colour
    ∷ having_number attrs.Width (bar_length part) ∷ having_number attrs.Height 10 ∷ ends ∷ close tags.Rect ∷ close tags.Svg ∷ []

-- a cell with a time, as its share of a whole, and as it is
abbrev pub share_cell : List ℕ → ℕ → ℕ → List Bit
share_cell colour part whole =
    cell part (bar colour (share_of part whole) ++ text (codes " ") ∷ share (share_of part whole) ∷ text (codes " ") ∷ start tags.Small ∷ span part ∷ close tags.Small ∷ [])

-- a cell with how long a poll takes in the mean; a dash where there was none
abbrev pub mean_cell : ℕ → ℕ → List Bit
mean_cell busy polls = cell (each_of busy polls) ((if polls == 0 then text (226 ∷ 128 ∷ 147 ∷ []) else span (each_of busy polls)) ∷ [])

-- the cells with polls, wakes, own wakes, and wakers that are out
abbrev pub counts : TaskRow → List Bit
counts x = number_cell x.polls ++ (number_cell x.wakes ++ (number_cell x.self_wakes ++ number_cell (x.clones - x.drops)))

-- the cells of a row: busy and waiting time, how long a poll takes, and the counts
abbrev pub numbers : Scale → TaskRow → List Bit
numbers scale x =
    share_cell (codes "busy") (busy_until x scale.now) (watched scale)
    ++ (share_cell (codes "wait") (sched_until x scale.now) (watched scale)
    ++ (mean_cell (busy_until x scale.now) x.polls ++ counts x))

-- a task's kind where it isn't the common one
abbrev pub kind_word : TaskKind → List ℕ
kind_word Spawn = codes " "
kind_word Blocking = codes " blocking "

-- whether something is odd about it
abbrev pub flag : Bool → List ℕ
flag odd = if odd then codes "1" else codes "0"

-- a row's beginning: the name of the task, its id, its kind, and where it was spawned
abbrev pub name : Task → Bool → List Bit
name t odd =
    opens tags.Tr ∷ value attrs.Id ∷ text (codes "t") ∷ number t.info.id ∷ quote ∷ having attrs.DataOdd (flag odd) ∷ ends
    ∷ opens tags.Th ∷ having attrs.Scope (codes "row") ∷ having_number attrs.DataV t.info.id ∷ ends
    ∷ class tags.Span (codes "name") ∷ text t.info.name ∷ close tags.Span ∷ text (codes " ") ∷ start tags.Small
    ∷ [] ++ (id t.info.id ++ (text (kind_word t.info.kind) ∷ [] ++ (location t.info.location ++ close tags.Small ∷ [])))

-- the cell with its state
abbrev pub state : TaskRow → List Bit
state x =
    close tags.Th ∷ start tags.Td ∷ class tags.Span (state_class x) ∷ text (state_word x) ∷ close tags.Span ∷ close tags.Td
    ∷ class tags.Td (codes "course") ∷ []

-- the row of a task of whose course these samples are kept
abbrev pub row_of : Scale → Signs → TablesView → List Sample → Task → List Bit
row_of scale signs tables samples t =
    name t (is_odd_at_all signs t) ++ (badges signs t ++ (awaited scale tables t ++ (state t.row ++ (strip scale samples t
    ++ (close tags.Td ∷ [] ++ (numbers scale t.row ++ close tags.Tr ∷ []))))))

-- the row of a task
abbrev pub row : Scale → Signs → Courses → TablesView → Task → List Bit
row scale signs courses tables t = row_of scale signs tables (courses.kept t.info.id) t

-- the row of the task at the place of a rank
abbrev pub row_at : Scale → Signs → Courses → TablesView → Rank → List Bit
row_at scale signs courses tables rank = option_map_or (row scale signs courses tables) (slice_get tables.tasks rank.place) []

-- ---- the table

-- these ranks are those of all tasks, in order
pub record AreRanks (scale : Scale) (signs : Signs) (tasks : List Task) (ranks : List Rank) : Type 0 where
  pub all : IsPermutation (ranks_of scale signs tasks) ranks
  pub sorted : AreInOrder ranks

-- the table: its head, and the rows of the first 200 tasks
abbrev pub table : Scale → Signs → Courses → List Blamed → TablesView → List Rank → Height → List Bit
table scale signs courses blamed tables ranks height =
    table_head scale height blamed (splits_of blamed (steps_of scale.start courses.sums courses.last))
    ++ (flat_map (row_at scale signs courses tables) (take 200 ranks) ++ close tags.Tbody ∷ close tags.Table ∷ close tags.Div ∷ [])

-- the table was put. Up to where the drawing of all tasks goes is left open
pub record WritesTable (scale : Scale) (signs : Signs) (courses : Courses) (blamed : List Blamed) (tables : TablesView) (old new : PaperView) : Type 0 where
  pub ranks : List Rank
  pub ranked : AreRanks scale signs tables.tasks ranks
  pub height : Height
  pub most : height.most ≡ most_waited (steps_of scale.start courses.sums courses.last)
  pub wrote : Writes old new (table scale signs courses blamed tables ranks height)

-- what stands above the table
abbrev pub tasks_head : List Bit
tasks_head = section (codes "tasks") (codes "Tasks") ++ (close tags.H2 ∷ [] ++ (legend ++ (controls ++ class tags.Div (codes "scroll") ∷ [])))

-- the section of the tasks, with how many aren't shown
abbrev pub tasks_section : Scale → Signs → Courses → List Blamed → TablesView → List Rank → Height → List Bit
tasks_section scale signs courses blamed tables ranks height =
    tasks_head ++ (table scale signs courses blamed tables ranks height
    ++ (more (length tables.tasks) 200 (codes " tasks more, which have no row") ++ close tags.Section ∷ []))

-- that section was put
pub record WritesTasks (scale : Scale) (signs : Signs) (courses : Courses) (blamed : List Blamed) (tables : TablesView) (old new : PaperView) : Type 0 where
  pub ranks : List Rank
  pub ranked : AreRanks scale signs tables.tasks ranks
  pub height : Height
  pub most : height.most ≡ most_waited (steps_of scale.start courses.sums courses.last)
  pub wrote : Writes old new (tasks_section scale signs courses blamed tables ranks height)
