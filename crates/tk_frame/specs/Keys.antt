-- What keys ask a screen for.
use Rattle.std.specs.Prelude.{◌==◌, ◌&&◌, ◌+◌, ◌-◌, ◌*◌, min, nat_le, nat_lt, ℕ, slice_get, Bool, true, false, not, Option, Some, None, if◌then◌else◌}
use Rattle.std.specs.Option.{option_map, option_map_or, option_and_then}
use Rattle.tk_odd.specs.Findings.{Placed}
use Rattle.tk_stream.specs.declared.tables.task.Task.{Task}
use Rattle.tk_stream.specs.Tables.{TablesView}
use Rattle.tk_screen.specs.Screens.{is_printable}
use Rattle.tk_screen.specs.declared.canvas.Canvas.{Canvas}
use Rattle.tk_screen.specs.declared.canvas.Canvas.TheVariants.{Terminal}
use Rattle.tk_screen.specs.declared.canvas.Size.{Size}
use Rattle.tk_screen.specs.declared.top.Ranked.{Ranked}
use Rattle.tk_frame.specs.Findings.{OddView}
use Rattle.tk_frame.specs.Pages.{chosen_of, table_rows}
use Rattle.tk_frame.specs.Places.{PlaceRow}
use Rattle.tk_frame.specs.Queries.{places_by, places_count, rows_count, shown_count, top_places, top_tasks}
use Rattle.tk_frame.specs.Typed.{nothing, with_byte, without_last}
use Rattle.tk_frame.specs.declared.typed.Typed.{Typed}
use Rattle.tk_frame.specs.declared.heard.Begun.{Begun}
use Rattle.tk_frame.specs.declared.heard.Begun.TheVariants as begun
use Rattle.tk_frame.specs.declared.heard.Heard.{Heard}
use Rattle.tk_frame.specs.declared.heard.Numbers.{Numbers}
use Rattle.tk_frame.specs.declared.heard.Action.{Action}
use Rattle.tk_frame.specs.declared.heard.Action.TheVariants as acts
use Rattle.tk_frame.specs.declared.heard.Step.{Step}
use Rattle.tk_frame.specs.declared.heard.Step.TheVariants as steps
use Rattle.tk_frame.specs.declared.keys.Asked.{Asked}
use Rattle.tk_frame.specs.declared.keys.Shown.{Shown}
use Rattle.tk_frame.specs.declared.keys.Shown.TheVariants as shown
use Rattle.tk_frame.specs.declared.query.Column.{Column}
use Rattle.tk_frame.specs.declared.query.Column.TheVariants.{Busy, Sched, Polls, Wakes, SelfWakes, HeldUp}
use Rattle.tk_frame.specs.declared.query.Query.{Query}

-- ---- what a key is

-- the column of a key: b, s, p, w, o and h
abbrev pub column_of : ℕ → Option Column
column_of key =
    if key == 98 then Some Busy else
    (if key == 115 then Some Sched else
    (if key == 112 then Some Polls else
    (if key == 119 then Some Wakes else
    (if key == 111 then Some SelfWakes else
    (if key == 104 then Some HeldUp else None)))))

-- a row is chosen by j or n, k, d, u, < and >
abbrev pub step_of : ℕ → Option Step
step_of key =
    if key == 106 then Some steps.Below else
    (if key == 110 then Some steps.Below else
    (if key == 107 then Some steps.Above else
    (if key == 100 then Some steps.PageBelow else
    (if key == 117 then Some steps.PageAbove else
    (if key == 60 then Some steps.First else
    (if key == 62 then Some steps.Last else None))))))

-- a digit, as a terminal gives it
abbrev pub is_digit : ℕ → Bool
is_digit key = nat_le 48 key && nat_le key 57

-- a digit asks for the finding that has this number
abbrev pub number_act : ℕ → Action
number_act key = if is_digit key then acts.Finding (key - 48) else acts.Nothing

-- what a key asks for that sorts by no column and chooses no row: Enter, a digit, q, a space, ?, r, g, R, v and /. Any but these asks for nothing
abbrev pub other_act : ℕ → Action
other_act key =
    if key == 10 then acts.Open else
    (if key == 13 then acts.Open else
    (if key == 113 then acts.Quit else
    (if key == 32 then acts.Pause else
    (if key == 63 then acts.Explain else
    (if key == 114 then acts.Resources else
    (if key == 103 then acts.Group else
    (if key == 82 then acts.Recent else
    (if key == 118 then acts.Reverse else
    (if key == 47 then acts.Filter else number_act key)))))))))

abbrev pub step_act : ℕ → Action
step_act key = option_map_or acts.Move (step_of key) (other_act key)

-- what a key asks for that is one byte
abbrev pub key_act : ℕ → Action
key_act key = option_map_or acts.Sort (column_of key) (step_act key)

-- a byte that is text is put to it
abbrev pub put_act : ℕ → Action
put_act key = if is_printable key then acts.Put key else acts.Nothing

-- what a key asks for while a text is typed: Enter ends it, and a backspace takes the last byte back
abbrev pub typed_act : ℕ → Action
typed_act key =
    if key == 10 then acts.Done else
    (if key == 13 then acts.Done else
    (if key == 8 then acts.Erase else
    (if key == 127 then acts.Erase else
    put_act key)))

-- what a byte asks for by itself
abbrev pub byte_act : Bool → ℕ → Action
byte_act types key = if types then typed_act key else key_act key

-- ---- keys of several bytes, and the terminal's size

-- the key of a number before a ~: Home and End, of which there are two each, Page Up and Page Down
abbrev pub numbered_act : ℕ → Action
numbered_act n =
    if n == 1 then acts.Move steps.First else
    (if n == 7 then acts.Move steps.First else
    (if n == 4 then acts.Move steps.Last else
    (if n == 8 then acts.Move steps.Last else
    (if n == 5 then acts.Move steps.PageAbove else
    (if n == 6 then acts.Move steps.PageBelow else acts.Nothing)))))

-- so many lines and columns
abbrev pub size_by : ℕ → ℕ → Size
size_by lines columns = record { columns = columns; lines = lines }

-- 8, lines and columns: a terminal's answer to how large it is
abbrev pub size_act : Numbers → Action
size_act n = if (n.first == 8) && (nat_lt 0 n.second && nat_lt 0 n.third) then acts.Resize (size_by n.second n.third) else acts.Nothing

-- a line and a column: a terminal's answer to where its cursor stands, which who asks for its size has sent to the last of both. Line 1 is that of F3
-- beside another key
abbrev pub corner_act : Numbers → Action
corner_act n = if nat_lt 1 n.second && nat_lt 0 n.third then acts.Resize (size_by n.second n.third) else acts.Nothing

-- what a sequence asks for, by its numbers and its last byte: an arrow's A or B, H of Home, F of End, ~, t or R; and w after how many seconds nothing came
abbrev pub code_act : Numbers → ℕ → Action
code_act n key =
    if key == 65 then acts.Move steps.Above else
    (if key == 66 then acts.Move steps.Below else
    (if key == 72 then acts.Move steps.First else
    (if key == 70 then acts.Move steps.Last else
    (if key == 126 then numbered_act n.third else
    (if key == 116 then size_act n else
    (if key == 82 then corner_act n else
    (if key == 119 then acts.Silence n.third else acts.Nothing)))))))

abbrev pub no_numbers : Numbers
no_numbers = record { first = 0; second = 0; third = 0 }

-- a number with one digit more, up to five digits
abbrev pub with_digit : ℕ → ℕ → ℕ
with_digit n key = if nat_lt n 10000 then 10 * n + (key - 48) else n

abbrev pub and_digit : Numbers → ℕ → Numbers
and_digit n key = record n { third = with_digit n.third key }

-- a semicolon: another number begins
abbrev pub and_number : Numbers → Numbers
and_number n = record { first = n.second; second = n.third; third = 0 }

-- these bytes may stand within a sequence and mean nothing here
abbrev pub is_within : ℕ → Bool
is_within key = nat_le 32 key && nat_le key 63

-- ---- what a byte is

-- nothing is asked for yet
abbrev pub waits : Begun → Heard
waits b = record { begun = b; action = acts.Nothing }

-- this is asked for
abbrev pub asks : Action → Heard
asks act = record { begun = begun.Nothing; action = act }

-- a byte where no sequence has begun: the escape begins one
abbrev pub heard_first : Bool → ℕ → Heard
heard_first types key = if key == 27 then waits begun.Escape else asks (byte_act types key)

-- a byte after the escape: a bracket or an O goes on
abbrev pub heard_second : Bool → ℕ → Heard
heard_second types key =
    if key == 91 then waits (begun.Code no_numbers) else
    (if key == 79 then waits (begun.Code no_numbers) else heard_first types key)

-- a byte after these numbers
abbrev pub heard_then : Numbers → ℕ → Heard
heard_then n key =
    if key == 27 then waits begun.Escape else
    (if key == 59 then waits (begun.Code (and_number n)) else
    (if is_digit key then waits (begun.Code (and_digit n key)) else
    (if is_within key then waits (begun.Code n) else asks (code_act n key))))

-- a byte of a terminal, after what has begun, while a text is typed or not
abbrev pub heard : Bool → Begun → ℕ → Heard
heard types begun.Nothing key = heard_first types key
heard types begun.Escape key = heard_second types key
heard types (begun.Code n) key = heard_then n key

-- ---- what was asked for

-- the query of a screen, sorted and with resources as keys asked for
abbrev pub query_by : Query → Asked → Query
query_by query asked = record query {
  sort = asked.sort;
  rising = asked.rising;
  typed = asked.typed;
  resources = asked.resources;
  by_place = asked.by_place;
  recent = asked.recent;
}

-- what is drawn on, of the size that the terminal has said it has
abbrev pub of_size : Canvas → Option Size → Canvas
of_size (Terminal size colors) (Some other) = Terminal other colors
of_size canvas other = canvas

abbrev pub canvas_by : Canvas → Asked → Canvas
canvas_by canvas asked = of_size canvas asked.size

-- what is asked for before a key is pressed: tables, as the query says
abbrev pub first_asked : Query → Asked
first_asked query = record {
  shown = shown.Tables;
  sort = query.sort;
  rising = query.rising;
  resources = query.resources;
  by_place = query.by_place;
  recent = query.recent;
  chosen = 0;
  paused = false;
  quits = false;
  size = None;
  silent = 0;
  begun = begun.Nothing;
  typed = query.typed;
  types = false;
}

-- tasks are shown, sorted by a column
abbrev pub sorted : Column → Asked → Asked
sorted column asked = record asked { sort = column; shown = shown.Tables }

-- v: the least first, or the greatest again
abbrev pub reversed : Asked → Asked
reversed asked = record asked { rising = not asked.rising; shown = shown.Tables }

-- r: resources are shown, or not any more
abbrev pub with_resources : Asked → Asked
with_resources asked = record asked { resources = not asked.resources; shown = shown.Tables }

-- the column by which places are sorted first, or tasks
abbrev pub first_column : Bool → Column
first_column by_place = if by_place then HeldUp else Busy

-- g: places are shown, or tasks again, sorted as they are first, and the first is chosen
abbrev pub grouped : Asked → Asked
grouped asked = record asked { by_place = not asked.by_place; sort = first_column (not asked.by_place); rising = false; chosen = 0; shown = shown.Tables }

-- R: where places are shown, what they came to in the last while is, or in all again
abbrev pub recently : Asked → Asked
recently asked = if asked.by_place then record asked { recent = not asked.recent; shown = shown.Tables } else asked

-- a space: screens stay as they are, or go on
abbrev pub turned : Asked → Asked
turned asked = record asked { paused = not asked.paused }

-- what is shown once keys were asked for: keys, or where they are shown tables
abbrev pub or_keys : Shown → Shown
or_keys shown.Tables = shown.Keys
or_keys shown.Keys = shown.Tables
or_keys (shown.Task id) = shown.Keys
or_keys (shown.Place n) = shown.Keys

-- ?: what each key does is shown, or not any more
abbrev pub explained : Asked → Asked
explained asked = record asked { shown = or_keys asked.shown }

-- q: the watch ends
abbrev pub ended : Asked → Asked
ended asked = record asked { quits = true }

-- the terminal has this size
abbrev pub resized : Size → Asked → Asked
resized size asked = record asked { size = Some size }

-- nothing has come for so many seconds
abbrev pub silent_for : ℕ → Asked → Asked
silent_for seconds asked = record asked { silent = seconds }

-- another text is typed, and the first of the tasks is chosen that it names
abbrev pub filtered : Typed → Bool → Asked → Asked
filtered t types asked = record asked { typed = t; types = types; chosen = 0; shown = shown.Tables }

-- no more is typed
abbrev pub typed_out : Asked → Asked
typed_out asked = record asked { types = false }

-- what an action makes of it that looks at no table
abbrev pub acted_alone : Asked → Action → Asked
acted_alone asked (acts.Sort column) = sorted column asked
acted_alone asked acts.Reverse = reversed asked
acted_alone asked acts.Resources = with_resources asked
acted_alone asked acts.Group = grouped asked
acted_alone asked acts.Recent = recently asked
acted_alone asked acts.Pause = turned asked
acted_alone asked acts.Explain = explained asked
acted_alone asked acts.Quit = ended asked
acted_alone asked (acts.Resize size) = resized size asked
acted_alone asked (acts.Silence seconds) = silent_for seconds asked
acted_alone asked acts.Filter = filtered nothing true asked
acted_alone asked (acts.Put byte) = filtered (with_byte byte asked.typed) true asked
acted_alone asked acts.Erase = filtered (without_last asked.typed) true asked
acted_alone asked acts.Done = typed_out asked
acted_alone asked other = asked

-- ---- choosing and opening

-- the chosen one of the tasks that are shown
abbrev pub chosen_place : Query → TablesView → Asked → ℕ
chosen_place query tables asked = chosen_of asked.chosen (shown_count (query_by query asked) tables)

-- the task at a place of those that are shown
abbrev pub task_in : Query → TablesView → ℕ → Option ℕ
task_in query tables chosen =
    option_and_then (λ (r : Ranked). option_map (λ (t : Task). t.info.id) (slice_get tables.tasks r.place)) (slice_get (top_tasks query (chosen + 1) tables) chosen)

-- the chosen task
abbrev pub chosen_task : Query → TablesView → Asked → Option ℕ
chosen_task query tables asked = task_in (query_by query asked) tables (chosen_place query tables asked)

-- the number of the place at a row of those that are shown
abbrev pub place_in : Query → OddView → ℕ → Option ℕ
place_in query odd chosen =
    option_and_then (λ (r : Ranked). option_map (λ (p : PlaceRow). p.1.number) (slice_get (places_by query.recent odd) r.place)) (slice_get (top_places query (chosen + 1) odd) chosen)

-- the chosen place
abbrev pub chosen_site : Query → OddView → Asked → Option ℕ
chosen_site query odd asked = place_in (query_by query asked) odd (chosen_of asked.chosen (places_count (query_by query asked) odd))

-- what is shown once a task was asked for, or a place: it, or where there is none, tables
abbrev pub task_shown : Option ℕ → Shown
task_shown None = shown.Tables
task_shown (Some id) = shown.Task id

abbrev pub site_shown : Option ℕ → Shown
site_shown None = shown.Tables
site_shown (Some n) = shown.Place n

-- all that is told of the chosen one: of a place where places are shown, and else of a task
abbrev pub chosen_shown : Query → OddView → TablesView → Asked → Shown
chosen_shown query odd tables asked = if asked.by_place then site_shown (chosen_site query odd asked) else task_shown (chosen_task query tables asked)

-- what is shown once the chosen one was asked for: it, where tables are shown, and else these
abbrev pub or_chosen : Shown → Shown → Shown
or_chosen shown.Tables it = it
or_chosen shown.Keys it = shown.Tables
or_chosen (shown.Task id) it = shown.Tables
or_chosen (shown.Place n) it = shown.Tables

-- Enter: all that is told of the chosen one is shown, or not any more
abbrev pub opened : Shown → Asked → Asked
opened it asked = record asked { shown = or_chosen asked.shown it }

-- the task that the finding at a number names
abbrev pub finding_task : OddView → ℕ → Option ℕ
finding_task odd n = option_and_then (λ (p : Placed). p.1.task) (slice_get odd.findings (n - 1))

-- what is shown once a finding's task was asked for: it, where there is one
abbrev pub or_shown : Shown → Option ℕ → Shown
or_shown before None = before
or_shown before (Some id) = shown.Task id

-- a digit: all that is told of the task of that finding is shown
abbrev pub opened_at : Option ℕ → Asked → Asked
opened_at task asked = record asked { shown = or_shown asked.shown task }

-- the place of so many that is chosen after a step, where a page has so many rows
abbrev pub after_step : Step → ℕ → ℕ → ℕ → ℕ
after_step steps.Below rows all place = min (place + 1) (all - 1)
after_step steps.Above rows all place = place - 1
after_step steps.PageBelow rows all place = min (place + rows) (all - 1)
after_step steps.PageAbove rows all place = place - rows
after_step steps.First rows all place = 0
after_step steps.Last rows all place = all - 1

-- another row is chosen
abbrev pub choosing : ℕ → Asked → Asked
choosing place asked = record asked { chosen = place; shown = shown.Tables }

abbrev pub moved : Step → ℕ → ℕ → Asked → Asked
moved step rows all asked = choosing (after_step step rows all (chosen_of asked.chosen all)) asked

-- what an action makes of what was asked for, while a screen shows these tables and findings
abbrev pub acted : Canvas → Query → OddView → TablesView → Asked → Action → Asked
acted canvas query odd tables asked acts.Open = opened (chosen_shown query odd tables asked) asked
acted canvas query odd tables asked (acts.Finding n) = opened_at (finding_task odd n) asked
acted canvas query odd tables asked (acts.Move step) =
    moved step (table_rows (canvas_by canvas asked) (query_by query asked) odd 1) (rows_count (query_by query asked) tables odd) asked
acted canvas query odd tables asked other = acted_alone asked other

-- a step
abbrev pub moving : Step → Action
moving step = acts.Move step

-- what has begun of a sequence
abbrev pub with_begun : Begun → Asked → Asked
with_begun b asked = record asked { begun = b }

-- what is asked for once a byte came from the terminal
abbrev pub pressed : Canvas → Query → OddView → TablesView → Asked → ℕ → Asked
pressed canvas query odd tables asked key =
    acted canvas query odd tables (with_begun (heard asked.types asked.begun key).begun asked) (heard asked.types asked.begun key).action
