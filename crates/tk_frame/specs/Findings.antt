-- The lines that tell what is odd, worst first.
use Rattle.std.specs.Prelude.{ℕ, ◌+◌, ◌-◌, ◌/◌, ◌==◌, nat_lt, Bool, if◌then◌else◌, Option, Some, None, List, [], ◌∷◌, ◌++◌, length, take, codes, decimal}
use Rattle.std.specs.List.{list_any}
use Rattle.std.specs.Option.{option_and_then}
use Rattle.std.specs.Str.{bytes_eq}
use Rattle.tk_ids.specs.Ids.{id_text}
use Rattle.tk_odd.specs.Findings.{Placed, Told}
use Rattle.tk_odd.specs.Places.{place_of}
use Rattle.tk_odd.specs.Words.{advice_of, name_of, said_of, shape_of}
use Rattle.tk_odd.specs.declared.finding.Finding.{Finding}
use Rattle.tk_odd.specs.declared.finding.OddKind.{OddKind}
use Rattle.tk_odd.specs.declared.words.Shape.{Shape}
use Rattle.tk_odd.specs.declared.words.Shape.TheVariants as shapes
use Rattle.tk_screen.specs.Screens.{LineView}
use Rattle.tk_screen.specs.Texts.{duration_text, share_text}
use Rattle.tk_screen.specs.declared.canvas.Style.{Style}
use Rattle.tk_screen.specs.declared.canvas.Style.TheVariants as styles
use Rattle.tk_screen.specs.declared.canvas.Canvas.{Canvas}
use Rattle.tk_screen.specs.declared.canvas.Canvas.TheVariants.{Plain, Terminal}
use Rattle.tk_stream.specs.Tables.{TablesView, task_with}
use Rattle.tk_stream.specs.declared.tables.task.Task.{Task}
use Rattle.tk_frame.specs.Lines.{as_text, cell, location_text, plain, word}
use Rattle.tk_frame.specs.Places.{PlaceRow, RecentView}
use Rattle.tk_frame.specs.Waiting.{waiting_text}
use Rattle.tk_odd.specs.Waiting.{waiting_of}
use Rattle.tk_odd.specs.declared.waiting.Waiting.{Waiting}

-- what is told of what is odd: the findings, worst first, and the same with who waited longest for each; the places, in their order; what these came to in the last while, where lines reach back so far;
-- how many tasks waited at each of the last lines; the moment of the first line since the service was started again, if it was; how long the time is from the first line to the last, where one came; and from when on a poll is a long one
pub record OddView : Type 0 where
  pub findings : List Placed
  pub told : List Told
  pub places : List PlaceRow
  pub recent : Option RecentView
  pub waits : List ℕ
  pub again : Option ℕ
  pub span : Option ℕ
  pub long : ℕ

-- ---- a finding

-- when it holds
abbrev pub when_word : Bool → List ℕ
when_word is_now = if is_now then codes "NOW" else codes "earlier"

-- the task that it names, where that is still there
abbrev pub task_of : List Task → Finding → Option Task
task_of tasks x = option_and_then (λ n. task_with n tasks) x.task

-- a task of this name and id
abbrev pub named_words : List ℕ → ℕ → List ℕ
named_words name id = name ++ (codes " " ++ id_text id)

-- who a finding is about that names a task which has left: its place
abbrev pub place_words : List ℕ → List ℕ
place_words place = as_text place

-- the same, or that names none: all tasks
abbrev pub no_task : Option ℕ → List ℕ → List ℕ
no_task None place = codes "tasks"
no_task (Some n) place = place_words place

-- who a finding is about that names this task, or none that is there
abbrev pub who : Option Task → Option ℕ → List ℕ → List ℕ
who None named place = no_task named place
who (Some t) named place = named_words t.info.name t.info.id

-- a time after words
abbrev pub timed : List ℕ → ℕ → List ℕ
timed words time = words ++ duration_text time

-- which share of its wakes is its own
abbrev pub wakes_text : ℕ → ℕ → List ℕ
wakes_text own all = share_text own all ++ codes " of its wakes"

-- its figure. What tasks are charged with is known to be as much at least
abbrev pub figure_by : Shape → Finding → List ℕ
figure_by shapes.Held x = timed (codes "who waited at least ") x.figure
figure_by shapes.Alone x = timed (codes "at least ") x.figure
figure_by shapes.Stretch x = timed (codes "for ") x.figure
figure_by shapes.Lasting x = timed (codes "for ") x.figure
figure_by shapes.Longest x = timed (codes "at least ") x.figure
figure_by shapes.Share x = wakes_text x.figure x.of

abbrev pub figure_text : Finding → List ℕ
figure_text x = figure_by (shape_of x.kind) x

-- who it is about, what is said of them, and the figure
abbrev pub said_text : Option Task → List ℕ → Finding → List ℕ
said_text task place x = who task x.task place ++ (codes " " ++ (said_of x.is_now x.kind ++ (codes ", " ++ figure_text x)))

-- where a task was made
abbrev pub made_at : Task → List ℕ
made_at t = codes ", " ++ location_text t.info.location

-- the same, where it is there
abbrev pub made_text : Option Task → List ℕ
made_text None = []
made_text (Some t) = made_at t

-- the finding's name, and where the task was made
abbrev pub source_text : OddKind → Option Task → List ℕ
source_text kind task = codes " (" ++ (name_of kind ++ (made_text task ++ codes ")"))

-- its number, and when it holds
abbrev pub number_text : ℕ → Bool → List ℕ
number_text n is_now = cell 2 (decimal n) ++ word 7 (when_word is_now)

-- the text of a finding that stands at this number, of a place and of this task
abbrev pub finding_text : ℕ → Option Task → List ℕ → Finding → List ℕ
finding_text n task place x = number_text n x.is_now ++ (said_text task place x ++ source_text x.kind task)

-- what holds now stands out
abbrev pub style_of : Bool → Style
style_of is_now = if is_now then styles.Warning else styles.Plain

-- its line
abbrev pub finding_line : List Task → ℕ → Placed → LineView
finding_line tasks n (place, x) = record { style = style_of x.is_now; text = finding_text n (task_of tasks x) place x }

-- lines that are made of items which are numbered from this number on
abbrev pub numbered : {X : Type 0} → (ℕ → X → List LineView) → ℕ → List X → List LineView
numbered lines n [] = []
numbered lines n (x ∷ xs) = lines n x ++ numbered lines (n + 1) xs

-- ---- the findings that a screen shows

-- how many rows a screen has. Text has as many as a terminal whose size is not known
abbrev pub rows_of : Canvas → ℕ
rows_of Plain = 24
rows_of (Terminal size colors) = size.lines

-- how many findings it shows: a third of that
abbrev pub most_of : Canvas → ℕ
most_of canvas = rows_of canvas / 3

-- how many more there are, if any
abbrev pub more_findings : ℕ → ℕ → List LineView
more_findings most n = if nat_lt most n then plain (codes ".. and " ++ (decimal (n - most) ++ codes " more")) ∷ [] else []

-- a line for each
abbrev pub shown_line : List Task → ℕ → Placed → List LineView
shown_line tasks n x = finding_line tasks n x ∷ []

-- the first of them, and how many more there are
abbrev pub list_part : ℕ → List Task → List Placed → List LineView
list_part most tasks list = numbered (shown_line tasks) 1 (take most list) ++ more_findings most (length list)

-- ---- nothing holds now

-- one of them holds now
abbrev pub any_now : List Placed → Bool
any_now list = list_any (λ (x : Placed). x.1.is_now) list

-- the lines span too little time to see who held up others
abbrev pub unseen_text : ℕ → ℕ → List ℕ
unseen_text span long =
    codes "no finding now; who holds up others can't be seen: the lines span " ++ (duration_text span ++ (codes ", and it takes at least " ++ duration_text long))

-- whether there was one earlier
abbrev pub earlier_text : ℕ → List ℕ
earlier_text findings = if findings == 0 then codes " or earlier: " else codes ": "

-- none holds now, and how many tasks wait
abbrev pub calm_text : ℕ → Waiting → List ℕ
calm_text findings w = codes "no finding now" ++ (earlier_text findings ++ waiting_text w)

-- what is said of lines that span this time
abbrev pub seen_text : ℕ → ℕ → ℕ → Waiting → List ℕ
seen_text span long findings w = if nat_lt span long then unseen_text span long else calm_text findings w

-- the same, where a line came. Else nothing is known
abbrev pub none_by : Option ℕ → ℕ → ℕ → Waiting → List ℕ
none_by None long findings w = codes "no line came: nothing is known of any task"
none_by (Some span) long findings w = seen_text span long findings w

abbrev pub none_text : OddView → Waiting → List ℕ
none_text odd w = none_by odd.span odd.long (length odd.findings) w

-- the line that says it
abbrev pub none_line : TablesView → OddView → LineView
none_line tables odd = plain (none_text odd (waiting_of tables.now tables.tasks))

-- that no finding holds now, where it is so
abbrev pub calm_part : TablesView → OddView → List LineView
calm_part tables odd = if any_now odd.findings then [] else none_line tables odd ∷ []

-- what is told above tasks: that no finding holds now, where it is so; the first findings, as many as a third of the screen's rows; and how many more
-- there are
abbrev pub findings_part : Canvas → TablesView → OddView → List LineView
findings_part canvas tables odd = calm_part tables odd ++ list_part (most_of canvas) tables.tasks odd.findings

-- ---- the findings about one place

-- what to do
abbrev pub advice_text : OddKind → List ℕ
advice_text kind = codes "  " ++ advice_of kind

abbrev pub advice_line : OddKind → LineView
advice_line kind = plain (advice_text kind)

-- who waited longest, at least so long
abbrev pub whom_text : List ℕ → ℕ → List ℕ
whom_text place time = codes "  waited longest for it, at least " ++ (duration_text time ++ (codes ": " ++ as_text place))

-- the line that says it, if it is known
abbrev pub whom_part : Option (List ℕ × ℕ) → List LineView
whom_part None = []
whom_part (Some (place, time)) = plain (whom_text place time) ∷ []

-- the line of a finding, what to do, and who waited longest for it
abbrev pub about_lines : List Task → ℕ → Told → List LineView
about_lines tasks n (x, whom) = finding_line tasks n x ∷ advice_line x.1.kind ∷ whom_part whom

-- the same, where it is about this place
abbrev pub own_lines : List Task → List ℕ → ℕ → Told → List LineView
own_lines tasks place n x = if bytes_eq x.0.0 place then about_lines tasks n x else []

-- those about this place, each with its number in the list
abbrev pub own_part : List Task → List ℕ → List Told → List LineView
own_part tasks place list = numbered (own_lines tasks place) 1 list

-- those about a task's place
abbrev pub owns_part : List Task → Task → OddView → List LineView
owns_part tasks t odd = own_part tasks (place_of t.info) odd.told
