-- What a line of a script says.
use Rattle.std.specs.Prelude.{◌≡◌, ℕ, ◌+◌, ◌-◌, ◌*◌, ◌^◌, ◌<◌, ◌≤◌, List, [], ◌∷◌, ◌++◌, length, map, if◌then◌else◌, Option, Some, None, option_map, option_and_then, codes, Bool, true, false, ◌==◌, ◌&&◌, nat_le, nat_lt}
use Rattle.std.specs.List.{ends_with}
use Rattle.std.specs.Option.{option_map_or}
use Rattle.std.specs.Str.{bytes_eq}
use Rattle.tk_ids.specs.Names.{is_name}
use Rattle.tk_ids.specs.declared.spec.TaskKind.{TaskKind}
use Rattle.tk_ids.specs.declared.attr.AttrSpec.{AttrSpec}
use Rattle.tk_ids.specs.declared.attr.AttrValue.{AttrValue}
use Rattle.tk_core.specs.declared.attrs.AttrOp.{AttrOp}
use Rattle.tk_core.specs.declared.attrs.AttrOp.TheVariants.{Add, Sub, Override}
use Rattle.tk_script.specs.Attributes.{attrs_by, value_of}
use Rattle.tk_script.specs.Pieces.{pieces_at}
use Rattle.tk_script.specs.Words.{moment, kind, readiness, one_number, two_numbers, five_numbers}
use Rattle.tk_script.specs.declared.block.BlockSaid.{BlockSaid}
use Rattle.tk_script.specs.declared.block.BlockSaid.TheVariants as blocks
use Rattle.tk_script.specs.declared.block.WakerCall.{WakerCall}
use Rattle.tk_script.specs.declared.block.WakerCall.TheVariants.{WakeRef, Wake, Release}
use Rattle.tk_script.specs.declared.block.Worker.{Worker}
use Rattle.tk_script.specs.declared.block.Worker.TheVariants.{One, Two}
use Rattle.tk_script.specs.declared.block.WorkerLine.{WorkerLine}
use Rattle.tk_script.specs.declared.command.Command.{Command}
use Rattle.tk_script.specs.declared.command.Command.TheVariants as commands
use Rattle.tk_script.specs.declared.settings.Settings.{Settings}

-- a command. It names items by their numbers from 1
pub data Said : Type 0 where
  -- a task: its creation, kind and name
  task : ℕ → TaskKind → List ℕ → Said
  -- calls of the owner of a task
  start : ℕ → ℕ → Said
  finish : ℕ → ℕ → Said
  -- polls of a task, one after the other: how many, when the first starts, how long each runs, and how far apart they start
  polls : ℕ → ℕ → ℕ → ℕ → ℕ → Said
  close : ℕ → ℕ → Said
  self_wake : ℕ → ℕ → Said
  clone : ℕ → Said
  -- calls of a waker
  again : ℕ → Said
  wake_ref : ℕ → ℕ → Said
  wake : ℕ → ℕ → Said
  release : ℕ → Said
  -- a resource: its creation, kind and type, and its attributes
  resource : ℕ → List ℕ → List ℕ → List AttrSpec → Said
  -- the owner of a resource closes it, and its user changes the attribute of an index
  close_resource : ℕ → ℕ → Said
  change_resource : ℕ → ℕ → AttrOp → Said
  -- an async operation: its creation, its resource and its source, and its attributes
  op : ℕ → ℕ → List ℕ → List AttrSpec → Said
  -- from now on a task polls an async operation
  op_task : ℕ → ℕ → Said
  -- calls of the owner of an async operation
  start_op : ℕ → ℕ → Said
  finish_op : ℕ → ℕ → Said
  close_op : ℕ → ℕ → Said
  change_op : ℕ → ℕ → AttrOp → Said
  -- a poll operation on a resource, by an async operation and a task: its name, and whether it was ready
  poll_op : ℕ → ℕ → ℕ → List ℕ → Bool → Said
  -- how many events the console holds
  capacity : ℕ → Said
  -- how long a closed item stays
  retention : ℕ → Said
  -- tasks have histograms of how long their polls ran
  times : Said
  -- of tasks it is counted how long they waited
  waits : Said
  -- a line of the stream, as a snapshot or not
  publish : ℕ → Bool → Said

-- a command without where its name lies
abbrev pub view : Command → Said
view (commands.Task moment kind name) = task moment kind name.now
view (commands.Start number moment) = start number moment
view (commands.End number moment) = finish number moment
view (commands.Polls number count moment run every) = polls number count moment run every
view (commands.Close number moment) = close number moment
view (commands.SelfWake number moment) = self_wake number moment
view (commands.CloneWaker number) = clone number
view (commands.Again number) = again number
view (commands.WakeRef number moment) = wake_ref number moment
view (commands.Wake number moment) = wake number moment
view (commands.Release number) = release number
view (commands.Resource moment kind concrete attrs) = resource moment kind.now concrete.now attrs
view (commands.CloseResource number moment) = close_resource number moment
view (commands.ChangeResource number index change) = change_resource number index change
view (commands.Op moment r source attrs) = op moment r source.now attrs
view (commands.OpTask number t) = op_task number t
view (commands.StartOp number moment) = start_op number moment
view (commands.EndOp number moment) = finish_op number moment
view (commands.CloseOp number moment) = close_op number moment
view (commands.ChangeOp number index change) = change_op number index change
view (commands.PollOp r o t name ready) = poll_op r o t name.now ready
view (commands.Capacity count) = capacity count
view (commands.Retention span) = retention span
view commands.Times = times
view commands.Waits = waits
view (commands.Publish moment whole) = publish moment whole

-- what a command names is a name, a capacity is in range, and so are polls: 1 to 1,000,000, whose moments 64 bits hold
abbrev pub IsGood : Said → Type 0
IsGood (task at kind name) = is_name name ≡ true
IsGood (polls number count at run every) = (1 ≤ count) × (count ≤ 1000000) × (at + count * every + run < 2 ^ 64)
IsGood (resource at kind concrete attrs) = (is_name kind ≡ true) × (is_name concrete ≡ true)
IsGood (op at r source attrs) = is_name source ≡ true
IsGood (poll_op r o t name ready) = is_name name ≡ true
IsGood (capacity n) = (1 ≤ n) × (n ≤ 65536)
IsGood _ = Unit {0}

-- ---- what a line's text says

-- a moment, a kind and a name
abbrev pub task_by : List (List ℕ) → Option Said
task_by (m ∷ k ∷ n ∷ []) = option_and_then (λ at. option_and_then (λ of. if is_name n then Some (task at of n) else None) (kind k)) (moment m)
task_by _ = None

-- whether so many polls can be: 1 to 1,000,000, whose moments 64 bits hold
abbrev pub are_polls : ℕ → ℕ → ℕ → ℕ → Bool
are_polls count at run every = nat_le 1 count && (nat_le count 1000000 && nat_lt (at + count * every + run) (2 ^ 64))

-- polls of a task by its owner: its number, how many, when the first starts, how long each runs, and how far apart they start
abbrev pub polls_by : List (List ℕ) → Option Said
polls_by words = option_and_then (λ p. if are_polls p.1 p.2 p.3 p.4 then Some (polls p.0 p.1 p.2 p.3 p.4) else None) (five_numbers words)

-- a moment, a kind, a type and attributes
abbrev pub resource_by : List (List ℕ) → Option Said
resource_by (m ∷ k ∷ t ∷ words) = option_and_then (λ at. if is_name k && is_name t then option_map (resource at k t) (attrs_by words) else None) (moment m)
resource_by _ = None

-- the number of an item, the index of an attribute, and a value
abbrev pub change_by : List (List ℕ) → Option (ℕ × ℕ × AttrValue)
change_by (n ∷ i ∷ v ∷ []) = option_and_then (λ number. option_and_then (λ index. option_map (λ value. (number, index, value)) (value_of v)) (moment i)) (moment n)
change_by _ = None

-- a moment, a resource, a source and attributes
abbrev pub op_by : List (List ℕ) → Option Said
op_by (m ∷ r ∷ source ∷ words) =
    option_and_then (λ at. option_and_then (λ n. if is_name source then option_map (op at n source) (attrs_by words) else None) (moment r)) (moment m)
op_by _ = None

-- a resource, an operation, a task, the name of the poll operation, and how it ended
abbrev pub poll_op_by : List (List ℕ) → Option Said
poll_op_by (r ∷ o ∷ t ∷ name ∷ end ∷ []) =
    option_and_then (λ on. option_and_then (λ by. option_and_then (λ of. if is_name name then option_map (poll_op on by of name) (readiness end) else None) (moment t)) (moment o)) (moment r)
poll_op_by _ = None

-- a word that stands alone
abbrev pub alone : {X : Type 0} → X → List (List ℕ) → Option X
alone x [] = Some x
alone x (w ∷ words) = None

-- how many events the console holds, from 1 to 65,536
abbrev pub capacity_by : List (List ℕ) → Option Said
capacity_by words = option_and_then (λ n. if nat_le 1 n && nat_le n 65536 then Some (capacity n) else None) (one_number words)

-- one number, two numbers, or a change, of which a command is made
abbrev pub by_one : (ℕ → Said) → List (List ℕ) → Option Said
by_one make words = option_map make (one_number words)

abbrev pub by_two : (ℕ → ℕ → Said) → List (List ℕ) → Option Said
by_two make words = option_map (λ p. make p.0 p.1) (two_numbers words)

abbrev pub by_change : (ℕ → ℕ → AttrOp → Said) → (AttrValue → AttrOp) → List (List ℕ) → Option Said
by_change make change words = option_map (λ p. make p.0 p.1 (change p.2)) (change_by words)

-- ---- the commands, each by its word and by what the words after it say

abbrev pub Form : Type 0
Form = List ℕ × (List (List ℕ) → Option Said)

-- a task, and calls of its owner
abbrev pub task_forms : List Form
task_forms =
    (codes "task", task_by)
    ∷ (codes "start", by_two start)
    ∷ (codes "end", by_two finish)
    ∷ (codes "polls", polls_by)
    ∷ (codes "close", by_two close)
    ∷ (codes "selfwake", by_two self_wake)
    ∷ (codes "clone", by_one clone)
    ∷ []

-- calls of a waker
abbrev pub waker_forms : List Form
waker_forms =
    (codes "again", by_one again)
    ∷ (codes "wakeref", by_two wake_ref)
    ∷ (codes "wake", by_two wake)
    ∷ (codes "release", by_one release)
    ∷ []

-- changes of an attribute by a resource's user, and the close by its owner
abbrev pub resource_call_forms : List Form
resource_call_forms =
    (codes "radd", by_change change_resource Add)
    ∷ (codes "rsub", by_change change_resource Sub)
    ∷ (codes "rset", by_change change_resource Override)
    ∷ (codes "rclose", by_two close_resource)
    ∷ []

-- calls of the owner of an async operation, and poll operations
abbrev pub op_call_forms : List Form
op_call_forms =
    (codes "optask", by_two op_task)
    ∷ (codes "opstart", by_two start_op)
    ∷ (codes "opend", by_two finish_op)
    ∷ (codes "opclose", by_two close_op)
    ∷ (codes "oadd", by_change change_op Add)
    ∷ (codes "osub", by_change change_op Sub)
    ∷ (codes "oset", by_change change_op Override)
    ∷ (codes "pollop", poll_op_by)
    ∷ []

-- lines of the stream, and settings
abbrev pub line_forms : List Form
line_forms =
    (codes "publish", by_one (λ at. publish at false))
    ∷ (codes "snapshot", by_one (λ at. publish at true))
    ∷ (codes "capacity", capacity_by)
    ∷ (codes "retention", by_one retention)
    ∷ (codes "times", alone times)
    ∷ (codes "waits", alone waits)
    ∷ []

-- what declares no attributes
abbrev pub plain_forms : List Form
plain_forms = task_forms ++ (waker_forms ++ (resource_call_forms ++ (op_call_forms ++ line_forms)))

abbrev pub forms : List Form
forms = (codes "resource", resource_by) ∷ (codes "op", op_by) ∷ plain_forms

-- the form that has the first word says what the words after it say
abbrev pub said_in : List Form → List ℕ → List (List ℕ) → Option Said
said_in [] w words = None
said_in (form ∷ more) w words = if bytes_eq w form.0 then form.1 words else said_in more w words

abbrev pub said_by : List (List ℕ) → Option Said
said_by [] = None
said_by (w ∷ words) = said_in forms w words

-- words that declare attributes
abbrev pub declares : List (List ℕ) → Bool
declares [] = false
declares (w ∷ words) = if bytes_eq w (codes "resource") then true else bytes_eq w (codes "op")

-- a line that declares attributes
abbrev pub is_declaring : List ℕ → Bool
is_declaring line = declares (pieces_at 32 line)

-- what a line says: its words stand between single spaces
abbrev pub said : List ℕ → Option Said
said line = said_by (pieces_at 32 line)

-- ---- lines

-- an empty line says nothing, and a line that begins with `#` is a comment
abbrev pub is_skipped : List ℕ → Bool
is_skipped [] = true
is_skipped (b ∷ bs) = b == 35

-- a line: it is skipped, it says no command, it says this one, it opens a block or joins its threads, or it is a worker's
pub data Line : Type 0 where
  skipped : Line
  bad : Line
  says : Said → Line
  opens : Line
  joins : Line
  works : Worker → WorkerLine → Line

-- the worker that a word names
abbrev pub worker_numbered : ℕ → Option Worker
worker_numbered n = if n == 1 then Some One else (if n == 2 then Some Two else None)

abbrev pub worker_of : List ℕ → Option Worker
worker_of word = option_and_then worker_numbered (moment word)

-- a call of a waker by its number
abbrev pub waker_line : ℕ → WakerCall → WorkerLine
waker_line n call = record { waker = n; call = call }

-- what a worker's line says after the worker's number
abbrev pub worker_line_by : List (List ℕ) → Option WorkerLine
worker_line_by [] = None
worker_line_by (w ∷ words) =
    if bytes_eq w (codes "wakeref") then option_map (λ p. waker_line p.0 (WakeRef p.1)) (two_numbers words) else
    (if bytes_eq w (codes "wake") then option_map (λ p. waker_line p.0 (Wake p.1)) (two_numbers words) else
    (if bytes_eq w (codes "release") then option_map (λ n. waker_line n Release) (one_number words) else None))

-- what only a block has: `par`, `join`, and the lines of workers
abbrev pub block_said_by : List (List ℕ) → Option Line
block_said_by [] = None
block_said_by (w ∷ words) =
    if bytes_eq w (codes "par") then alone opens words else
    (if bytes_eq w (codes "join") then alone joins words else
    option_and_then (λ k. option_map (works k) (worker_line_by words)) (worker_of w))

abbrev pub block_said : List ℕ → Option Line
block_said line = block_said_by (pieces_at 32 line)

-- the same without where it lies
abbrev pub block_line : BlockSaid → Line
block_line blocks.Opens = opens
block_line blocks.Joins = joins
block_line (blocks.Works k l) = works k l

-- what a line of text is that isn't skipped
abbrev pub line_said : List ℕ → Line
line_said line = option_map_or (λ l. l) (block_said line) (option_map_or says (said line) bad)

-- what a line of text is
abbrev pub line_of : List ℕ → Line
line_of line = if is_skipped line then skipped else line_said line

-- the lines of a script end at the bytes 0x0A
abbrev pub lines_of : List ℕ → List Line
lines_of script = map line_of (pieces_at 10 script)

-- where a script says nothing else: 1,024 events are held, no item leaves, and tasks have no histograms
abbrev pub default_settings : Settings
default_settings = record { capacity = 1024; retention = None; times = false }

-- a command that makes nothing and writes nothing, and tells how the script is run
abbrev pub is_setting : Said → Bool
is_setting (capacity n) = true
is_setting (retention n) = true
is_setting times = true
is_setting waits = true
is_setting _ = false

-- how many polls a command makes at once
abbrev pub polls_in : Said → ℕ
polls_in (polls n count at run every) = count
polls_in _ = 0

-- settings by a command
abbrev pub settings_by : Settings → Said → Settings
settings_by settings (capacity n) = record settings { capacity = n }
settings_by settings (retention n) = record settings { retention = Some n }
settings_by settings times = record settings { times = true }
settings_by settings _ = settings

-- settings by a line after which further ones may be said: it says one, or is skipped
abbrev pub settings_said : Settings → Line → Option Settings
settings_said settings skipped = Some settings
settings_said settings bad = None
settings_said settings (says s) = if is_setting s then Some (settings_by settings s) else None
settings_said settings opens = None
settings_said settings joins = None
settings_said settings (works k l) = None

-- settings by lines, up to the first after which none may be said
abbrev pub settings_after : Settings → List Line → Settings
settings_after settings [] = settings
settings_after settings (line ∷ more) = option_map_or (λ s. settings_after s more) (settings_said settings line) settings

-- the settings of a script: those of its `capacity`, `retention` and `times` commands before all others. `waits` tells how the tasks
-- begin that stand after it
abbrev pub settings_of : List Line → Settings
settings_of ls = settings_after default_settings ls

-- a script's last byte ends a line
abbrev pub ends_line : List ℕ → Bool
ends_line script = ends_with (λ a b. a == b) script (10 ∷ [])

-- the number of the last line: a line end after it opens no further one
abbrev pub last_line : List ℕ → ℕ
last_line script = if ends_line script then length (pieces_at 10 script) - 1 else length (pieces_at 10 script)
