-- What commands come to, as far as the text tells: what they call on each item, what they record, and the lines that are due.
use Rattle.std.specs.Prelude.{ℕ, ◌+◌, List, [], ◌∷◌, ◌++◌, length, codes, fold, Bool, true, false, not, ◌||◌, Option, Some, None, option_map}
use Rattle.std.specs.List.{enumerate_from}
use Rattle.std.specs.Option.{option_map_or}
use Rattle.tk_ids.specs.Ids.{id_of}
use Rattle.tk_ids.specs.declared.attr.AttrSpec.{AttrSpec}
use Rattle.tk_ids.specs.declared.info.OpInfo.{OpInfo}
use Rattle.tk_ids.specs.declared.info.ResourceInfo.{ResourceInfo}
use Rattle.tk_ids.specs.declared.info.TaskInfo.{TaskInfo}
use Rattle.tk_ids.specs.declared.location.Location.{Location}
use Rattle.tk_ids.specs.declared.spec.TaskKind.{TaskKind}
use Rattle.tk_events.specs.Items.{infos_of}
use Rattle.tk_aggregator.specs.Contents.{Content, made_task, made_resource, made_op, polled}
use Rattle.tk_live.specs.Blocks.{Block, no_lines, with_line, after_block}
use Rattle.tk_live.specs.Pasts.{Pasts, no_pasts, called_by}
use Rattle.tk_script.specs.Commands.{Said, Line, says, opens, joins, works, task, resource, op, poll_op, capacity, retention, times, waits, publish, is_setting, polls_in}

-- a line that is due: its moment, whether it is a snapshot, how much was recorded before it, and what was called before it
pub record Due : Type 0 where
  pub moment : ℕ
  pub whole : Bool
  pub recorded : ℕ
  pub pasts : Pasts

-- what commands come to: what they call on each item, what the recording ones tell, in order, the lines that are due, the moment of the
-- last one, how many polls `polls` commands make, which settings were said, whether there was any other command, and the lines of the block that is open, if one is
pub record Course : Type 0 where
  pub pasts : Pasts
  pub told : List Content
  pub due : List Due
  pub now : ℕ
  pub polled : ℕ
  pub capacity_said : Bool
  pub retention_said : Bool
  pub times_said : Bool
  pub waits_said : Bool
  pub begun : Bool
  pub block : Option Block

-- before any command
abbrev pub start_of_all : Course
start_of_all = record { pasts = no_pasts; told = []; due = []; now = 0; polled = 0; capacity_said = false; retention_said = false; times_said = false; waits_said = false; begun = false; block = None }

-- an item stands on a line of the script, at its first column
abbrev pub place : ℕ → Location
place line = record { file = codes "script"; line = line; column = 1 }

-- the info of the n-th task
abbrev pub script_task_info : ℕ → ℕ → TaskKind → List ℕ → TaskInfo
script_task_info n line kind name = record { id = id_of 1 n; kind = kind; name = name; location = place line }

-- the info of the n-th resource, which has no parent
abbrev pub script_resource_info : ℕ → ℕ → List ℕ → List ℕ → List AttrSpec → ResourceInfo
script_resource_info n line kind concrete attrs = record { id = id_of 1 n; parent = None; concrete = concrete; kind = kind; location = place line; attrs = infos_of attrs }

-- the info of the n-th async operation, which is on the r-th resource and has no parent
abbrev pub script_op_info : ℕ → ℕ → List ℕ → List AttrSpec → OpInfo
script_op_info n r source attrs = record { id = id_of 1 n; source = source; resource = id_of 1 r; parent = None; attrs = infos_of attrs }

-- what a command on a line of this number records, after what was called before it
abbrev pub told_by : Pasts → ℕ → Said → List Content
told_by ps line (task created kind name) = made_task (script_task_info (length ps.tasks + 1) line kind name) ∷ []
told_by ps line (resource created kind concrete attrs) = made_resource (script_resource_info (length ps.resources + 1) line kind concrete attrs) ∷ []
told_by ps line (op created r source attrs) = made_op (script_op_info (length ps.ops + 1) r source attrs) ∷ []
told_by ps line (poll_op r o t name ready) = polled (id_of 1 r) ready ∷ []
told_by ps line s = []

-- the line that is due at this moment, as a snapshot or not
abbrev pub due_at : Course → ℕ → Bool → Due
due_at c moment whole = record { moment = moment; whole = whole; recorded = length c.told; pasts = c.pasts }

-- what one command more comes to, but for what it begins
abbrev pub step : Course → ℕ → Said → Course
step c line (capacity n) = record c { capacity_said = true }
step c line (retention n) = record c { retention_said = true }
step c line times = record c { times_said = true }
step c line waits = record c { waits_said = true }
step c line (publish moment whole) = record c { due = c.due ++ due_at c moment whole ∷ []; now = moment }
step c line s = record c { pasts = called_by c.waits_said c.pasts s; told = c.told ++ told_by c.pasts line s }

-- what one command more comes to. After one that isn't a setting no setting may stand
abbrev pub step_on : Course → ℕ → Said → Course
step_on c line s = record (step c line s) { polled = c.polled + polls_in s; begun = not (is_setting s) || c.begun }

-- what a block comes to whose threads are joined. It is closed
abbrev pub joined : Course → Block → Course
joined c b = record c { pasts = after_block b c.pasts; block = None }

-- what a line more comes to, of this number
abbrev pub line_after : Course → ℕ × Line → Course
line_after c (n, says s) = step_on c n s
line_after c (n, opens) = record c { begun = true; block = Some no_lines }
line_after c (n, works k l) = record c { block = option_map (with_line k l) c.block }
line_after c (n, joins) = option_map_or (joined c) c.block c
line_after c (n, _) = c

-- what lines come to, one after the other, numbered from 1
abbrev pub course_of : List Line → Course
course_of ls = fold line_after start_of_all (enumerate_from 1 ls)
