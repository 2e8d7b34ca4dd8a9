-- Which line the members of an object make, where they are read key by key: each list by itself, and of the rest what is kept.
use Rattle.std.specs.Prelude.{ℕ, List, codes, Bool, is_some, ◌==◌, ◌&&◌, ◌||◌, Option, Some, None, if◌then◌else◌}
use Rattle.std.specs.Str.{bytes_eq}
use Rattle.serde_json.specs.Data.{Data, null, Members, no_members, member}
use Rattle.serde_json.specs.Find.{get_member}
use Rattle.tk_core.specs.declared.op.row.OpRow.{OpRow}
use Rattle.tk_core.specs.declared.resource.row.ResourceRow.{ResourceRow}
use Rattle.tk_core.specs.declared.task.row.TaskRow.{TaskRow}
use Rattle.tk_ids.specs.declared.info.OpInfo.{OpInfo}
use Rattle.tk_ids.specs.declared.info.ResourceInfo.{ResourceInfo}
use Rattle.tk_ids.specs.declared.info.TaskInfo.{TaskInfo}
use Rattle.tk_json.specs.Small.{small}
use Rattle.tk_stream.specs.declared.text.read_json.numbers.Numbers.{Numbers}
use Rattle.tk_stream.specs.declared.text.read_json.numbers.Version.{Version}
use Rattle.tk_stream.specs.declared.text.read_json.numbers.Version.TheVariants.{One, Two, Three}
use Rattle.tk_stream.specs.Lines.{LineView, GoneView}
use Rattle.tk_stream.specs.Reading.{◌>>=◌, list_of, each_of, id_of, op_of, resource_of, info_of, op_stats_of, counts_of, resource_stats_of, stats_of, times_of, SaidView, number_at, flag_at, seq_at, list_at, dropped_in, has_members, keys_of, of_version}
use Rattle.tk_stream.specs.Tables.{PollCounts}
use Rattle.tk_stream.specs.Times.{TaskTimes}

-- ---- lists

-- the lists of a line: each, where an array stands at its key whose items are all of the shape
pub record ListsView : Type 0 where
  pub gone_ops : Option (List ℕ)
  pub gone_resources : Option (List ℕ)
  pub gone_tasks : Option (List ℕ)
  pub new_ops : Option (List OpInfo)
  pub new_resources : Option (List ResourceInfo)
  pub new_tasks : Option (List TaskInfo)
  pub op_stats : Option (List (ℕ × OpRow))
  pub poll_counts : Option (List PollCounts)
  pub resource_stats : Option (List (ℕ × ResourceRow))
  pub task_stats : Option (List (ℕ × TaskRow))
  pub task_times : Option (List TaskTimes)

-- what the items of an array are, where all are of the shape
abbrev pub listed : {A : Type 0} → (Data → Option A) → Data → Option (List A)
listed shape d = list_of d >>= each_of shape

-- the list at a key
abbrev pub list_in : {A : Type 0} → (Data → Option A) → List ℕ → Members → Option (List A)
list_in shape key ms = get_member key ms >>= listed shape

-- the lists of the line that has these members
abbrev pub lists_in : Members → ListsView
lists_in ms = record {
  gone_ops = list_in id_of (codes "gone_ops") ms;
  gone_resources = list_in id_of (codes "gone_resources") ms;
  gone_tasks = list_in id_of (codes "gone_tasks") ms;
  new_ops = list_in op_of (codes "new_ops") ms;
  new_resources = list_in resource_of (codes "new_resources") ms;
  new_tasks = list_in info_of (codes "new_tasks") ms;
  op_stats = list_in op_stats_of (codes "op_stats") ms;
  poll_counts = list_in counts_of (codes "poll_counts") ms;
  resource_stats = list_in resource_stats_of (codes "resource_stats") ms;
  task_stats = list_in stats_of (codes "task_stats") ms;
  task_times = list_in times_of (codes "task_times") ms;
}

-- the list at a name, once a value was read at a key
abbrev pub list_put : {A : Type 0} → (Data → Option A) → List ℕ → List ℕ → Data → Option (List A) → Option (List A)
list_put shape name key d list = if bytes_eq key name then listed shape d else list

-- the lists, once a value was read at a key
abbrev pub lists_put : List ℕ → Data → ListsView → ListsView
lists_put key d lists = record {
  gone_ops = list_put id_of (codes "gone_ops") key d lists.gone_ops;
  gone_resources = list_put id_of (codes "gone_resources") key d lists.gone_resources;
  gone_tasks = list_put id_of (codes "gone_tasks") key d lists.gone_tasks;
  new_ops = list_put op_of (codes "new_ops") key d lists.new_ops;
  new_resources = list_put resource_of (codes "new_resources") key d lists.new_resources;
  new_tasks = list_put info_of (codes "new_tasks") key d lists.new_tasks;
  op_stats = list_put op_stats_of (codes "op_stats") key d lists.op_stats;
  poll_counts = list_put counts_of (codes "poll_counts") key d lists.poll_counts;
  resource_stats = list_put resource_stats_of (codes "resource_stats") key d lists.resource_stats;
  task_stats = list_put stats_of (codes "task_stats") key d lists.task_stats;
  task_times = list_put times_of (codes "task_times") key d lists.task_times;
}

-- the key of a list
abbrev pub is_list_key : List ℕ → Bool
is_list_key key =
    bytes_eq key (codes "gone_ops") || bytes_eq key (codes "gone_resources") || bytes_eq key (codes "gone_tasks")
    || bytes_eq key (codes "new_ops") || bytes_eq key (codes "new_resources") || bytes_eq key (codes "new_tasks")
    || bytes_eq key (codes "op_stats") || bytes_eq key (codes "poll_counts") || bytes_eq key (codes "resource_stats") || bytes_eq key (codes "task_stats")
    || bytes_eq key (codes "task_times")

-- ---- the other values

-- what is kept of the value at a key in the line's own object: nothing of a list
abbrev pub stands_for : List ℕ → Data → Data
stands_for key d = if is_list_key key then null else small d 3

-- the members of the line's own object
abbrev pub own_members : Members → Members
own_members no_members = no_members
own_members (member key d ms) = member key (stands_for key d) (own_members ms)

-- the version of the format that a number is, where the value has as many keys
abbrev pub version_at : ℕ → Data → Option Version
version_at version d =
    if version == 1 then (if has_members 12 d then Some One else None)
    else (if version == 2 then (if has_members 15 d then Some Two else None)
    else (if version == 3 && has_members 16 d then Some Three else None))

-- the numbers of the line that a value is
unfoldable pub numbers_of : Data → Option Numbers
numbers_of d = do
  number ← number_at (codes "v") d
  version ← version_at (keys_of number d) d
  dropped ← list_at (codes "dropped") d >>= dropped_in
  now ← number_at (codes "now") d
  seq ← seq_at (codes "seq") d
  snapshot ← flag_at (codes "snapshot") d
  Some (record { dropped = dropped; now = now; seq = seq; snapshot = snapshot; version = version })

-- ---- the line

-- the lists of infos are there
abbrev pub has_infos : ListsView → Bool
has_infos lists = is_some lists.new_ops && is_some lists.new_resources && is_some lists.new_tasks

-- the lists of rows and counts are there
abbrev pub has_stats : ListsView → Bool
has_stats lists = is_some lists.op_stats && is_some lists.poll_counts && is_some lists.resource_stats && is_some lists.task_stats

-- each list is there that a line of any version has
abbrev pub are_whole : ListsView → Bool
are_whole lists = has_infos lists && has_stats lists

-- what is gone, where all three lists say it
abbrev pub gone_with : Option (List ℕ) → Option (List ℕ) → Option (List ℕ) → Option GoneView
gone_with gone_ops gone_resources gone_tasks = do
  ops ← gone_ops
  resources ← gone_resources
  tasks ← gone_tasks
  Some (record { ops = ops; resources = resources; tasks = tasks })

-- what only some versions say, by the version
abbrev pub said_with : Version → Option (List ℕ) → Option (List ℕ) → Option (List ℕ) → Option (List TaskTimes) → Option SaidView
said_with One gone_ops gone_resources gone_tasks task_times = Some (record { gone = None; times = None })
said_with Two gone_ops gone_resources gone_tasks task_times = do
  gone ← gone_with gone_ops gone_resources gone_tasks
  Some (record { gone = Some gone; times = None })
said_with Three gone_ops gone_resources gone_tasks task_times = do
  gone ← gone_with gone_ops gone_resources gone_tasks
  times ← task_times
  Some (record { gone = Some gone; times = Some times })

-- the line of these numbers and lists
unfoldable pub line_with : Numbers → ListsView → Option LineView
line_with n lists = do
  said ← said_with n.version lists.gone_ops lists.gone_resources lists.gone_tasks lists.task_times
  new_ops ← lists.new_ops
  new_resources ← lists.new_resources
  new_tasks ← lists.new_tasks
  op_stats ← lists.op_stats
  poll_counts ← lists.poll_counts
  resource_stats ← lists.resource_stats
  task_stats ← lists.task_stats
  Some (record { dropped = n.dropped; gone = said.gone; new_ops = new_ops; new_resources = new_resources; new_tasks = new_tasks; now = n.now; op_stats = op_stats; poll_counts = poll_counts; resource_stats = resource_stats; seq = n.seq; snapshot = n.snapshot; task_stats = task_stats; task_times = said.times })

-- the line of an object whose lists were read by themselves
abbrev pub line_of_lists : Data → ListsView → Option LineView
line_of_lists own lists = (numbers_of own >>= λ n. line_with n lists) >>= of_version (number_at (codes "v") own)
