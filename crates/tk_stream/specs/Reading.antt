-- Which line a text is. Each definition is a partial function of a JSON value: `None` where the value is not of the shape.
use Rattle.std.specs.Prelude.{ℕ, ◌^◌, List, [], ◌∷◌, length, codes, Bool, false, ◌==◌, ◌&&◌, nat_le, nat_lt, Option, Some, None, option_map, option_and_then, if◌then◌else◌, Result, Ok, Err}
use Rattle.std.specs.Option.{option_map_or}
use Rattle.std.specs.Str.{is_utf8, bytes_eq}
use Rattle.tk_core.specs.declared.op.row.OpRow.{OpRow}
use Rattle.tk_core.specs.declared.resource.row.ResourceRow.{ResourceRow}
use Rattle.tk_core.specs.declared.task.row.TaskRow.{TaskRow}
use Rattle.tk_core.specs.declared.task.wait.Waits.{Waits}
use Rattle.tk_ids.specs.Attributes.{are_attributes, info_names}
use Rattle.tk_ids.specs.Ids.{is_id}
use Rattle.tk_ids.specs.Names.{is_name}
use Rattle.tk_ids.specs.declared.attr.AttrInfo.{AttrInfo}
use Rattle.tk_ids.specs.declared.attr.AttrKind.{AttrKind}
use Rattle.tk_ids.specs.declared.attr.AttrKind.TheVariants as kinds
use Rattle.tk_ids.specs.declared.attr.AttrValue.{AttrValue}
use Rattle.tk_ids.specs.declared.attr.AttrValue.TheVariants as values
use Rattle.tk_ids.specs.declared.info.Dropped.{Dropped}
use Rattle.tk_ids.specs.declared.info.OpInfo.{OpInfo}
use Rattle.tk_ids.specs.declared.info.ResourceInfo.{ResourceInfo}
use Rattle.tk_ids.specs.declared.info.TaskInfo.{TaskInfo}
use Rattle.tk_ids.specs.declared.location.Location.{Location}
use Rattle.tk_ids.specs.declared.spec.TaskKind.{TaskKind}
use Rattle.tk_ids.specs.declared.spec.TaskKind.TheVariants.{Spawn, Blocking}
use Rattle.serde_json.specs.Data.{Data, null, boolean, array, Items, no_items, item}
use Rattle.serde_json.specs.Events.{members_len}
use Rattle.serde_json.specs.Find.{get, as_u64, as_i64, as_number, as_bool, as_str, as_array, as_object}
use Rattle.serde_json.specs.Read.{read}
use Rattle.tk_stream.specs.declared.error.LineError.{LineError}
use Rattle.tk_stream.specs.declared.error.LineError.TheVariants.{BadJson}
use Rattle.tk_stream.specs.Tables.{PollCounts}
use Rattle.tk_stream.specs.declared.tables.times.WaitTimes.{WaitTimes}
use Rattle.tk_stream.specs.Times.{TaskTimes, counts_from}
use Rattle.tk_stream.specs.Lines.{LineView, GoneView, is_seq, version}
use Rattle.tk_stream.specs.Outcome.{shaped, ◌then◌}

infixl 10 ◌>>=◌
-- the next step, where there is something
abbrev pub ◌>>=◌ : {A B : Type 0} → Option A → (A → Option B) → Option B
o >>= f = option_and_then f o

-- ---- parts of a value

-- an object with this many members. An object has no key twice, so with a value at each of as many keys it has these keys
-- and no others
abbrev pub has_members : ℕ → Data → Bool
has_members n d = option_map_or (λ ms. members_len ms == n) (as_object d) false

-- a number that is read as unsigned
abbrev pub number_of : Data → Option ℕ
number_of d = option_and_then as_u64 (as_number d)

-- null stands for what is absent
abbrev pub optional_of : Data → Option (Option ℕ)
optional_of null = Some None
optional_of d = option_map Some (number_of d)

-- the value of an id
abbrev pub id_of : Data → Option ℕ
id_of d = number_of d >>= λ n. if is_id n then Some n else None

-- the value of an id, or null where there is none
abbrev pub optional_id_of : Data → Option (Option ℕ)
optional_id_of null = Some None
optional_id_of d = option_map Some (id_of d)

-- a text that is a name
abbrev pub name_of : Data → Option (List ℕ)
name_of d = as_str d >>= λ s. if is_name s then Some s else None

-- a text that is a name, or null where there is none
abbrev pub optional_name_of : Data → Option (Option (List ℕ))
optional_name_of null = Some None
optional_name_of d = option_map Some (name_of d)

-- a number below 2^32
abbrev pub small_of : Data → Option ℕ
small_of d = number_of d >>= λ n. if nat_lt n (2 ^ 32) then Some n else None

-- the values of an array
abbrev pub values_of : Items → List Data
values_of no_items = []
values_of (item d ds) = d ∷ values_of ds

-- the values of an array
abbrev pub list_of : Data → Option (List Data)
list_of d = option_map values_of (as_array d)

-- what each of the values is, where each is something
abbrev pub each_of : {D A : Type 0} → (D → Option A) → List D → Option (List A)
each_of shape [] = Some []
each_of shape (d ∷ ds) = shape d >>= λ x. option_map (λ xs. x ∷ xs) (each_of shape ds)

-- ---- what stands at a key

-- a number
abbrev pub number_at : List ℕ → Data → Option ℕ
number_at key d = get key d >>= number_of

-- a number, or null
abbrev pub optional_at : List ℕ → Data → Option (Option ℕ)
optional_at key d = get key d >>= optional_of

-- `true` or `false`
abbrev pub flag_at : List ℕ → Data → Option Bool
flag_at key d = get key d >>= as_bool

-- a text
abbrev pub text_at : List ℕ → Data → Option (List ℕ)
text_at key d = get key d >>= as_str

-- the values of an array
abbrev pub list_at : List ℕ → Data → Option (List Data)
list_at key d = option_map values_of (get key d >>= as_array)

-- an id
abbrev pub id_at : List ℕ → Data → Option ℕ
id_at key d = get key d >>= id_of

-- an id, or null
abbrev pub optional_id_at : List ℕ → Data → Option (Option ℕ)
optional_id_at key d = get key d >>= optional_id_of

-- a text that is a name
abbrev pub name_at : List ℕ → Data → Option (List ℕ)
name_at key d = get key d >>= name_of

-- ---- attributes and places

-- a place: [file, line, column]
abbrev pub location_in : List Data → Option Location
location_in (f ∷ l ∷ c ∷ []) = do
  file ← name_of f
  line ← small_of l
  column ← small_of c
  Some (record { file = file; line = line; column = column })
location_in _ = None

-- a place
abbrev pub location_at : List ℕ → Data → Option Location
location_at key d = list_at key d >>= location_in

-- the kind of an attribute by what it is called
abbrev pub attr_kind_of : List ℕ → Option AttrKind
attr_kind_of s = if bytes_eq s (codes "u64") then Some kinds.U64 else (if bytes_eq s (codes "bool") then Some kinds.Bool else (if bytes_eq s (codes "i64") then Some kinds.I64 else None))

-- an attribute: [name, unit or null, kind]
abbrev pub attr_in : List Data → Option AttrInfo
attr_in (n ∷ u ∷ k ∷ []) = do
  name ← name_of n
  unit ← optional_name_of u
  kind ← as_str k >>= attr_kind_of
  Some (record { name = name; unit = unit; kind = kind })
attr_in _ = None

-- an attribute of an item
abbrev pub attr_of : Data → Option AttrInfo
attr_of d = list_of d >>= attr_in

-- the attributes of an item: at most 6, and no two of one name
unfoldable pub attrs_in : List Data → Option (List AttrInfo)
attrs_in ds = each_of attr_of ds >>= λ attrs. if are_attributes (info_names attrs) then Some attrs else None

-- a signed value: a list of one number that is read as signed
abbrev pub signed_in : List Data → Option AttrValue
signed_in (d ∷ []) = option_map values.I64 (option_and_then as_i64 (as_number d))
signed_in _ = None

-- the value of an attribute: true or false, a list of one signed number, or a number
abbrev pub value_of : Data → Option AttrValue
value_of (boolean b) = Some (values.Bool b)
value_of (array ds) = signed_in (values_of ds)
value_of d = option_map values.U64 (number_of d)

-- the values of an item's attributes: at most 6
unfoldable pub values_in : List Data → Option (List AttrValue)
values_in ds = each_of value_of ds >>= λ vs. if nat_le (length vs) 6 then Some vs else None

-- what was counted of one wait: a number below 2^56
abbrev pub so_far_of : Data → Option ℕ
so_far_of d = number_of d >>= λ n. if nat_lt n (2 ^ 56) then Some n else None

-- [scheduled, in all, of the wait that lasts]
abbrev pub waits_in : List Data → Option (ℕ × Option Waits)
waits_in (s ∷ w ∷ f ∷ []) = do
  sched ← number_of s
  total ← number_of w
  so_far ← so_far_of f
  Some (sched, Some (record { total = total; so_far = so_far }))
waits_in _ = None

-- how long a task waited: a number, or [scheduled, in all, of the wait that lasts]
abbrev pub waits_of : Data → Option (ℕ × Option Waits)
waits_of (array ds) = waits_in (values_of ds)
waits_of d = option_map (λ n. (n, None)) (number_of d)

-- the same, at a key
abbrev pub waits_at : List ℕ → Data → Option (ℕ × Option Waits)
waits_at key d = get key d >>= waits_of

-- ---- infos

-- a kind of task by what it is called
abbrev pub kind_of : List ℕ → Option TaskKind
kind_of s = if bytes_eq s (codes "spawn") then Some Spawn else (if bytes_eq s (codes "blocking") then Some Blocking else None)

-- the info of a task, of exactly these keys
unfoldable pub info_of : Data → Option TaskInfo
info_of d = if has_members 4 d then (do
  id ← id_at (codes "id") d
  kind ← text_at (codes "kind") d >>= kind_of
  location ← location_at (codes "loc") d
  name ← name_at (codes "name") d
  Some (record { id = id; kind = kind; name = name; location = location }))
    else None

-- the parts of a resource's info, with its attributes as values
pub record ResourceView : Type 0 where
  pub attrs : List Data
  pub id : ℕ
  pub kind : List ℕ
  pub location : Location
  pub parent : Option ℕ
  pub concrete : List ℕ

-- the parts of a resource's info, of exactly these keys
unfoldable pub resource_parts : Data → Option ResourceView
resource_parts d = if has_members 6 d then (do
  attrs ← list_at (codes "attrs") d
  id ← id_at (codes "id") d
  kind ← name_at (codes "kind") d
  location ← location_at (codes "loc") d
  parent ← optional_id_at (codes "parent") d
  concrete ← name_at (codes "type") d
  Some (record { attrs = attrs; id = id; kind = kind; location = location; parent = parent; concrete = concrete }))
    else None

-- the info of a resource
unfoldable pub resource_of : Data → Option ResourceInfo
resource_of d = do
  p ← resource_parts d
  attrs ← attrs_in p.attrs
  Some (record { id = p.id; parent = p.parent; concrete = p.concrete; kind = p.kind; location = p.location; attrs = attrs })

-- the parts of an async operation's info, with its attributes as values
pub record OpView : Type 0 where
  pub attrs : List Data
  pub id : ℕ
  pub parent : Option ℕ
  pub resource : ℕ
  pub source : List ℕ

-- the parts of an async operation's info, of exactly these keys
unfoldable pub op_parts : Data → Option OpView
op_parts d = if has_members 5 d then (do
  attrs ← list_at (codes "attrs") d
  id ← id_at (codes "id") d
  parent ← optional_id_at (codes "parent") d
  resource ← id_at (codes "resource") d
  source ← name_at (codes "source") d
  Some (record { attrs = attrs; id = id; parent = parent; resource = resource; source = source }))
    else None

-- the info of an async operation
unfoldable pub op_of : Data → Option OpInfo
op_of d = do
  p ← op_parts d
  attrs ← attrs_in p.attrs
  Some (record { id = p.id; source = p.source; resource = p.resource; parent = p.parent; attrs = attrs })

-- ---- statistics and counts

-- a task's id and row, of exactly these keys
unfoldable pub stats_of : Data → Option (ℕ × TaskRow)
stats_of d = if has_members 17 d then (do
  busy ← number_at (codes "busy") d
  clones ← number_at (codes "clones") d
  created ← number_at (codes "created") d
  dropped ← optional_at (codes "dropped") d
  drops ← number_at (codes "drops") d
  first_poll ← optional_at (codes "first_poll") d
  handles ← number_at (codes "handles") d
  id ← id_at (codes "id") d
  last_ended ← optional_at (codes "last_ended") d
  last_started ← optional_at (codes "last_started") d
  last_wake ← optional_at (codes "last_wake") d
  polling ← flag_at (codes "polling") d
  polls ← number_at (codes "polls") d
  waits ← waits_at (codes "sched") d
  scheduled ← flag_at (codes "scheduled") d
  self_wakes ← number_at (codes "self_wakes") d
  wakes ← number_at (codes "wakes") d
  Some (id, record { created = created; dropped = dropped; polls = polls; first_poll = first_poll; last_started = last_started; last_ended = last_ended; busy = busy; wakes = wakes; self_wakes = self_wakes; last_wake = last_wake; clones = clones; drops = drops; handles = handles; sched = waits.0; waits = waits.1; polling = polling; scheduled = scheduled }))
    else None

-- a resource's id and row, with attribute values that were read, of exactly these keys and `attrs`
unfoldable pub resource_stats_with : List AttrValue → Data → Option (ℕ × ResourceRow)
resource_stats_with attrs d = if has_members 5 d then (do
  created ← number_at (codes "created") d
  dropped ← optional_at (codes "dropped") d
  handles ← number_at (codes "handles") d
  id ← id_at (codes "id") d
  Some (id, record { created = created; dropped = dropped; handles = handles; attrs = attrs }))
    else None

-- a resource's id and row, of exactly these keys, with its attribute values at `attrs`
unfoldable pub resource_stats_of : Data → Option (ℕ × ResourceRow)
resource_stats_of d = do
  list ← list_at (codes "attrs") d
  attrs ← values_in list
  resource_stats_with attrs d

-- an async operation's id and row, with attribute values that were read, of exactly these keys and `attrs`
unfoldable pub op_stats_with : List AttrValue → Data → Option (ℕ × OpRow)
op_stats_with attrs d = if has_members 12 d then (do
  busy ← number_at (codes "busy") d
  created ← number_at (codes "created") d
  dropped ← optional_at (codes "dropped") d
  first_poll ← optional_at (codes "first_poll") d
  handles ← number_at (codes "handles") d
  id ← id_at (codes "id") d
  last_ended ← optional_at (codes "last_ended") d
  last_started ← optional_at (codes "last_started") d
  polling ← flag_at (codes "polling") d
  polls ← number_at (codes "polls") d
  task ← optional_id_at (codes "task") d
  Some (id, record { created = created; dropped = dropped; polls = polls; first_poll = first_poll; last_started = last_started; last_ended = last_ended; busy = busy; handles = handles; task = task; polling = polling; attrs = attrs }))
    else None

-- an async operation's id and row, of exactly these keys, with its attribute values at `attrs`
unfoldable pub op_stats_of : Data → Option (ℕ × OpRow)
op_stats_of d = do
  list ← list_at (codes "attrs") d
  attrs ← values_in list
  op_stats_with attrs d

-- poll counts: [resource, ready, pending]
abbrev pub counts_in : List Data → Option PollCounts
counts_in (r ∷ y ∷ p ∷ []) = do
  resource ← id_of r
  ready ← number_of y
  pending ← number_of p
  Some (resource, ready, pending)
counts_in _ = None

-- the poll counts of a resource
abbrev pub counts_of : Data → Option PollCounts
counts_of d = list_of d >>= counts_in

-- a bucket that isn't empty: [bucket, count]
abbrev pub filled_in : List Data → Option (ℕ × ℕ)
filled_in (b ∷ c ∷ []) = do
  bucket ← number_of b
  count ← number_of c
  Some (bucket, count)
filled_in _ = None

-- a bucket that isn't empty
abbrev pub filled_of : Data → Option (ℕ × ℕ)
filled_of d = list_of d >>= filled_in

-- the counts of fourteen buckets, by those that aren't empty
unfoldable pub buckets_in : List Data → Option (List ℕ)
buckets_in ds = each_of filled_of ds >>= counts_from 0 14

-- the counts of fourteen buckets, at a key
abbrev pub buckets_at : List ℕ → Data → Option (List ℕ)
buckets_at key d = list_at key d >>= buckets_in

-- a histogram of waits
unfoldable pub wait_times_of : Data → Option WaitTimes
wait_times_of d = do
  longest ← number_at (codes "longest_wait") d
  counts ← buckets_at (codes "waits") d
  Some (record { longest = longest; counts = counts })

-- the histogram of a task's waits beside that of its polls: none, where the object has the three keys of polls alone, and one at the two
-- further keys of an object of five
unfoldable pub waits_beside : Data → Option (Option WaitTimes)
waits_beside d = if has_members 3 d then Some None else (if has_members 5 d then option_map Some (wait_times_of d) else None)

-- a task's histogram of poll times, and that of its waits where it is there, of exactly these keys
unfoldable pub times_of : Data → Option TaskTimes
times_of d = do
  waits ← waits_beside d
  counts ← buckets_at (codes "counts") d
  id ← id_at (codes "id") d
  longest ← number_at (codes "longest") d
  Some (id, record { longest = longest; counts = counts; waits = waits })

-- ---- a line

-- the totals of what was dropped: [tasks, resources, ops]
abbrev pub dropped_in : List Data → Option Dropped
dropped_in (t ∷ r ∷ o ∷ []) = do
  tasks ← number_of t
  resources ← number_of r
  ops ← number_of o
  Some (record { tasks = tasks; resources = resources; ops = ops })
dropped_in _ = None

-- the number of a line
abbrev pub seq_at : List ℕ → Data → Option ℕ
seq_at key d = number_at key d >>= λ n. if is_seq n then Some n else None

-- the lists of what is gone, as values
pub record GoneParts : Type 0 where
  pub ops : List Data
  pub resources : List Data
  pub tasks : List Data

-- the lists of what is gone
abbrev pub gone_lists : Data → Option GoneParts
gone_lists d = do
  ops ← list_at (codes "gone_ops") d
  resources ← list_at (codes "gone_resources") d
  tasks ← list_at (codes "gone_tasks") d
  Some (record { ops = ops; resources = resources; tasks = tasks })

-- what only some versions of the format say: what is gone, and the list of histograms of poll times, as values
pub record SaidParts : Type 0 where
  pub gone : Option GoneParts
  pub times : Option (List Data)

-- what version 1 says of these: nothing
abbrev pub nothing_said : SaidParts
nothing_said = record { gone = None; times = None }

-- what version 2 says: what is gone
abbrev pub gone_said : GoneParts → SaidParts
gone_said gone = record { gone = Some gone; times = None }

-- what version 3 says: both
abbrev pub both_said : GoneParts → List Data → SaidParts
both_said gone times = record { gone = Some gone; times = Some times }

-- which of the other versions' keys a line has: one of version 4 has those of 1, 2 or 3, by how many they are
abbrev pub keys_of : ℕ → Data → ℕ
keys_of version d = if version == 4 then (if has_members 12 d then 1 else (if has_members 15 d then 2 else 3)) else version

-- what a line says of these by the version of the format, which has so many keys; there are no other versions
unfoldable pub said_at : ℕ → Data → Option SaidParts
said_at version d =
    if version == 1 then (if has_members 12 d then Some nothing_said else None)
    else (if version == 2 then (if has_members 15 d then option_map gone_said (gone_lists d) else None)
    else (if version == 3 && has_members 16 d then (gone_lists d >>= λ gone. option_map (both_said gone) (list_at (codes "task_times") d)) else None))

-- the ids of what is gone
abbrev pub ids_gone : GoneParts → Option GoneView
ids_gone g = do
  ops ← each_of id_of g.ops
  resources ← each_of id_of g.resources
  tasks ← each_of id_of g.tasks
  Some (record { ops = ops; resources = resources; tasks = tasks })

-- these, where a line says what is gone
abbrev pub gone_of_parts : Option GoneParts → Option (Option GoneView)
gone_of_parts None = Some None
gone_of_parts (Some g) = option_map Some (ids_gone g)

-- the histograms, where a line tells some
abbrev pub times_of_parts : Option (List Data) → Option (Option (List TaskTimes))
times_of_parts None = Some None
times_of_parts (Some ds) = option_map Some (each_of times_of ds)

-- what only some versions of the format say
pub record SaidView : Type 0 where
  pub gone : Option GoneView
  pub times : Option (List TaskTimes)

-- what only some versions say, where each of its values is of its kind
abbrev pub said_of_parts : SaidParts → Option SaidView
said_of_parts s = do
  gone ← gone_of_parts s.gone
  times ← times_of_parts s.times
  Some (record { gone = gone; times = times })

-- the parts of a line, with its lists as values
pub record PartsView : Type 0 where
  pub dropped : Dropped
  pub said : SaidParts
  pub new_ops : List Data
  pub new_resources : List Data
  pub new_tasks : List Data
  pub now : ℕ
  pub op_stats : List Data
  pub poll_counts : List Data
  pub resource_stats : List Data
  pub seq : ℕ
  pub snapshot : Bool
  pub task_stats : List Data

-- the parts of a line, of exactly these keys
unfoldable pub parts_of : Data → Option PartsView
parts_of d = do
  version ← number_at (codes "v") d
  said ← said_at (keys_of version d) d
  dropped ← list_at (codes "dropped") d >>= dropped_in
  new_ops ← list_at (codes "new_ops") d
  new_resources ← list_at (codes "new_resources") d
  new_tasks ← list_at (codes "new_tasks") d
  now ← number_at (codes "now") d
  op_stats ← list_at (codes "op_stats") d
  poll_counts ← list_at (codes "poll_counts") d
  resource_stats ← list_at (codes "resource_stats") d
  seq ← seq_at (codes "seq") d
  snapshot ← flag_at (codes "snapshot") d
  task_stats ← list_at (codes "task_stats") d
  Some (record { dropped = dropped; said = said; new_ops = new_ops; new_resources = new_resources; new_tasks = new_tasks; now = now; op_stats = op_stats; poll_counts = poll_counts; resource_stats = resource_stats; seq = seq; snapshot = snapshot; task_stats = task_stats })

-- the line that a value is, whose version is still to be compared: it has exactly the keys of its version, each with a value of its kind
unfoldable pub line_in : Data → Option LineView
line_in d = do
  p ← parts_of d
  said ← said_of_parts p.said
  new_ops ← each_of op_of p.new_ops
  new_resources ← each_of resource_of p.new_resources
  new_tasks ← each_of info_of p.new_tasks
  op_stats ← each_of op_stats_of p.op_stats
  poll_counts ← each_of counts_of p.poll_counts
  resource_stats ← each_of resource_stats_of p.resource_stats
  task_stats ← each_of stats_of p.task_stats
  Some (record { dropped = p.dropped; gone = said.gone; new_ops = new_ops; new_resources = new_resources; new_tasks = new_tasks; now = p.now; op_stats = op_stats; poll_counts = poll_counts; resource_stats = resource_stats; seq = p.seq; snapshot = p.snapshot; task_stats = task_stats; task_times = said.times })

-- a line, where this is its version
abbrev pub of_version : Option ℕ → LineView → Option LineView
of_version None l = None
of_version (Some n) l = if version l == n then Some l else None

-- the line that a value is: of its version
unfoldable pub line_of : Data → Option LineView
line_of d = line_in d >>= of_version (number_at (codes "v") d)

-- ---- a text

-- the value that serde_json reads. It reads no bytes that are not UTF-8, and no value that nests deeper than 127
unfoldable pub json_of : List ℕ → Option Data
json_of bytes = if is_utf8 bytes then read bytes else None

-- the value that serde_json reads, or that it reads none
abbrev pub json_or_fault : List ℕ → Result Data LineError
json_or_fault bytes = option_map_or Ok (json_of bytes) (Err BadJson)

-- what reading these bytes as a line answers
abbrev pub line_of_text : List ℕ → Result LineView LineError
line_of_text bytes = json_or_fault bytes then (λ d. shaped (line_of d))
