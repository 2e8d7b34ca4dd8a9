-- How a line is spelled: the JSON value that it is, and the text of that. Reading is apart.
use Rattle.std.specs.Prelude.{ℕ, ℤ, pos, negsuc, ◌==◌, List, [], ◌∷◌, ◌++◌, map, codes, Bool, not, Option, Some, None}
use Rattle.std.specs.List.{list_all}
use Rattle.tk_core.specs.declared.op.row.OpRow.{OpRow}
use Rattle.tk_core.specs.declared.resource.row.ResourceRow.{ResourceRow}
use Rattle.tk_core.specs.declared.task.row.TaskRow.{TaskRow}
use Rattle.tk_core.specs.declared.task.wait.Waits.{Waits}
use Rattle.tk_ids.specs.declared.attr.AttrInfo.{AttrInfo}
use Rattle.tk_ids.specs.declared.attr.AttrKind.{AttrKind}
use Rattle.tk_ids.specs.declared.attr.AttrKind.TheVariants as kinds
use Rattle.tk_ids.specs.declared.attr.AttrValue.{AttrValue}
use Rattle.tk_ids.specs.declared.attr.AttrValue.TheVariants as values
use Rattle.tk_ids.specs.declared.info.Dropped.{Dropped}
use Rattle.tk_ids.specs.declared.info.OpInfo.{OpInfo}
use Rattle.tk_ids.specs.declared.info.ResourceInfo.{ResourceInfo}
use Rattle.tk_ids.specs.declared.info.TaskInfo.{TaskInfo}
use Rattle.tk_ids.specs.declared.location.Location.{Location}
use Rattle.tk_ids.specs.declared.spec.TaskKind.{TaskKind}
use Rattle.tk_ids.specs.declared.spec.TaskKind.TheVariants.{Spawn, Blocking}
use Rattle.serde_json.specs.Data.{Data, null, boolean, number, unsigned, negative, string, array, object, Members, no_members, member}
use Rattle.json.specs.Print.{quoted}
use Rattle.serde_json.specs.View.{items_of}
use Rattle.serde_json.specs.Written.{compact_text}
use Rattle.tk_stream.specs.Tables.{PollCounts}
use Rattle.tk_stream.specs.declared.tables.times.WaitTimes.{WaitTimes}
use Rattle.tk_stream.specs.Times.{TaskTimes, filled_from}
use Rattle.tk_stream.specs.Lines.{LineView, GoneView, version}

-- the members of a list of keys and values, in that order
abbrev pub members_in : List (List ℕ × Data) → Members
members_in [] = no_members
members_in (field ∷ fields) = member field.0 field.1 (members_in fields)

-- an object with exactly these members, in this order
abbrev pub object_with : List (List ℕ × Data) → Data
object_with fields = object (members_in fields)

-- the array of what a list's elements are spelled as
abbrev pub list_data : {A : Type 0} → (A → Data) → List A → Data
list_data spelling xs = array (items_of (map spelling xs))

-- a whole number
abbrev pub number_data : ℕ → Data
number_data n = number (unsigned n)

-- a moment or an id, or null where there is none
abbrev pub optional_data : Option ℕ → Data
optional_data None = null
optional_data (Some n) = number_data n

-- how a kind of task is called
abbrev pub kind_text : TaskKind → List ℕ
kind_text Spawn = codes "spawn"
kind_text Blocking = codes "blocking"

-- a place in a source file, as [file, line, column]
abbrev pub location_data : Location → Data
location_data at = array (items_of (string at.file ∷ number_data at.line ∷ number_data at.column ∷ []))

-- the totals of what was dropped, as [tasks, resources, ops]
abbrev pub dropped_data : Dropped → Data
dropped_data d = array (items_of (number_data d.tasks ∷ number_data d.resources ∷ number_data d.ops ∷ []))

-- how a kind of attribute is called
abbrev pub attr_kind_text : AttrKind → List ℕ
attr_kind_text kinds.U64 = codes "u64"
attr_kind_text kinds.Bool = codes "bool"
attr_kind_text kinds.I64 = codes "i64"

-- a text, or null where there is none
abbrev pub optional_text : Option (List ℕ) → Data
optional_text None = null
optional_text (Some text) = string text

-- an attribute of an item, as [name, unit or null, kind], of a unit that is spelled already
abbrev pub attr_members : List ℕ → Data → List ℕ → Data
attr_members name unit kind = array (items_of (string name ∷ unit ∷ string kind ∷ []))

-- an attribute of an item
abbrev pub attr_data : AttrInfo → Data
attr_data a = attr_members a.name (optional_text a.unit) (attr_kind_text a.kind)

-- a signed number
abbrev pub signed_data : ℤ → Data
signed_data (pos n) = number (unsigned n)
signed_data (negsuc n) = number (negative (negsuc n))

-- the value of an attribute: a number, or true or false, or a list of one signed number
abbrev pub value_data : AttrValue → Data
value_data (values.U64 n) = number_data n
value_data (values.Bool b) = boolean b
value_data (values.I64 n) = array (items_of (signed_data n ∷ []))

-- the poll counts of a resource, as [resource, ready, pending]
abbrev pub counts_data : PollCounts → Data
counts_data c = array (items_of (number_data c.0 ∷ number_data c.1 ∷ number_data c.2 ∷ []))

-- a bucket that isn't empty, as [bucket, count]
abbrev pub filled_data : ℕ × ℕ → Data
filled_data b = array (items_of (number_data b.0 ∷ number_data b.1 ∷ []))

-- how long a task waited: a number, or where its waits are counted [scheduled, in all, of the wait that lasts]
abbrev pub waits_data : ℕ → Option Waits → Data
waits_data sched None = number_data sched
waits_data sched (Some waits) = array (items_of (number_data sched ∷ number_data waits.total ∷ number_data waits.so_far ∷ []))

-- ---- objects, with their keys in byte order

-- the info of a task, of a location that is spelled already
abbrev pub info_members : ℕ → List ℕ → Data → List ℕ → Data
info_members id kind location name = object_with (
    (codes "id", number_data id) ∷
    (codes "kind", string kind) ∷
    (codes "loc", location) ∷
    (codes "name", string name) ∷ [])

-- the info of a task
abbrev pub info_data : TaskInfo → Data
info_data t = info_members t.id (kind_text t.kind) (location_data t.location) t.name

-- the members of a task's statistics
abbrev pub stats_fields : ℕ × TaskRow → List (List ℕ × Data)
stats_fields s =
    (codes "busy", number_data s.1.busy) ∷
    (codes "clones", number_data s.1.clones) ∷
    (codes "created", number_data s.1.created) ∷
    (codes "dropped", optional_data s.1.dropped) ∷
    (codes "drops", number_data s.1.drops) ∷
    (codes "first_poll", optional_data s.1.first_poll) ∷
    (codes "handles", number_data s.1.handles) ∷
    (codes "id", number_data s.0) ∷
    (codes "last_ended", optional_data s.1.last_ended) ∷
    (codes "last_started", optional_data s.1.last_started) ∷
    (codes "last_wake", optional_data s.1.last_wake) ∷
    (codes "polling", boolean s.1.polling) ∷
    (codes "polls", number_data s.1.polls) ∷
    (codes "sched", waits_data s.1.sched s.1.waits) ∷
    (codes "scheduled", boolean s.1.scheduled) ∷
    (codes "self_wakes", number_data s.1.self_wakes) ∷
    (codes "wakes", number_data s.1.wakes) ∷ []

-- a task's statistics: its id and its row
abbrev pub stats_data : ℕ × TaskRow → Data
stats_data s = object_with (stats_fields s)

-- the info of a resource, of attributes and parts that are spelled already. Its type stands under `type`
abbrev pub resource_members : Data → ℕ → List ℕ → Data → Data → List ℕ → Data
resource_members attrs id kind location parent concrete = object_with (
    (codes "attrs", attrs) ∷
    (codes "id", number_data id) ∷
    (codes "kind", string kind) ∷
    (codes "loc", location) ∷
    (codes "parent", parent) ∷
    (codes "type", string concrete) ∷ [])

-- the info of a resource
abbrev pub resource_data : ResourceInfo → Data
resource_data r =
    resource_members (list_data attr_data r.attrs) r.id r.kind (location_data r.location) (optional_data r.parent) r.concrete

-- the members of a resource's statistics
abbrev pub resource_stats_fields : ℕ × ResourceRow → List (List ℕ × Data)
resource_stats_fields s =
    (codes "attrs", list_data value_data s.1.attrs) ∷
    (codes "created", number_data s.1.created) ∷
    (codes "dropped", optional_data s.1.dropped) ∷
    (codes "handles", number_data s.1.handles) ∷
    (codes "id", number_data s.0) ∷ []

-- a resource's statistics: its id and its row
abbrev pub resource_stats_data : ℕ × ResourceRow → Data
resource_stats_data s = object_with (resource_stats_fields s)

-- the info of an async operation, of attributes and parts that are spelled already
abbrev pub op_members : Data → ℕ → Data → ℕ → List ℕ → Data
op_members attrs id parent resource source = object_with (
    (codes "attrs", attrs) ∷
    (codes "id", number_data id) ∷
    (codes "parent", parent) ∷
    (codes "resource", number_data resource) ∷
    (codes "source", string source) ∷ [])

-- the info of an async operation
abbrev pub op_data : OpInfo → Data
op_data o = op_members (list_data attr_data o.attrs) o.id (optional_data o.parent) o.resource o.source

-- the members of an async operation's statistics
abbrev pub op_stats_fields : ℕ × OpRow → List (List ℕ × Data)
op_stats_fields s =
    (codes "attrs", list_data value_data s.1.attrs) ∷
    (codes "busy", number_data s.1.busy) ∷
    (codes "created", number_data s.1.created) ∷
    (codes "dropped", optional_data s.1.dropped) ∷
    (codes "first_poll", optional_data s.1.first_poll) ∷
    (codes "handles", number_data s.1.handles) ∷
    (codes "id", number_data s.0) ∷
    (codes "last_ended", optional_data s.1.last_ended) ∷
    (codes "last_started", optional_data s.1.last_started) ∷
    (codes "polling", boolean s.1.polling) ∷
    (codes "polls", number_data s.1.polls) ∷
    (codes "task", optional_data s.1.task) ∷ []

-- an async operation's statistics: its id and its row
abbrev pub op_stats_data : ℕ × OpRow → Data
op_stats_data s = object_with (op_stats_fields s)

-- the counts of a histogram: only buckets that aren't empty, in rising order
abbrev pub buckets_data : List ℕ → Data
buckets_data counts = list_data filled_data (filled_from 0 counts)

-- the members of a histogram of waits, where there is one
abbrev pub waits_fields : Option WaitTimes → List (List ℕ × Data)
waits_fields None = []
waits_fields (Some w) = (codes "longest_wait", number_data w.longest) ∷ (codes "waits", buckets_data w.counts) ∷ []

-- the members of a task's histograms
abbrev pub times_members : TaskTimes → List (List ℕ × Data)
times_members t =
    (codes "counts", buckets_data t.1.counts) ∷
    (codes "id", number_data t.0) ∷
    (codes "longest", number_data t.1.longest) ∷ waits_fields t.1.waits

-- a task's histogram of poll times, and that of its waits where there is one
abbrev pub times_data : TaskTimes → Data
times_data t = object_with (times_members t)

-- the members that say what is gone
abbrev pub gone_fields : GoneView → List (List ℕ × Data)
gone_fields g =
    (codes "gone_ops", list_data number_data g.ops) ∷
    (codes "gone_resources", list_data number_data g.resources) ∷
    (codes "gone_tasks", list_data number_data g.tasks) ∷ []

-- these, where a line says what is gone
abbrev pub gone_members : Option GoneView → List (List ℕ × Data)
gone_members None = []
gone_members (Some gone) = gone_fields gone

-- the member that tells histograms of tasks' poll times, where a line does
abbrev pub times_fields : Option (List TaskTimes) → List (List ℕ × Data)
times_fields None = []
times_fields (Some times) = (codes "task_times", list_data times_data times) ∷ []

-- the text of members that stand after others
abbrev pub text_after : List (List ℕ × Data) → List ℕ
text_after [] = []
text_after (field ∷ fields) = 44 ∷ (quoted field.0 ++ 58 ∷ (compact_text field.1 ++ text_after fields))

-- the members that a line of each version has, between its first and its last
abbrev pub members_between : LineView → List (List ℕ × Data)
members_between l =
    (codes "new_ops", list_data op_data l.new_ops) ∷
    (codes "new_resources", list_data resource_data l.new_resources) ∷
    (codes "new_tasks", list_data info_data l.new_tasks) ∷
    (codes "now", number_data l.now) ∷
    (codes "op_stats", list_data op_stats_data l.op_stats) ∷
    (codes "poll_counts", list_data counts_data l.poll_counts) ∷
    (codes "resource_stats", list_data resource_stats_data l.resource_stats) ∷
    (codes "seq", number_data l.seq) ∷
    (codes "snapshot", boolean l.snapshot) ∷
    (codes "task_stats", list_data stats_data l.task_stats) ∷ []

-- the members of a line
abbrev pub line_members : LineView → List (List ℕ × Data)
line_members l =
    (codes "dropped", dropped_data l.dropped) ∷
    gone_members l.gone ++ (members_between l ++ (times_fields l.task_times ++ (codes "v", number_data (version l)) ∷ []))

-- a line
unfoldable pub line_data : LineView → Data
line_data l = object_with (line_members l)

-- ---- text

-- the text of a line: compact, and without a line end
unfoldable pub line_text : LineView → List ℕ
line_text l = compact_text (line_data l)

-- the byte that ends a line
abbrev pub line_end : ℕ
line_end = 10

-- what a stream has of a line: its text and a line end
abbrev pub sent_text : LineView → List ℕ
sent_text l = line_text l ++ line_end ∷ []

-- whether bytes have no line end
abbrev pub is_one_line : List ℕ → Bool
is_one_line bytes = list_all (λ b. not (b == line_end)) bytes
