-- The values of a line's types: numbers are below 2^64, ids are ids and names are names.
use Rattle.std.specs.Prelude.{◌≡◌, ℕ, ◌^◌, ◌<◌, ◌≤◌, List, length, true, Option, IfSome, IsSome}
use Rattle.std.specs.List.{AllByRecursion}
use Rattle.tk_core.specs.Attributes.{is_i64}
use Rattle.tk_core.specs.declared.op.row.OpRow.{OpRow}
use Rattle.tk_core.specs.declared.resource.row.ResourceRow.{ResourceRow}
use Rattle.tk_core.specs.declared.task.row.TaskRow.{TaskRow}
use Rattle.tk_core.specs.declared.task.wait.Waits.{Waits}
use Rattle.tk_ids.specs.Attributes.{are_attributes, info_names}
use Rattle.tk_ids.specs.Ids.{is_id}
use Rattle.tk_ids.specs.Names.{is_name}
use Rattle.tk_ids.specs.declared.attr.AttrInfo.{AttrInfo}
use Rattle.tk_ids.specs.declared.attr.AttrValue.{AttrValue}
use Rattle.tk_ids.specs.declared.attr.AttrValue.TheVariants as values
use Rattle.tk_ids.specs.declared.info.Dropped.{Dropped}
use Rattle.tk_ids.specs.declared.info.OpInfo.{OpInfo}
use Rattle.tk_ids.specs.declared.info.ResourceInfo.{ResourceInfo}
use Rattle.tk_ids.specs.declared.info.TaskInfo.{TaskInfo}
use Rattle.tk_ids.specs.declared.location.Location.{Location}
use Rattle.tk_stream.specs.Tables.{PollCounts}
use Rattle.tk_stream.specs.declared.tables.times.WaitTimes.{WaitTimes}
use Rattle.tk_stream.specs.Times.{TaskTimes}
use Rattle.tk_stream.specs.Lines.{LineView, GoneView, is_seq}

-- a number of 64 bits
abbrev pub IsNumber : ℕ → Type 0
IsNumber n = n < 2 ^ 64

-- a number of 64 bits, where there is one
abbrev pub IsOptional : Option ℕ → Type 0
IsOptional n = IfSome n IsNumber

-- an id
abbrev pub IsId : ℕ → Type 0
IsId n = is_id n ≡ true

-- an id, where there is one
abbrev pub IsOptionalId : Option ℕ → Type 0
IsOptionalId n = IfSome n IsId

-- a name
abbrev pub IsName : List ℕ → Type 0
IsName text = is_name text ≡ true

-- a place: the name of a file, and a line and a column of 32 bits
pub record IsLocation (at : Location) : Type 0 where
  pub file : IsName at.file
  pub line : at.line < 2 ^ 32
  pub column : at.column < 2 ^ 32

-- an attribute: a name, and a unit that is a name
pub record IsAttr (a : AttrInfo) : Type 0 where
  pub name : IsName a.name
  pub unit : IfSome a.unit IsName

-- a value of 64 bits, signed or not, or a flag
abbrev pub IsValue : AttrValue → Type 0
IsValue (values.U64 n) = IsNumber n
IsValue (values.Bool b) = Unit {0}
IsValue (values.I64 n) = is_i64 n ≡ true

-- the attributes of an item: at most 6, and no two of one name
pub record AreAttrs (attrs : List AttrInfo) : Type 0 where
  pub each : AllByRecursion IsAttr attrs
  pub all : are_attributes (info_names attrs) ≡ true

-- the values of an item's attributes: at most 6
pub record AreValues (vs : List AttrValue) : Type 0 where
  pub each : AllByRecursion IsValue vs
  pub few : length vs ≤ 6

-- what stays of a task
pub record IsTaskInfo (t : TaskInfo) : Type 0 where
  pub id : IsId t.id
  pub name : IsName t.name
  pub location : IsLocation t.location

-- what stays of a resource
pub record IsResourceInfo (r : ResourceInfo) : Type 0 where
  pub id : IsId r.id
  pub parent : IsOptionalId r.parent
  pub concrete : IsName r.concrete
  pub kind : IsName r.kind
  pub location : IsLocation r.location
  pub attrs : AreAttrs r.attrs

-- what stays of an async operation
pub record IsOpInfo (o : OpInfo) : Type 0 where
  pub id : IsId o.id
  pub source : IsName o.source
  pub resource : IsId o.resource
  pub parent : IsOptionalId o.parent
  pub attrs : AreAttrs o.attrs

-- what is counted of a task's waits: a number, and what was counted of one wait
pub record AreWaits (waits : Waits) : Type 0 where
  pub total : IsNumber waits.total
  pub so_far : waits.so_far < 2 ^ 56

-- a task's id and row: its counts, sums and moments are numbers of 64 bits
pub record AreTaskStats (s : ℕ × TaskRow) : Type 0 where
  pub id : IsId s.0
  pub created : IsNumber s.1.created
  pub dropped : IsOptional s.1.dropped
  pub polls : IsNumber s.1.polls
  pub first_poll : IsOptional s.1.first_poll
  pub last_started : IsOptional s.1.last_started
  pub last_ended : IsOptional s.1.last_ended
  pub busy : IsNumber s.1.busy
  pub wakes : IsNumber s.1.wakes
  pub self_wakes : IsNumber s.1.self_wakes
  pub last_wake : IsOptional s.1.last_wake
  pub clones : IsNumber s.1.clones
  pub drops : IsNumber s.1.drops
  pub handles : IsNumber s.1.handles
  pub sched : IsNumber s.1.sched
  pub waits : IfSome s.1.waits AreWaits

-- a resource's id and row
pub record AreResourceStats (s : ℕ × ResourceRow) : Type 0 where
  pub id : IsId s.0
  pub created : IsNumber s.1.created
  pub dropped : IsOptional s.1.dropped
  pub handles : IsNumber s.1.handles
  pub attrs : AreValues s.1.attrs

-- an async operation's id and row
pub record AreOpStats (s : ℕ × OpRow) : Type 0 where
  pub id : IsId s.0
  pub created : IsNumber s.1.created
  pub dropped : IsOptional s.1.dropped
  pub polls : IsNumber s.1.polls
  pub first_poll : IsOptional s.1.first_poll
  pub last_started : IsOptional s.1.last_started
  pub last_ended : IsOptional s.1.last_ended
  pub busy : IsNumber s.1.busy
  pub handles : IsNumber s.1.handles
  pub task : IsOptionalId s.1.task
  pub attrs : AreValues s.1.attrs

-- a resource's poll counts
pub record AreCounts (c : PollCounts) : Type 0 where
  pub resource : IsId c.0
  pub ready : IsNumber c.1
  pub pending : IsNumber c.2

-- a histogram of waits: the counts of fourteen buckets
pub record AreWaitTimes (w : WaitTimes) : Type 0 where
  pub longest : IsNumber w.longest
  pub counts : AllByRecursion IsNumber w.counts
  pub many : length w.counts ≡ 14

-- a task's histogram of poll times: the counts of fourteen buckets, and that of its waits
pub record AreTimes (t : TaskTimes) : Type 0 where
  pub task : IsId t.0
  pub longest : IsNumber t.1.longest
  pub counts : AllByRecursion IsNumber t.1.counts
  pub many : length t.1.counts ≡ 14
  pub waits : IfSome t.1.waits AreWaitTimes

-- the totals of what was dropped
pub record AreTotals (d : Dropped) : Type 0 where
  pub tasks : IsNumber d.tasks
  pub resources : IsNumber d.resources
  pub ops : IsNumber d.ops

-- the ids of what is gone
pub record IsGone (g : GoneView) : Type 0 where
  pub ops : AllByRecursion IsId g.ops
  pub resources : AllByRecursion IsId g.resources
  pub tasks : AllByRecursion IsId g.tasks

-- histograms in a line, which says what is gone wherever it tells some
pub record AreTold (gone : Option GoneView) (times : List TaskTimes) : Type 0 where
  pub each : AllByRecursion AreTimes times
  pub said : IsSome gone

-- a line whose values are in their ranges. Its flag has no range
pub record IsLine (l : LineView) : Type 0 where
  pub dropped : AreTotals l.dropped
  pub gone : IfSome l.gone IsGone
  pub new_ops : AllByRecursion IsOpInfo l.new_ops
  pub new_resources : AllByRecursion IsResourceInfo l.new_resources
  pub new_tasks : AllByRecursion IsTaskInfo l.new_tasks
  pub now : IsNumber l.now
  pub op_stats : AllByRecursion AreOpStats l.op_stats
  pub poll_counts : AllByRecursion AreCounts l.poll_counts
  pub resource_stats : AllByRecursion AreResourceStats l.resource_stats
  pub seq : is_seq l.seq ≡ true
  pub task_stats : AllByRecursion AreTaskStats l.task_stats
  pub task_times : IfSome l.task_times (AreTold l.gone)
