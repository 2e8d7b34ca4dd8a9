-- What entries mean: the tables whose items they are.
use Rattle.std.specs.Prelude.{◌≡◌, ℕ, Bool, List, ◌++◌, map, take, drop, get_or, nat_eq, Option, Some, None, if◌then◌else◌}
use Rattle.tk_core.specs.TaskWords as task_words
use Rattle.tk_core.specs.ResourceWords as resource_words
use Rattle.tk_core.specs.OpWords as op_words
use Rattle.tk_ids.specs.declared.attr.AttrInfo.{AttrInfo}
use Rattle.tk_ids.specs.declared.attr.AttrKind.{AttrKind}
use Rattle.tk_ids.specs.declared.attr.AttrKind.TheVariants as kinds
use Rattle.tk_ids.specs.declared.info.OpInfo.{OpInfo}
use Rattle.tk_ids.specs.declared.info.ResourceInfo.{ResourceInfo}
use Rattle.tk_ids.specs.declared.info.TaskInfo.{TaskInfo}
use Rattle.tk_ids.specs.declared.location.Location.{Location}
use Rattle.tk_ids.specs.declared.spec.TaskKind.{TaskKind}
use Rattle.tk_ids.specs.declared.spec.TaskKind.TheVariants.{Spawn, Blocking}
use Rattle.tk_stream.specs.Tables.{TablesView, PollCounts}
use Rattle.tk_stream.specs.declared.tables.op.Op.{Op}
use Rattle.tk_stream.specs.declared.tables.resource.Resource.{Resource}
use Rattle.tk_stream.specs.declared.tables.task.Task.{Task}
use Rattle.tk_stream.specs.declared.tables.times.PollTimes.{PollTimes}
use Rattle.tk_stream.specs.declared.tables.times.WaitTimes.{WaitTimes}
use Rattle.tk_stream.specs.Times.{TaskTimes}
use Rattle.tk_embed.specs.declared.entries.AttrEntry.{AttrEntry}
use Rattle.tk_embed.specs.declared.entries.CountEntry.{CountEntry}
use Rattle.tk_embed.specs.declared.entries.Head.{Head}
use Rattle.tk_embed.specs.declared.entries.OpEntry.{OpEntry}
use Rattle.tk_embed.specs.declared.entries.Piece.{Piece}
use Rattle.tk_embed.specs.declared.entries.ResourceEntry.{ResourceEntry}
use Rattle.tk_embed.specs.declared.entries.TaskEntry.{TaskEntry}
use Rattle.tk_embed.specs.declared.entries.TimesEntry.{TimesEntry}

-- ---- what an entry says of its item once

-- the piece of a list
abbrev pub piece_of : {A : Type 0} → List A → Piece → List A
piece_of list piece = take piece.len (drop piece.start list)

-- the kind of a task
abbrev pub task_kind : ℕ → TaskKind
task_kind n = if nat_eq n 0 then Spawn else Blocking

-- the kind of an attribute
abbrev pub attr_kind : ℕ → AttrKind
attr_kind n = if nat_eq n 0 then kinds.U64 else if nat_eq n 1 then kinds.Bool else kinds.I64

-- the parent of an item, if it has one
abbrev pub parent_of : ℕ → Option ℕ
parent_of id = if nat_eq id 0 then None else Some id

-- a place in a source file
abbrev pub location_of : List ℕ → Piece → ℕ → ℕ → Location
location_of text file line column = record { file = piece_of text file; line = line; column = column }

-- an attribute
abbrev pub attr_info : List ℕ → AttrEntry → AttrInfo
attr_info text a = record {
  name = piece_of text a.name;
  unit = if a.has_unit then Some (piece_of text a.unit) else None;
  kind = attr_kind a.kind;
}

-- the attributes of an item
abbrev pub attr_infos : List ℕ → List AttrEntry → Piece → List AttrInfo
attr_infos text attrs piece = map (attr_info text) (piece_of attrs piece)

-- a task
abbrev pub task_info : List ℕ → TaskEntry → TaskInfo
task_info text e = record {
  id = e.id;
  kind = task_kind e.kind;
  name = piece_of text e.name;
  location = location_of text e.file e.line e.column;
}

-- a resource
abbrev pub resource_info : List ℕ → List AttrEntry → ResourceEntry → ResourceInfo
resource_info text attrs e = record {
  id = e.id;
  parent = parent_of e.parent;
  concrete = piece_of text e.concrete;
  kind = piece_of text e.kind;
  location = location_of text e.file e.line e.column;
  attrs = attr_infos text attrs e.attrs;
}

-- an async operation
abbrev pub op_info : List ℕ → List AttrEntry → OpEntry → OpInfo
op_info text attrs e = record {
  id = e.id;
  source = piece_of text e.source;
  resource = e.resource;
  parent = parent_of e.parent;
  attrs = attr_infos text attrs e.attrs;
}

-- ---- an item as the border shows it: what is told of it once, and the words of its row. No two rows have the same words

-- a task
abbrev pub task_shown : Task → TaskInfo × List ℕ
task_shown t = (t.info, task_words.words_of t.row)

-- a resource
abbrev pub resource_shown : Resource → ResourceInfo × List ℕ
resource_shown r = (r.info, resource_words.words_of r.row)

-- an async operation
abbrev pub op_shown : Op → OpInfo × List ℕ
op_shown o = (o.info, op_words.words_of o.row)

-- ---- what an entry shows: with `now` the row that is, and otherwise the row that the last line told

-- of a task
abbrev pub task_entry_shown : List ℕ → Bool → TaskEntry → TaskInfo × List ℕ
task_entry_shown text now e = (task_info text e, if now then e.row else e.told)

-- of a resource
abbrev pub resource_entry_shown : List ℕ → List AttrEntry → Bool → ResourceEntry → ResourceInfo × List ℕ
resource_entry_shown text attrs now e = (resource_info text attrs e, if now then e.row else e.told)

-- of an async operation
abbrev pub op_entry_shown : List ℕ → List AttrEntry → Bool → OpEntry → OpInfo × List ℕ
op_entry_shown text attrs now e = (op_info text attrs e, if now then e.row else e.told)

-- of the poll counts of a resource
abbrev pub count_entry_shown : Bool → CountEntry → PollCounts
count_entry_shown now e = if now then (e.resource, e.ready, e.pending) else (e.resource, e.told_ready, e.told_pending)

-- the histogram of waits that words show: after the handles the longest time, and then the counts. All words are a row's
abbrev pub waits_of_words : List ℕ → WaitTimes
waits_of_words words = record { longest = get_or words 1 0; counts = drop 2 words }

-- and that of polls, with these waits beside it
abbrev pub times_of_words : Option WaitTimes → List ℕ → PollTimes
times_of_words waits words = record { longest = get_or words 1 0; counts = drop 2 words; waits = waits }

-- of the waits beside a histogram
abbrev pub waits_entry_shown : Bool → TimesEntry → Option WaitTimes
waits_entry_shown now e = if e.waited then Some (waits_of_words (if now then e.waits else e.told_waits)) else None

-- of a histogram
abbrev pub times_entry_shown : Bool → TimesEntry → TaskTimes
times_entry_shown now e = (e.task, times_of_words (waits_entry_shown now e) (if now then e.row else e.told))

-- ---- tables

-- entries, and what they point into
pub record Given : Type 0 where
  pub tasks : List TaskEntry
  pub resources : List ResourceEntry
  pub ops : List OpEntry
  pub counts : List CountEntry
  pub attrs : List AttrEntry
  pub text : List ℕ

-- the entries that were told: the first ones of each list
abbrev pub told_of : Head → Given → Given
told_of head given = record given {
  tasks = take head.told_tasks given.tasks;
  resources = take head.told_resources given.resources;
  ops = take head.told_ops given.ops;
  counts = take head.told_counts given.counts;
}

-- tables whose items are just these entries, in their order, as the entries show them. There is at most one list of each kind
pub record HaveItems (now : Bool) (given : Given) (tables : TablesView) : Type 0 where
  pub tasks : map task_shown tables.tasks ≡ map (task_entry_shown given.text now) given.tasks
  pub resources : map resource_shown tables.resources ≡ map (resource_entry_shown given.text given.attrs now) given.resources
  pub ops : map op_shown tables.ops ≡ map (op_entry_shown given.text given.attrs now) given.ops
  pub counts : tables.counts ≡ map (count_entry_shown now) given.counts

-- tables with the moment and the totals of a head
pub record IsAt (head : Head) (tables : TablesView) : Type 0 where
  pub now : tables.now ≡ head.moment
  pub tasks : tables.dropped.tasks ≡ head.dropped_tasks
  pub resources : tables.dropped.resources ≡ head.dropped_resources
  pub ops : tables.dropped.ops ≡ head.dropped_ops

-- the tables of entries
pub record AreTables (now : Bool) (head : Head) (given : Given) (tables : TablesView) : Type 0 where
  pub items : HaveItems now given tables
  pub at : IsAt head tables

-- ---- what a call makes of tables

-- these tasks stand after those that were there, and nothing else changed
pub record AddTasks (text : List ℕ) (now : Bool) (entries : List TaskEntry) (old new : TablesView) : Type 0 where
  pub tasks : map task_shown new.tasks ≡ map task_shown old.tasks ++ map (task_entry_shown text now) entries
  pub resources : new.resources ≡ old.resources
  pub ops : new.ops ≡ old.ops
  pub counts : new.counts ≡ old.counts

-- these resources stand after those that were there, and nothing else changed
pub record AddResources (text : List ℕ) (attrs : List AttrEntry) (now : Bool) (entries : List ResourceEntry) (old new : TablesView) : Type 0 where
  pub tasks : new.tasks ≡ old.tasks
  pub resources : map resource_shown new.resources ≡ map resource_shown old.resources ++ map (resource_entry_shown text attrs now) entries
  pub ops : new.ops ≡ old.ops
  pub counts : new.counts ≡ old.counts

-- these async operations stand after those that were there, and nothing else changed
pub record AddOps (text : List ℕ) (attrs : List AttrEntry) (now : Bool) (entries : List OpEntry) (old new : TablesView) : Type 0 where
  pub tasks : new.tasks ≡ old.tasks
  pub resources : new.resources ≡ old.resources
  pub ops : map op_shown new.ops ≡ map op_shown old.ops ++ map (op_entry_shown text attrs now) entries
  pub counts : new.counts ≡ old.counts

-- these poll counts stand after those that were there, and nothing else changed
pub record AddCounts (now : Bool) (entries : List CountEntry) (old new : TablesView) : Type 0 where
  pub tasks : new.tasks ≡ old.tasks
  pub resources : new.resources ≡ old.resources
  pub ops : new.ops ≡ old.ops
  pub counts : new.counts ≡ old.counts ++ map (count_entry_shown now) entries
