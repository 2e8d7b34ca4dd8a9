-- How long the text of each part of a line is.
use Rattle.std.proofs.Common.{◌≡◌, ℕ, suc, ◌+◌, ◌*◌, ◌<◌, ◌≤◌, List, [], ◌∷◌, length, Bool, true, false, Option, Some, None, nat_eq, cond, codes, sym, subst, arith}
use Rattle.std.specs.Prelude.{ℤ, pos, negsuc, sum_by}
use Rattle.std.proofs.lemmas.List.Sums.{sum_by-cons}
use Rattle.json.specs.Print.{escape_byte}
use Rattle.serde_json.specs.Data.{boolean, string}
use Rattle.serde_json.specs.Written.{compact_text}
use Rattle.tk_core.specs.declared.op.row.OpRow.{OpRow}
use Rattle.tk_core.specs.declared.resource.row.ResourceRow.{ResourceRow}
use Rattle.tk_core.specs.declared.task.row.TaskRow.{TaskRow}
use Rattle.tk_core.specs.declared.task.wait.Waits.{Waits}
use Rattle.tk_ids.specs.declared.attr.AttrInfo.{AttrInfo}
use Rattle.tk_ids.specs.declared.attr.AttrKind.{AttrKind}
use Rattle.tk_ids.specs.declared.attr.AttrKind.TheVariants as kinds
use Rattle.tk_ids.specs.declared.attr.AttrValue.{AttrValue}
use Rattle.tk_ids.specs.declared.attr.AttrValue.TheVariants as values
use Rattle.tk_ids.specs.declared.info.Dropped.{Dropped}
use Rattle.tk_ids.specs.declared.info.OpInfo.{OpInfo}
use Rattle.tk_ids.specs.declared.info.ResourceInfo.{ResourceInfo}
use Rattle.tk_ids.specs.declared.info.TaskInfo.{TaskInfo}
use Rattle.tk_ids.specs.declared.location.Location.{Location}
use Rattle.tk_ids.specs.declared.spec.TaskKind.{TaskKind}
use Rattle.tk_ids.specs.declared.spec.TaskKind.TheVariants.{Spawn, Blocking}
use Rattle.tk_stream.specs.Tables.{PollCounts}
use Rattle.tk_stream.specs.declared.tables.times.WaitTimes.{WaitTimes}
use Rattle.tk_stream.specs.Times.{TaskTimes, filled_from}
use Rattle.tk_stream.specs.Spelling.{list_data, number_data, optional_data, optional_text, kind_text, attr_kind_text, location_data, dropped_data, attr_data, signed_data, value_data, counts_data, filled_data, waits_data, info_data, stats_fields, stats_data, resource_data, resource_stats_fields, resource_stats_data, op_data, op_stats_fields, op_stats_data, times_members, times_data}
use Rattle.tk_app.proofs.TextSizes.{quoted_short, decimal_short, two_digits, list_short, array_short, object_short}

-- ---- values

optional_short : (n : Option ℕ) → length (compact_text (optional_data n)) ≤ 64
optional_short None = omega arith
optional_short (Some n) = decimal_short n

pub flag_short : (b : Bool) → length (compact_text (boolean b)) ≤ 5
flag_short true = omega arith
flag_short false = omega arith

-- how long a text may be that may be absent
abbrev pub unit_size : Option (List ℕ) → ℕ
unit_size None = 0
unit_size (Some unit) = length unit

unit_short : (unit : Option (List ℕ)) → length (compact_text (optional_text unit)) ≤ 6 * unit_size unit + 4
unit_short None = omega arith
unit_short (Some unit) = omega (arith, quoted_short unit)

kind_short : (k : TaskKind) → length (compact_text (string (kind_text k))) ≤ 10
unfolding escape_byte
kind_short Spawn = omega arith
kind_short Blocking = omega arith

attr_kind_short : (k : AttrKind) → length (compact_text (string (attr_kind_text k))) ≤ 6
unfolding escape_byte
attr_kind_short kinds.U64 = omega arith
attr_kind_short kinds.Bool = omega arith
attr_kind_short kinds.I64 = omega arith

signed_short : (n : ℤ) → length (compact_text (signed_data n)) ≤ 65
signed_short (pos n) = omega (arith, decimal_short n)
signed_short (negsuc n) = omega (arith, decimal_short (suc n))

value_short : (v : AttrValue) → length (compact_text (value_data v)) + 1 ≤ 69
value_short (values.U64 n) = omega (arith, decimal_short n)
value_short (values.Bool b) = omega (arith, flag_short b)
value_short (values.I64 n) = omega (arith, array_short (signed_data n ∷ []), signed_short n)

location_short : (at : Location) → length (compact_text (location_data at)) ≤ 6 * length at.file + 135
location_short at = omega (arith, array_short (string at.file ∷ number_data at.line ∷ number_data at.column ∷ []), quoted_short at.file, decimal_short at.line, decimal_short at.column)

pub dropped_short : (d : Dropped) → length (compact_text (dropped_data d)) ≤ 197
dropped_short d = omega (arith, array_short (number_data d.tasks ∷ number_data d.resources ∷ number_data d.ops ∷ []), decimal_short d.tasks, decimal_short d.resources, decimal_short d.ops)

pub counts_short : (c : PollCounts) → length (compact_text (counts_data c)) + 1 ≤ 200
counts_short c = omega (arith, array_short (number_data c.0 ∷ number_data c.1 ∷ number_data c.2 ∷ []), decimal_short c.0, decimal_short c.1, decimal_short c.2)

pub id_short : (id : ℕ) → length (compact_text (number_data id)) + 1 ≤ 65
id_short id = omega (arith, decimal_short id)

-- ---- attributes

-- what an attribute takes at most, by its name and unit: in the info of its item, and its value in the row
abbrev pub attr_size : AttrInfo → ℕ
attr_size a = 90 + (6 * length a.name + 6 * unit_size a.unit)

-- in the info alone
abbrev pub attr_text_size : AttrInfo → ℕ
attr_text_size a = 20 + (6 * length a.name + 6 * unit_size a.unit)

attr_short : (a : AttrInfo) → length (compact_text (attr_data a)) + 1 ≤ attr_text_size a
attr_short a = omega (arith, array_short (string a.name ∷ optional_text a.unit ∷ string (attr_kind_text a.kind) ∷ []), quoted_short a.name, unit_short a.unit, attr_kind_short a.kind)

-- ---- tasks

pub info_short : (t : TaskInfo) → length (compact_text (info_data t)) + 1 ≤ 245 + (6 * length t.location.file + 6 * length t.name)
unfolding escape_byte
info_short t = omega (
  arith,
  object_short ((codes "id", number_data t.id) ∷ (codes "kind", string (kind_text t.kind)) ∷ (codes "loc", location_data t.location) ∷ (codes "name", string t.name) ∷ []),
  decimal_short t.id,
  kind_short t.kind,
  location_short t.location,
  quoted_short t.name,
)

waits_short : (sched : ℕ) (waits : Option Waits) → length (compact_text (waits_data sched waits)) ≤ 197
waits_short sched None = omega (arith, decimal_short sched)
waits_short sched (Some waits) = omega (arith, array_short (number_data sched ∷ number_data waits.total ∷ number_data waits.so_far ∷ []), decimal_short sched, decimal_short waits.total, decimal_short waits.so_far)

pub stats_short : (s : ℕ × TaskRow) → length (compact_text (stats_data s)) + 1 ≤ 1294
unfolding escape_byte
stats_short s = omega (
  arith,
  object_short (stats_fields s),
  decimal_short s.0,
  decimal_short s.1.busy,
  decimal_short s.1.clones,
  decimal_short s.1.created,
  optional_short s.1.dropped,
  decimal_short s.1.drops,
  optional_short s.1.first_poll,
  decimal_short s.1.handles,
  optional_short s.1.last_ended,
  optional_short s.1.last_started,
  optional_short s.1.last_wake,
  flag_short s.1.polling,
  decimal_short s.1.polls,
  waits_short s.1.sched s.1.waits,
  flag_short s.1.scheduled,
  decimal_short s.1.self_wakes,
  decimal_short s.1.wakes,
)

-- a bucket that isn't empty, of the first hundred
filled_short : (k n : ℕ) → k < 100 → length (compact_text (filled_data (k, n))) + 1 ≤ 71
filled_short k n few = omega (arith, array_short (number_data k ∷ number_data n ∷ []), two_digits k few, decimal_short n)

abbrev filled_size : ℕ × ℕ → ℕ
filled_size b = length (compact_text (filled_data b)) + 1

all_filled_short : (k : ℕ) (counts : List ℕ) → k + length counts ≤ 100 → sum_by filled_size (filled_from k counts) ≤ 71 * length counts
all_filled_short k [] few = omega arith
all_filled_short k (n ∷ counts) few = by (nat_eq n 0) (all_filled_short (k + 1) counts (omega arith)) (filled_short k n (omega arith))
  where
    by : (b : Bool) → sum_by filled_size (filled_from (k + 1) counts) ≤ 71 * length counts → filled_size (k, n) ≤ 71 → sum_by filled_size (cond b (filled_from (k + 1) counts) ((k, n) ∷ filled_from (k + 1) counts)) ≤ 71 * length (n ∷ counts)
    by true le here = omega (arith, le)
    by false le here = omega (arith, le, here, sum_by-cons filled_size (k, n) (filled_from (k + 1) counts))

pub same_each : {A : Type 0} (most : ℕ) (xs : List A) → sum_by (λ (x : A). most) xs ≡ most * length xs
same_each most [] = omega arith
same_each {A} most (x ∷ xs) = omega (arith, sum_by-cons (λ (y : A). most) x xs, same_each most xs)

polls_short : (id longest : ℕ) (counts : List ℕ) → length counts ≡ 14 → length (compact_text (times_data (id, record { longest = longest; counts = counts; waits = None }))) + 1 ≤ 1154
unfolding escape_byte
polls_short id longest counts many =
    let filled = filled_from 0 counts in
    omega (
      arith,
      object_short (times_members (id, record { longest = longest; counts = counts; waits = None })),
      list_short filled_data filled_size (λ b. omega arith) filled,
      all_filled_short 0 counts (omega (arith, many)),
      many,
      decimal_short id,
      decimal_short longest,
    )

-- a histogram of fourteen buckets, of polls alone
pub times_short : (t : TaskTimes) → length t.1.counts ≡ 14 → t.1.waits ≡ None → length (compact_text (times_data t)) + 1 ≤ 1154
times_short t many alone =
    subst (λ (waits : Option WaitTimes). length (compact_text (times_data (t.0, record t.1 { waits = waits }))) + 1 ≤ 1154) (sym alone) (polls_short t.0 t.1.longest t.1.counts many)

-- ---- resources and async operations

attrs_short : (attrs : List AttrInfo) → length (compact_text (list_data attr_data attrs)) ≤ 2 + sum_by attr_text_size attrs
attrs_short attrs = list_short attr_data attr_text_size attr_short attrs

values_short : (vs : List AttrValue) → length (compact_text (list_data value_data vs)) ≤ 2 + 69 * length vs
values_short vs = omega (arith, list_short value_data (λ (v : AttrValue). 69) value_short vs, same_each 69 vs)

pub resource_short : (r : ResourceInfo) → length (compact_text (resource_data r)) + 1 ≤ 320 + (6 * length r.location.file + 6 * length r.kind + 6 * length r.concrete) + sum_by attr_text_size r.attrs
unfolding escape_byte
resource_short r = omega (
  arith,
  object_short ((codes "attrs", list_data attr_data r.attrs) ∷ (codes "id", number_data r.id) ∷ (codes "kind", string r.kind) ∷ (codes "loc", location_data r.location) ∷ (codes "parent", optional_data r.parent) ∷ (codes "type", string r.concrete) ∷ []),
  attrs_short r.attrs,
  decimal_short r.id,
  quoted_short r.kind,
  location_short r.location,
  optional_short r.parent,
  quoted_short r.concrete,
)

pub resource_stats_short : (s : ℕ × ResourceRow) → length (compact_text (resource_stats_data s)) + 1 ≤ 310 + 69 * length s.1.attrs
unfolding escape_byte
resource_stats_short s = omega (arith, object_short (resource_stats_fields s), values_short s.1.attrs, decimal_short s.1.created, optional_short s.1.dropped, decimal_short s.1.handles, decimal_short s.0)

pub op_short : (o : OpInfo) → length (compact_text (op_data o)) + 1 ≤ 246 + 6 * length o.source + sum_by attr_text_size o.attrs
unfolding escape_byte
op_short o = omega (
  arith,
  object_short ((codes "attrs", list_data attr_data o.attrs) ∷ (codes "id", number_data o.id) ∷ (codes "parent", optional_data o.parent) ∷ (codes "resource", number_data o.resource) ∷ (codes "source", string o.source) ∷ []),
  attrs_short o.attrs,
  decimal_short o.id,
  optional_short o.parent,
  decimal_short o.resource,
  quoted_short o.source,
)

pub op_stats_short : (s : ℕ × OpRow) → length (compact_text (op_stats_data s)) + 1 ≤ 778 + 69 * length s.1.attrs
unfolding escape_byte
op_stats_short s = omega (
  arith,
  object_short (op_stats_fields s),
  values_short s.1.attrs,
  decimal_short s.1.busy,
  decimal_short s.1.created,
  optional_short s.1.dropped,
  optional_short s.1.first_poll,
  decimal_short s.1.handles,
  decimal_short s.0,
  optional_short s.1.last_ended,
  optional_short s.1.last_started,
  flag_short s.1.polling,
  decimal_short s.1.polls,
  optional_short s.1.task,
)
