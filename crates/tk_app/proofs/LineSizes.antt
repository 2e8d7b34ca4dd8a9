-- How long the text of a line is, by the infos of its tables and of the tables before it.
use Rattle.std.proofs.Common.{◌≡◌, ℕ, ◌+◌, ◌*◌, ◌≤◌, List, [], ◌∷◌, ◌++◌, length, Bool, true, false, Option, Some, None, codes, ap, arith}
use Rattle.std.specs.Prelude.{map, filter, sum_by, IfSome}
use Rattle.std.specs.List.{AllByRecursion}
use Rattle.std.proofs.lemmas.List.{length-map}
use Rattle.std.proofs.lemmas.List.Sums.{sum_by-cons, sum_by-append, length-filter, count_by-le-length}
use Rattle.json.specs.Print.{escape_byte}
use Rattle.serde_json.specs.Data.{Data}
use Rattle.serde_json.specs.Written.{compact_text}
use Rattle.tk_ids.specs.Attributes.{kind_of, HaveKinds}
use Rattle.tk_ids.specs.declared.attr.AttrInfo.{AttrInfo}
use Rattle.tk_ids.specs.declared.attr.AttrValue.{AttrValue}
use Rattle.tk_ids.specs.declared.info.OpInfo.{OpInfo}
use Rattle.tk_ids.specs.declared.info.ResourceInfo.{ResourceInfo}
use Rattle.tk_ids.specs.declared.info.TaskInfo.{TaskInfo}
use Rattle.tk_stream.specs.declared.tables.op.Op.{Op}
use Rattle.tk_stream.specs.declared.tables.resource.Resource.{Resource}
use Rattle.tk_stream.specs.declared.tables.task.Task.{Task}
use Rattle.tk_stream.specs.Lines.{LineView, GoneView, none_gone, gone_ids, gone_between, is_new, is_told, new_infos, told_stats, line_between, task_info, resource_info, op_info, task_stats_of, resource_stats_of, op_stats_of, all_counts, have_same_row, have_same_resource_row, have_same_op_row, version}
use Rattle.tk_stream.specs.Ranges.{AreTimes}
use Rattle.tk_stream.specs.Rows.{same_counts}
use Rattle.tk_stream.specs.Spelling.{list_data, number_data, dropped_data, counts_data, info_data, stats_data, resource_data, resource_stats_data, op_data, op_stats_data, times_data, gone_members, times_fields, members_between, line_members, line_data, line_text}
use Rattle.tk_stream.specs.Streams.{Sending, line_sent}
use Rattle.tk_stream.specs.Tables.{TablesView, PollCounts, AreFit, empty_tables, task_id, resource_id, op_id, counts_id}
use Rattle.tk_stream.specs.Times.{TaskTimes}
use Rattle.tk_stream.proofs.LinesLemmas.{all_by}
use Rattle.tk_app.proofs.PartSizes.{attr_size, attr_text_size, info_short, stats_short, times_short, resource_short, resource_stats_short, op_short, op_stats_short, counts_short, id_short, dropped_short, flag_short, same_each}
use Rattle.tk_app.proofs.Sums.{sum_filter, sum_many, sum_below, sum_both, sum_map}
use Rattle.tk_app.proofs.TextSizes.{decimal_short, list_short, object_short, field_size}

-- ---- what an item takes at most in a line: its info, its row, and a task its histogram

abbrev pub task_size : TaskInfo → ℕ
task_size t = 2693 + (6 * length t.location.file + 6 * length t.name)

abbrev pub resource_size : ResourceInfo → ℕ
resource_size r = 780 + (6 * length r.location.file + 6 * length r.kind + 6 * length r.concrete) + sum_by attr_size r.attrs

abbrev pub op_size : OpInfo → ℕ
op_size o = 1030 + 6 * length o.source + sum_by attr_size o.attrs

-- what all items of tables take, and their poll counts
abbrev pub tables_size : TablesView → ℕ
tables_size tables =
    sum_by (λ (t : Task). task_size t.info) tables.tasks + sum_by (λ (r : Resource). resource_size r.info) tables.resources
    + sum_by (λ (o : Op). op_size o.info) tables.ops + 200 * length tables.counts

-- ---- one item

attrs_both : (attrs : List AttrInfo) → sum_by attr_text_size attrs + 69 * length attrs ≤ sum_by attr_size attrs
attrs_both [] = omega arith
attrs_both (a ∷ attrs) = omega (arith, sum_by-cons attr_text_size a attrs, sum_by-cons attr_size a attrs, attrs_both attrs)

as_many : (attrs : List AttrInfo) (vs : List AttrValue) → HaveKinds attrs vs → length vs ≡ length attrs
as_many attrs vs kinds = omega (arith, ap length kinds, length-map vs kind_of, length-map attrs (λ (a : AttrInfo). a.kind))

-- how long the text of one is, with its comma
abbrev with_comma : {A : Type 0} → (A → Data) → A → ℕ
with_comma spelling x = length (compact_text (spelling x)) + 1

task_both : (t : Task) → with_comma info_data t.info + with_comma stats_data (task_stats_of t) + 1154 ≤ task_size t.info
task_both t = omega (arith, info_short t.info, stats_short (task_stats_of t))

resource_both : (r : Resource) → HaveKinds r.info.attrs r.row.attrs → with_comma resource_data r.info + with_comma resource_stats_data (resource_stats_of r) ≤ resource_size r.info
resource_both r kinds = omega (arith, resource_short r.info, resource_stats_short (resource_stats_of r), as_many r.info.attrs r.row.attrs kinds, attrs_both r.info.attrs)

op_both : (o : Op) → HaveKinds o.info.attrs o.row.attrs → with_comma op_data o.info + with_comma op_stats_data (op_stats_of o) ≤ op_size o.info
op_both o kinds = omega (arith, op_short o.info, op_stats_short (op_stats_of o), as_many o.info.attrs o.row.attrs kinds, attrs_both o.info.attrs)

-- ---- the items of one kind

module _ {Item Info Stats : Type 0} (id_of : Item → ℕ) (info_of : Item → Info) (same : Item → Item → Bool) (stats_of : Item → Stats) (info_spelling : Info → Data) (stats_spelling : Stats → Data) where
  abbrev both : Item → ℕ
  both x = with_comma info_spelling (info_of x) + with_comma stats_spelling (stats_of x)

  infos_short : (old new : List Item) → length (compact_text (list_data info_spelling (new_infos id_of info_of old new))) ≤ 2 + sum_by (λ x. with_comma info_spelling (info_of x)) new
  infos_short old new =
      let some = filter (is_new id_of old) new in
      omega (arith, list_short info_spelling (with_comma info_spelling) (λ x. omega arith) (map info_of some), sum_map (with_comma info_spelling) info_of some, sum_filter (λ x. with_comma info_spelling (info_of x)) (is_new id_of old) new)

  stats_each_short : (old new : List Item) → length (compact_text (list_data stats_spelling (told_stats id_of same stats_of old new))) ≤ 2 + sum_by (λ x. with_comma stats_spelling (stats_of x)) new
  stats_each_short old new =
      let some = filter (is_told id_of same old) new in
      omega (arith, list_short stats_spelling (with_comma stats_spelling) (λ x. omega arith) (map stats_of some), sum_map (with_comma stats_spelling) stats_of some, sum_filter (λ x. with_comma stats_spelling (stats_of x)) (is_told id_of same old) new)

  pub kind_short : (old new : List Item)
      → length (compact_text (list_data info_spelling (new_infos id_of info_of old new))) + length (compact_text (list_data stats_spelling (told_stats id_of same stats_of old new))) ≤ 4 + sum_by both new
  kind_short old new =
      omega (arith, infos_short old new, stats_each_short old new, sum_both (λ x. with_comma info_spelling (info_of x)) (λ x. with_comma stats_spelling (stats_of x)) new)

abbrev tasks_both : Task → ℕ
tasks_both t = with_comma info_data t.info + with_comma stats_data (task_stats_of t)

tasks_short : (tasks : List Task) → sum_by tasks_both tasks + 1154 * length tasks ≤ sum_by (λ (t : Task). task_size t.info) tasks
tasks_short [] = omega arith
tasks_short (t ∷ tasks) = omega (arith, sum_by-cons tasks_both t tasks, sum_by-cons (λ (u : Task). task_size u.info) t tasks, task_both t, tasks_short tasks)

counts_list_short : (old new : List PollCounts) → length (compact_text (list_data counts_data (told_stats counts_id same_counts all_counts old new))) ≤ 2 + 200 * length new
counts_list_short old new =
    let some = filter (is_told counts_id same_counts old) new in
    omega (
      arith,
      list_short counts_data (λ (c : PollCounts). 200) counts_short (map all_counts some),
      sum_map (λ (c : PollCounts). 200) all_counts some,
      sum_filter (λ (c : PollCounts). 200) (is_told counts_id same_counts old) new,
      same_each 200 new,
    )

-- ---- the members of a line

between_short : (old new : TablesView) (seq : ℕ) (snapshot : Bool) → AreFit new → sum_by field_size (members_between (record (line_between old new seq) { snapshot = snapshot })) + 1154 * length new.tasks ≤ 500 + tables_size new
unfolding escape_byte
between_short old new seq snapshot fit =
    omega (
      arith,
      kind_short task_id task_info have_same_row task_stats_of info_data stats_data old.tasks new.tasks,
      tasks_short new.tasks,
      kind_short resource_id resource_info have_same_resource_row resource_stats_of resource_data resource_stats_data old.resources new.resources,
      sum_below (λ (r : Resource). with_comma resource_data r.info + with_comma resource_stats_data (resource_stats_of r)) (λ (r : Resource). resource_size r.info) new.resources (all_by _ _ resource_both new.resources fit.resources),
      kind_short op_id op_info have_same_op_row op_stats_of op_data op_stats_data old.ops new.ops,
      sum_below (λ (o : Op). with_comma op_data o.info + with_comma op_stats_data (op_stats_of o)) (λ (o : Op). op_size o.info) new.ops (all_by _ _ op_both new.ops fit.ops),
      counts_list_short old.counts new.counts,
      decimal_short new.now,
      decimal_short seq,
      flag_short snapshot,
    )

-- how many items are said to be gone
abbrev gone_count : Option GoneView → ℕ
gone_count None = 0
gone_count (Some g) = length g.ops + length g.resources + length g.tasks

ids_short : (ids : List ℕ) → length (compact_text (list_data number_data ids)) ≤ 2 + 65 * length ids
ids_short ids = omega (arith, list_short number_data (λ (id : ℕ). 65) id_short ids, same_each 65 ids)

gone_short : (gone : Option GoneView) → sum_by field_size (gone_members gone) ≤ 100 + 65 * gone_count gone
unfolding escape_byte
gone_short None = omega arith
gone_short (Some g) = omega (arith, ids_short g.ops, ids_short g.resources, ids_short g.tasks)

-- how many histograms are told
abbrev pub times_count : Option (List TaskTimes) → ℕ
times_count None = 0
times_count (Some times) = length times

-- a histogram of polls alone, in its range
abbrev pub ArePolls : TaskTimes → Type 0
ArePolls t = AreTimes t × (t.1.waits ≡ None)

times_list_short : (told : Option (List TaskTimes)) → IfSome told (AllByRecursion ArePolls) → sum_by field_size (times_fields told) ≤ 100 + 1154 * times_count told
unfolding escape_byte
times_list_short None each = omega arith
times_list_short (Some times) each =
    omega (
      arith,
      list_short times_data (with_comma times_data) (λ t. omega arith) times,
      sum_below (with_comma times_data) (λ (t : TaskTimes). 1154) times (all_by ArePolls _ (λ t are. times_short t are.0.many are.1) times each),
      same_each 1154 times,
    )

line_short : (l : LineView) → length (line_text l) ≤ 400 + sum_by field_size (gone_members l.gone) + sum_by field_size (members_between l) + sum_by field_size (times_fields l.task_times)
unfolding escape_byte line_data line_text
line_short l =
    let rest = times_fields l.task_times ++ (codes "v", number_data (version l)) ∷ [] in
    omega (
      arith,
      object_short (line_members l),
      sum_by-cons field_size (codes "dropped", dropped_data l.dropped) (gone_members l.gone ++ (members_between l ++ rest)),
      sum_by-append field_size (gone_members l.gone) (members_between l ++ rest),
      sum_by-append field_size (members_between l) rest,
      sum_by-append field_size (times_fields l.task_times) ((codes "v", number_data (version l)) ∷ []),
      dropped_short l.dropped,
      decimal_short (version l),
    )

-- ---- a line of a stream

module _ (before : TablesView) (s : Sending) (fit : AreFit s.tables) where
  few_gone : 780 * gone_count (Some (gone_between before s.tables)) ≤ tables_size before
  few_gone =
      omega (
        arith,
        some_gone task_id before.tasks s.tables.tasks,
        some_gone resource_id before.resources s.tables.resources,
        some_gone op_id before.ops s.tables.ops,
        sum_many (λ (t : Task). task_size t.info) 780 (λ t. omega arith) before.tasks,
        sum_many (λ (r : Resource). resource_size r.info) 780 (λ r. omega arith) before.resources,
        sum_many (λ (o : Op). op_size o.info) 780 (λ o. omega arith) before.ops,
      )
    where
      some_gone : {Item : Type 0} (id_of : Item → ℕ) (old new : List Item) → length (gone_ids id_of old new) ≤ length old
      some_gone id_of old new = omega (arith, length-map (filter (is_new id_of new) old) id_of, length-filter (is_new id_of new) old, count_by-le-length (is_new id_of new) old)

  within : (old : TablesView) (snapshot : Bool) (gone : Option GoneView) (told : Option (List TaskTimes)) → 780 * gone_count gone ≤ tables_size before → IfSome told (AllByRecursion ArePolls) → times_count told ≤ length s.tables.tasks
      → 12 * length (line_text (record (line_between old s.tables s.seq) { gone = gone; snapshot = snapshot; task_times = told })) ≤ 24000 + 12 * tables_size s.tables + tables_size before
  within old snapshot gone told few each one =
      omega (arith, line_short (record (line_between old s.tables s.seq) { gone = gone; snapshot = snapshot; task_times = told }), gone_short gone, between_short old s.tables s.seq snapshot fit, times_list_short told each)

  -- its text, where it tells at most one histogram of each of its tasks
  pub sent_short : IfSome s.told (AllByRecursion ArePolls) → times_count s.told ≤ length s.tables.tasks → 12 * length (line_text (line_sent before s)) ≤ 24000 + 12 * tables_size s.tables + tables_size before
  sent_short = by s.snapshot s.removes s.told
    where
      none : 780 * gone_count (Some none_gone) ≤ tables_size before
      none = omega arith

      by : (snapshot removes : Bool) (told : Option (List TaskTimes)) → IfSome told (AllByRecursion ArePolls) → times_count told ≤ length s.tables.tasks
          → 12 * length (line_text (line_sent before (record { tables = s.tables; seq = s.seq; snapshot = snapshot; removes = removes; told = told }))) ≤ 24000 + 12 * tables_size s.tables + tables_size before
      by true true None each one = within empty_tables true (Some none_gone) None none each one
      by true true (Some times) each one = within empty_tables true (Some none_gone) (Some times) none each one
      by true false None each one = within empty_tables true None None (omega arith) each one
      by true false (Some times) each one = within empty_tables true (Some none_gone) (Some times) none each one
      by false true None each one = within before false (Some (gone_between before s.tables)) None few_gone each one
      by false true (Some times) each one = within before false (Some (gone_between before s.tables)) (Some times) few_gone each one
      by false false None each one = within before false None None (omega arith) each one
      by false false (Some times) each one = within before false (Some none_gone) (Some times) none each one
