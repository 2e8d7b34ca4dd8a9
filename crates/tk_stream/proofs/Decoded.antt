-- A line's value is read as that line.
use Rattle.std.proofs.Common.{◌≡◌, ℕ, ◌/◌, ◌^◌, ◌<◌, ◌≤◌, List, [], ◌∷◌, true, pos, negsuc, Option, Some, None, Ok, IsUtf8, codes, refl, ap, ◌∙◌, arith, lit<, leb-true, ltb-true}
use Rattle.std.specs.Prelude.{map, Bool, false, ◌==◌, option_and_then, ◌++◌, ◌&&◌, IfSome, IsSome, nat_lt, nat_le, length, neg_ℤ, int_lt, int_le}
use Rattle.std.specs.List.{AllByRecursion, list_all}
use Rattle.std.specs.Str.{IsAscii}
use Rattle.std.proofs.lemmas.Str.{IsUtf8-from_ascii}
use Rattle.std.proofs.lemmas.Str.Ascii.{IsAscii-nil, IsAscii-cons}
use Rattle.std.proofs.lemmas.Bool.{and_parts, eq-eqb}
use Rattle.std.proofs.lemmas.Bool.Decides.{nat_tests}
use Rattle.tk_core.specs.Attributes.{is_i64}
use Rattle.tk_core.specs.declared.op.row.OpRow.{OpRow}
use Rattle.tk_core.specs.declared.resource.row.ResourceRow.{ResourceRow}
use Rattle.tk_core.specs.declared.task.row.TaskRow.{TaskRow}
use Rattle.tk_core.specs.declared.task.wait.Waits.{Waits}
use Rattle.tk_ids.specs.Ids.{is_id}
use Rattle.tk_ids.specs.Names.{is_name, is_printable}
use Rattle.tk_ids.specs.declared.attr.AttrInfo.{AttrInfo}
use Rattle.tk_ids.specs.declared.attr.AttrKind.{AttrKind}
use Rattle.tk_ids.specs.declared.attr.AttrKind.TheVariants as kinds
use Rattle.tk_ids.specs.declared.attr.AttrValue.{AttrValue}
use Rattle.tk_ids.specs.declared.attr.AttrValue.TheVariants as values
use Rattle.tk_ids.specs.declared.info.OpInfo.{OpInfo}
use Rattle.tk_ids.specs.declared.info.ResourceInfo.{ResourceInfo}
use Rattle.tk_ids.specs.declared.info.TaskInfo.{TaskInfo}
use Rattle.tk_ids.specs.declared.location.Location.{Location}
use Rattle.tk_ids.specs.declared.spec.TaskKind.{TaskKind}
use Rattle.tk_ids.specs.declared.spec.TaskKind.TheVariants.{Spawn, Blocking}
use Rattle.json.proofs.Printed.Utf8.{are_ascii, IsUtf8-are_ascii}
use Rattle.json.specs.Tree as tree
use Rattle.serde_json.specs.Data.{Data, string}
use Rattle.serde_json.specs.View.{items_of}
use Rattle.serde_json.specs.Read.{max_depth}
use Rattle.serde_json.specs.Written.{outline, items_outline, members_outline, compact_text}
use Rattle.tk_stream.specs.Tables.{PollCounts}
use Rattle.tk_stream.specs.Lines.{LineView, GoneView, is_seq, version, version_with, tells_waits}
use Rattle.tk_stream.specs.declared.tables.times.WaitTimes.{WaitTimes}
use Rattle.tk_stream.specs.Times.{TaskTimes, filled_from, counts_from}
use Rattle.tk_stream.proofs.TimesLemmas.{filled_back, all_filled}
use Rattle.tk_stream.specs.Outcome.{shaped, ◌then◌}
use Rattle.tk_stream.specs.Reading.{id_of, optional_of, optional_id_of, optional_name_of, attr_of, attr_kind_of, value_of, waits_of, number_at, attrs_in, values_in, kind_of, location_in, info_of, resource_parts, resource_of, op_parts, op_of, stats_of, resource_stats_with, resource_stats_of, op_stats_with, op_stats_of, counts_of, filled_of, buckets_in, wait_times_of, waits_beside, times_of, said_at, parts_of, line_in, line_of, each_of, values_of, json_or_fault, line_of_text}
use Rattle.tk_stream.specs.Spelling.{members_in, object_with, dropped_data, waits_data, gone_members, members_between, times_fields, line_members, number_data, optional_data, optional_text, attr_kind_text, attr_data, value_data, kind_text, location_data, info_data, resource_data, op_data, stats_data, resource_stats_data, op_stats_data, counts_data, filled_data, buckets_data, times_data, line_data, line_text}
use Rattle.tk_stream.specs.Ranges.{IsId, IsNumber, IsOptional, IsOptionalId, IsName, IsLocation, IsAttr, IsValue, AreAttrs, AreValues, IsTaskInfo, IsResourceInfo, IsOpInfo, AreTaskStats, AreResourceStats, AreOpStats, AreCounts, AreWaits, AreWaitTimes, AreTimes, AreTold, IsGone, IsLine}
use Rattle.tk_stream.proofs.Texts.{json_read}
use Rattle.tk_stream.proofs.Round.{IsWhole, AreWhole, whole_is_text, read-compact_text}

-- ---- parts

kind_back : (k : TaskKind) → kind_of (kind_text k) ≡ Some k
kind_back Spawn = refl
kind_back Blocking = refl

attr_kind_back : (k : AttrKind) → attr_kind_of (attr_kind_text k) ≡ Some k
attr_kind_back kinds.U64 = refl
attr_kind_back kinds.Bool = refl
attr_kind_back kinds.I64 = refl

optional_back : (o : Option ℕ) → optional_of (optional_data o) ≡ Some o
optional_back (Some n) = refl
optional_back None = refl

optional_id_back : (o : Option ℕ) → IsOptionalId o → optional_id_of (optional_data o) ≡ Some o
optional_id_back (Some n) h = rw h refl
optional_id_back None h = refl

optional_name_back : (o : Option (List ℕ)) → IfSome o IsName → optional_name_of (optional_text o) ≡ Some o
optional_name_back (Some s) h = rw h refl
optional_name_back None h = refl

small : (n : ℕ) → n < 2 ^ 32 → nat_lt n (2 ^ 32) ≡ true
small n h = grind (arith, nat_tests)

short_wait : (n : ℕ) → n < 2 ^ 56 → nat_lt n (2 ^ 56) ≡ true
short_wait n h = grind (arith, nat_tests)

waits_back : (sched : ℕ) (waits : Option Waits) → IfSome waits AreWaits → waits_of (waits_data sched waits) ≡ Some (sched, waits)
waits_back sched None fit = refl
waits_back sched (Some waits) fit = rw (short_wait waits.so_far fit.so_far) refl

few : (n : ℕ) → n ≤ 6 → nat_le n 6 ≡ true
few n h = grind (arith, nat_tests)

each_back : {A : Type 0} (shape : Data → Option A) (spelling : A → Data) (P : A → Type 0) → ((x : A) → P x → shape (spelling x) ≡ Some x)
    → (xs : List A) → AllByRecursion P xs → each_of shape (values_of (items_of (map spelling xs))) ≡ Some xs
each_back shape spelling P h [] fit = refl
each_back shape spelling P h (x ∷ xs) fit = rw (h x fit.0, each_back shape spelling P h xs fit.1) refl

location_back : (at : Location) → IsLocation at → location_in (values_of (items_of (string at.file ∷ number_data at.line ∷ number_data at.column ∷ []))) ≡ Some at
location_back at fit =
    let file = fit.file in
    rw (file, small at.line fit.line, small at.column fit.column) refl

attr_back : (a : AttrInfo) → IsAttr a → attr_of (attr_data a) ≡ Some a
attr_back a fit =
    let name = fit.name in
    rw (name, optional_name_back a.unit fit.unit, attr_kind_back a.kind) refl

-- a signed number that is not negative is below 2^63, and a negative one is at least -2^63
i64_small : (n : ℕ) → is_i64 (pos n) ≡ true → nat_lt n (2 ^ 63) ≡ true
i64_small n h = (and_parts (int_le (neg_ℤ (pos (2 ^ 63))) (pos n)) (int_lt (pos n) (pos (2 ^ 63))) h).1

i64_least : (n : ℕ) → is_i64 (negsuc n) ≡ true → n < 2 ^ 63
i64_least n h = grind (arith, nat_tests)

value_back : (v : AttrValue) → IsValue v → value_of (value_data v) ≡ Some v
value_back (values.U64 n) h = refl
value_back (values.Bool b) h = refl
value_back (values.I64 (pos n)) h = rw (i64_small n h) refl
value_back (values.I64 (negsuc n)) h = refl

attrs_back : (attrs : List AttrInfo) → AreAttrs attrs → attrs_in (values_of (items_of (map attr_data attrs))) ≡ Some attrs
unfolding attrs_in
attrs_back attrs fit =
    let all = fit.all in
    rw (each_back attr_of attr_data IsAttr attr_back attrs fit.each, all) refl

values_back : (vs : List AttrValue) → AreValues vs → values_in (values_of (items_of (map value_data vs))) ≡ Some vs
unfolding values_in
values_back vs fit = rw (each_back value_of value_data IsValue value_back vs fit.each, few (length vs) fit.few) refl

-- ---- infos, statistics and counts

info_back : (t : TaskInfo) → IsTaskInfo t → info_of (info_data t) ≡ Some t
unfolding info_of
info_back t fit =
    let id = fit.id in
    let name = fit.name in
    rw (id, kind_back t.kind, location_back t.location fit.location, name) refl

resource_back : (r : ResourceInfo) → IsResourceInfo r → resource_of (resource_data r) ≡ Some r
unfolding resource_of resource_parts
resource_back r fit =
    let id = fit.id in
    let kind = fit.kind in
    let concrete = fit.concrete in
    rw (id, kind, location_back r.location fit.location, optional_id_back r.parent fit.parent, concrete, attrs_back r.attrs fit.attrs) refl

op_back : (o : OpInfo) → IsOpInfo o → op_of (op_data o) ≡ Some o
unfolding op_of op_parts
op_back o fit =
    let id = fit.id in
    let resource = fit.resource in
    let source = fit.source in
    rw (id, optional_id_back o.parent fit.parent, resource, source, attrs_back o.attrs fit.attrs) refl

stats_back : (s : ℕ × TaskRow) → AreTaskStats s → stats_of (stats_data s) ≡ Some s
unfolding stats_of
stats_back s fit =
    let id = fit.id in
    rw (optional_back s.1.dropped, optional_back s.1.first_poll, id, optional_back s.1.last_ended, optional_back s.1.last_started, optional_back s.1.last_wake, waits_back s.1.sched s.1.waits fit.waits) refl

resource_stats_back : (s : ℕ × ResourceRow) → AreResourceStats s → resource_stats_of (resource_stats_data s) ≡ Some s
unfolding resource_stats_of resource_stats_with
resource_stats_back s fit =
    let id = fit.id in
    rw (values_back s.1.attrs fit.attrs, optional_back s.1.dropped, id) refl

op_stats_back : (s : ℕ × OpRow) → AreOpStats s → op_stats_of (op_stats_data s) ≡ Some s
unfolding op_stats_of op_stats_with
op_stats_back s fit =
    let id = fit.id in
    rw (values_back s.1.attrs fit.attrs, optional_back s.1.dropped, optional_back s.1.first_poll, id, optional_back s.1.last_ended, optional_back s.1.last_started, optional_id_back s.1.task fit.task) refl

counts_back : (c : PollCounts) → AreCounts c → counts_of (counts_data c) ≡ Some c
counts_back c fit =
    let resource = fit.resource in
    rw resource refl

id_back : (n : ℕ) → IsId n → id_of (number_data n) ≡ Some n
id_back n h = rw h refl

each_filled : (bs : List (ℕ × ℕ)) → each_of filled_of (values_of (items_of (map filled_data bs))) ≡ Some bs
each_filled [] = refl
each_filled (b ∷ bs) = rw (each_filled bs) refl

buckets_back : (counts : List ℕ) → length counts ≡ 14 → buckets_in (values_of (items_of (map filled_data (filled_from 0 counts)))) ≡ Some counts
unfolding buckets_in
buckets_back counts many = ap (option_and_then (counts_from 0 14)) (each_filled (filled_from 0 counts)) ∙ filled_back 0 14 counts many

times_back : (t : TaskTimes) → AreTimes t → times_of (times_data t) ≡ Some t
unfolding times_of waits_beside wait_times_of
times_back t fit = by t.1.waits fit.waits
  where
    by : (waits : Option WaitTimes) → IfSome waits AreWaitTimes → times_of (times_data (t.0, record t.1 { waits = waits })) ≡ Some (t.0, record t.1 { waits = waits })
    by None alone =
        let task = fit.task in
        rw (buckets_back t.1.counts fit.many, task) refl
    by (Some w) are =
        let task = fit.task in
        rw (buckets_back w.counts are.many, buckets_back t.1.counts fit.many, task) refl

not_said : IsSome {T = GoneView} None → ⊥
not_said e = absurd (cc)

-- the members of a line, of rows of which some count waits or none does
abbrev members_at : Bool → LineView → List (List ℕ × Data)
members_at counts l =
    (codes "dropped", dropped_data l.dropped) ∷
    gone_members l.gone ++ (members_between l ++ (times_fields l.task_times ++ (codes "v", number_data (version_with counts l.gone l.task_times)) ∷ []))

-- a line of each version
line_parts : (l : LineView) → IsLine l → line_in (line_data l) ≡ Some l
unfolding line_in parts_of said_at line_data
line_parts l fit = by (tells_waits l) l.gone l.task_times fit.gone fit.task_times
  where
    by : (counts : Bool) (gone : Option GoneView) (times : Option (List TaskTimes)) → IfSome gone IsGone → IfSome times (AreTold gone)
        → line_in (object_with (members_at counts (record l { gone = gone; task_times = times }))) ≡ Some (record l { gone = gone; task_times = times })
    by false None None none untold =
        let seq = fit.seq in
        rw (seq, each_back op_of op_data IsOpInfo op_back l.new_ops fit.new_ops, each_back resource_of resource_data IsResourceInfo resource_back l.new_resources fit.new_resources, each_back info_of info_data IsTaskInfo info_back l.new_tasks fit.new_tasks, each_back op_stats_of op_stats_data AreOpStats op_stats_back l.op_stats fit.op_stats, each_back counts_of counts_data AreCounts counts_back l.poll_counts fit.poll_counts, each_back resource_stats_of resource_stats_data AreResourceStats resource_stats_back l.resource_stats fit.resource_stats, each_back stats_of stats_data AreTaskStats stats_back l.task_stats fit.task_stats)
        refl
    by true None None none untold =
        let seq = fit.seq in
        rw (seq, each_back op_of op_data IsOpInfo op_back l.new_ops fit.new_ops, each_back resource_of resource_data IsResourceInfo resource_back l.new_resources fit.new_resources, each_back info_of info_data IsTaskInfo info_back l.new_tasks fit.new_tasks, each_back op_stats_of op_stats_data AreOpStats op_stats_back l.op_stats fit.op_stats, each_back counts_of counts_data AreCounts counts_back l.poll_counts fit.poll_counts, each_back resource_stats_of resource_stats_data AreResourceStats resource_stats_back l.resource_stats fit.resource_stats, each_back stats_of stats_data AreTaskStats stats_back l.task_stats fit.task_stats)
        refl
    by false None (Some ts) none told = absurd (not_said told.said)
    by true None (Some ts) none told = absurd (not_said told.said)
    by false (Some g) None are untold =
        let seq = fit.seq in
        rw (seq, each_back id_of number_data IsId id_back g.ops are.ops, each_back id_of number_data IsId id_back g.resources are.resources, each_back id_of number_data IsId id_back g.tasks are.tasks, each_back op_of op_data IsOpInfo op_back l.new_ops fit.new_ops, each_back resource_of resource_data IsResourceInfo resource_back l.new_resources fit.new_resources, each_back info_of info_data IsTaskInfo info_back l.new_tasks fit.new_tasks, each_back op_stats_of op_stats_data AreOpStats op_stats_back l.op_stats fit.op_stats, each_back counts_of counts_data AreCounts counts_back l.poll_counts fit.poll_counts, each_back resource_stats_of resource_stats_data AreResourceStats resource_stats_back l.resource_stats fit.resource_stats, each_back stats_of stats_data AreTaskStats stats_back l.task_stats fit.task_stats)
        refl
    by true (Some g) None are untold =
        let seq = fit.seq in
        rw (seq, each_back id_of number_data IsId id_back g.ops are.ops, each_back id_of number_data IsId id_back g.resources are.resources, each_back id_of number_data IsId id_back g.tasks are.tasks, each_back op_of op_data IsOpInfo op_back l.new_ops fit.new_ops, each_back resource_of resource_data IsResourceInfo resource_back l.new_resources fit.new_resources, each_back info_of info_data IsTaskInfo info_back l.new_tasks fit.new_tasks, each_back op_stats_of op_stats_data AreOpStats op_stats_back l.op_stats fit.op_stats, each_back counts_of counts_data AreCounts counts_back l.poll_counts fit.poll_counts, each_back resource_stats_of resource_stats_data AreResourceStats resource_stats_back l.resource_stats fit.resource_stats, each_back stats_of stats_data AreTaskStats stats_back l.task_stats fit.task_stats)
        refl
    by false (Some g) (Some ts) are told =
        let seq = fit.seq in
        rw (seq, each_back times_of times_data AreTimes times_back ts told.each, each_back id_of number_data IsId id_back g.ops are.ops, each_back id_of number_data IsId id_back g.resources are.resources, each_back id_of number_data IsId id_back g.tasks are.tasks, each_back op_of op_data IsOpInfo op_back l.new_ops fit.new_ops, each_back resource_of resource_data IsResourceInfo resource_back l.new_resources fit.new_resources, each_back info_of info_data IsTaskInfo info_back l.new_tasks fit.new_tasks, each_back op_stats_of op_stats_data AreOpStats op_stats_back l.op_stats fit.op_stats, each_back counts_of counts_data AreCounts counts_back l.poll_counts fit.poll_counts, each_back resource_stats_of resource_stats_data AreResourceStats resource_stats_back l.resource_stats fit.resource_stats, each_back stats_of stats_data AreTaskStats stats_back l.task_stats fit.task_stats)
        refl
    by true (Some g) (Some ts) are told =
        let seq = fit.seq in
        rw (seq, each_back times_of times_data AreTimes times_back ts told.each, each_back id_of number_data IsId id_back g.ops are.ops, each_back id_of number_data IsId id_back g.resources are.resources, each_back id_of number_data IsId id_back g.tasks are.tasks, each_back op_of op_data IsOpInfo op_back l.new_ops fit.new_ops, each_back resource_of resource_data IsResourceInfo resource_back l.new_resources fit.new_resources, each_back info_of info_data IsTaskInfo info_back l.new_tasks fit.new_tasks, each_back op_stats_of op_stats_data AreOpStats op_stats_back l.op_stats fit.op_stats, each_back counts_of counts_data AreCounts counts_back l.poll_counts fit.poll_counts, each_back resource_stats_of resource_stats_data AreResourceStats resource_stats_back l.resource_stats fit.resource_stats, each_back stats_of stats_data AreTaskStats stats_back l.task_stats fit.task_stats)
        refl

-- the number that is read as its version
version_read : (l : LineView) → number_at (codes "v") (line_data l) ≡ Some (version l)
unfolding line_data
version_read l = by l.gone l.task_times
  where
    by : (gone : Option GoneView) (times : Option (List TaskTimes)) → number_at (codes "v") (line_data (record l { gone = gone; task_times = times })) ≡ Some (version (record l { gone = gone; task_times = times }))
    by None None = refl
    by None (Some ts) = refl
    by (Some g) None = refl
    by (Some g) (Some ts) = refl

same_version : (n : ℕ) → (n == n) ≡ true
same_version n = eq-eqb n n refl

pub line_back : (l : LineView) → IsLine l → line_of (line_data l) ≡ Some l
unfolding line_of
line_back l fit = rw (line_parts l fit, version_read l, same_version (version l)) refl

-- ---- whole values

ascii_printable : (bs : List ℕ) → list_all is_printable bs ≡ true → IsAscii bs
ascii_printable [] h = IsAscii-nil
ascii_printable (b ∷ bs) h = IsAscii-cons b bs (grind (arith, nat_tests)) (ascii_printable bs (grind arith))

name_text : (s : List ℕ) → is_name s ≡ true → IsUtf8 s
name_text s h = IsUtf8-from_ascii s (ascii_printable s (and_parts (nat_le 1 (length s) && nat_le (length s) 1024) (list_all is_printable s) h).1)

-- a key or a word of the format
ascii : (s : List ℕ) → are_ascii s ≡ true → IsUtf8 s
ascii s h = IsUtf8-are_ascii s h

kind_whole : (k : TaskKind) → IsUtf8 (kind_text k)
kind_whole Spawn = ascii (codes "spawn") refl
kind_whole Blocking = ascii (codes "blocking") refl

attr_kind_whole : (k : AttrKind) → IsUtf8 (attr_kind_text k)
attr_kind_whole kinds.U64 = ascii (codes "u64") refl
attr_kind_whole kinds.Bool = ascii (codes "bool") refl
attr_kind_whole kinds.I64 = ascii (codes "i64") refl

id_small : (n : ℕ) → is_id n ≡ true → n < 2 ^ 64
id_small n h = let most : n / 2 ^ 40 ≤ 64 = leb-true _ _ (and_parts _ _ (and_parts _ _ h).0).1 in omega arith

seq_small : (n : ℕ) → is_seq n ≡ true → n < 2 ^ 64
seq_small n h = let most : n ≤ 2 ^ 63 = leb-true _ _ (and_parts _ _ h).1 in omega arith

optional_whole : (o : Option ℕ) → IsOptional o → IsWhole (optional_data o)
optional_whole (Some n) h = h
optional_whole None h = tt

waits_whole : (sched : ℕ) (waits : Option Waits) → IsNumber sched → IfSome waits AreWaits → IsWhole (waits_data sched waits)
waits_whole sched None h fit = h
waits_whole sched (Some waits) h fit = (h, (fit.total, (let below = fit.so_far in omega arith, tt)))

version_small : (counts : Bool) (gone : Option GoneView) (times : Option (List TaskTimes)) → version_with counts gone times < 2 ^ 64
version_small true _ _ = lit< tt
version_small false None _ = lit< tt
version_small false (Some _) None = lit< tt
version_small false (Some _) (Some _) = lit< tt

optional_id_whole : (o : Option ℕ) → IsOptionalId o → IsWhole (optional_data o)
optional_id_whole (Some n) h = id_small n h
optional_id_whole None h = tt

optional_text_whole : (o : Option (List ℕ)) → IfSome o IsName → IsWhole (optional_text o)
optional_text_whole (Some s) h = name_text s h
optional_text_whole None h = tt

each_whole : {A : Type 0} (spelling : A → Data) (P : A → Type 0) → ((x : A) → P x → IsWhole (spelling x)) → (xs : List A) → AllByRecursion P xs → AreWhole (items_of (map spelling xs))
each_whole spelling P h [] fit = tt
each_whole spelling P h (x ∷ xs) fit = (h x fit.0, each_whole spelling P h xs fit.1)

location_whole : (at : Location) → IsLocation at → IsWhole (location_data at)
location_whole at fit =
    let line = fit.line in
    let column = fit.column in
    (name_text at.file fit.file, (omega arith, (omega arith, tt)))

attr_whole : (a : AttrInfo) → IsAttr a → IsWhole (attr_data a)
attr_whole a fit = (name_text a.name fit.name, (optional_text_whole a.unit fit.unit, (attr_kind_whole a.kind, tt)))

value_whole : (v : AttrValue) → IsValue v → IsWhole (value_data v)
value_whole (values.U64 n) h = h
value_whole (values.Bool b) h = tt
value_whole (values.I64 (pos n)) h = let small : n < 2 ^ 63 = ltb-true _ _ (i64_small n h) in (omega arith, tt)
value_whole (values.I64 (negsuc n)) h = (i64_least n h, tt)

info_whole : (t : TaskInfo) → IsTaskInfo t → IsWhole (info_data t)
info_whole t fit = ((ascii (codes "id") refl, id_small t.id fit.id, (ascii (codes "kind") refl, kind_whole t.kind, (ascii (codes "loc") refl, location_whole t.location fit.location, (ascii (codes "name") refl, name_text t.name fit.name, tt)))), refl)

resource_whole : (r : ResourceInfo) → IsResourceInfo r → IsWhole (resource_data r)
resource_whole r fit = ((ascii (codes "attrs") refl, each_whole attr_data IsAttr attr_whole r.attrs fit.attrs.each, (ascii (codes "id") refl, id_small r.id fit.id, (ascii (codes "kind") refl, name_text r.kind fit.kind, (ascii (codes "loc") refl, location_whole r.location fit.location, (ascii (codes "parent") refl, optional_id_whole r.parent fit.parent, (ascii (codes "type") refl, name_text r.concrete fit.concrete, tt)))))), refl)

op_whole : (o : OpInfo) → IsOpInfo o → IsWhole (op_data o)
op_whole o fit = ((ascii (codes "attrs") refl, each_whole attr_data IsAttr attr_whole o.attrs fit.attrs.each, (ascii (codes "id") refl, id_small o.id fit.id, (ascii (codes "parent") refl, optional_id_whole o.parent fit.parent, (ascii (codes "resource") refl, id_small o.resource fit.resource, (ascii (codes "source") refl, name_text o.source fit.source, tt))))), refl)

stats_whole : (s : ℕ × TaskRow) → AreTaskStats s → IsWhole (stats_data s)
stats_whole s fit = ((ascii (codes "busy") refl, fit.busy, (ascii (codes "clones") refl, fit.clones, (ascii (codes "created") refl, fit.created, (ascii (codes "dropped") refl, optional_whole s.1.dropped fit.dropped, (ascii (codes "drops") refl, fit.drops, (ascii (codes "first_poll") refl, optional_whole s.1.first_poll fit.first_poll, (ascii (codes "handles") refl, fit.handles, (ascii (codes "id") refl, id_small s.0 fit.id, (ascii (codes "last_ended") refl, optional_whole s.1.last_ended fit.last_ended, (ascii (codes "last_started") refl, optional_whole s.1.last_started fit.last_started, (ascii (codes "last_wake") refl, optional_whole s.1.last_wake fit.last_wake, (ascii (codes "polling") refl, tt, (ascii (codes "polls") refl, fit.polls, (ascii (codes "sched") refl, waits_whole s.1.sched s.1.waits fit.sched fit.waits, (ascii (codes "scheduled") refl, tt, (ascii (codes "self_wakes") refl, fit.self_wakes, (ascii (codes "wakes") refl, fit.wakes, tt))))))))))))))))), refl)

resource_stats_whole : (s : ℕ × ResourceRow) → AreResourceStats s → IsWhole (resource_stats_data s)
resource_stats_whole s fit = ((ascii (codes "attrs") refl, each_whole value_data IsValue value_whole s.1.attrs fit.attrs.each, (ascii (codes "created") refl, fit.created, (ascii (codes "dropped") refl, optional_whole s.1.dropped fit.dropped, (ascii (codes "handles") refl, fit.handles, (ascii (codes "id") refl, id_small s.0 fit.id, tt))))), refl)

op_stats_whole : (s : ℕ × OpRow) → AreOpStats s → IsWhole (op_stats_data s)
op_stats_whole s fit = ((ascii (codes "attrs") refl, each_whole value_data IsValue value_whole s.1.attrs fit.attrs.each, (ascii (codes "busy") refl, fit.busy, (ascii (codes "created") refl, fit.created, (ascii (codes "dropped") refl, optional_whole s.1.dropped fit.dropped, (ascii (codes "first_poll") refl, optional_whole s.1.first_poll fit.first_poll, (ascii (codes "handles") refl, fit.handles, (ascii (codes "id") refl, id_small s.0 fit.id, (ascii (codes "last_ended") refl, optional_whole s.1.last_ended fit.last_ended, (ascii (codes "last_started") refl, optional_whole s.1.last_started fit.last_started, (ascii (codes "polling") refl, tt, (ascii (codes "polls") refl, fit.polls, (ascii (codes "task") refl, optional_id_whole s.1.task fit.task, tt)))))))))))), refl)

counts_whole : (c : PollCounts) → AreCounts c → IsWhole (counts_data c)
counts_whole c fit = (id_small c.0 fit.resource, (fit.ready, (fit.pending, tt)))

filled_whole : (bs : List (ℕ × ℕ)) → AllByRecursion (λ b. (b.0 < 2 ^ 64) × (b.1 < 2 ^ 64)) bs → AreWhole (items_of (map filled_data bs))
filled_whole [] fit = tt
filled_whole (b ∷ bs) fit = ((fit.0.0, (fit.0.1, tt)), filled_whole bs fit.1)

buckets_whole : (counts : List ℕ) → length counts ≡ 14 → AllByRecursion IsNumber counts → IsWhole (buckets_data counts)
buckets_whole counts many fit = filled_whole (filled_from 0 counts) (all_filled 0 counts (omega (arith, many)) fit)

times_whole : (t : TaskTimes) → AreTimes t → IsWhole (times_data t)
times_whole t fit = by t.1.waits fit.waits
  where
    by : (waits : Option WaitTimes) → IfSome waits AreWaitTimes → IsWhole (times_data (t.0, record t.1 { waits = waits }))
    by None alone =
        ((ascii (codes "counts") refl, buckets_whole t.1.counts fit.many fit.counts, (ascii (codes "id") refl, id_small t.0 fit.task, (ascii (codes "longest") refl, fit.longest, tt))), refl)
    by (Some w) are =
        ((ascii (codes "counts") refl, buckets_whole t.1.counts fit.many fit.counts, (ascii (codes "id") refl, id_small t.0 fit.task, (ascii (codes "longest") refl, fit.longest, (ascii (codes "longest_wait") refl, are.longest, (ascii (codes "waits") refl, buckets_whole w.counts are.many are.counts, tt))))), refl)

pub line_whole : (l : LineView) → IsLine l → IsWhole (line_data l)
unfolding line_data
line_whole l fit = by l.gone l.task_times fit.gone fit.task_times
  where
    by : (gone : Option GoneView) (times : Option (List TaskTimes)) → IfSome gone IsGone → IfSome times (AreTold gone) → IsWhole (line_data (record l { gone = gone; task_times = times }))
    by None None none untold = ((ascii (codes "dropped") refl, (fit.dropped.tasks, (fit.dropped.resources, (fit.dropped.ops, tt))), (ascii (codes "new_ops") refl, each_whole op_data IsOpInfo op_whole l.new_ops fit.new_ops, (ascii (codes "new_resources") refl, each_whole resource_data IsResourceInfo resource_whole l.new_resources fit.new_resources, (ascii (codes "new_tasks") refl, each_whole info_data IsTaskInfo info_whole l.new_tasks fit.new_tasks, (ascii (codes "now") refl, fit.now, (ascii (codes "op_stats") refl, each_whole op_stats_data AreOpStats op_stats_whole l.op_stats fit.op_stats, (ascii (codes "poll_counts") refl, each_whole counts_data AreCounts counts_whole l.poll_counts fit.poll_counts, (ascii (codes "resource_stats") refl, each_whole resource_stats_data AreResourceStats resource_stats_whole l.resource_stats fit.resource_stats, (ascii (codes "seq") refl, seq_small l.seq fit.seq, (ascii (codes "snapshot") refl, tt, (ascii (codes "task_stats") refl, each_whole stats_data AreTaskStats stats_whole l.task_stats fit.task_stats, (ascii (codes "v") refl, version_small (tells_waits (record l { gone = None; task_times = None })) None None, tt)))))))))))), refl)
    by None (Some ts) none told = absurd (not_said told.said)
    by (Some g) None are untold = ((ascii (codes "dropped") refl, (fit.dropped.tasks, (fit.dropped.resources, (fit.dropped.ops, tt))), (ascii (codes "gone_ops") refl, each_whole number_data IsId id_small g.ops are.ops, (ascii (codes "gone_resources") refl, each_whole number_data IsId id_small g.resources are.resources, (ascii (codes "gone_tasks") refl, each_whole number_data IsId id_small g.tasks are.tasks, (ascii (codes "new_ops") refl, each_whole op_data IsOpInfo op_whole l.new_ops fit.new_ops, (ascii (codes "new_resources") refl, each_whole resource_data IsResourceInfo resource_whole l.new_resources fit.new_resources, (ascii (codes "new_tasks") refl, each_whole info_data IsTaskInfo info_whole l.new_tasks fit.new_tasks, (ascii (codes "now") refl, fit.now, (ascii (codes "op_stats") refl, each_whole op_stats_data AreOpStats op_stats_whole l.op_stats fit.op_stats, (ascii (codes "poll_counts") refl, each_whole counts_data AreCounts counts_whole l.poll_counts fit.poll_counts, (ascii (codes "resource_stats") refl, each_whole resource_stats_data AreResourceStats resource_stats_whole l.resource_stats fit.resource_stats, (ascii (codes "seq") refl, seq_small l.seq fit.seq, (ascii (codes "snapshot") refl, tt, (ascii (codes "task_stats") refl, each_whole stats_data AreTaskStats stats_whole l.task_stats fit.task_stats, (ascii (codes "v") refl, version_small (tells_waits (record l { gone = Some g; task_times = None })) (Some g) None, tt))))))))))))))), refl)
    by (Some g) (Some ts) are told = ((ascii (codes "dropped") refl, (fit.dropped.tasks, (fit.dropped.resources, (fit.dropped.ops, tt))), (ascii (codes "gone_ops") refl, each_whole number_data IsId id_small g.ops are.ops, (ascii (codes "gone_resources") refl, each_whole number_data IsId id_small g.resources are.resources, (ascii (codes "gone_tasks") refl, each_whole number_data IsId id_small g.tasks are.tasks, (ascii (codes "new_ops") refl, each_whole op_data IsOpInfo op_whole l.new_ops fit.new_ops, (ascii (codes "new_resources") refl, each_whole resource_data IsResourceInfo resource_whole l.new_resources fit.new_resources, (ascii (codes "new_tasks") refl, each_whole info_data IsTaskInfo info_whole l.new_tasks fit.new_tasks, (ascii (codes "now") refl, fit.now, (ascii (codes "op_stats") refl, each_whole op_stats_data AreOpStats op_stats_whole l.op_stats fit.op_stats, (ascii (codes "poll_counts") refl, each_whole counts_data AreCounts counts_whole l.poll_counts fit.poll_counts, (ascii (codes "resource_stats") refl, each_whole resource_stats_data AreResourceStats resource_stats_whole l.resource_stats fit.resource_stats, (ascii (codes "seq") refl, seq_small l.seq fit.seq, (ascii (codes "snapshot") refl, tt, (ascii (codes "task_stats") refl, each_whole stats_data AreTaskStats stats_whole l.task_stats fit.task_stats, (ascii (codes "task_times") refl, each_whole times_data AreTimes times_whole ts told.each, (ascii (codes "v") refl, version_small (tells_waits (record l { gone = Some g; task_times = Some ts })) (Some g) (Some ts), tt)))))))))))))))), refl)

-- ---- how deep a line nests

each_shallow : {A : Type 0} (spelling : A → Data) (n : ℕ) → ((x : A) → tree.depth (outline (spelling x)) ≤ n) → (xs : List A) → tree.items_depth (items_outline (items_of (map spelling xs))) ≤ n
each_shallow spelling n h [] = omega arith
each_shallow spelling n h (x ∷ xs) = omega (arith, h x, each_shallow spelling n h xs)

optional_flat : (o : Option ℕ) → tree.depth (outline (optional_data o)) ≤ 0
optional_flat (Some n) = omega arith
optional_flat None = omega arith

waits_flat : (sched : ℕ) (waits : Option Waits) → tree.depth (outline (waits_data sched waits)) ≤ 1
waits_flat sched None = omega arith
waits_flat sched (Some waits) = omega arith

text_flat : (o : Option (List ℕ)) → tree.depth (outline (optional_text o)) ≤ 0
text_flat (Some s) = omega arith
text_flat None = omega arith

attr_shallow : (a : AttrInfo) → tree.depth (outline (attr_data a)) ≤ 1
attr_shallow a = omega (arith, text_flat a.unit)

value_shallow : (v : AttrValue) → tree.depth (outline (value_data v)) ≤ 1
value_shallow (values.U64 n) = omega arith
value_shallow (values.Bool b) = omega arith
value_shallow (values.I64 (pos n)) = omega arith
value_shallow (values.I64 (negsuc n)) = omega arith

resource_shallow : (r : ResourceInfo) → tree.depth (outline (resource_data r)) ≤ 3
resource_shallow r = omega (arith, each_shallow attr_data 1 attr_shallow r.attrs, optional_flat r.parent)

op_shallow : (o : OpInfo) → tree.depth (outline (op_data o)) ≤ 3
op_shallow o = omega (arith, each_shallow attr_data 1 attr_shallow o.attrs, optional_flat o.parent)

stats_shallow : (s : ℕ × TaskRow) → tree.depth (outline (stats_data s)) ≤ 3
stats_shallow s = omega (arith, optional_flat s.1.dropped, optional_flat s.1.first_poll, optional_flat s.1.last_ended, optional_flat s.1.last_started, optional_flat s.1.last_wake, waits_flat s.1.sched s.1.waits)

resource_stats_shallow : (s : ℕ × ResourceRow) → tree.depth (outline (resource_stats_data s)) ≤ 3
resource_stats_shallow s = omega (arith, each_shallow value_data 1 value_shallow s.1.attrs, optional_flat s.1.dropped)

op_stats_shallow : (s : ℕ × OpRow) → tree.depth (outline (op_stats_data s)) ≤ 3
op_stats_shallow s =
    omega (arith, each_shallow value_data 1 value_shallow s.1.attrs, optional_flat s.1.dropped, optional_flat s.1.first_poll, optional_flat s.1.last_ended, optional_flat s.1.last_started, optional_flat s.1.task)

times_shallow : (t : TaskTimes) → tree.depth (outline (times_data t)) ≤ 3
times_shallow t = by t.1.waits
  where
    buckets_shallow : (counts : List ℕ) → tree.depth (outline (buckets_data counts)) ≤ 2
    buckets_shallow counts = omega (arith, each_shallow filled_data 1 (λ b. omega arith) (filled_from 0 counts))

    by : (waits : Option WaitTimes) → tree.depth (outline (times_data (t.0, record t.1 { waits = waits }))) ≤ 3
    by None = omega (arith, buckets_shallow t.1.counts)
    by (Some w) = omega (arith, buckets_shallow t.1.counts, buckets_shallow w.counts)

-- members that nest no deeper than a list of rows
abbrev AreShallow : List (List ℕ × Data) → Type 0
AreShallow = AllByRecursion (λ f. tree.depth (outline f.1) ≤ 4)

members_shallow : (fs : List (List ℕ × Data)) → AreShallow fs → tree.members_depth (members_outline (members_in fs)) ≤ 4
members_shallow [] all = omega arith
members_shallow (f ∷ fs) all = omega (arith, all.0, members_shallow fs all.1)

both_shallow : (fs gs : List (List ℕ × Data)) → AreShallow fs → AreShallow gs → AreShallow (fs ++ gs)
both_shallow [] gs h g = g
both_shallow (f ∷ fs) gs h g = (h.0, both_shallow fs gs h.1 g)

gone_shallow : (gone : Option GoneView) → AreShallow (gone_members gone)
gone_shallow None = tt
gone_shallow (Some g) =
    (omega (arith, each_shallow number_data 3 (λ n. omega arith) g.ops), (omega (arith, each_shallow number_data 3 (λ n. omega arith) g.resources), (omega (arith, each_shallow number_data 3 (λ n. omega arith) g.tasks), tt)))

between_shallow : (l : LineView) → AreShallow (members_between l)
between_shallow l =
    (omega (arith, each_shallow op_data 3 op_shallow l.new_ops), (omega (arith, each_shallow resource_data 3 resource_shallow l.new_resources), (omega (arith, each_shallow info_data 3 (λ t. omega arith) l.new_tasks), (omega arith, (omega (arith, each_shallow op_stats_data 3 op_stats_shallow l.op_stats), (omega (arith, each_shallow counts_data 3 (λ c. omega arith) l.poll_counts), (omega (arith, each_shallow resource_stats_data 3 resource_stats_shallow l.resource_stats), (omega arith, (omega arith, (omega (arith, each_shallow stats_data 3 stats_shallow l.task_stats), tt))))))))))

told_shallow : (times : Option (List TaskTimes)) → AreShallow (times_fields times)
told_shallow None = tt
told_shallow (Some ts) = (omega (arith, each_shallow times_data 3 times_shallow ts), tt)

line_shallow : (l : LineView) → tree.depth (outline (line_data l)) ≤ max_depth
unfolding line_data
line_shallow l =
    let last : List (List ℕ × Data) = (codes "v", number_data (version l)) ∷ [] in
    let all = both_shallow (gone_members l.gone) (members_between l ++ (times_fields l.task_times ++ last)) (gone_shallow l.gone)
    (both_shallow (members_between l) (times_fields l.task_times ++ last) (between_shallow l) (both_shallow (times_fields l.task_times) last (told_shallow l.task_times) (omega arith, tt))) in
    omega (arith, members_shallow (line_members l) (omega arith, all))

-- the text of a line reads back as that line
pub text_reads : (l : LineView) → IsLine l → line_of_text (line_text l) ≡ Ok l
unfolding line_text
text_reads l fit =
    let w = line_whole l fit in
    let json : json_or_fault (compact_text (line_data l)) ≡ Ok (line_data l) =
    json_read (compact_text (line_data l)) (line_data l) (whole_is_text (line_data l) w) (read-compact_text (line_data l) w (line_shallow l)) in
    ap (λ r. r then (λ d. shaped (line_of d))) json ∙ ap shaped (line_back l fit)
