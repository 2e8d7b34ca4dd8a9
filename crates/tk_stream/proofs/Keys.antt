-- The line of an object whose members are read key by key.
use Rattle.std.proofs.Common.{◌≡◌, ℕ, suc, ◌<◌, ◌-◌, length, List, [], ◌∷◌, ◌==◌, Bool, true, false, cond, Option, Some, None, option_map, option_and_then, is_eq, bytes_eq, refl, sym, ap, ap₂, ◌∙◌, arith}
use Rattle.std.specs.Option.{option_map_or}
use Rattle.serde_json.specs.Read.{of_json, converted}
use Rattle.std.specs.Prelude.{codes, ◌&&◌, ◌||◌}
use Rattle.std.proofs.lemmas.Map.Text.{is_eq-slice_cmp}
use Rattle.std.proofs.lemmas.Slice.Eq.{bytes_eq-Decides}
use Rattle.std.specs.Cmp.Lexicographic.{slice_cmp}
use Rattle.std.specs.Ordering.{nat_cmp, match_ordering}
use Rattle.std.specs.declared.cmp.Ordering.{Ordering}
use Rattle.std.specs.declared.cmp.Ordering.TheVariants.{Less, Equal, Greater}
use Rattle.serde_json.specs.Data.{Data, null, boolean, number, string, array, object, Items, no_items, item, Members, no_members, member, put}
use Rattle.serde_json.specs.Events.{items_len, members_len}
use Rattle.serde_json.specs.Find.{get, get_member, as_array, as_bool}
use Rattle.serde_json.proofs.Views.{get_member-put, get_member-put_other}
use Rattle.tk_ids.specs.declared.info.Dropped.{Dropped}
use Rattle.json.specs.Token.{Token}
use Rattle.json.specs.Json.{parse_map, value}
use Rattle.json.specs.Reads.{token_of}
use Rattle.json.specs.declared.token.Token as tokens
use Rattle.json.specs.declared.token.Token.TheVariants.{BeginObject}
use Rattle.json.specs.Json as json
use Rattle.json.proofs.Grammar.{left, left_some, skip_value-shorter}
use Rattle.tk_json.specs.Small.{small, small_items}
use Rattle.tk_json.specs.Values.{value_read, members_read, rest}
use Rattle.tk_json.proofs.Growing.{longer}
use Rattle.tk_json.proofs.Steps.{object_read}
use Rattle.tk_stream.proofs.Listing.{passed_unseen}
use Rattle.tk_stream.specs.declared.text.read_json.numbers.Numbers.{Numbers}
use Rattle.tk_stream.specs.declared.text.read_json.numbers.Version.{Version}
use Rattle.tk_stream.specs.declared.text.read_json.numbers.Version.TheVariants.{One, Two, Three}
use Rattle.tk_stream.specs.Lines.{LineView, GoneView}
use Rattle.tk_stream.specs.Times.{TaskTimes}
use Rattle.tk_stream.specs.Reading.{◌>>=◌, number_of, values_of, list_of, each_of, id_of, number_at, flag_at, list_at, seq_at, dropped_in, has_members, op_of, resource_of, info_of, op_stats_of, counts_of, resource_stats_of, stats_of, times_of, GoneParts, gone_lists, ids_gone, SaidParts, SaidView, nothing_said, gone_said, both_said, said_at, said_of_parts, PartsView, parts_of, keys_of, of_version, line_in, line_of}
use Rattle.tk_stream.specs.SmallShapes.{number_same, flag_same, list_same, list_then, no_step}
use Rattle.tk_stream.specs.Spelled.{ListsView, listed, list_in, lists_in, list_put, lists_put, is_list_key, stands_for, own_members, version_at, numbers_of, gone_with, said_with, line_with, line_of_lists}

-- ---- lists, by their keys

put_by : {A : Type 0} (shape : Data → Option A) (b : Bool) (name key : List ℕ) (d : Data) (ms : Members) → bytes_eq key name ≡ b
    → list_in shape name (put key d ms) ≡ cond b (listed shape d) (list_in shape name ms)
put_by shape true name key d ms is =
    let same : name ≡ key = sym ((bytes_eq-Decides key name).0 is) in
    ap (option_and_then (listed shape)) (ap (λ k. get_member k (put key d ms)) same ∙ get_member-put key d ms)
put_by shape false name key d ms is =
    ap (option_and_then (listed shape)) (get_member-put_other name key d ms (λ same. absurd (cc (is, (bytes_eq-Decides key name).1 (sym same)))))

list_after : {A : Type 0} (shape : Data → Option A) (name key : List ℕ) (d : Data) (ms : Members) → list_in shape name (put key d ms) ≡ list_put shape name key d (list_in shape name ms)
list_after shape name key d ms = put_by shape (bytes_eq key name) name key d ms refl

pub lists_after : (key : List ℕ) (d : Data) (ms : Members) → lists_in (put key d ms) ≡ lists_put key d (lists_in ms)
lists_after key d ms =
    rw (
      list_after id_of (codes "gone_ops") key d ms,
      list_after id_of (codes "gone_resources") key d ms,
      list_after id_of (codes "gone_tasks") key d ms,
      list_after op_of (codes "new_ops") key d ms,
      list_after resource_of (codes "new_resources") key d ms,
      list_after info_of (codes "new_tasks") key d ms,
      list_after op_stats_of (codes "op_stats") key d ms,
      list_after counts_of (codes "poll_counts") key d ms,
      list_after resource_stats_of (codes "resource_stats") key d ms,
      list_after stats_of (codes "task_stats") key d ms,
      list_after times_of (codes "task_times") key d ms,
    ) refl

-- ---- the line's own object

same_key : (k l : List ℕ) → slice_cmp nat_cmp k l ≡ Equal → k ≡ l
same_key k l e = (bytes_eq-Decides k l).0 (sym (is_eq-slice_cmp k l) ∙ ap is_eq e)

own_put_by : (o : Ordering) (k l : List ℕ) (d e : Data) (ms : Members) → slice_cmp nat_cmp k l ≡ o → own_members (put k d ms) ≡ put k (stands_for k d) (own_members ms)
    → own_members (match_ordering o (member k d (member l e ms)) (member l d ms) (member l e (put k d ms)))
    ≡ match_ordering o (member k (stands_for k d) (member l (stands_for l e) (own_members ms))) (member l (stands_for k d) (own_members ms)) (member l (stands_for l e) (put k (stands_for k d) (own_members ms)))
own_put_by Less k l d e ms is h = refl
own_put_by Equal k l d e ms is h = ap (λ key. member l (stands_for key d) (own_members ms)) (sym (same_key k l is))
own_put_by Greater k l d e ms is h = ap (member l (stands_for l e)) h

pub own_put : (k : List ℕ) (d : Data) (ms : Members) → own_members (put k d ms) ≡ put k (stands_for k d) (own_members ms)
own_put k d no_members = refl
own_put k d (member l e ms) = own_put_by (slice_cmp nat_cmp k l) k l d e ms refl (own_put k d ms)

pub own_len : (ms : Members) → members_len (own_members ms) ≡ members_len ms
own_len no_members = refl
own_len (member k d ms) = ap suc (own_len ms)

own_get_by : (o : Ordering) (k l : List ℕ) (e : Data) (ms : Members) → slice_cmp nat_cmp k l ≡ o → get_member k (own_members ms) ≡ option_map (stands_for k) (get_member k ms)
    → match_ordering o (get_member k (own_members ms)) (Some (stands_for l e)) (get_member k (own_members ms)) ≡ option_map (stands_for k) (match_ordering o (get_member k ms) (Some e) (get_member k ms))
own_get_by Less k l e ms is h = h
own_get_by Equal k l e ms is h = ap (λ key. Some (stands_for key e)) (sym (same_key k l is))
own_get_by Greater k l e ms is h = h

own_get : (k : List ℕ) (ms : Members) → get_member k (own_members ms) ≡ option_map (stands_for k) (get_member k ms)
own_get k no_members = refl
own_get k (member l e ms) = own_get_by (slice_cmp nat_cmp k l) k l e ms refl (own_get k ms)

own_by : {B : Type 0} (f : Data → Option B) (key : List ℕ) → is_list_key key ≡ false → ((d : Data) → f (small d 3) ≡ f d) → (o : Option Data) → option_and_then f (option_map (stands_for key) o) ≡ option_and_then f o
own_by f key other same None = refl
own_by f key other same (Some d) = rw other (same d)

-- what stands at a key that is no list's
own_at : {B : Type 0} (f : Data → Option B) (key : List ℕ) → is_list_key key ≡ false → ((d : Data) → f (small d 3) ≡ f d) → (ms : Members) → option_and_then f (get_member key (own_members ms)) ≡ option_and_then f (get_member key ms)
own_at f key other same ms = ap (option_and_then f) (own_get key ms) ∙ own_by f key other same (get_member key ms)

own_number : (key : List ℕ) → is_list_key key ≡ false → (ms : Members) → number_at key (object (own_members ms)) ≡ number_at key (object ms)
own_number key other ms = own_at number_of key other (λ d. number_same d 3) ms

own_flag : (key : List ℕ) → is_list_key key ≡ false → (ms : Members) → flag_at key (object (own_members ms)) ≡ flag_at key (object ms)
own_flag key other ms = own_at as_bool key other (λ d. flag_same d 3) ms

dropped_few : (n : ℕ) (ds : Items) → dropped_in (values_of (small_items ds n)) ≡ dropped_in (values_of ds)
dropped_few n no_items = refl
dropped_few n (item a no_items) = refl
dropped_few n (item a (item b no_items)) = refl
dropped_few n (item a (item b (item c no_items))) = rw (number_same a n, number_same b n, number_same c n) refl
dropped_few n (item a (item b (item c (item d ds)))) = refl

dropped_wide : (ds : Items) → 14 < items_len ds → dropped_in (values_of ds) ≡ None
dropped_wide no_items h = refl
dropped_wide (item a no_items) h = refl
dropped_wide (item a (item b no_items)) h = refl
dropped_wide (item a (item b (item c no_items))) h = absurd (omega arith)
dropped_wide (item a (item b (item c (item d ds)))) h = refl

own_dropped : (key : List ℕ) → is_list_key key ≡ false → (ms : Members) → option_and_then dropped_in (list_at key (object (own_members ms))) ≡ option_and_then dropped_in (list_at key (object ms))
own_dropped key other ms =
    list_then dropped_in (get_member key (own_members ms))
    ∙ own_at (λ e. option_and_then dropped_in (list_of e)) key other (λ d. list_same dropped_in 2 (dropped_few 2, dropped_wide) d) ms ∙ sym (list_then dropped_in (get_member key ms))

own_has : (count : ℕ) (ms : Members) → has_members count (object (own_members ms)) ≡ has_members count (object ms)
own_has count ms = ap (λ n. n == count) (own_len ms)

own_numbers : (ms : Members) → numbers_of (object (own_members ms)) ≡ numbers_of (object ms)
unfolding numbers_of
own_numbers ms =
    rw (own_number (codes "v") refl ms, own_has 12 ms, own_has 15 ms, own_has 16 ms, own_dropped (codes "dropped") refl ms, own_number (codes "now") refl ms, own_number (codes "seq") refl ms, own_flag (codes "snapshot") refl ms) refl

-- ---- what is gone

module _ (ops resources tasks : Option (List Data)) where
  abbrev gone_first : Option GoneParts
  gone_first = do
    ops ← ops
    resources ← resources
    tasks ← tasks
    Some (record { ops = ops; resources = resources; tasks = tasks })

abbrev gone_made : List ℕ → List ℕ → List ℕ → GoneView
gone_made o r t = record { ops = o; resources = r; tasks = t }

gone_order : (o r t : Option (List Data)) → (gone_first o r t >>= ids_gone) ≡ gone_with (o >>= each_of id_of) (r >>= each_of id_of) (t >>= each_of id_of)
gone_order None r t = refl
gone_order (Some o) None t = sym (no_step (each_of id_of o) _ (λ x. refl))
gone_order (Some o) (Some r) None = sym (no_step (each_of id_of o) _ (λ x. no_step (each_of id_of r) _ (λ y. refl)))
gone_order (Some o) (Some r) (Some t) = refl

-- ---- what only some versions say

abbrev said_made : Option GoneView → Option (List TaskTimes) → SaidView
said_made gone times = record { gone = gone; times = times }

-- what is gone by itself
gone_alone : (g : Option GoneParts) → (option_map gone_said g >>= said_of_parts) ≡ ((g >>= ids_gone) >>= λ gone. Some (record { gone = Some gone; times = None }))
gone_alone None = refl
gone_alone (Some g) = by (ids_gone g)
  where
    by : (o : Option GoneView) → (option_map Some o >>= λ gone. Some (said_made gone None)) ≡ (o >>= λ gone. Some (record { gone = Some gone; times = None }))
    by None = refl
    by (Some gone) = refl

-- what is gone, and histograms
abbrev both : Option GoneView → Option (List TaskTimes) → Option SaidView
both gone times = gone >>= λ g. times >>= λ t. Some (record { gone = Some g; times = Some t })

both_order : (g : Option GoneParts) (t : Option (List Data)) → ((g >>= λ gone. option_map (both_said gone) t) >>= said_of_parts) ≡ both (g >>= ids_gone) (t >>= each_of times_of)
both_order None t = refl
both_order (Some g) None = sym (no_step (ids_gone g) _ (λ x. refl))
both_order (Some g) (Some t) = by (ids_gone g) (each_of times_of t)
  where
    by : (o : Option GoneView) (p : Option (List TaskTimes)) → (option_map Some o >>= λ gone. option_map Some p >>= λ times. Some (said_made gone times)) ≡ both o p
    by None p = refl
    by (Some gone) None = refl
    by (Some gone) (Some times) = refl

-- ---- the order in which the parts of a line are read

abbrev parts_from : Option SaidParts → Option Dropped → (new_ops new_resources new_tasks : Option (List Data)) → Option ℕ → (op_stats poll_counts resource_stats : Option (List Data)) → Option ℕ → Option Bool → Option (List Data) → Option PartsView
parts_from said dropped new_ops new_resources new_tasks now op_stats poll_counts resource_stats seq snapshot task_stats = do
  said ← said
  dropped ← dropped
  new_ops ← new_ops
  new_resources ← new_resources
  new_tasks ← new_tasks
  now ← now
  op_stats ← op_stats
  poll_counts ← poll_counts
  resource_stats ← resource_stats
  seq ← seq
  snapshot ← snapshot
  task_stats ← task_stats
  Some (record { dropped = dropped; said = said; new_ops = new_ops; new_resources = new_resources; new_tasks = new_tasks; now = now; op_stats = op_stats; poll_counts = poll_counts; resource_stats = resource_stats; seq = seq; snapshot = snapshot; task_stats = task_stats })

abbrev line_from : PartsView → Option LineView
line_from p = do
  said ← said_of_parts p.said
  new_ops ← each_of op_of p.new_ops
  new_resources ← each_of resource_of p.new_resources
  new_tasks ← each_of info_of p.new_tasks
  op_stats ← each_of op_stats_of p.op_stats
  poll_counts ← each_of counts_of p.poll_counts
  resource_stats ← each_of resource_stats_of p.resource_stats
  task_stats ← each_of stats_of p.task_stats
  Some (record { dropped = p.dropped; gone = said.gone; new_ops = new_ops; new_resources = new_resources; new_tasks = new_tasks; now = p.now; op_stats = op_stats; poll_counts = poll_counts; resource_stats = resource_stats; seq = p.seq; snapshot = p.snapshot; task_stats = task_stats; task_times = said.times })

-- the same, each list at once, after the numbers
abbrev line_last : Dropped → ℕ → ℕ → Bool → Option SaidView → (new_ops new_resources new_tasks op_stats poll_counts resource_stats task_stats : Option (List Data)) → Option LineView
line_last dropped now seq snapshot said new_ops new_resources new_tasks op_stats poll_counts resource_stats task_stats = do
  said ← said
  new_ops ← new_ops >>= each_of op_of
  new_resources ← new_resources >>= each_of resource_of
  new_tasks ← new_tasks >>= each_of info_of
  op_stats ← op_stats >>= each_of op_stats_of
  poll_counts ← poll_counts >>= each_of counts_of
  resource_stats ← resource_stats >>= each_of resource_stats_of
  task_stats ← task_stats >>= each_of stats_of
  Some (record { dropped = dropped; gone = said.gone; new_ops = new_ops; new_resources = new_resources; new_tasks = new_tasks; now = now; op_stats = op_stats; poll_counts = poll_counts; resource_stats = resource_stats; seq = seq; snapshot = snapshot; task_stats = task_stats; task_times = said.times })

lists_order : (d : Dropped) (now seq : ℕ) (s : Bool) (g : Option SaidParts) (a b c w e f h : Option (List Data))
    → (parts_from g (Some d) a b c (Some now) w e f (Some seq) (Some s) h >>= line_from) ≡ line_last d now seq s (g >>= said_of_parts) a b c w e f h
lists_order d now seq s None a b c w e f h = refl
lists_order d now seq s (Some g) None b c w e f h = sym (no_step (said_of_parts g) _ (λ _. refl))
lists_order d now seq s (Some g) (Some a) None c w e f h = sym (no_step (said_of_parts g) _ (λ _. no_step (each_of op_of a) _ (λ _. refl)))
lists_order d now seq s (Some g) (Some a) (Some b) None w e f h = sym (no_step (said_of_parts g) _ (λ _. no_step (each_of op_of a) _ (λ _. no_step (each_of resource_of b) _ (λ _. refl))))
lists_order d now seq s (Some g) (Some a) (Some b) (Some c) None e f h = sym (no_step (said_of_parts g) _ (λ _. no_step (each_of op_of a) _ (λ _. no_step (each_of resource_of b) _ (λ _. no_step (each_of info_of c) _ (λ _. refl)))))
lists_order d now seq s (Some g) (Some a) (Some b) (Some c) (Some w) None f h = sym (no_step (said_of_parts g) _ (λ _. no_step (each_of op_of a) _ (λ _. no_step (each_of resource_of b) _ (λ _. no_step (each_of info_of c) _ (λ _. no_step (each_of op_stats_of w) _ (λ _. refl))))))
lists_order d now seq s (Some g) (Some a) (Some b) (Some c) (Some w) (Some e) None h = sym (no_step (said_of_parts g) _ (λ _. no_step (each_of op_of a) _ (λ _. no_step (each_of resource_of b) _ (λ _. no_step (each_of info_of c) _ (λ _. no_step (each_of op_stats_of w) _ (λ _. no_step (each_of counts_of e) _ (λ _. refl)))))))
lists_order d now seq s (Some g) (Some a) (Some b) (Some c) (Some w) (Some e) (Some f) None = sym (no_step (said_of_parts g) _ (λ _. no_step (each_of op_of a) _ (λ _. no_step (each_of resource_of b) _ (λ _. no_step (each_of info_of c) _ (λ _. no_step (each_of op_stats_of w) _ (λ _. no_step (each_of counts_of e) _ (λ _. no_step (each_of resource_stats_of f) _ (λ _. refl))))))))
lists_order d now seq s (Some g) (Some a) (Some b) (Some c) (Some w) (Some e) (Some f) (Some h) = refl

line_order : (dropped : Option Dropped) (now seq : Option ℕ) (snapshot : Option Bool) (g : Option SaidParts) (a b c w e f h : Option (List Data))
    → (parts_from g dropped a b c now w e f seq snapshot h >>= line_from) ≡ (dropped >>= λ d. now >>= λ n. seq >>= λ q. snapshot >>= λ s. line_last d n q s (g >>= said_of_parts) a b c w e f h)
line_order None now seq snapshot g a b c w e f h = ap (λ o. o >>= line_from) (no_step g _ (λ _. refl))
line_order (Some d) None seq snapshot g a b c w e f h = ap (λ o. o >>= line_from) (no_step g _ (λ _. no_step a _ (λ _. no_step b _ (λ _. no_step c _ (λ _. refl)))))
line_order (Some d) (Some n) None snapshot g a b c w e f h = ap (λ o. o >>= line_from) (no_step g _ (λ _. no_step a _ (λ _. no_step b _ (λ _. no_step c _ (λ _. no_step w _ (λ _. no_step e _ (λ _. no_step f _ (λ _. refl))))))))
line_order (Some d) (Some n) (Some q) None g a b c w e f h = ap (λ o. o >>= line_from) (no_step g _ (λ _. no_step a _ (λ _. no_step b _ (λ _. no_step c _ (λ _. no_step w _ (λ _. no_step e _ (λ _. no_step f _ (λ _. refl))))))))
line_order (Some d) (Some n) (Some q) (Some s) g a b c w e f h = lists_order d n q s g a b c w e f h

abbrev numbers_made : Version → Dropped → ℕ → ℕ → Bool → Numbers
numbers_made version d n q s = record { dropped = d; now = n; seq = q; snapshot = s; version = version }

numbers_then : (version : Version) (dropped : Option Dropped) (now seq : Option ℕ) (snapshot : Option Bool) (line : Numbers → Option LineView)
    → ((dropped >>= λ d. now >>= λ n. seq >>= λ q. snapshot >>= λ s. Some (numbers_made version d n q s)) >>= line)
    ≡ (dropped >>= λ d. now >>= λ n. seq >>= λ q. snapshot >>= λ s. line (numbers_made version d n q s))
numbers_then version None now seq snapshot line = refl
numbers_then version (Some d) None seq snapshot line = refl
numbers_then version (Some d) (Some n) None snapshot line = refl
numbers_then version (Some d) (Some n) (Some q) None line = refl
numbers_then version (Some d) (Some n) (Some q) (Some s) line = refl

module _ (ops resources tasks times a b c w e f h : Option (List Data)) where
  abbrev lists_of : ListsView
  lists_of = record {
    gone_ops = ops >>= each_of id_of;
    gone_resources = resources >>= each_of id_of;
    gone_tasks = tasks >>= each_of id_of;
    new_ops = a >>= each_of op_of;
    new_resources = b >>= each_of resource_of;
    new_tasks = c >>= each_of info_of;
    op_stats = w >>= each_of op_stats_of;
    poll_counts = e >>= each_of counts_of;
    resource_stats = f >>= each_of resource_stats_of;
    task_stats = h >>= each_of stats_of;
    task_times = times >>= each_of times_of;
  }

  -- the values of what each version says
  abbrev two_said : Option SaidParts
  two_said = option_map gone_said (gone_first ops resources tasks)

  abbrev three_said : Option SaidParts
  three_said = gone_first ops resources tasks >>= λ gone. option_map (both_said gone) times

  two_order : (two_said >>= said_of_parts) ≡ said_with Two (ops >>= each_of id_of) (resources >>= each_of id_of) (tasks >>= each_of id_of) (times >>= each_of times_of)
  two_order = gone_alone (gone_first ops resources tasks) ∙ ap (λ g. g >>= λ gone. Some (said_made (Some gone) None)) (gone_order ops resources tasks)

  three_order : (three_said >>= said_of_parts) ≡ said_with Three (ops >>= each_of id_of) (resources >>= each_of id_of) (tasks >>= each_of id_of) (times >>= each_of times_of)
  three_order = both_order (gone_first ops resources tasks) times ∙ ap (λ g. both g (times >>= each_of times_of)) (gone_order ops resources tasks)

  -- a line of one version
  version_line : (version : Version) (said : Option SaidParts) (dropped : Option Dropped) (now seq : Option ℕ) (snapshot : Option Bool)
      → (said >>= said_of_parts) ≡ said_with version (ops >>= each_of id_of) (resources >>= each_of id_of) (tasks >>= each_of id_of) (times >>= each_of times_of)
      → (parts_from said dropped a b c now w e f seq snapshot h >>= line_from)
      ≡ ((dropped >>= λ d. now >>= λ n. seq >>= λ q. snapshot >>= λ s. Some (numbers_made version d n q s)) >>= λ n. line_with n lists_of)
  unfolding line_with
  version_line version said dropped now seq snapshot same =
      line_order dropped now seq snapshot said a b c w e f h
      ∙ ap (λ g. dropped >>= λ d. now >>= λ n. seq >>= λ q. snapshot >>= λ s. line_last d n q s g a b c w e f h) same
      ∙ sym (numbers_then version dropped now seq snapshot (λ n. line_with n lists_of))

  kind_by : (one twelve two fifteen three : Bool) (dropped : Option Dropped) (now seq : Option ℕ) (snapshot : Option Bool)
      → (parts_from (cond one (cond twelve (Some nothing_said) None) (cond two (cond fifteen two_said None) (cond three three_said None))) dropped a b c now w e f seq snapshot h >>= line_from)
      ≡ ((cond one (cond twelve (Some One) None) (cond two (cond fifteen (Some Two) None) (cond three (Some Three) None))
      >>= λ version. dropped >>= λ d. now >>= λ n. seq >>= λ q. snapshot >>= λ s. Some (numbers_made version d n q s))
      >>= λ n. line_with n lists_of)
  kind_by true false two fifteen three dropped now seq snapshot = refl
  kind_by false twelve true false three dropped now seq snapshot = refl
  kind_by false twelve false fifteen false dropped now seq snapshot = refl
  kind_by true true two fifteen three dropped now seq snapshot = version_line One (Some nothing_said) dropped now seq snapshot refl
  kind_by false twelve true true three dropped now seq snapshot = version_line Two two_said dropped now seq snapshot two_order
  kind_by false twelve false fifteen true dropped now seq snapshot = version_line Three three_said dropped now seq snapshot three_order

-- ---- the line

in_by : {A : Type 0} (shape : Data → Option A) (o : Option Data) → option_and_then (listed shape) o ≡ option_and_then (each_of shape) (option_map values_of (option_and_then as_array o))
in_by shape None = refl
in_by shape (Some d) = refl

list_is : {A : Type 0} (shape : Data → Option A) (key : List ℕ) (ms : Members) → list_in shape key ms ≡ (list_at key (object ms) >>= each_of shape)
list_is shape key ms = in_by shape (get_member key ms)

at_lists : Members → ListsView
at_lists ms =
    lists_of (list_at (codes "gone_ops") (object ms)) (list_at (codes "gone_resources") (object ms)) (list_at (codes "gone_tasks") (object ms)) (list_at (codes "task_times") (object ms))
    (list_at (codes "new_ops") (object ms)) (list_at (codes "new_resources") (object ms)) (list_at (codes "new_tasks") (object ms))
    (list_at (codes "op_stats") (object ms)) (list_at (codes "poll_counts") (object ms)) (list_at (codes "resource_stats") (object ms)) (list_at (codes "task_stats") (object ms))

lists_are : (ms : Members) → lists_in ms ≡ at_lists ms
unfolding at_lists
lists_are ms =
    rw (
      list_is id_of (codes "gone_ops") ms,
      list_is id_of (codes "gone_resources") ms,
      list_is id_of (codes "gone_tasks") ms,
      list_is op_of (codes "new_ops") ms,
      list_is resource_of (codes "new_resources") ms,
      list_is info_of (codes "new_tasks") ms,
      list_is op_stats_of (codes "op_stats") ms,
      list_is counts_of (codes "poll_counts") ms,
      list_is resource_stats_of (codes "resource_stats") ms,
      list_is stats_of (codes "task_stats") ms,
      list_is times_of (codes "task_times") ms,
    ) refl

abbrev parts_at : Members → Option SaidParts → Option PartsView
parts_at ms said =
    parts_from said (list_at (codes "dropped") (object ms) >>= dropped_in) (list_at (codes "new_ops") (object ms)) (list_at (codes "new_resources") (object ms)) (list_at (codes "new_tasks") (object ms))
    (number_at (codes "now") (object ms)) (list_at (codes "op_stats") (object ms)) (list_at (codes "poll_counts") (object ms)) (list_at (codes "resource_stats") (object ms)) (seq_at (codes "seq") (object ms)) (flag_at (codes "snapshot") (object ms)) (list_at (codes "task_stats") (object ms))

version_by : (version : Option ℕ) (ms : Members)
    → ((version >>= λ v. parts_at ms (said_at (keys_of v (object ms)) (object ms))) >>= line_from)
    ≡ ((version >>= λ v. version_at (keys_of v (object ms)) (object ms) >>= λ says. (list_at (codes "dropped") (object ms) >>= dropped_in) >>= λ d. number_at (codes "now") (object ms) >>= λ n. seq_at (codes "seq") (object ms) >>= λ q. flag_at (codes "snapshot") (object ms)
    >>= λ s. Some (numbers_made says d n q s))
    >>= λ n. line_with n (at_lists ms))
unfolding said_at at_lists
version_by None ms = refl
version_by (Some v) ms =
    kind_by (list_at (codes "gone_ops") (object ms)) (list_at (codes "gone_resources") (object ms)) (list_at (codes "gone_tasks") (object ms)) (list_at (codes "task_times") (object ms))
    (list_at (codes "new_ops") (object ms)) (list_at (codes "new_resources") (object ms)) (list_at (codes "new_tasks") (object ms))
    (list_at (codes "op_stats") (object ms)) (list_at (codes "poll_counts") (object ms)) (list_at (codes "resource_stats") (object ms)) (list_at (codes "task_stats") (object ms))
    (keys_of v (object ms) == 1) (has_members 12 (object ms)) (keys_of v (object ms) == 2) (has_members 15 (object ms)) (keys_of v (object ms) == 3 && has_members 16 (object ms)) (list_at (codes "dropped") (object ms) >>= dropped_in) (number_at (codes "now") (object ms)) (seq_at (codes "seq") (object ms)) (flag_at (codes "snapshot") (object ms))

of_members : (ms : Members) → line_in (object ms) ≡ (numbers_of (object ms) >>= λ n. line_with n (at_lists ms))
unfolding line_in parts_of numbers_of
of_members ms = version_by (number_at (codes "v") (object ms)) ms

-- the line of an object, of its own object and its lists
pub line_of_own : (ms : Members) → line_of_lists (object (own_members ms)) (lists_in ms) ≡ line_of (object ms)
unfolding line_of
line_of_own ms = ap₂ (λ o number. o >>= of_version number) (ap₂ (λ o lists. o >>= λ n. line_with n lists) (own_numbers ms) (lists_are ms) ∙ sym (of_members ms)) (own_number (codes "v") refl ms)

-- ---- keys that are no list's, and too many of them

or_false : (a b : Bool) → (a || b) ≡ false → (a ≡ false) × (b ≡ false)
or_false true b e = absurd (cc)
or_false false b e = (refl, e)

pub no_list : (key : List ℕ) (d : Data) (lists : ListsView) → is_list_key key ≡ false → lists_put key d lists ≡ lists
no_list key d lists e =
    let eleven = or_false _ (bytes_eq key (codes "task_times")) e in
    let ten = or_false _ (bytes_eq key (codes "task_stats")) eleven.0 in
    let nine = or_false _ (bytes_eq key (codes "resource_stats")) ten.0 in
    let eight = or_false _ (bytes_eq key (codes "poll_counts")) nine.0 in
    let seven = or_false _ (bytes_eq key (codes "op_stats")) eight.0 in
    let six = or_false _ (bytes_eq key (codes "new_tasks")) seven.0 in
    let five = or_false _ (bytes_eq key (codes "new_resources")) six.0 in
    let four = or_false _ (bytes_eq key (codes "new_ops")) five.0 in
    let three = or_false _ (bytes_eq key (codes "gone_tasks")) four.0 in
    let two = or_false (bytes_eq key (codes "gone_ops")) (bytes_eq key (codes "gone_resources")) three.0 in
    rw (two.0, two.1, three.1, four.1, five.1, six.1, seven.1, eight.1, nine.1, ten.1, eleven.1) refl

pub list_stands : (key : List ℕ) (d : Data) → is_list_key key ≡ true → null ≡ stands_for key d
list_stands key d e = rw e refl

pub small_stands : (key : List ℕ) (d : Data) → is_list_key key ≡ false → small d 3 ≡ stands_for key d
small_stands key d e = rw e refl

none_said : (one two three : Bool) (lists both : Option SaidParts) → cond one (cond false (Some nothing_said) None) (cond two (cond false lists None) (cond (three && false) both None)) ≡ None
none_said true two three lists both = refl
none_said false true three lists both = refl
none_said false false true lists both = refl
none_said false false false lists both = refl

no_said : (version : ℕ) (d : Data) → has_members 12 d ≡ false → has_members 15 d ≡ false → has_members 16 d ≡ false → said_at version d ≡ None
unfolding said_at
no_said version d twelve fifteen sixteen =
    rw (twelve, fifteen, sixteen) (none_said (version == 1) (version == 2) (version == 3) (option_map gone_said (gone_lists d)) (gone_lists d >>= λ gone. option_map (both_said gone) (list_at (codes "task_times") d)))

too_many_by : (version : Option ℕ) (ms : Members) → has_members 12 (object ms) ≡ false → has_members 15 (object ms) ≡ false → has_members 16 (object ms) ≡ false → (version >>= λ v. parts_at ms (said_at (keys_of v (object ms)) (object ms))) ≡ None
too_many_by None ms twelve fifteen sixteen = refl
too_many_by (Some v) ms twelve fifteen sixteen = ap (parts_at ms) (no_said (keys_of v (object ms)) (object ms) twelve fifteen sixteen)

too_many : (ms : Members) → 16 < members_len ms → line_of (object ms) ≡ None
unfolding line_of line_in parts_of
too_many ms h = ap (λ o. (o >>= line_from) >>= of_version (number_at (codes "v") (object ms))) (too_many_by (number_at (codes "v") (object ms)) ms (grind arith) (grind arith) (grind arith))

pub many_passed : (held : Members) (depth : ℕ) (ts r : List Token) → 16 < members_len held → rest (members_read held depth ts) ≡ Some r → parse_map (λ ms. line_of (object ms)) (members_read held depth ts) ≡ Some (None, r)
many_passed held depth ts r h e =
    let all = left_some (members_read held depth ts) r e in
    let more = longer held depth ts all.0 r all.1 in
    ap (parse_map (λ ms. line_of (object ms))) all.1 ∙ ap (λ o. Some (o, r)) (too_many all.0 (omega arith))

-- ---- the value that a text is

object_lines : (o : Option (Members × List Token)) → parse_map line_of (parse_map object o) ≡ parse_map (λ ms. line_of (object ms)) o
object_lines None = refl
object_lines (Some p) = refl

pub object_line : (depth : ℕ) (all ts : List Token) → all ≡ Token.begin_object ∷ ts → 0 < depth → parse_map line_of (value_read depth all) ≡ parse_map (λ ms. line_of (object ms)) (members_read no_members (depth - 1) ts)
object_line depth all ts is h = ap (parse_map line_of) (object_read depth all ts is h) ∙ object_lines (members_read no_members (depth - 1) ts)

-- a value that is no object
pub no_line : (d : Data) → get (codes "v") d ≡ None → line_of d ≡ None
unfolding line_of line_in parts_of
no_line d none = rw none refl

pub other_value : (depth : ℕ) (t : tokens.Token) (all ts r : List Token) → all ≡ token_of t ∷ ts → (t ≡ BeginObject → ⊥) → rest (value_read depth (token_of t ∷ ts)) ≡ Some r → parse_map line_of (value_read depth all) ≡ Some (None, r)
other_value depth t all ts r is other passed =
    passed_unseen line_of (no_line null refl) (λ b. no_line (boolean b) refl) (λ x. no_line (number x) refl) (λ s. no_line (string s) refl) depth t all ts r is
    (λ here ds. no_line (array ds) refl) (λ here. absurd (other here)) passed

shorter_by : (r s : List Token) (d : Data) (o : Option Data) → option_map {U = Data × List Token} (λ x. (x, r)) o ≡ Some (d, s) → length r ≡ length s
shorter_by r s d None e = absurd (cc)
shorter_by r s d (Some x) e = ap (λ o. length (option_map_or (λ (p : Data × List Token). p.1) o [])) e

shorter_than : (o : Option (json.Json × List Token)) (d : Data) (r : List Token) (n : ℕ) → ((s : List Token) → left o ≡ Some s → length s < n) → converted of_json o ≡ Some (d, r) → length r < n
shorter_than None d r n h e = absurd (cc)
shorter_than (Some p) d r n h e = let less = h p.1 refl in let same = shorter_by p.1 r d (of_json p.0) e in omega arith

-- a value takes a token at least
pub value_shorter : (depth : ℕ) (ts : List Token) (d : Data) (r : List Token) → value_read depth ts ≡ Some (d, r) → length r < length ts
value_shorter depth ts d r e = shorter_than (value depth ts) d r (length ts) (λ s left. skip_value-shorter depth ts s left) e
