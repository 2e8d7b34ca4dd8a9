-- The text of a published line is that of the line between the tables of all items.
use Rattle.std.proofs.Common.{◌≡◌, ℕ, zero, suc, List, [], ◌∷◌, ◌++◌, Bool, true, false, cond, length, take, Option, Some, None, refl, ap, ap₂, sym, ◌∙◌}
use Rattle.std.specs.Prelude.{map}
use Rattle.std.specs.Option.{option_map_or}
use Rattle.std.specs.List.{AllByRecursion, flat_map}
use Rattle.tk_core.specs.Laws.OpLaws as op_laws
use Rattle.tk_core.specs.Laws.ResourceLaws as resource_laws
use Rattle.tk_core.specs.Laws.TaskLaws as task_laws
use Rattle.tk_core.specs.OpWords as op_words
use Rattle.tk_core.specs.ResourceWords as resource_words
use Rattle.tk_core.specs.TaskWords as task_words
use Rattle.tk_stream.specs.declared.tables.op.Op.{Op}
use Rattle.tk_stream.specs.declared.tables.resource.Resource.{Resource}
use Rattle.tk_stream.specs.declared.tables.task.Task.{Task}
use Rattle.tk_stream.specs.Lines.{LineView, line_between, snapshot_of, none_gone, gone_between, with_gone, with_times, told_times}
use Rattle.tk_stream.specs.Retention.{line_pruned, prune}
use Rattle.tk_stream.specs.Spelling.{sent_text}
use Rattle.tk_stream.specs.Streams.{line_sent, lines_sent, bytes_sent, tables_sent, last_sent, IsUninterrupted, IsStreamTo}
use Rattle.tk_stream.specs.Tables.{TablesView, AreDistinct, empty_tables}
use Rattle.tk_stream.specs.Times.{TaskTimes, times_id, same_times, all_times}
use Rattle.tk_embed.specs.declared.entries.Head.{Head}
use Rattle.tk_embed.specs.declared.entries.OpEntry.{OpEntry}
use Rattle.tk_embed.specs.declared.entries.ResourceEntry.{ResourceEntry}
use Rattle.tk_embed.specs.declared.entries.TaskEntry.{TaskEntry}
use Rattle.tk_embed.specs.Entries.{Given, HaveItems, IsAt, AreTables, told_of, task_shown, resource_shown, op_shown, task_entry_shown, resource_entry_shown, op_entry_shown}
use Rattle.tk_embed.specs.LeftOut.{LeftOut, leaving_out, AreStaying}
use Rattle.tk_embed.specs.Lines.{times_between}
use Rattle.tk_embed.specs.Publishing.{AreSixteen, TimesGiven, line_given, ChangeTimes, AreAllTimes, told_by, How, changes, everything, leaving, Publishing, PublishesChanges, PublishesAll, PublishesLeaving, IsPublishedAs, ArePublished, bytes_published, removes, sending_of, sendings}
use Rattle.tk_embed.proofs.LeftOutLemmas.{same_line, same_gone_line, same_stats}

-- ---- items are known by what is shown of them

module _ {Item Info Row Entry : Type 0} (info_of : Item → Info) (row_of : Item → Row) (words : Row → List ℕ)
    (same_item : (x y : Item) → info_of x ≡ info_of y → row_of x ≡ row_of y → x ≡ y)
    (apart : (a b : Row) → length (words a) ≡ 16 → words a ≡ words b → a ≡ b) (shows : Entry → Info × List ℕ) where
  abbrev shown : Item → Info × List ℕ
  shown x = (info_of x, words (row_of x))

  one_item : (e : Entry) (x y : Item) → length (shows e).1 ≡ 16 → shown x ≡ shows e → shown y ≡ shows e → x ≡ y
  one_item e x y long a b =
      let both : shown x ≡ shown y = a ∙ sym b in
      same_item x y (ap (λ (s : Info × List ℕ). s.0) both)
      (apart (row_of x) (row_of y) (ap (λ (s : Info × List ℕ). length s.1) a ∙ long) (ap (λ (s : Info × List ℕ). s.1) both))

  pub same_items : (es : List Entry) (xs ys : List Item) → AllByRecursion (λ e. length (shows e).1 ≡ 16) es → map shown xs ≡ map shows es → map shown ys ≡ map shows es → xs ≡ ys
  same_items [] [] [] long a b = refl
  same_items [] [] (y ∷ ys) long a b = absurd (cc)
  same_items [] (x ∷ xs) ys long a b = absurd (cc)
  same_items (e ∷ es) [] ys long a b = absurd (cc)
  same_items (e ∷ es) (x ∷ xs) [] long a b = absurd (cc)
  same_items (e ∷ es) (x ∷ xs) (y ∷ ys) long a b =
      let here_x : shown x ≡ shows e = cc in
      let here_y : shown y ≡ shows e = cc in
      let rest_x : map shown xs ≡ map shows es = cc in
      let rest_y : map shown ys ≡ map shows es = cc in
      λ i. one_item e x y long.0 here_x here_y i ∷ same_items es xs ys long.1 rest_x rest_y i

same_task : (x y : Task) → x.info ≡ y.info → x.row ≡ y.row → x ≡ y
same_task x y a b = λ i. record { info = a i; row = b i }

same_resource : (x y : Resource) → x.info ≡ y.info → x.row ≡ y.row → x ≡ y
same_resource x y a b = λ i. record { info = a i; row = b i }

same_op : (x y : Op) → x.info ≡ y.info → x.row ≡ y.row → x ≡ y
same_op x y a b = λ i. record { info = a i; row = b i }

-- the words that are asked for are sixteen
of_sixteen : (now : Bool) (row told : List ℕ) → (length row ≡ 16) × (length told ≡ 16) → length (cond now row told) ≡ 16
of_sixteen true row told long = long.0
of_sixteen false row told long = long.1

all_sixteen : {E : Type 0} (P Q : E → Type 0) → ((e : E) → P e → Q e) → (es : List E) → AllByRecursion P es → AllByRecursion Q es
all_sixteen P Q step [] all = tt
all_sixteen P Q step (e ∷ es) all = (step e all.0, all_sixteen P Q step es all.1)

pub tasks_equal : (now : Bool) (given : Given) (a b : TablesView) → AreSixteen given → HaveItems now given a → HaveItems now given b → a.tasks ≡ b.tasks
tasks_equal now given a b long x y =
    same_items (λ (t : Task). t.info) (λ (t : Task). t.row) task_words.words_of same_task task_laws.told_apart (task_entry_shown given.text now) given.tasks a.tasks b.tasks
    (all_sixteen _ _ (λ (e : TaskEntry) l. of_sixteen now e.row e.told l) given.tasks long.tasks) x.tasks y.tasks

pub resources_equal : (now : Bool) (given : Given) (a b : TablesView) → AreSixteen given → HaveItems now given a → HaveItems now given b → a.resources ≡ b.resources
resources_equal now given a b long x y =
    same_items (λ (r : Resource). r.info) (λ (r : Resource). r.row) resource_words.words_of same_resource resource_laws.told_apart (resource_entry_shown given.text given.attrs now) given.resources a.resources b.resources
    (all_sixteen _ _ (λ (e : ResourceEntry) l. of_sixteen now e.row e.told l) given.resources long.resources) x.resources y.resources

pub ops_equal : (now : Bool) (given : Given) (a b : TablesView) → AreSixteen given → HaveItems now given a → HaveItems now given b → a.ops ≡ b.ops
ops_equal now given a b long x y =
    same_items (λ (o : Op). o.info) (λ (o : Op). o.row) op_words.words_of same_op op_laws.told_apart (op_entry_shown given.text given.attrs now) given.ops a.ops b.ops
    (all_sixteen _ _ (λ (e : OpEntry) l. of_sixteen now e.row e.told l) given.ops long.ops) x.ops y.ops

-- so there is at most one of the tables that a head and entries ask for
pub tables_equal : (head : Head) (given : Given) (a b : TablesView) → AreSixteen given → AreTables true head given a → AreTables true head given b → a ≡ b
tables_equal head given a b long x y = λ i. record {
  tasks = tasks_equal true given a b long x.items y.items i;
  resources = resources_equal true given a b long x.items y.items i;
  ops = ops_equal true given a b long x.items y.items i;
  counts = (x.items.counts ∙ sym y.items.counts) i;
  dropped = record {
    tasks = (x.at.tasks ∙ sym y.at.tasks) i;
    resources = (x.at.resources ∙ sym y.at.resources) i;
    ops = (x.at.ops ∙ sym y.at.ops) i;
  };
  now = (x.at.now ∙ sym y.at.now) i;
}

-- and a line from them is one from any tables with their items
pub same_start : (now : Bool) (given : Given) (a b new : TablesView) (seq : ℕ) → AreSixteen given → HaveItems now given a → HaveItems now given b → line_between a new seq ≡ line_between b new seq
same_start now given a b new seq long x y = λ i. line_between (record {
  tasks = tasks_equal now given a b long x y i;
  resources = resources_equal now given a b long x y i;
  ops = ops_equal now given a b long x y i;
  counts = (x.counts ∙ sym y.counts) i;
  dropped = new.dropped;
  now = new.now;
}) new seq

all_front : {E : Type 0} (P : E → Type 0) (n : ℕ) (es : List E) → AllByRecursion P es → AllByRecursion P (take n es)
all_front P zero es all = tt
all_front P (suc n) [] all = tt
all_front P (suc n) (e ∷ es) all = (all.0, all_front P n es all.1)

sixteen_told : (head : Head) (given : Given) → AreSixteen given → AreSixteen (told_of head given)
sixteen_told head given long = record {
  tasks = all_front _ head.told_tasks given.tasks long.tasks;
  resources = all_front _ head.told_resources given.resources long.resources;
  ops = all_front _ head.told_ops given.ops long.ops;
}

-- ---- one line

-- the histograms of a line of what changed are those between all of them
change_given : (head : Head) (o : Option TimesGiven) (before after : List TaskTimes) (l : LineView) → head.snapshot ≡ false → ChangeTimes before o after
    → line_given head o l ≡ option_map_or (λ ts. with_times ts l) (told_by false before o after) l
change_given head None before after l plain h = refl
change_given head (Some t) before after l plain h =
    ap (λ ts. with_times ts l) (
    ap (λ b. times_between (cond b 0 t.told) t.entries) plain
    ∙ ap₂ told_times h.1 h.2
    ∙ same_stats times_id same_times h.0 all_times before after h.3)

-- and of a snapshot they are all
all_given : (head : Head) (o : Option TimesGiven) (before after : List TaskTimes) (l : LineView) → head.snapshot ≡ true → AreAllTimes o after
    → line_given head o l ≡ option_map_or (λ ts. with_times ts l) (told_by true before o after) l
all_given head None before after l whole h = refl
all_given head (Some t) before after l whole h =
    ap (λ ts. with_times ts l) (ap (λ b. times_between (cond b 0 t.told) t.entries) whole ∙ ap (told_times []) h)

-- the line of a stream, by whether it removes and whether it is a snapshot
abbrev untimed : TablesView → Publishing → Bool → Bool → LineView
untimed before p removing whole =
    let plain : LineView = cond whole (snapshot_of p.after p.head.seq) (line_between before p.after p.head.seq) in
    cond removing (with_gone (cond whole none_gone (gone_between before p.after)) plain) plain

abbrev formed : TablesView → List TaskTimes → Publishing → Bool → Bool → LineView
formed before times p removing whole =
    option_map_or (λ ts. with_times ts (untimed before p removing whole)) (told_by whole times p.times p.times_after) (untimed before p removing whole)

changes_text : (before : TablesView) (times : List TaskTimes) (p : Publishing) → PublishesChanges before times p → p.text ≡ sent_text (formed before times p false false)
changes_text before times p h =
    let is = h.written.1 in
    let old : TablesView = is.0 in
    let new : TablesView = is.1 in
    let less : TablesView = leaving_out h.left before in
    h.written.2
    ∙ ap sent_text (
    ap (line_given p.head p.times) (
    is.4
    ∙ same_start false (told_of p.head p.given) old less new p.head.seq (sixteen_told p.head p.given h.sixteen) (is.2).items h.told
    ∙ ap (λ (t : TablesView). line_between less t p.head.seq) (tables_equal p.head p.given new (leaving_out h.left p.after) h.sixteen is.3 h.now)
    ∙ same_line h.left before p.after p.head.seq h.unchanged)
    ∙ change_given p.head p.times times p.times_after (line_between before p.after p.head.seq) h.plain h.times)

all_text : (before : TablesView) (times : List TaskTimes) (p : Publishing) → PublishesAll p → p.text ≡ sent_text (formed before times p false true)
all_text before times p h =
    let is = h.written.1 in
    h.written.2
    ∙ ap sent_text (
    ap (line_given p.head p.times) (is.2 ∙ ap (λ (t : TablesView). snapshot_of t p.head.seq) (tables_equal p.head p.given is.0 p.after h.sixteen is.1 h.now))
    ∙ all_given p.head p.times times p.times_after (snapshot_of p.after p.head.seq) h.whole h.times)

once_at : (before : TablesView) (now : ℕ) → AreDistinct before → AreDistinct (record before { now = now })
once_at before now once = record { tasks = once.tasks; resources = once.resources; ops = once.ops; counts = once.counts }

staying_at : (left : LeftOut) (before : TablesView) (now retention : ℕ) → AreStaying left before now retention → AreStaying left (record before { now = now }) now retention
staying_at left before now retention stay = record { tasks = stay.tasks; resources = stay.resources; ops = stay.ops }

leaving_text : (retention : ℕ) (before : TablesView) (times : List TaskTimes) (p : Publishing) → PublishesLeaving retention before times p → p.text ≡ sent_text (formed before times p true false)
leaving_text retention before times p h =
    let m : ℕ = p.head.moment in
    let told : TablesView = record before { now = m } in
    h.written.2
    ∙ ap (λ (t : TablesView). sent_text (line_pruned t (prune (record t { now = m }) t m retention) p.head.seq)) (tables_equal p.head p.given h.written.0 (leaving_out h.left told) h.sixteen h.written.1 h.now)
    ∙ ap sent_text (same_gone_line h.left told m retention p.head.seq (once_at before m h.distinct) (staying_at h.left before m retention h.staying))
    ∙ ap (λ (t : TablesView). sent_text (line_pruned before t p.head.seq)) (sym h.after)
    ∙ sym (ap (λ (o : Option TimesGiven). sent_text (option_map_or (λ ts. with_times ts (untimed before p true false)) (told_by false times o p.times_after) (untimed before p true false))) h.untimed)

text_is : (before : TablesView) (times : List TaskTimes) (p : Publishing) (how : How) → p.how ≡ how → IsPublishedAs how before times p → p.text ≡ sent_text (line_sent before (sending_of times p))
text_is before times p changes e h =
    changes_text before times p h ∙ sym (ap (λ (k : How). sent_text (formed before times p (removes k) p.head.snapshot)) e ∙ ap (λ b. sent_text (formed before times p false b)) h.plain)
text_is before times p everything e h =
    all_text before times p h ∙ sym (ap (λ (k : How). sent_text (formed before times p (removes k) p.head.snapshot)) e ∙ ap (λ b. sent_text (formed before times p false b)) h.whole)
text_is before times p (leaving retention) e h =
    leaving_text retention before times p h ∙ sym (ap (λ (k : How). sent_text (formed before times p (removes k) p.head.snapshot)) e ∙ ap (λ b. sent_text (formed before times p true b)) h.plain)

-- ---- the stream

pub published : (before : TablesView) (times : List TaskTimes) (ps : List Publishing) → ArePublished before times ps → bytes_published ps ≡ bytes_sent (lines_sent before (sendings times ps))
published before times [] h = refl
published before times (p ∷ ps) h = λ i. text_is before times p p.how refl h.0 i ++ published p.after p.times_after ps h.1 i

pub is_stream : (ps : List Publishing) → ArePublished empty_tables [] ps → IsUninterrupted (sendings [] ps)
    → IsStreamTo (bytes_published ps) (tables_sent empty_tables (sendings [] ps)) (last_sent 0 (sendings [] ps))
is_stream ps h on = record { sent = sendings [] ps; uninterrupted = on; bytes_are = published empty_tables [] ps h; tables_are = refl; last_is = refl }
