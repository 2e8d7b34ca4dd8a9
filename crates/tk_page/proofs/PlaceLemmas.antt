-- Each piece of a page has its place, and the page ends between tags.
use Rattle.std.proofs.Common.{◌≡◌, ℕ, ◌+◌, ◌*◌, ◌-◌, List, [], ◌∷◌, length, take, filter, slice_get, Bool, true, false, cond, nat_eq, nat_lt, nat_le, ◌&&◌, ◌||◌, not, Option, Some, None, refl}
use Rattle.std.specs.Prelude.{codes}
use Rattle.std.specs.List.{list_any, zip}
use Rattle.std.specs.Option.{option_map_or}
use Rattle.std.specs.Str.{is_utf8}
use Rattle.tk_core.specs.Lists.{capped}
use Rattle.tk_core.specs.declared.op.row.OpRow.{OpRow}
use Rattle.tk_core.specs.declared.task.row.TaskRow.{TaskRow}
use Rattle.tk_ids.specs.declared.attr.AttrInfo.{AttrInfo}
use Rattle.tk_ids.specs.declared.attr.AttrValue.{AttrValue}
use Rattle.tk_ids.specs.declared.attr.AttrValue.TheVariants.{U64, Bool as Flag, I64}
use Rattle.tk_ids.specs.declared.info.Dropped.{Dropped}
use Rattle.tk_stream.specs.declared.tables.op.Op.{Op}
use Rattle.tk_stream.specs.declared.tables.resource.Resource.{Resource}
use Rattle.tk_stream.specs.declared.tables.task.Task.{Task}
use Rattle.tk_stream.specs.Tables.{TablesView, counts_of, resource_with, task_with}
use Rattle.tk_paper.specs.Parts.{Bit, after_all, text, span}
use Rattle.tk_paper.specs.declared.marks.Place.TheVariants as places
use Rattle.tk_page.specs.declared.blamed.Blamed.{Blamed}
use Rattle.tk_page.specs.declared.figures.Scale.{Scale}
use Rattle.tk_odd.specs.declared.finding.Finding.{Finding}
use Rattle.tk_odd.specs.declared.finding.Found.{Found}
use Rattle.tk_odd.specs.declared.finding.OddKind.{OddKind}
use Rattle.tk_odd.specs.declared.words.Shape.{Shape}
use Rattle.tk_odd.specs.declared.words.Shape.TheVariants.{Held, Alone, Stretch, Lasting, Longest, Share}
use Rattle.tk_odd.specs.Findings.{is_urgent, victim_of}
use Rattle.tk_odd.specs.Words.{after_of, before_of, shape_of}
use Rattle.tk_page.specs.declared.oddities.Signs.{Signs}
use Rattle.tk_page.specs.declared.picture.Split.{Split}
use Rattle.tk_page.specs.declared.picture.Whom.{Whom}
use Rattle.tk_page.specs.declared.picture.Whom.TheVariants as whom
use Rattle.tk_page.specs.declared.ranks.Rank.{Rank}
use Rattle.tk_page.specs.declared.sample.Sample.{Sample}
use Rattle.tk_page.specs.declared.sample.Step.{Step}
use Rattle.tk_page.specs.declared.boxes.Area.{Area}
use Rattle.tk_page.specs.declared.boxes.Boxes.{Boxes}
use Rattle.tk_page.specs.declared.boxes.Boxes.TheVariants as which
use Rattle.tk_page.specs.declared.peaks.Doing.{Doing}
use Rattle.tk_page.specs.declared.peaks.Doing.TheVariants as doing
use Rattle.tk_page.specs.declared.strips.Height.{Height}
use Rattle.tk_odd.specs.declared.waiting.Waiting.{Waiting}
use Rattle.tk_page.specs.Badges as badges
use Rattle.tk_page.specs.Banner as banners
use Rattle.tk_page.specs.Cards as cards
use Rattle.tk_page.specs.Charges.{Places}
use Rattle.tk_page.specs.Courses.{Courses}
use Rattle.tk_page.specs.Drawn.{came, sections}
use Rattle.tk_page.specs.Figures.{each_of, watched, wide_of}
use Rattle.tk_page.specs.Heads as heads
use Rattle.tk_page.specs.Idle as idle
use Rattle.tk_page.specs.Items as items
use Rattle.tk_page.specs.Odd.{carded, has_sign, is_lost, is_odd_at_all, row_kinds, says}
use Rattle.tk_page.specs.Picture as pictures
use Rattle.tk_page.specs.Places.{id, more, site_text}
use Rattle.tk_page.specs.PollTimes as polls
use Rattle.tk_page.specs.Rows as rows
use Rattle.tk_page.specs.Sites as sites
use Rattle.tk_page.specs.declared.sites.Known.{Known}
use Rattle.tk_series.specs.Limited.{LimitedView}
use Rattle.tk_report.specs.Timed.{percentile_high}
use Rattle.tk_sites.specs.declared.sums.Sums.{Sums}
use Rattle.tk_sites.specs.declared.times.Histogram.{Histogram}
use Rattle.tk_sites.specs.declared.times.SiteTimes.{SiteTimes}
use Rattle.tk_core.specs.Lasting.{busy_until, sched_until}
use Rattle.tk_page.specs.Samples.{sample_of}
use Rattle.tk_page.specs.Strips as strips
use Rattle.tk_odd.specs.Waiting.{waiting_of}
use Rattle.tk_page.specs.Values as values
use Rattle.tk_page.specs.Waiting.{waits_from_last_wake}
use Rattle.tk_page.proofs.Leading.{Leads, bits_to, cut_to, each_to, none_to, then_to}

-- parts that begin and end between tags
abbrev pub Between : List Bit → Type 0
Between bits = Leads (Some places.Text) bits (Some places.Text)

-- parts that begin and end in a value
abbrev Within : List Bit → Type 0
Within bits = Leads (Some places.Value) bits (Some places.Value)

pub none_between : Between []
none_between = none_to (Some places.Text)

-- the same of either of two
pub either : (b : Bool) {x y : List Bit} → Between x → Between y → Between (cond b x y)
either true h k = h
either false h k = k

-- the same in a value
either_within : (b : Bool) {x y : List Bit} → Within x → Within y → Within (cond b x y)
either_within true h k = h
either_within false h k = k

-- ---- several sections

more_to : (all shown : ℕ) (words : List ℕ) → Between (more all shown words)
unfolding after_all
more_to all shown words = either (nat_le all shown) none_between (record { is = refl })

-- ---- badges

badge_to : (odd : Bool) (kind : OddKind) → Between (badges.badge odd kind)
unfolding after_all
badge_to odd kind = either odd (record { is = refl }) none_between

badge_line_to : (signs : Signs) (t : Task) → Between (badges.badge_line signs t)
unfolding after_all
badge_line_to signs t =
    cut_to 1 refl (then_to (each_to (badges.found_badge t) (λ f. badge_to (says t f) f.finding.kind) (carded signs))
    (then_to (each_to (badges.row_badge signs t) (λ kind. badge_to (has_sign signs kind t) kind) row_kinds) (record { is = refl })))

badges_to : (signs : Signs) (t : Task) → Between (badges.badges signs t)
badges_to signs t = either (is_odd_at_all signs t) (badge_line_to signs t) none_between

-- ---- cards

who_to : (task : Option Task) (named : Option ℕ) → Between (cards.who task named)
unfolding after_all
who_to None None = record { is = refl }
who_to None (Some n) = record { is = refl }
who_to (Some t) named = record { is = refl }

made_to : (place : List ℕ) (task : Option Task) → Between (cards.made place task)
unfolding after_all
made_to place None = either (nat_eq (length place) 0 || not (is_utf8 place)) none_between (record { is = refl })
made_to place (Some t) = record { is = refl }

alone_to : (still : ℕ) → Between (cards.alone still)
unfolding after_all
alone_to still = either (nat_eq still 0) none_between (record { is = refl })

facts_of_to : (shape : Shape) (scale : Scale) (long : ℕ) (f : Finding) (before after : List ℕ) → Between (cards.facts_of shape scale long f before after)
unfolding after_all
facts_of_to Held scale long f before after =
    then_to (bits_to (cards.steps scale f) refl) (then_to (bits_to (cards.timed before f.figure after) refl) (then_to (bits_to (cards.longest f.longest) refl) (alone_to f.still)))
facts_of_to Alone scale long f before after = record { is = refl }
facts_of_to Stretch scale long f before after = record { is = refl }
facts_of_to Lasting scale long f before after = record { is = refl }
facts_of_to Longest scale long f before after = record { is = refl }
facts_of_to Share scale long f before after = record { is = refl }

facts_to : (scale : Scale) (long : ℕ) (kind : OddKind) (f : Finding) → Between (cards.facts scale long kind f)
facts_to scale long kind f = facts_of_to (shape_of kind) scale long f (before_of kind) (after_of kind)

others_to : (tasks : ℕ) → Between (cards.others tasks)
unfolding after_all
others_to tasks = either (nat_lt 1 tasks) (record { is = refl }) none_between

whom_to : (victim : Option (List ℕ × ℕ)) → Between (cards.whom victim)
unfolding after_all
whom_to None = none_between
whom_to (Some (victim, time)) = either (is_utf8 victim) (record { is = refl }) none_between

card_to : (scale : Scale) (long : ℕ) (tasks : List Task) (x : Found) → Between (cards.card scale long tasks x)
unfolding after_all
card_to scale long tasks x =
    let f = x.finding in
    then_to (bits_to (cards.start_card f.kind) refl) (then_to (who_to (cards.task_of tasks f) f.task) (then_to (bits_to (cards.said f.is_now f.kind) refl)
    (then_to (facts_to scale long f.kind f) (then_to (whom_to (victim_of x.victim)) (then_to (others_to f.tasks) (then_to (made_to x.place.items (cards.task_of tasks f)) (bits_to (cards.end_card f.kind) refl)))))))

all_odd_to : (scale : Scale) (signs : Signs) (tasks : List Task) → Between (cards.all_odd scale signs tasks)
unfolding after_all
all_odd_to scale signs tasks =
    cut_to 6 refl (then_to (each_to (cards.card scale signs.limits.long tasks) (card_to scale signs.limits.long tasks) (carded signs))
    (cut_to 1 refl (then_to (more_to (length signs.findings.items) 20 (codes " more")) (record { is = refl }))))

mean_wait_to : (all : Sample) → Between (cards.mean_wait all)
unfolding after_all
mean_wait_to all = either (nat_eq all.polls 0) (record { is = refl }) (record { is = refl })

unsure_to : (late : Bool) → Between (cards.unsure late)
unfolding after_all
unsure_to late = either late (record { is = refl }) none_between

calm_to : (long : ℕ) (all : Sample) (late : Bool) → Between (cards.calm long all late)
unfolding after_all
calm_to long all late = cut_to 4 refl (then_to (mean_wait_to all) (then_to (unsure_to late) (record { is = refl })))

nothing_odd_to : (time long : ℕ) (all : Sample) (late : Bool) → Between (cards.nothing_odd time long all late)
unfolding after_all
nothing_odd_to time long all late = cut_to 1 refl (then_to (either (nat_lt time long) (record { is = refl }) (calm_to long all late)) (record { is = refl }))

odd_to : (scale : Scale) (signs : Signs) (courses : Courses) (tables : TablesView) → Between (cards.odd_section scale signs courses tables)
unfolding after_all
odd_to scale signs courses tables =
    cut_to 7 refl (either (nat_eq (length signs.findings.items) 0)
    (nothing_odd_to (tables.now - courses.first) signs.limits.long courses.last (list_any waits_from_last_wake tables.tasks))
    (all_odd_to scale signs tables.tasks))

-- ---- what holds now

doing_to : (now : ℕ) (is_now : Bool) (kind : OddKind) (task : Option Task) → Between (banners.doing now is_now kind task)
unfolding after_all
doing_to now is_now kind None = record { is = refl }
doing_to now is_now kind (Some t) = either t.row.polling (record { is = refl }) (record { is = refl })

waiting_to : (w : Waiting) → Between (banners.waiting w)
unfolding after_all
waiting_to w = either (nat_eq w.count 0) none_between (record { is = refl })

alarm_to : (now : ℕ) (w : Waiting) (tasks : List Task) (place : List ℕ) (f : Finding) → Between (banners.alarm now w tasks place f)
unfolding after_all
alarm_to now w tasks place f =
    then_to (bits_to banners.start_banner refl) (then_to (who_to (cards.task_of tasks f) f.task) (then_to (doing_to now f.is_now f.kind (cards.task_of tasks f))
    (then_to (waiting_to w) (cut_to 1 refl (then_to (made_to place (cards.task_of tasks f)) (bits_to (banners.end_banner f.kind) refl))))))

alarm_if_to : (now : ℕ) (w : Waiting) (tasks : List Task) (x : Found) → Between (banners.alarm_if now w tasks x)
alarm_if_to now w tasks x = either (is_urgent x.finding) (alarm_to now w tasks x.place.items x.finding) none_between

banner_to : (signs : Signs) (lines : ℕ) (tables : TablesView) → Between (banners.banner signs lines tables)
unfolding after_all
banner_to signs lines tables =
    let w = waiting_of tables.now tables.tasks in
    either (nat_eq lines 0) (bits_to banners.no_line refl) (each_to (banners.alarm_if tables.now w tables.tasks) (alarm_if_to tables.now w tables.tasks) (carded signs))

-- ---- strips

box_to : (area : Area) → Within (strips.box area)
unfolding after_all
box_to area = either_within (nat_eq area.high 0 || nat_eq area.wide 0) (none_to (Some places.Value)) (record { is = refl })

path_to : (scale : Scale) (class : List ℕ) (kind : Boxes) (steps : List Step) → Between (strips.path scale class kind steps)
unfolding after_all
path_to scale class kind steps =
    cut_to 3 refl (then_to (each_to (λ step. strips.box (strips.box_of scale kind step)) (λ step. box_to (strips.box_of scale kind step)) steps) (record { is = refl }))

paths_to : (scale : Scale) (most : ℕ) (steps : List Step) → Between (strips.paths_of scale most steps)
paths_to scale most steps =
    then_to (path_to scale (codes "busy") which.Busy steps) (then_to (path_to scale (codes "wait") which.Wait steps)
    (then_to (path_to scale (codes "wake") (which.Wakes most) steps) (path_to scale (codes "own") (which.Own most) steps)))

lost_if_to : (scale : Scale) (x : TaskRow) (lost : Bool) → Between (strips.lost_if scale x lost)
unfolding after_all
lost_if_to scale x lost = either lost (record { is = refl }) none_between

-- what a script reads of the steps stands in a value of the first tag
reading_to : (scale : Scale) (step : Step) → Within (strips.reading scale step)
unfolding after_all
reading_to scale step = record { is = refl }

readings_to : (scale : Scale) (steps : List Step) → Leads (Some places.Tag) (strips.readings scale steps) (Some places.Tag)
unfolding after_all
readings_to scale steps = cut_to 1 refl (then_to (each_to (strips.reading scale) (reading_to scale) steps) (record { is = refl }))

peak_words_to : (scale : Scale) (kind : Doing) (step : Step) → Within (strips.peak_words scale kind step)
unfolding after_all
peak_words_to scale doing.Busy step = record { is = refl }
peak_words_to scale doing.Waiting step = record { is = refl }

peak_to : (scale : Scale) (kind : Doing) (steps : List Step) → Within (strips.peak_said scale kind steps)
peak_to scale kind steps = by (strips.peak kind steps)
  where
    by : (o : Option Step) → Within (option_map_or (strips.peak_words scale kind) o [])
    by None = none_to (Some places.Value)
    by (Some step) = peak_words_to scale kind step

words_to : (scale : Scale) (t : Task) (last : Sample) (steps : List Step) → Leads (Some places.Tag) (strips.words scale t last steps) (Some places.Text)
unfolding after_all
words_to scale t last steps =
    then_to (bits_to (strips.shares_said scale t last) refl) (then_to (peak_to scale doing.Busy steps) (then_to (peak_to scale doing.Waiting steps) (record { is = refl })))

strip_to : (scale : Scale) (t : Task) (last : Sample) (steps : List Step) (lost : Bool) → Between (strips.strip_of scale t last steps lost)
unfolding after_all
strip_to scale t last steps lost =
    then_to (bits_to (strips.drawing (codes "strip") (wide_of scale) 22) refl) (then_to (readings_to scale steps) (then_to (words_to scale t last steps)
    (then_to (bits_to (strips.alive scale t.row) refl) (then_to (lost_if_to scale t.row lost) (then_to (paths_to scale (strips.most_wakes steps) steps) (record { is = refl }))))))

-- ---- who waited for whom

split_reading_to : (scale : Scale) (s : Split) → Within (pictures.split_reading scale s)
unfolding after_all
split_reading_to scale s = record { is = refl }

split_readings_to : (scale : Scale) (splits : List Split) → Leads (Some places.Tag) (pictures.split_readings scale splits) (Some places.Tag)
unfolding after_all
split_readings_to scale splits = cut_to 1 refl (then_to (each_to (pictures.split_reading scale) (split_reading_to scale) splits) (record { is = refl }))

site_text_within : (site : List ℕ) → Within (site_text site)
unfolding after_all
site_text_within site = either_within (is_utf8 site) (record { is = refl }) (none_to (Some places.Value))

held_words_to : (scale : Scale) (b : Blamed) → Within (pictures.held_words scale b)
unfolding after_all
held_words_to scale b = then_to (bits_to (pictures.held_span scale b.held) refl) (site_text_within b.place.items)

picture_words_to : (scale : Scale) (height : Height) (blamed : List Blamed) → Leads (Some places.Tag) (pictures.picture_words scale height blamed) (Some places.Text)
unfolding after_all
picture_words_to scale height blamed = cut_to 5 refl (then_to (each_to (pictures.held_words scale) (held_words_to scale) blamed) (record { is = refl }))

part_path_to : (scale : Scale) (top : ℕ) (kind : Whom) (splits : List Split) → Between (pictures.part_path scale top kind splits)
unfolding after_all
part_path_to scale top kind splits =
    cut_to 3 refl (then_to (each_to (λ s. strips.box (pictures.part_box scale top kind s)) (λ s. box_to (pictures.part_box scale top kind s)) splits) (record { is = refl }))

picture_to : (scale : Scale) (height : Height) (blamed : List Blamed) (splits : List Split) → Between (pictures.picture scale height blamed splits)
unfolding after_all
picture_to scale height blamed splits =
    then_to (bits_to (strips.drawing (codes "total") (wide_of scale) 60) refl) (then_to (split_readings_to scale splits) (then_to (picture_words_to scale height blamed)
    (then_to (part_path_to scale height.top whom.First splits) (then_to (part_path_to scale height.top whom.Second splits)
    (then_to (part_path_to scale height.top whom.Rest splits) (record { is = refl }))))))

pub site_text_to : (site : List ℕ) → Between (site_text site)
unfolding after_all
site_text_to site = either (is_utf8 site) (record { is = refl }) none_between

whom_key_to : (colour : List ℕ) (b : Blamed) → Between (pictures.whom_key colour b)
unfolding after_all
whom_key_to colour b = cut_to 5 refl (then_to (site_text_to b.place.items) (record { is = refl }))

whom_key_at_to : (colour : List ℕ) (blamed : List Blamed) (i : ℕ) → Between (pictures.whom_key_at colour blamed i)
whom_key_at_to colour blamed i = by (slice_get blamed i)
  where
    by : (o : Option Blamed) → Between (option_map_or (pictures.whom_key colour) o [])
    by None = none_between
    by (Some b) = whom_key_to colour b

whom_keys_to : (blamed : List Blamed) → Between (pictures.whom_keys blamed)
unfolding after_all
whom_keys_to blamed = cut_to 4 refl (then_to (whom_key_at_to (codes "k-first") blamed 0) (then_to (whom_key_at_to (codes "k-second") blamed 1) (record { is = refl })))

whom_legend_to : (blamed : List Blamed) → Between (pictures.whom_legend blamed)
whom_legend_to blamed = either (nat_eq (length blamed) 0) none_between (whom_keys_to blamed)

-- ---- what idle tasks wait for

value_to : (v : AttrValue) → Between (values.value_of v)
unfolding after_all
value_to (U64 n) = record { is = refl }
value_to (Flag true) = record { is = refl }
value_to (Flag false) = record { is = refl }
value_to (I64 n) = record { is = refl }

unit_to : (name : Option (List ℕ)) → Between (values.unit name)
unfolding after_all
unit_to None = none_between
unit_to (Some name) = record { is = refl }

short_attr_to : (a : AttrInfo × AttrValue) → Between (idle.short_attr a)
unfolding after_all
short_attr_to (info, v) = cut_to 3 refl (then_to (value_to v) (unit_to info.unit))

short_attrs_to : (infos : List AttrInfo) (values : List AttrValue) → Between (idle.short_attrs infos values)
short_attrs_to infos values = each_to idle.short_attr short_attr_to (zip infos values)

in_op_to : (o : Op) → Between (idle.in_op o)
unfolding after_all
in_op_to o = cut_to 2 refl (short_attrs_to o.info.attrs o.row.attrs)

used_to : (r : Resource) → Between (idle.used r)
unfolding after_all
used_to r = cut_to 3 refl (then_to (bits_to (id r.info.id) refl) (short_attrs_to r.info.attrs r.row.attrs))

used_if_to : (r : Option Resource) → Between (option_map_or idle.used r [])
used_if_to None = none_between
used_if_to (Some r) = used_to r

-- a line within a box ends it
since_to : (scale : Scale) (x : OpRow) → Between (idle.since scale x)
unfolding after_all
since_to scale x = record { is = refl }

awaited_op_to : (scale : Scale) (tables : TablesView) (o : Op) → Between (idle.awaited_op scale tables o)
unfolding after_all
awaited_op_to scale tables o =
    cut_to 1 refl (then_to (in_op_to o) (then_to (used_if_to (resource_with o.info.resource tables.resources)) (since_to scale o.row)))

some_of_to : (line : Op → List Bit) → ((o : Op) → Between (line o)) → (ops : List Op) → Between (idle.some_of line ops)
some_of_to line h ops = then_to (each_to line h (take 5 ops)) (more_to (length ops) 5 (codes " more"))

awaited_to : (scale : Scale) (tables : TablesView) (t : Task) → Between (idle.awaited scale tables t)
awaited_to scale tables t =
    either (idle.is_idle t.row) (some_of_to (idle.awaited_op scale tables) (awaited_op_to scale tables) (filter (idle.is_awaited_by t) tables.ops)) none_between

waiter_line_to : (scale : Scale) (o : Op) (t : Task) → Between (idle.waiter_line scale o t)
unfolding after_all
waiter_line_to scale o t =
    cut_to 1 refl (then_to (bits_to (cards.link t) refl) (cut_to 1 refl (then_to (in_op_to o) (since_to scale o.row))))

waiter_to : (scale : Scale) (tasks : List Task) (o : Op) → Between (idle.waiter scale tasks o)
waiter_to scale tasks o = by (idle.waiter_of tasks o)
  where
    by : (w : Option Task) → Between (option_map_or (idle.waiter_line scale o) w [])
    by None = none_between
    by (Some t) = waiter_line_to scale o t

waiters_to : (scale : Scale) (tables : TablesView) (r : Resource) → Between (idle.waiters scale tables r)
waiters_to scale tables r = some_of_to (idle.waiter scale tables.tasks) (waiter_to scale tables.tasks) (filter (idle.waits_at tables.tasks r) tables.ops)

-- ---- rows

top_to : (height : Height) → Between (rows.top height)
unfolding after_all
top_to height = either (nat_lt height.top height.most) (record { is = refl }) none_between

height_cell_to : (height : Height) → Between (rows.height_cell height)
unfolding after_all
height_cell_to height = cut_to 12 refl (then_to (top_to height) (record { is = refl }))

sum_row_to : (scale : Scale) (height : Height) (blamed : List Blamed) (splits : List Split) → Between (rows.sum_row scale height blamed splits)
unfolding after_all
sum_row_to scale height blamed splits =
    then_to (height_cell_to height) (then_to (whom_legend_to blamed) (then_to (picture_to scale height blamed splits)
    (then_to (bits_to (strips.axis (watched scale)) refl) (cut_to 4 refl (then_to (bits_to (pictures.marks height) refl) (record { is = refl }))))))

table_head_to : (scale : Scale) (height : Height) (blamed : List Blamed) (splits : List Split) → Between (rows.table_head scale height blamed splits)
unfolding after_all
table_head_to scale height blamed splits =
    then_to (bits_to (rows.caption (watched scale)) refl) (then_to (sum_row_to scale height blamed splits) (then_to (bits_to rows.first_columns refl)
    (then_to (bits_to rows.last_columns refl) (record { is = refl }))))

mean_cell_to : (busy polls : ℕ) → Between (rows.mean_cell busy polls)
unfolding after_all
mean_cell_to busy polls = by (nat_eq polls 0)
  where
    by : (b : Bool) → Between (rows.cell (each_of busy polls) (cond b (text (226 ∷ 128 ∷ 147 ∷ [])) (span (each_of busy polls)) ∷ []))
    by true = record { is = refl }
    by false = record { is = refl }

numbers_to : (scale : Scale) (x : TaskRow) → Between (rows.numbers scale x)
unfolding after_all
numbers_to scale x =
    then_to (bits_to (rows.share_cell (codes "busy") (busy_until x scale.now) (watched scale)) refl) (then_to (bits_to (rows.share_cell (codes "wait") (sched_until x scale.now) (watched scale)) refl)
    (then_to (mean_cell_to (busy_until x scale.now) x.polls) (bits_to (rows.counts x) refl)))

row_to : (scale : Scale) (signs : Signs) (tables : TablesView) (samples : List Sample) (t : Task) → Between (rows.row_of scale signs tables samples t)
unfolding after_all
row_to scale signs tables samples t =
    then_to (bits_to (rows.name t (is_odd_at_all signs t)) refl) (then_to (badges_to signs t) (then_to (awaited_to scale tables t) (then_to (bits_to (rows.state t.row) refl)
    (then_to (strip_to scale t (sample_of t.row scale.now) (strips.steps_of t.row.created samples (sample_of t.row scale.now)) (is_lost t)) (cut_to 1 refl (then_to (numbers_to scale t.row) (record { is = refl })))))))

row_at_to : (scale : Scale) (signs : Signs) (courses : Courses) (tables : TablesView) (rank : Rank) → Between (rows.row_at scale signs courses tables rank)
row_at_to scale signs courses tables rank = by (slice_get tables.tasks rank.place)
  where
    by : (o : Option Task) → Between (option_map_or (rows.row scale signs courses tables) o [])
    by None = none_between
    by (Some t) = row_to scale signs tables (courses.kept t.info.id) t

table_to : (scale : Scale) (signs : Signs) (courses : Courses) (blamed : List Blamed) (tables : TablesView) (ranks : List Rank) (height : Height)
    → Between (rows.table scale signs courses blamed tables ranks height)
unfolding after_all
table_to scale signs courses blamed tables ranks height =
    then_to (table_head_to scale height blamed (pictures.splits_of blamed (strips.steps_of scale.start courses.sums courses.last))) (then_to (each_to (rows.row_at scale signs courses tables) (row_at_to scale signs courses tables) (take 200 ranks)) (record { is = refl }))

tasks_to : (scale : Scale) (signs : Signs) (courses : Courses) (blamed : List Blamed) (tables : TablesView) (ranks : List Rank) (height : Height)
    → Between (rows.tasks_section scale signs courses blamed tables ranks height)
unfolding after_all
tasks_to scale signs courses blamed tables ranks height =
    then_to (bits_to rows.tasks_head refl) (then_to (table_to scale signs courses blamed tables ranks height)
    (then_to (more_to (length tables.tasks) 200 (codes " tasks more, which have no row")) (record { is = refl })))

-- ---- places

site_name_to : (place : ℕ) (site : List ℕ) → Between (sites.site_name place site)
unfolding after_all
site_name_to place site = cut_to 5 refl (then_to (site_text_to site) (record { is = refl }))

site_work_to : (sums : Sums) → Between (sites.site_work sums)
unfolding after_all
site_work_to sums =
    then_to (bits_to (rows.number_cell (sites.open_of sums)) refl) (then_to (bits_to (rows.number_cell sums.scheduled) refl) (then_to (bits_to (rows.number_cell sums.tasks) refl)
    (then_to (bits_to (polls.time_cell sums.busy) refl) (then_to (bits_to (rows.number_cell sums.polls) refl) (mean_cell_to sums.busy sums.polls)))))

held_cell_to : (held : Option ℕ) → Between (sites.held_cell held)
unfolding after_all
held_cell_to None = record { is = refl }
held_cell_to (Some time) = record { is = refl }

dash_cell_to : Between polls.dash_cell
unfolding after_all
dash_cell_to = record { is = refl }

time_cell_to : (time : ℕ) → Between (polls.time_cell time)
unfolding after_all
time_cell_to time = record { is = refl }

percentile_cell_to : (percent : ℕ) (h : Histogram) → Between (polls.percentile_cell percent h)
percentile_cell_to percent h = by (percentile_high percent h.longest h.counts)
  where
    by : (o : Option ℕ) → Between (option_map_or polls.time_cell o polls.dash_cell)
    by None = dash_cell_to
    by (Some time) = time_cell_to time

bars_from_to : (most bucket : ℕ) (counts : List ℕ) → Within (polls.bars_from most bucket counts)
bars_from_to most bucket [] = none_to (Some places.Value)
bars_from_to most bucket (count ∷ counts) =
    then_to (box_to (record { x = bucket * 6; wide = 5; base = 16; high = polls.bar_high most count })) (bars_from_to most (bucket + 1) counts)

bars_to : (counts : List ℕ) → Between (polls.bars counts)
unfolding after_all
bars_to counts =
    then_to (bits_to (strips.drawing (codes "hist") 84 16) refl) (cut_to 5 refl (then_to (bars_from_to (polls.most_of counts) 0 counts) (record { is = refl })))

longest_cell_to : (h : Histogram) → Between (polls.longest_cell h)
unfolding after_all
longest_cell_to h = cut_to 4 refl (then_to (bars_to h.counts) (record { is = refl }))

polls_cells_to : (o : Option Histogram) → Between (polls.polls_cells o)
unfolding after_all
polls_cells_to None = record { is = refl }
polls_cells_to (Some h) = then_to (percentile_cell_to 50 h) (then_to (percentile_cell_to 99 h) (longest_cell_to h))

waits_cell_to : (o : Option Histogram) → Between (polls.waits_cell o)
unfolding after_all
waits_cell_to None = record { is = refl }
waits_cell_to (Some h) = percentile_cell_to 99 h

site_waits_to : (known : Known) (sums : Sums) → Between (sites.site_waits known sums)
unfolding after_all
site_waits_to known sums =
    then_to (bits_to (polls.time_cell sums.sched) refl) (then_to (mean_cell_to sums.sched sums.tasks)
    (then_to (waits_cell_to known.waits) (then_to (held_cell_to known.held) (bits_to (rows.number_cell sums.own) refl))))

site_row_to : (known : Known) (place : ℕ) (x : List ℕ × Sums) → Between (sites.site_row known place x)
unfolding after_all
site_row_to known place (site, sums) =
    then_to (site_name_to place site) (then_to (site_work_to sums) (then_to (polls_cells_to known.polls) (then_to (site_waits_to known sums) (record { is = refl }))))

site_row_at_to : (times : Option (LimitedView SiteTimes)) (held : Places) (xs : List (List ℕ × Sums)) (rank : Rank) → Between (sites.site_row_at times held xs rank)
site_row_at_to times held xs rank = by (slice_get xs rank.place)
  where
    by : (o : Option (List ℕ × Sums)) → Between (option_map_or (sites.full_row times held rank.place) o [])
    by None = none_between
    by (Some x) = site_row_to (sites.known_at times rank.place (Some (sites.held_for held x.0))) rank.place x

others_row_to : (times : Option (LimitedView SiteTimes)) (place : ℕ) (rest : Option Sums) → Between (sites.others_row times place rest)
others_row_to times place None = none_between
others_row_to times place (Some sums) = site_row_to (sites.known_at times place None) place (codes "(others)", sums)

sites_table_to : (times : Option (LimitedView SiteTimes)) (held : Places) (listed : LimitedView Sums) (ranks : List Rank) → Between (sites.sites_table times held listed ranks)
unfolding after_all
sites_table_to times held listed ranks =
    then_to (bits_to sites.sites_caption refl) (then_to (bits_to sites.sites_columns refl)
    (then_to (each_to (sites.site_row_at times held listed.first) (site_row_at_to times held listed.first) (take 200 ranks))
    (then_to (others_row_to times (length listed.first) listed.rest) (record { is = refl }))))

sites_to : (tasks : ℕ) (times : Option (LimitedView SiteTimes)) (held : Places) (listed : LimitedView Sums) (ranks : List Rank) → Between (sites.sites_section tasks times held listed ranks)
unfolding after_all
sites_to tasks times held listed ranks =
    either (nat_le tasks 50) none_between
    (then_to (bits_to sites.sites_head refl) (then_to (sites_table_to times held listed ranks)
    (then_to (more_to (length listed.first) 200 (codes " places more, which ran and waited less")) (record { is = refl }))))

-- ---- resources

part_of_to : (words : List ℕ) (parent : Option ℕ) → Between (items.part_of words parent)
unfolding after_all
part_of_to words None = none_between
part_of_to words (Some parent) = record { is = refl }

attr_to : (a : AttrInfo × AttrValue) → Between (items.attr a)
unfolding after_all
attr_to (info, v) = cut_to 5 refl (then_to (value_to v) (then_to (unit_to info.unit) (record { is = refl })))

attrs_to : (infos : List AttrInfo) (values : List AttrValue) → Between (items.attrs infos values)
unfolding after_all
attrs_to infos values = cut_to 1 refl (then_to (each_to items.attr attr_to (zip infos values)) (record { is = refl }))

polled_by_to : (tasks : List Task) (task : Option ℕ) → Between (items.polled_by tasks task)
unfolding after_all
polled_by_to tasks None = record { is = refl }
polled_by_to tasks (Some n) = by (task_with n tasks)
  where
    by : (o : Option Task) → Between (option_map_or (λ (t : Task). text t.info.name ∷ []) o (id n))
    by None = record { is = refl }
    by (Some t) = record { is = refl }

op_to : (tasks : List Task) (o : Op) → Between (items.op tasks o)
unfolding after_all
op_to tasks o =
    then_to (bits_to (items.source o) refl) (then_to (part_of_to (codes " part of ") o.info.parent) (then_to (bits_to (items.op_state_cell o.row) refl)
    (then_to (polled_by_to tasks o.row.task) (then_to (bits_to (items.op_numbers o.row) refl) (then_to (attrs_to o.info.attrs o.row.attrs) (record { is = refl }))))))

op_table_to : (tasks : List Task) (live closed : List Op) → Between (items.op_table tasks live closed)
unfolding after_all
op_table_to tasks live closed =
    then_to (bits_to (items.op_counts (capped (length live + length closed)) (length live)) refl) (then_to (bits_to items.columns refl) (then_to (each_to (items.op tasks) (op_to tasks) (take 20 live))
    (then_to (each_to (items.op tasks) (op_to tasks) (take (20 - length live) closed)) (cut_to 2 refl (then_to (more_to (capped (length live + length closed)) 20 (codes " more")) (record { is = refl }))))))

ops_of_to : (tasks : List Task) (live closed : List Op) → Between (items.ops_of tasks live closed)
ops_of_to tasks live closed = either (nat_eq (length live) 0 && nat_eq (length closed) 0) none_between (op_table_to tasks live closed)

ops_to : (tables : TablesView) (r : Resource) → Between (items.ops tables r)
ops_to tables r = ops_of_to tables.tasks (filter (items.is_of r true) tables.ops) (filter (items.is_of r false) tables.ops)

resource_to : (scale : Scale) (tables : TablesView) (r : Resource) → Between (items.resource scale tables r)
unfolding after_all
resource_to scale tables r =
    then_to (bits_to (items.resource_name r) refl) (then_to (part_of_to items.part_words r.info.parent) (cut_to 2 refl (then_to (attrs_to r.info.attrs r.row.attrs)
    (then_to (waiters_to scale tables r) (then_to (bits_to (items.polls (counts_of r.info.id tables.counts)) refl) (then_to (ops_to tables r) (record { is = refl })))))))

resources_to : (scale : Scale) (tables : TablesView) → Between (items.resources_section scale tables)
unfolding after_all
resources_to scale tables =
    either (nat_eq (length tables.resources) 0) none_between
    (cut_to 8 refl (then_to (each_to (items.resource scale tables) (resource_to scale tables) (take 50 tables.resources)) (then_to (more_to (length tables.resources) 50 (codes " more")) (record { is = refl }))))

-- ---- the head, and the page

gone_to : (n : ℕ) → Between (heads.gone_fact n)
unfolding after_all
gone_to n = either (nat_eq n 0) none_between (record { is = refl })

missing_to : (dropped : Dropped) → Between (heads.missing dropped)
unfolding after_all
missing_to dropped = either (nat_eq dropped.tasks 0 && (nat_eq dropped.resources 0 && nat_eq dropped.ops 0)) none_between (bits_to (heads.dropped_facts dropped) refl)

late_to : (tasks : List Task) → Between (heads.late tasks)
unfolding after_all
late_to tasks = either (list_any waits_from_last_wake tasks) (bits_to heads.late_note refl) none_between

header_to : (title : List ℕ) (watched lines gone : ℕ) (tables : TablesView) → Between (heads.header title watched lines gone tables)
unfolding after_all
header_to title watched lines gone tables =
    cut_to 5 refl (then_to (bits_to (heads.facts watched lines tables) refl) (then_to (gone_to gone) (cut_to 1 refl (then_to (missing_to tables.dropped) (then_to (late_to tables.tasks) (record { is = refl }))))))

-- a page that begins between tags ends between tags
pub sections_to : (title : List ℕ) (scale : Scale) (signs : Signs) (courses : Courses) (blamed : List Blamed) (times : Option (LimitedView SiteTimes)) (held : Places) (listed : LimitedView Sums) (tables : TablesView)
    (site_ranks ranks : List Rank) (height : Height)
    → after_all (sections title scale signs courses blamed times held listed tables site_ranks ranks height) (Some places.Text) ≡ Some places.Text
unfolding after_all
sections_to title scale signs courses blamed times held listed tables site_ranks ranks height = page.is where
  page : Between (sections title scale signs courses blamed times held listed tables site_ranks ranks height)
  page =
      then_to (banner_to signs courses.lines tables) (then_to (header_to title (watched scale) courses.lines courses.gone tables) (cut_to 1 refl (then_to (odd_to scale signs courses tables)
      (then_to (sites_to (came courses tables) times held listed site_ranks) (then_to (tasks_to scale signs courses blamed tables ranks height) (then_to (resources_to scale tables) (record { is = refl })))))))
