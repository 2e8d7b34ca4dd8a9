-- Taking an event in keeps what holds inside, and does what the event says.
use Rattle.std.proofs.Common.{◌≡◌, ℕ, zero, suc, ◌+◌, ◌≤◌, ◌<◌, List, [], ◌∷◌, ◌++◌, length, Bool, true, false, cond, nat_eq, get_or, None, Some, refl, sym, ap, ap₂, ◌∙◌, subst, inl, inr, arith}
use Rattle.std.specs.Prelude.{◌⊎◌, Option, IfSome, IfNone, is_some, not, map, position, option_map}
use Rattle.std.specs.List.{position_or_len}
use Rattle.std.proofs.lemmas.List.Quantifiers.{position-Some}
use Rattle.std.proofs.lemmas.Bool.{eqb-true}
use Rattle.tk_core.specs.declared.op.call.OpCall.{OpCall}
use Rattle.tk_core.specs.declared.op.call.OpCall.TheVariants as op_calls
use Rattle.tk_core.specs.declared.resource.call.ResourceCall.TheVariants as resource_calls
use Rattle.tk_core.specs.declared.task.call.TaskCall.TheVariants as task_calls
use Rattle.tk_core.specs.declared.op.row.OpRow.{OpRow}
use Rattle.tk_core.specs.declared.reply.Reply.{Reply}
use Rattle.tk_core.specs.declared.resource.call.ResourceCall.{ResourceCall}
use Rattle.tk_core.specs.declared.resource.row.ResourceRow.{ResourceRow}
use Rattle.tk_core.specs.declared.task.row.TaskRow.{TaskRow}
use Rattle.tk_events.specs.Items.{Agrees}
use Rattle.tk_events.specs.declared.event.Event.{Event}
use Rattle.tk_events.specs.declared.event.Event.TheVariants as events
use Rattle.tk_ids.specs.declared.info.OpInfo.{OpInfo}
use Rattle.tk_ids.specs.declared.info.ResourceInfo.{ResourceInfo}
use Rattle.tk_ids.specs.declared.info.TaskInfo.{TaskInfo}
use Rattle.tk_ledgers.specs.Ops.{OpSight}
use Rattle.tk_ledgers.specs.Resources.{ResourceSight}
use Rattle.tk_ledgers.specs.Tasks.{TaskSight}
use Rattle.tk_aggregator.specs.Aggregates.{ReadTask, ReadResource, ReadOp, TakesIn, TakesTimes}
use Rattle.tk_stream.specs.Fronts.{ToldView, task_at, resource_at, op_at, counts_at, told_tables}
use Rattle.tk_stream.specs.Places.{place_with}
use Rattle.tk_aggregator.specs.Readings.{Reads, task_ledger, resource_ledger, op_ledger}
use Rattle.tk_aggregator.specs.Standing.{IsStanding, TimesStand, ResourceFits, OpFits, told_list}
use Rattle.tk_aggregator.proofs.TimingLemmas.{begin_more, known_later, known_more, readers_more}
use Rattle.tk_stream.specs.Tables.{TablesView, PollCounts, counts_id, changed_at, put_item, task_with, with_task, resource_with, with_resource, op_with, with_op}
use Rattle.tk_aggregator.proofs.HandleLemmas.{reads_read, task_reads, resource_reads, op_reads, still_reads, new_reads, task_draws_none, resource_draws_none, op_draws_none}
use Rattle.tk_aggregator.proofs.HandledLemmas.{Both, TasksStand, ResourcesStand, OpsStand, holds_more, holds_roomier, tasks_handled, resources_handled, ops_handled, tasks_stand, resources_stand, ops_stand, counts_stand}
use Rattle.tk_aggregator.proofs.FollowLemmas.{TakesWhere}
use Rattle.tk_aggregator.proofs.StandingLemmas.{whole}
use Rattle.tk_aggregator.specs.Timing.{TimingView, times_ledger, timing_opened, timing_with}
use Rattle.tk_core.specs.Times.{opening_row}
use Rattle.std.proofs.lemmas.List.{length-append}
use Rattle.tk_stream.specs.Times.{times_shown}
use Rattle.tk_ledgers.specs.Handles.{KnownTimes, sight, sight_with}
use Rattle.tk_ledgers.specs.Times.{TimesSight}
use Rattle.tk_core.specs.declared.times.row.TimesRow.{TimesRow}
use Rattle.tk_core.specs.declared.times.call.TimesCall.TheVariants.{Read}
use Rattle.tk_core.specs.declared.reply.Reply.TheVariants.{Shown}
use Rattle.tk_core.specs.TimesMeaning.{times_meaning}
use Rattle.tk_cell.specs.declared.view.View.{View}
use Rattle.tk_cell.specs.Calls.{Calls}

-- what holds of three values holds of others that are the same
moved : {A B C : Type 0} (Is : A → B → C → Type 0) (a b : A) (c d : B) (e f : C) → a ≡ b → c ≡ d → e ≡ f → Is b d f → Is a c e
moved {A = A} {B = B} {C = C} Is a b c d e f p q r is = subst (λ (x : A × B × C). Is x.0 x.1 x.2) (λ i. (sym p i, sym q i, sym r i)) is

none_there : {X : Type 0} (o : Option X) (P Q : Type 0) → o ≡ None → Q → IfSome o (λ there. P) × IfNone o Q
none_there o P Q none q = subst (λ x. IfSome x (λ there. P) × IfNone x Q) (sym none) (tt, q)

-- ---- tasks

abbrev pub with_task_room : ToldView → ℕ → ToldView
with_task_room telling room = record telling { tasks = record telling.tasks { room = room } }

module _ (shown : TablesView) (telling : ToldView) (tasks : List TaskSight) (resources : List ResourceSight) (ops : List OpSight) (held : Option Event) (last : ℕ) (stands : IsStanding shown telling tasks resources ops held last)
    (room : ℕ) (now : TablesView) (tells : ToldView) (handles : List TaskSight) (e_tells : tells ≡ with_task_room telling room) where
  module _ (info : TaskInfo) (handle : TaskSight) (row : TaskRow) (read : TaskSight) (fit : Agrees (events.Task info handle)) (reading : Reads task_ledger handle row read)
      (e_now : now ≡ with_task shown info row) (e_handles : handles ≡ tasks ++ read ∷ []) (near : length now.tasks ≤ room) where
    task_put : TasksStand shown telling tasks resources ops held last (with_task shown info row).tasks (with_task_room telling room).tasks (tasks ++ read ∷ [])
    task_put =
        holds_more task_at ReadTask shown.tasks telling.tasks tasks (tasks_handled shown telling tasks resources ops held last stands) (TasksStand shown telling tasks resources ops held last) (tasks_stand shown telling tasks resources ops held last stands)
        (record { info = info; row = row }) read room (reading.id ∙ fit.0, reads_read task_ledger task_reads handle row read reading, still_reads task_ledger task_draws_none handle row read (new_reads task_ledger task_calls.Enlist fit.1.0 handle fit.1.1) reading) (subst (λ (t : TablesView). length t.tasks ≤ room) e_now near)

    pub task_put_stands : IsStanding now tells handles resources ops held last
    task_put_stands = moved (λ (t : TablesView) (u : ToldView) (hs : List TaskSight). IsStanding t u hs resources ops held last) now (with_task shown info row) tells (with_task_room telling room) handles (tasks ++ read ∷ []) e_now e_tells e_handles task_put.0

    pub task_put_takes : (broken : Bool) (retention : Option ℕ) (timing timed : TimingView) → task_with info.id shown.tasks ≡ None → TakesTimes info.id handle.times timing timed
        → TakesIn (whole shown telling tasks resources ops held last broken retention timing) (events.Task info handle) (whole now tells handles resources ops held last broken retention timed)
    task_put_takes broken retention timing timed none takes = none_there (task_with info.id shown.tasks) _ _ none (
      row,
      read,
      reading,
      λ i. record {
        tables = e_now i;
        told = (ap₂ told_tables e_tells e_now ∙ task_put.1) i;
        tasks = e_handles i;
        resources = resources;
        ops = ops;
        held = held;
        last = last;
        broken = broken;
        retention = retention;
        timing = timed;
      },
      takes,
    )

  -- where it was not put, there may be more room
  pub task_kept_stands : now ≡ shown → handles ≡ tasks → telling.tasks.room ≤ room → IsStanding now tells handles resources ops held last
  task_kept_stands e_now e_handles near =
      moved (λ (t : TablesView) (u : ToldView) (hs : List TaskSight). IsStanding t u hs resources ops held last) now shown tells (with_task_room telling room) handles tasks e_now e_tells e_handles
      (holds_roomier task_at ReadTask shown.tasks telling.tasks tasks (tasks_handled shown telling tasks resources ops held last stands) (TasksStand shown telling tasks resources ops held last) (tasks_stand shown telling tasks resources ops held last stands) room near).0

-- histograms are of the tasks that are there once there is one more
pub times_after_task : (shown : TablesView) (info : TaskInfo) (row : TaskRow) (now : TablesView) → now ≡ with_task shown info row → (t : TimingView) → TimesStand shown.tasks t → TimesStand now.tasks t
times_after_task shown info row now e t stands =
    subst (λ (x : TablesView). TimesStand x.tasks t) (sym e) (record {
      pairs = stands.pairs;
      known = known_later shown.tasks (with_task shown info row).tasks t.shown (begin_more shown.tasks (record { info = info; row = row })) stands.known;
    })

-- and of that one too
pub times_with_task : (shown : TablesView) (info : TaskInfo) (row : TaskRow) (now : TablesView) → now ≡ with_task shown info row → (t u : TimingView) (s : TimesSight) (times : TimesRow) (read : TimesSight)
    → s.id ≡ info.id → Reads times_ledger s times read → u ≡ timing_with (info.id, times_shown times) read t → TimesStand shown.tasks t → TimesStand now.tasks u
times_with_task shown info row now e t u s times read is reading with stands =
    subst (λ (x : TablesView). TimesStand x.tasks u) (sym e) (subst (TimesStand (with_task shown info row).tasks) (sym with) (record {
      pairs = readers_more t.shown t.readers info.id s times read stands.pairs is reading;
      known = known_more shown.tasks (record { info = info; row = row }) (times_shown times) t.shown stands.known;
    }))

-- a task without a histogram, or where none is read, leaves them as they are
pub takes_none : (id : ℕ) (known : Option KnownTimes) (t : TimingView) → (t.reads ≡ false) ⊎ (known ≡ None) → TakesTimes id known t t
takes_none id None t none = refl
takes_none id (Some known) t (inr none) = absurd cc
takes_none id (Some known) t (inl unread) =
    subst (TakesWhere id known t t) (sym unread) refl

-- a task's histogram is taken in as it was read
pub takes_one : (id : ℕ) (known : KnownTimes) (t u : TimingView) (s : TimesSight) (row : TimesRow) (read : TimesSight) → t.reads ≡ true → s.id ≡ id → s.token ≡ known → Reads times_ledger s row read
    → u ≡ timing_with (id, times_shown row) read t → TakesTimes id (Some known) t u
takes_one id known t u s row read reads is token reading with =
    subst (TakesWhere id known t u) (sym reads) (row, read, moved_reading, with)
  where
    moved_reading : Reads times_ledger (sight id known) row read
    moved_reading = record {
      id = reading.id ∙ is;
      ledger = reading.ledger ∙ ap (λ (k : KnownTimes). k.ledger) token;
      entry = subst (λ (k : KnownTimes). Calls times_meaning k.view Read (Shown row) read.token.view) token reading.entry;
    }

-- an entry that is opened is one more than there are readers
pub opened_count : (t o : TimingView) (id : ℕ) → length t.readers ≡ length t.shown → o ≡ timing_opened id t → length o.readers + 1 ≡ length o.shown
opened_count t o id step is =
    ap (λ (x : TimingView). length x.readers + 1) is ∙ ap (λ n. n + 1) step ∙ sym (length-append t.shown ((id, times_shown opening_row) ∷ [])) ∙ sym (ap (λ (x : TimingView). length x.shown) is)

pub opened_told : (t o : TimingView) (id : ℕ) → length t.readers ≡ length t.shown → length t.told ≤ length t.shown → o ≡ timing_opened id t → length o.told ≤ length o.readers
opened_told t o id step few is = subst (λ (x : TimingView). length x.told ≤ length x.readers) (sym is) (subst (λ n. length t.told ≤ n) (sym step) few)

-- what a reading is doesn't hang on the histogram that a task has
pub same_reading : (s : TaskSight) (times : Option KnownTimes) (row : TaskRow) (read : TaskSight) → Reads task_ledger s row read → Reads task_ledger (sight_with s.id s.token times) row read
same_reading s times row read reading = record { id = reading.id; ledger = reading.ledger; entry = reading.entry }

-- where a task was not put, nothing has changed
pub task_kept : (shown now : TablesView) (telling tells : ToldView) (room : ℕ) (tasks handles : List TaskSight) (resources : List ResourceSight) (ops : List OpSight) (held : Option Event) (last : ℕ) (broken : Bool) (retention : Option ℕ)
    (timing timed : TimingView) → tells ≡ with_task_room telling room → now ≡ shown → handles ≡ tasks → timed ≡ timing
    → whole now tells handles resources ops held last broken retention timed ≡ whole shown telling tasks resources ops held last broken retention timing
task_kept shown now telling tells room tasks handles resources ops held last broken retention timing timed e_tells e_now e_handles e_timing = λ i. record {
  tables = e_now i;
  told = ap₂ told_tables e_tells e_now i;
  tasks = e_handles i;
  resources = resources;
  ops = ops;
  held = held;
  last = last;
  broken = broken;
  retention = retention;
  timing = e_timing i;
}

-- ---- resources

abbrev pub with_resource_room : ToldView → ℕ → ToldView
with_resource_room telling room = record telling { resources = record telling.resources { room = room } }

module _ (shown : TablesView) (telling : ToldView) (tasks : List TaskSight) (resources : List ResourceSight) (ops : List OpSight) (held : Option Event) (last : ℕ) (stands : IsStanding shown telling tasks resources ops held last)
    (room : ℕ) (now : TablesView) (tells : ToldView) (handles : List ResourceSight) (e_tells : tells ≡ with_resource_room telling room) where
  module _ (info : ResourceInfo) (handle : ResourceSight) (row : ResourceRow) (read : ResourceSight) (fit : Agrees (events.Resource info handle)) (reading : Reads resource_ledger handle row read)
      (e_now : now ≡ with_resource shown info row) (e_handles : handles ≡ resources ++ read ∷ []) (near : length now.resources ≤ room) where
    resource_put : ResourcesStand shown telling tasks resources ops held last (with_resource shown info row).resources (with_resource_room telling room).resources (resources ++ read ∷ [])
    resource_put =
        holds_more resource_at (Both ReadResource ResourceFits) shown.resources telling.resources resources (resources_handled shown telling tasks resources ops held last stands) (ResourcesStand shown telling tasks resources ops held last) (resources_stand shown telling tasks resources ops held last stands)
        (record { info = info; row = row }) read room ((reading.id ∙ fit.0, reads_read resource_ledger resource_reads handle row read reading, still_reads resource_ledger resource_draws_none handle row read (new_reads resource_ledger resource_calls.Enlist fit.1.0 handle fit.1.1) reading), (reading.id ∙ fit.0, (fit.1.0, reading.entry.same_opening ∙ ap (λ (v : View ResourceRow ResourceCall (Reply ResourceRow)). v.opening) fit.1.1, fit.1.2))) (subst (λ (t : TablesView). length t.resources ≤ room) e_now near)

    pub resource_put_stands : IsStanding now tells tasks handles ops held last
    resource_put_stands = moved (λ (t : TablesView) (u : ToldView) (hs : List ResourceSight). IsStanding t u tasks hs ops held last) now (with_resource shown info row) tells (with_resource_room telling room) handles (resources ++ read ∷ []) e_now e_tells e_handles resource_put.0

    pub resource_put_takes : (broken : Bool) (retention : Option ℕ) (timing : TimingView) → resource_with info.id shown.resources ≡ None → TakesIn (whole shown telling tasks resources ops held last broken retention timing) (events.Resource info handle) (whole now tells tasks handles ops held last broken retention timing)
    resource_put_takes broken retention timing none = none_there (resource_with info.id shown.resources) _ _ none (
      row,
      read,
      reading,
      λ i. record {
        tables = e_now i;
        told = (ap₂ told_tables e_tells e_now ∙ resource_put.1) i;
        tasks = tasks;
        resources = e_handles i;
        ops = ops;
        held = held;
        last = last;
        broken = broken;
        retention = retention;
        timing = timing;
      },
    )

  -- where it was not put, there may be more room
  pub resource_kept_stands : now ≡ shown → handles ≡ resources → telling.resources.room ≤ room → IsStanding now tells tasks handles ops held last
  resource_kept_stands e_now e_handles near =
      moved (λ (t : TablesView) (u : ToldView) (hs : List ResourceSight). IsStanding t u tasks hs ops held last) now shown tells (with_resource_room telling room) handles resources e_now e_tells e_handles
      (holds_roomier resource_at (Both ReadResource ResourceFits) shown.resources telling.resources resources (resources_handled shown telling tasks resources ops held last stands) (ResourcesStand shown telling tasks resources ops held last) (resources_stand shown telling tasks resources ops held last stands) room near).0

-- ---- ops

abbrev pub with_op_room : ToldView → ℕ → ToldView
with_op_room telling room = record telling { ops = record telling.ops { room = room } }

module _ (shown : TablesView) (telling : ToldView) (tasks : List TaskSight) (resources : List ResourceSight) (ops : List OpSight) (held : Option Event) (last : ℕ) (stands : IsStanding shown telling tasks resources ops held last)
    (room : ℕ) (now : TablesView) (tells : ToldView) (handles : List OpSight) (e_tells : tells ≡ with_op_room telling room) where
  module _ (info : OpInfo) (handle : OpSight) (row : OpRow) (read : OpSight) (fit : Agrees (events.Op info handle)) (reading : Reads op_ledger handle row read)
      (e_now : now ≡ with_op shown info row) (e_handles : handles ≡ ops ++ read ∷ []) (near : length now.ops ≤ room) where
    op_put : OpsStand shown telling tasks resources ops held last (with_op shown info row).ops (with_op_room telling room).ops (ops ++ read ∷ [])
    op_put =
        holds_more op_at (Both ReadOp OpFits) shown.ops telling.ops ops (ops_handled shown telling tasks resources ops held last stands) (OpsStand shown telling tasks resources ops held last) (ops_stand shown telling tasks resources ops held last stands)
        (record { info = info; row = row }) read room ((reading.id ∙ fit.0, reads_read op_ledger op_reads handle row read reading, still_reads op_ledger op_draws_none handle row read (new_reads op_ledger op_calls.Enlist fit.1.0 handle fit.1.1) reading), (reading.id ∙ fit.0, (fit.1.0, reading.entry.same_opening ∙ ap (λ (v : View OpRow OpCall (Reply OpRow)). v.opening) fit.1.1, fit.1.2))) (subst (λ (t : TablesView). length t.ops ≤ room) e_now near)

    pub op_put_stands : IsStanding now tells tasks resources handles held last
    op_put_stands = moved (λ (t : TablesView) (u : ToldView) (hs : List OpSight). IsStanding t u tasks resources hs held last) now (with_op shown info row) tells (with_op_room telling room) handles (ops ++ read ∷ []) e_now e_tells e_handles op_put.0

    pub op_put_takes : (broken : Bool) (retention : Option ℕ) (timing : TimingView) → op_with info.id shown.ops ≡ None → TakesIn (whole shown telling tasks resources ops held last broken retention timing) (events.Op info handle) (whole now tells tasks resources handles held last broken retention timing)
    op_put_takes broken retention timing none = none_there (op_with info.id shown.ops) _ _ none (
      row,
      read,
      reading,
      λ i. record {
        tables = e_now i;
        told = (ap₂ told_tables e_tells e_now ∙ op_put.1) i;
        tasks = tasks;
        resources = resources;
        ops = e_handles i;
        held = held;
        last = last;
        broken = broken;
        retention = retention;
        timing = timing;
      },
    )

  -- where it was not put, there may be more room
  pub op_kept_stands : now ≡ shown → handles ≡ ops → telling.ops.room ≤ room → IsStanding now tells tasks resources handles held last
  op_kept_stands e_now e_handles near =
      moved (λ (t : TablesView) (u : ToldView) (hs : List OpSight). IsStanding t u tasks resources hs held last) now shown tells (with_op_room telling room) handles ops e_now e_tells e_handles
      (holds_roomier op_at (Both ReadOp OpFits) shown.ops telling.ops ops (ops_handled shown telling tasks resources ops held last stands) (OpsStand shown telling tasks resources ops held last) (ops_stand shown telling tasks resources ops held last stands) room near).0

-- an item that was not found is not there
pub not_there : {X Y : Type 0} (f : X → Y) (o : Option X) (there : Option Y) (found : Bool) → option_map f o ≡ there → found ≡ is_some o → found ≡ false → there ≡ None
not_there f None there found e is none = sym e
not_there f (Some x) there found e is none = absurd (cc (is, none))

-- ---- poll counts

put_there : (id : ℕ) (row : ℕ × ℕ) (xs : List PollCounts) (i : ℕ) → i < length (map counts_id xs) → nat_eq id (get_or (map counts_id xs) i 0) ≡ true → ((k : ℕ) → k < i → nat_eq id (get_or (map counts_id xs) k 0) ≡ false)
    → changed_at (λ c. counts_at c row) xs i ≡ put_item counts_id (id, row.0, row.1) xs
put_there id row [] i lt is none = absurd (omega (arith, lt))
put_there id row (x ∷ xs) zero lt is none = rw is (ap (λ n. (n, row.0, row.1) ∷ xs) (sym (eqb-true id x.0 is)))
put_there id row (x ∷ xs) (suc i) lt is none = rw (none 0 (omega arith)) (ap (λ ys. x ∷ ys) (put_there id row xs i (omega (arith, lt)) is (λ k below. none (suc k) (omega (arith, below)))))

-- the counts that stand at their resource's place become others
pub put_at : (id : ℕ) (row : ℕ × ℕ) (xs : List PollCounts) (i : ℕ) → place_with counts_id id xs ≡ Some i → changed_at (λ c. counts_at c row) xs i ≡ put_item counts_id (id, row.0, row.1) xs
put_at id row xs i at =
    let found = position-Some (λ n. nat_eq id n) (map counts_id xs) i 0 at in
    put_there id row xs i found.0 found.1 found.2

nowhere : (id : ℕ) (ns : List ℕ) → position (λ n. nat_eq id n) ns ≡ None → length ns ≤ position_or_len (λ n. nat_eq id n) ns
nowhere id ns none = grind arith

goes_last : (c : PollCounts) (xs : List PollCounts) → length (map counts_id xs) ≤ position_or_len (λ n. nat_eq c.0 n) (map counts_id xs) → put_item counts_id c xs ≡ xs ++ c ∷ []
goes_last c [] le = refl
goes_last c (x ∷ xs) le = by (nat_eq c.0 x.0) le (λ past. goes_last c xs past)
  where
    by : (b : Bool) → suc (length (map counts_id xs)) ≤ cond (not b) (1 + position_or_len (λ n. nat_eq c.0 n) (map counts_id xs)) 0
        → (length (map counts_id xs) ≤ position_or_len (λ n. nat_eq c.0 n) (map counts_id xs) → put_item counts_id c xs ≡ xs ++ c ∷ [])
        → cond b (c ∷ xs) (x ∷ put_item counts_id c xs) ≡ x ∷ (xs ++ c ∷ [])
    by true le rest = absurd (omega (arith, le))
    by false le rest = ap (λ ys. x ∷ ys) (rest (omega (arith, le)))

-- counts of a resource without any go last
pub put_last : (c : PollCounts) (xs : List PollCounts) → place_with counts_id c.0 xs ≡ None → put_item counts_id c xs ≡ xs ++ c ∷ []
put_last c xs none = goes_last c xs (nowhere c.0 (map counts_id xs) none)

pub length-changed_at : {A : Type 0} (change : A → A) (xs : List A) (i : ℕ) → length (changed_at change xs i) ≡ length xs
length-changed_at change [] i = refl
length-changed_at change (x ∷ xs) zero = refl
length-changed_at change (x ∷ xs) (suc i) = ap suc (length-changed_at change xs i)

module _ (shown : TablesView) (telling : ToldView) (tasks : List TaskSight) (resources : List ResourceSight) (ops : List OpSight) (held : Option Event) (last : ℕ) (stands : IsStanding shown telling tasks resources ops held last)
    (now : TablesView) (view : ToldView) (counts : List PollCounts) (e : now ≡ record shown { counts = counts }) (alone : view ≡ record telling { counts = view.counts })
    (fits : length view.counts.rows ≤ length now.counts) (near : length now.counts ≤ view.counts.room) (same : told_list counts_at now.counts view.counts ≡ told_list counts_at shown.counts telling.counts) where
  polled_now : IsStanding (record shown { counts = counts }) (record telling { counts = view.counts }) tasks resources ops held last
      × (told_tables (record telling { counts = view.counts }) (record shown { counts = counts }) ≡ told_tables telling shown)
  polled_now =
      counts_stand shown telling tasks resources ops held last stands counts view.counts (subst (λ (t : TablesView). length view.counts.rows ≤ length t.counts) e fits) (subst (λ (t : TablesView). length t.counts ≤ view.counts.room) e near)
      (subst (λ (t : TablesView). told_list counts_at t.counts view.counts ≡ told_list counts_at shown.counts telling.counts) e same)

  pub poll_stands : IsStanding now view tasks resources ops held last
  poll_stands =
      subst (λ (t : TablesView). IsStanding t view tasks resources ops held last) (sym e)
      (subst (λ (v : ToldView). IsStanding (record shown { counts = counts }) v tasks resources ops held last) (sym alone) polled_now.0)

  pub poll_counts : (broken : Bool) (retention : Option ℕ) (timing : TimingView) → whole now view tasks resources ops held last broken retention timing ≡ record (whole shown telling tasks resources ops held last broken retention timing) { tables = record shown { counts = counts } }
  poll_counts broken retention timing = λ i. record {
    tables = e i;
    told = (ap₂ told_tables alone e ∙ polled_now.1) i;
    tasks = tasks;
    resources = resources;
    ops = ops;
    held = held;
    last = last;
    broken = broken;
    retention = retention;
    timing = timing;
  }
