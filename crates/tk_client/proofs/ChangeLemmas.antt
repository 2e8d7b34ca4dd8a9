-- What a line says that it changes is what it changes.
use Rattle.std.proofs.Common.{◌≡◌, ℕ, List, [], ◌∷◌, ◌++◌, Bool, true, false, cond, nat_eq, Option, Some, None, Result, Ok, Err, refl, ap, ap₂, sym, subst, ◌∙◌, true≢false, append-nil}
use Rattle.std.specs.Prelude.{map, filter, option_map, option_and_then, is_some, is_none, not, ◌||◌, ◌&&◌}
use Rattle.std.specs.List.{list_any, list_all, AllByRecursion}
use Rattle.std.specs.Option.{option_map_or}
use Rattle.std.proofs.lemmas.Bool.{or_parts, eqb-true}
use Rattle.std.proofs.lemmas.List.Folds.{list_any-append}
use Rattle.tk_core.specs.declared.task.row.TaskRow.{TaskRow}
use Rattle.tk_ids.specs.declared.info.TaskInfo.{TaskInfo}
use Rattle.tk_stream.specs.declared.tables.op.Op.{Op}
use Rattle.tk_stream.specs.declared.tables.resource.Resource.{Resource}
use Rattle.tk_stream.specs.declared.tables.task.Task.{Task}
use Rattle.tk_stream.specs.Lines.{LineView, gone_of, times_of, is_new, task_info}
use Rattle.tk_stream.specs.Applied.{task_kind, resource_kind, op_kind, times_kind, told_item, new_items, items_after, counts_after, tables_after, times_after, times_told, still_there}
use Rattle.tk_stream.specs.Tables.{TablesView, empty_tables, task_id, task_with, item_with, is_among, staying}
use Rattle.tk_stream.specs.Times.{TaskTimes, times_id}
use Rattle.tk_stream.proofs.GoneLemmas.{filter-same}
use Rattle.tk_client.specs.declared.change.LeftTask.{LeftTask}
use Rattle.tk_client.specs.declared.fault.Fault.{Fault}
use Rattle.tk_client.specs.declared.fault.Fault.TheVariants.{Repeated, UnknownId, Misfit}
use Rattle.tk_client.specs.Applying.{stats_id_by}
use Rattle.tk_client.specs.Changes.{ChangeView, IsChange, IsSame, Timed, has_task, is_one_of, left_as, left_id, tasks_beside}
use Rattle.tk_client.specs.Changing.{ChangedBy, Noted, is_away, is_beside, leaves_by, told_by}
use Rattle.tk_client.specs.Meaning.{base_of, times_base}
use Rattle.tk_client.specs.Taking.{has_id, has_twice, new_id, repeats_kind, repeats_gone_kind, repeats_gone, repeats_told, repeats_id, repeats_times, strange_gone_kind, strange_gone, strange_kind, strange_told, has_strange_id, strange_times, is_strange, is_strange_task, are_fitting, fitting, line_applied, line_checked}
use Rattle.tk_client.proofs.AbleLemmas.{none-told, staying-with, untold-with}
use Rattle.tk_client.proofs.IdLemmas.{any-has, has-the-id, itself}

-- ---- lists

filter-append : {X : Type 0} (p : X → Bool) (xs ys : List X) → filter p (xs ++ ys) ≡ filter p xs ++ filter p ys
filter-append p [] ys = refl
filter-append p (x ∷ xs) ys = by (p x) (filter-append p xs ys)
  where
    by : (b : Bool) → filter p (xs ++ ys) ≡ filter p xs ++ filter p ys → cond b (x ∷ filter p (xs ++ ys)) (filter p (xs ++ ys)) ≡ cond b (x ∷ filter p xs) (filter p xs) ++ filter p ys
    by true e = ap (λ zs. x ∷ zs) e
    by false e = e

map-append : {A B : Type 0} (f : A → B) (xs ys : List A) → map f (xs ++ ys) ≡ map f xs ++ map f ys
map-append f [] ys = refl
map-append f (x ∷ xs) ys = ap (λ zs. f x ∷ zs) (map-append f xs ys)

map-filter : {X : Type 0} (f : X → ℕ) (p : ℕ → Bool) (xs : List X) → map f (filter (λ x. p (f x)) xs) ≡ filter p (map f xs)
map-filter f p [] = refl
map-filter f p (x ∷ xs) = by (p (f x)) (map-filter f p xs)
  where
    by : (b : Bool) → map f (filter (λ y. p (f y)) xs) ≡ filter p (map f xs)
        → map f (cond b (x ∷ filter (λ y. p (f y)) xs) (filter (λ y. p (f y)) xs)) ≡ cond b (f x ∷ filter p (map f xs)) (filter p (map f xs))
    by true e = ap (λ zs. f x ∷ zs) e
    by false e = e

all-pass : {X : Type 0} (p : X → Bool) (xs : List X) → AllByRecursion (λ x. p x ≡ true) xs → filter p xs ≡ xs
all-pass p [] all = refl
all-pass p (x ∷ xs) all = rw all.0 (ap (λ zs. x ∷ zs) (all-pass p xs all.1))

each : {X : Type 0} (P Q : X → Type 0) → ((x : X) → P x → Q x) → (xs : List X) → AllByRecursion P xs → AllByRecursion Q xs
each P Q h [] all = tt
each P Q h (x ∷ xs) all = (h x all.0, each P Q h xs all.1)

-- what passes a test that none of these passes is none of these
apart : {X : Type 0} (f : X → ℕ) (p : ℕ → Bool) (id : ℕ) (xs : List X) → list_any (λ x. p (f x)) xs ≡ false → p id ≡ true → is_among (map f xs) id ≡ false
apart f p id [] none is = refl
apart f p id (x ∷ xs) none is =
    let q = or_parts (p (f x)) (list_any (λ y. p (f y)) xs) none in by (nat_eq id (f x)) refl q.0 (apart f p id xs q.1 is)
  where
    by : (b : Bool) → nat_eq id (f x) ≡ b → p (f x) ≡ false → is_among (map f xs) id ≡ false → (b || is_among (map f xs) id) ≡ false
    by true e h rest = absurd (true≢false (sym is ∙ ap p (eqb-true id (f x) e) ∙ h))
    by false e h rest = rest

-- and one of these doesn't pass it
fails : {X : Type 0} (f : X → ℕ) (p : ℕ → Bool) (id : ℕ) (xs : List X) → list_any (λ x. p (f x)) xs ≡ false → is_among (map f xs) id ≡ true → p id ≡ false
fails f p id xs none among = by (p id) refl
  where
    by : (b : Bool) → p id ≡ b → b ≡ false
    by true e = absurd (true≢false (sym among ∙ apart f p id xs none e))
    by false e = refl

map-same : (ids : List ℕ) → map (λ (n : ℕ). n) ids ≡ ids
map-same [] = refl
map-same (n ∷ ids) = ap (λ ms. n ∷ ms) (map-same ids)

none-of : (p : ℕ → Bool) (id : ℕ) (ids : List ℕ) → list_any p ids ≡ false → p id ≡ true → is_among ids id ≡ false
none-of p id ids none is = ap (λ ms. is_among ms id) (sym (map-same ids)) ∙ apart (λ (n : ℕ). n) p id ids none is

all-among : (p : ℕ → Bool) (ids : List ℕ) → ((id : ℕ) → is_among ids id ≡ true → p id ≡ true) → list_all p ids ≡ true
all-among p [] h = refl
all-among p (n ∷ ids) h = rw (h n (rw (itself n) refl)) (all-among p ids (λ id e. h id (later (nat_eq id n) (is_among ids id) e)))
  where
    later : (b c : Bool) → c ≡ true → (b || c) ≡ true
    later true c e = refl
    later false c e = e

-- each of these is there
each-there : {X : Type 0} (f : X → ℕ) (all xs : List X) → ((id : ℕ) → has_id f id xs ≡ true → has_id f id all ≡ true) → AllByRecursion (λ x. has_id f (f x) all ≡ true) xs
each-there f all [] h = tt
each-there {X} f all (x ∷ xs) h = (h (f x) (rw (itself (f x)) refl), each-there f all xs (λ id e. h id (later (nat_eq id (f x)) (item_with f id xs) e)))
  where
    later : (b : Bool) (o : Option X) → is_some o ≡ true → is_some (cond b (Some x) o) ≡ true
    later true o e = refl
    later false o e = e

has-append : {X : Type 0} (f : X → ℕ) (id : ℕ) (xs ys : List X) → has_id f id (xs ++ ys) ≡ (has_id f id xs || has_id f id ys)
has-append f id [] ys = refl
has-append f id (x ∷ xs) ys = by (nat_eq id (f x)) (has-append f id xs ys)
  where
    by : (b : Bool) → has_id f id (xs ++ ys) ≡ (has_id f id xs || has_id f id ys)
        → is_some (cond b (Some x) (item_with f id (xs ++ ys))) ≡ (is_some (cond b (Some x) (item_with f id xs)) || has_id f id ys)
    by true e = refl
    by false e = e

-- ---- a line that was applied

-- what a line tells of tasks and histograms, in tables that it leads from and to
record Applied (base after : TablesView) (l : LineView) : Type 0 where
  items : List Task
  are : new_items task_kind l.task_stats l.new_tasks ≡ Some items
  now : after.tasks ≡ map (told_item task_kind l.task_stats) (staying task_id (gone_of l).tasks base.tasks) ++ items
  new_away : list_any (λ (info : TaskInfo). has_id task_id info.id base.tasks) l.new_tasks ≡ false
  gone_untold : list_any (λ id. has_id (stats_id_by task_kind) id l.task_stats) (gone_of l).tasks ≡ false
  told_known : list_any (is_strange task_kind base.tasks l.new_tasks) l.task_stats ≡ false
  gone_untimed : list_any (is_among (map times_id (times_of l))) (gone_of l).tasks ≡ false
  times_known : strange_times base l ≡ false

record Tasks (base after : TablesView) (l : LineView) : Type 0 where
  items : List Task
  are : new_items task_kind l.task_stats l.new_tasks ≡ Some items
  now : after.tasks ≡ map (told_item task_kind l.task_stats) (staying task_id (gone_of l).tasks base.tasks) ++ items

tasks-after : (base after : TablesView) (l : LineView) → tables_after base l ≡ Some after → Tasks base after l
tasks-after base after l e =
    by (new_items task_kind l.task_stats l.new_tasks) refl (items_after resource_kind base.resources (gone_of l).resources l.new_resources l.resource_stats)
    (items_after op_kind base.ops (gone_of l).ops l.new_ops l.op_stats) e
  where
    by : (ts : Option (List Task)) → new_items task_kind l.task_stats l.new_tasks ≡ ts → (rs : Option (List Resource)) (os : Option (List Op))
        → option_and_then (λ tasks. option_and_then (λ resources. option_map (λ ops. record {
          tasks = tasks;
          resources = resources;
          ops = ops;
          counts = counts_after base.counts l.poll_counts;
          dropped = l.dropped;
          now = l.now;
        }) os) rs) (option_map (λ items. map (told_item task_kind l.task_stats) (staying task_id (gone_of l).tasks base.tasks) ++ items) ts) ≡ Some after → Tasks base after l
    by None is rs os g = absurd (cc)
    by (Some ts) is None os g = absurd (cc)
    by (Some ts) is (Some rs) None g = absurd (cc)
    by (Some ts) is (Some rs) (Some os) g =
        let same : record { tasks = map (told_item task_kind l.task_stats) (staying task_id (gone_of l).tasks base.tasks) ++ ts; resources = rs; ops = os; counts = counts_after base.counts l.poll_counts; dropped = l.dropped; now = l.now } ≡ after = (cc) in
        record { items = ts; are = is; now = ap (λ (v : TablesView). v.tasks) (sym same) }

applied : (base after : TablesView) (l : LineView) → line_checked base l ≡ Ok after → Applied base after l
unfolding line_applied
applied base after l e = by (repeats_times l) refl (strange_times base l) refl (repeats_id base l) refl (has_strange_id base l) refl (tables_after base l) refl e
  where
    test : (v : TablesView) (b : Bool) → cond b (Ok v) (Err Misfit) ≡ Ok after → v ≡ after
    test v true h = cc
    test v false h = absurd (cc)

    by : (a : Bool) → repeats_times l ≡ a → (b : Bool) → strange_times base l ≡ b → (c : Bool) → repeats_id base l ≡ c → (d : Bool) → has_strange_id base l ≡ d → (o : Option TablesView) → tables_after base l ≡ o
        → cond a (Err Repeated) (cond b (Err UnknownId) (cond c (Err Repeated) (cond d (Err UnknownId) (fitting o)))) ≡ Ok after → Applied base after l
    by true a b is c r d s o t h = absurd (cc)
    by false a true is c r d s o t h = absurd (cc)
    by false a false is true r d s o t h = absurd (cc)
    by false a false is false r true s o t h = absurd (cc)
    by false a false is false r false s None t h = absurd (cc)
    by false a false is false r false s (Some v) t h =
        let f = tasks-after base after l (t ∙ ap Some (test v (are_fitting v) h)) in
        let gone = (gone_of l).tasks in
        let p = or_parts (repeats_gone l) (repeats_told base l) r in
        let g = or_parts (repeats_gone_kind task_kind gone l.task_stats) _ p.0 in
        let h = or_parts (has_twice gone) (list_any (λ id. has_id (stats_id_by task_kind) id l.task_stats) gone) g.0 in
        let k = or_parts (repeats_kind task_kind base.tasks l.new_tasks l.task_stats) _ p.1 in
        let m = or_parts (list_any (λ (info : TaskInfo). has_id task_id info.id base.tasks) l.new_tasks) _ k.0 in
        let q = or_parts (strange_gone base l) (strange_told base l) s in
        let w = or_parts (strange_kind task_kind base.tasks l.new_tasks l.task_stats) _ q.1 in
        let x = or_parts (has_twice (map times_id (times_of l))) (list_any (is_among (map times_id (times_of l))) gone) a in
        record {
          items = f.items;
          are = f.are;
          now = f.now;
          new_away = m.0;
          gone_untold = h.1;
          told_known = w.0;
          gone_untimed = x.1;
          times_known = is;
        }

-- ---- the tasks after it

new-ids : (stats : List (ℕ × TaskRow)) (infos : List TaskInfo) (items : List Task) → new_items task_kind stats infos ≡ Some items → map task_id items ≡ map new_id infos
new-ids stats [] items e = let same : items ≡ [] = (cc) in ap (map task_id) same
new-ids stats (info ∷ infos) items e =
    by (item_with (stats_id_by task_kind) info.id stats) (new_items task_kind stats infos) refl e (new-ids stats infos)
  where
    by : (o : Option (ℕ × TaskRow)) (r : Option (List Task)) → new_items task_kind stats infos ≡ r
        → option_and_then (λ item. option_map (λ ys. item ∷ ys) r) (option_map (λ (s : ℕ × TaskRow). record { info = info; row = s.1 }) o) ≡ Some items
        → ((ys : List Task) → new_items task_kind stats infos ≡ Some ys → map task_id ys ≡ map new_id infos) → map task_id items ≡ map new_id (info ∷ infos)
    by None r are g rest = absurd (cc)
    by (Some s) None are g rest = absurd (cc)
    by (Some s) (Some ys) are g rest =
        let same : items ≡ record { info = info; row = s.1 } ∷ ys = (cc) in
        ap (map task_id) same ∙ ap (λ ids. info.id ∷ ids) (rest ys are)

module _ (stats : List (ℕ × TaskRow)) where
  told-info : (x : Task) → task_info (told_item task_kind stats x) ≡ task_info x
  told-info x = by (item_with (stats_id_by task_kind) x.info.id stats)
    where
      by : (o : Option (ℕ × TaskRow)) → task_info (option_map_or (λ (s : ℕ × TaskRow). record { info = x.info; row = s.1 }) o x) ≡ task_info x
      by (Some s) = refl
      by None = refl

  has-told : (id : ℕ) (xs : List Task) → has_id task_id id (map (told_item task_kind stats) xs) ≡ has_id task_id id xs
  has-told id [] = refl
  has-told id (x ∷ xs) =
      ap (λ (info : TaskInfo). is_some (cond (nat_eq id info.id) (Some (told_item task_kind stats x)) (item_with task_id id (map (told_item task_kind stats) xs)))) (told-info x)
      ∙ by (nat_eq id x.info.id) (has-told id xs)
    where
      by : (b : Bool) → has_id task_id id (map (told_item task_kind stats) xs) ≡ has_id task_id id xs
          → is_some (cond b (Some (told_item task_kind stats x)) (item_with task_id id (map (told_item task_kind stats) xs))) ≡ is_some (cond b (Some x) (item_with task_id id xs))
      by true e = refl
      by false e = e

  infos-told : (xs : List Task) → map task_info (map (told_item task_kind stats) xs) ≡ map task_info xs
  infos-told [] = refl
  infos-told (x ∷ xs) = ap₂ (λ y ys. y ∷ ys) (told-info x) (infos-told xs)

  -- of tasks that others have, none is beside these
  none-beside : (others : TablesView) (gone : List ℕ) (xs : List Task) → AllByRecursion (λ (x : Task). has_id task_id x.info.id others.tasks ≡ true) xs
      → filter (λ (t : Task). not (has_task others t.info.id)) (map (told_item task_kind stats) (staying task_id gone xs)) ≡ []
  none-beside others gone [] all = refl
  none-beside others gone (x ∷ xs) all = by (is_among gone x.info.id) (none-beside others gone xs all.1)
    where
      by : (b : Bool) → filter (λ (t : Task). not (has_task others t.info.id)) (map (told_item task_kind stats) (staying task_id gone xs)) ≡ []
          → filter (λ (t : Task). not (has_task others t.info.id)) (map (told_item task_kind stats) (cond (not b) (x ∷ staying task_id gone xs) (staying task_id gone xs))) ≡ []
      by true e = e
      by false e =
          let there : has_task others (told_item task_kind stats x).info.id ≡ true = ap (λ (info : TaskInfo). has_task others info.id) (told-info x) ∙ all.0 in
          ap (λ b. cond (not b) (told_item task_kind stats x ∷ filter (λ (t : Task). not (has_task others t.info.id)) (map (told_item task_kind stats) (staying task_id gone xs)))
          (filter (λ (t : Task). not (has_task others t.info.id)) (map (told_item task_kind stats) (staying task_id gone xs)))) there ∙ e

-- the tasks after a line that leads from tables
module _ (base after : TablesView) (l : LineView) (a : Applied base after l) where
  abbrev gone : List ℕ
  gone = (gone_of l).tasks

  abbrev new : List ℕ
  new = map new_id l.new_tasks

  has-items : (id : ℕ) → has_id task_id id a.items ≡ is_among new id
  has-items id = sym (any-has task_id id a.items) ∙ ap (λ ids. is_among ids id) (new-ids l.task_stats l.new_tasks a.items a.are)

  has-after : (id : ℕ) → has_task after id ≡ (cond (is_among gone id) false (has_task base id) || is_among new id)
  has-after id =
      ap (has_id task_id id) a.now
      ∙ has-append task_id id (map (told_item task_kind l.task_stats) (staying task_id gone base.tasks)) a.items
      ∙ ap₂ (λ x y. x || y) (has-told l.task_stats id (staying task_id gone base.tasks) ∙ ap is_some (staying-with task_id gone id base.tasks) ∙ by (is_among gone id)) (has-items id)
    where
      by : (b : Bool) → is_some (cond b None (task_with id base.tasks)) ≡ cond b false (has_task base id)
      by true = refl
      by false = refl

  -- what is told of is there
  known-after : (id : ℕ) → (has_task base id || is_among new id) ≡ true → is_among gone id ≡ false → has_task after id ≡ true
  known-after id known stays = has-after id ∙ ap (λ b. cond b false (has_task base id) || is_among new id) stays ∙ known

  was-known : (b : Bool) → not b ≡ false → b ≡ true
  was-known true e = refl
  was-known false e = absurd (true≢false e)

  stats-there : (id : ℕ) → is_among (map (stats_id_by task_kind) l.task_stats) id ≡ true → has_task after id ≡ true
  stats-there id among =
      known-after id
      (ap (λ b. has_task base id || b) (any-has new_id id l.new_tasks)
      ∙ was-known _ (fails (stats_id_by task_kind) (λ n. not (has_id task_id n base.tasks || has_id new_id n l.new_tasks)) id l.task_stats a.told_known among))
      (none-of (λ n. has_id (stats_id_by task_kind) n l.task_stats) id gone a.gone_untold (sym (any-has (stats_id_by task_kind) id l.task_stats) ∙ among))

  times-there : (id : ℕ) → is_among (map times_id (times_of l)) id ≡ true → has_task after id ≡ true
  times-there id among =
      known-after id
      (was-known _ (fails times_id (is_strange_task base l.new_tasks) id (times_of l) a.times_known among))
      (none-of (is_among (map times_id (times_of l))) id gone a.gone_untimed among)

  told-there : (id : ℕ) → is_among (told_by l) id ≡ true → has_task after id ≡ true
  told-there id among =
      by (is_among (map (stats_id_by task_kind) l.task_stats) id) refl (sym (list_any-append (λ n. nat_eq id n) (map (stats_id_by task_kind) l.task_stats) (map times_id (times_of l))) ∙ among)
    where
      by : (b : Bool) → is_among (map (stats_id_by task_kind) l.task_stats) id ≡ b → (b || is_among (map times_id (times_of l)) id) ≡ true → has_task after id ≡ true
      by true e h = stats-there id e
      by false e h = times-there id h

  -- a task that isn't told of was there
  untold-task : (id : ℕ) → is_among (map (stats_id_by task_kind) l.task_stats) id ≡ false → task_with id after.tasks ≡ cond (is_among gone id) None (task_with id base.tasks)
  untold-task id none =
      ap (task_with id) a.now
      ∙ untold-with task_kind (λ x s. refl) (λ info s. refl) l.task_stats l.new_tasks a.items a.are id (none-told (stats_id_by task_kind) id l.task_stats none) (staying task_id gone base.tasks)
      ∙ staying-with task_id gone id base.tasks

-- ---- the histograms after it

none-left : (id : ℕ) (p : TaskTimes → Bool) (xs : List TaskTimes) → item_with times_id id xs ≡ None → item_with times_id id (filter p xs) ≡ None
none-left id p [] none = refl
none-left id p (x ∷ xs) none = by (nat_eq id x.0) refl none (p x) (none-left id p xs)
  where
    by : (b : Bool) → nat_eq id x.0 ≡ b → cond b (Some x) (item_with times_id id xs) ≡ None → (c : Bool) → (item_with times_id id xs ≡ None → item_with times_id id (filter p xs) ≡ None)
        → item_with times_id id (cond c (x ∷ filter p xs) (filter p xs)) ≡ None
    by true e h c rest = absurd (cc)
    by false e h true rest = rw e (rest h)
    by false e h false rest = rest h

untold-times : (id : ℕ) (told more : List TaskTimes) → item_with times_id id told ≡ None → item_with times_id id more ≡ None → (there : List TaskTimes)
    → item_with times_id id (map (told_item times_kind told) there ++ more) ≡ item_with times_id id there
untold-times id told more none away [] = away
untold-times id told more none away (x ∷ xs) =
    by (nat_eq id x.0) refl (item_with times_id x.0 told) refl (untold-times id told more none away xs)
  where
    own : (o : Option TaskTimes) → item_with times_id x.0 told ≡ o → times_id (option_map_or (λ (t : TaskTimes). t) o x) ≡ x.0
    own None e = refl
    own (Some t) e = sym (has-the-id times_id x.0 told t e)

    here : (b : Bool) → nat_eq id x.0 ≡ b → (o : Option TaskTimes) → item_with times_id x.0 told ≡ o → item_with times_id id (map (told_item times_kind told) xs ++ more) ≡ item_with times_id id xs
        → cond b (Some (option_map_or (λ (t : TaskTimes). t) o x)) (item_with times_id id (map (told_item times_kind told) xs ++ more)) ≡ cond b (Some x) (item_with times_id id xs)
    here true is None found h = refl
    here true is (Some t) found h = absurd (some_none t (sym found ∙ ap (λ n. item_with times_id n told) (sym (eqb-true id x.0 is)) ∙ none))
      where
        some_none : (t : TaskTimes) → Some t ≡ None → ⊥
        some_none t e = cc
    here false is o found h = h

    by : (b : Bool) → nat_eq id x.0 ≡ b → (o : Option TaskTimes) → item_with times_id x.0 told ≡ o → item_with times_id id (map (told_item times_kind told) xs ++ more) ≡ item_with times_id id xs
        → cond (nat_eq id (times_id (option_map_or (λ (t : TaskTimes). t) o x))) (Some (option_map_or (λ (t : TaskTimes). t) o x)) (item_with times_id id (map (told_item times_kind told) xs ++ more))
        ≡ cond b (Some x) (item_with times_id id xs)
    by b is o found h =
        ap (λ n. cond (nat_eq id n) (Some (option_map_or (λ (t : TaskTimes). t) o x)) (item_with times_id id (map (told_item times_kind told) xs ++ more))) (own o found)
        ∙ ap (λ t. cond t (Some (option_map_or (λ (u : TaskTimes). u) o x)) (item_with times_id id (map (told_item times_kind told) xs ++ more))) is
        ∙ here b is o found h

untold-histogram : (id : ℕ) (base after : List TaskTimes) (l : LineView) → after ≡ times_after base l → is_among (map times_id (times_of l)) id ≡ false → is_among (gone_of l).tasks id ≡ false
    → item_with times_id id after ≡ item_with times_id id base
untold-histogram id base after l is none stays =
    let untold = none-told times_id id (times_of l) none in
    let there = staying times_id (gone_of l).tasks base in
    ap (item_with times_id id) is
    ∙ untold-times id (times_of l) (filter (is_new times_id there) (times_of l)) untold (none-left id (is_new times_id there) (times_of l) untold) there
    ∙ staying-with times_id (gone_of l).tasks id base
    ∙ ap (λ b. cond b None (item_with times_id id base)) stays

-- ---- what a line changed

untold-parts : (id : ℕ) (l : LineView) → is_among (told_by l) id ≡ false
    → (is_among (map (stats_id_by task_kind) l.task_stats) id ≡ false) × (is_among (map times_id (times_of l)) id ≡ false)
untold-parts id l none =
    or_parts _ _ (sym (list_any-append (λ n. nat_eq id n) (map (stats_id_by task_kind) l.task_stats) (map times_id (times_of l))) ∙ none)

is-there : (b : Bool) (o : Option Task) → is_some (cond b None o) ≡ true → b ≡ false
is-there true o e = absurd (true≢false (sym e))
is-there false o e = refl

-- a line that is no snapshot
module _ (before after : Timed) (l : LineView) (c : ChangeView) (said : ChangedBy before.0 before.1 l c) (goes_on : l.snapshot ≡ false)
    (a : Applied before.0 after.0 l) (times : after.1 ≡ times_after before.1 l) where
  abbrev leaving : List ℕ
  leaving = (gone_of l).tasks

  not-new : (id : ℕ) → has_task before.0 id ≡ true → is_among (map new_id l.new_tasks) id ≡ false
  not-new id there = apart new_id (λ n. has_id task_id n before.0.tasks) id l.new_tasks a.new_away there

  stays : (id : ℕ) → has_task before.0 id ≡ true → has_task after.0 id ≡ not (is_among leaving id)
  stays id there = has-after before.0 after.0 l a id ∙ ap₂ (λ x y. cond (is_among leaving id) false x || y) there (not-new id there) ∙ by (is_among leaving id)
    where
      by : (b : Bool) → (cond b false true || false) ≡ not b
      by true = refl
      by false = refl

  each-was : AllByRecursion (λ (t : Task). has_id task_id t.info.id before.0.tasks ≡ true) before.0.tasks
  each-was = each-there task_id before.0.tasks before.0.tasks (λ id e. e)

  leave : (t : Task) → has_id task_id t.info.id before.0.tasks ≡ true → leaves_by l t ≡ not (has_task after.0 t.info.id)
  leave t there =
      ap (λ b. cond b (is_beside (map new_id l.new_tasks) t) (is_one_of leaving t)) goes_on
      ∙ twice (is_among leaving t.info.id) ∙ ap not (sym (stays t.info.id there))
    where
      twice : (b : Bool) → b ≡ not (not b)
      twice true = refl
      twice false = refl

  stay : (t : Task) → has_id task_id t.info.id before.0.tasks ≡ true → not (is_new task_id after.0.tasks t) ≡ not (is_among leaving t.info.id)
  stay t there = by (task_with t.info.id after.0.tasks) ∙ stays t.info.id there
    where
      by : (o : Option Task) → not (is_none o) ≡ is_some o
      by (Some x) = refl
      by None = refl

  items-beside : filter (λ (t : Task). not (has_task before.0 t.info.id)) a.items ≡ a.items
  items-beside =
      all-pass (λ (t : Task). not (has_task before.0 t.info.id)) a.items
      (each (λ (t : Task). has_id task_id t.info.id a.items ≡ true) (λ (t : Task). not (has_task before.0 t.info.id) ≡ true)
      (λ t e. ap not (fails new_id (λ n. has_id task_id n before.0.tasks) t.info.id l.new_tasks a.new_away (sym (has-items before.0 after.0 l a t.info.id) ∙ e)))
      a.items (each-there task_id a.items a.items (λ id e. e)))

  beside : tasks_beside after.0 before.0 ≡ a.items
  beside =
      ap (filter (λ (t : Task). not (has_task before.0 t.info.id))) a.now
      ∙ filter-append (λ (t : Task). not (has_task before.0 t.info.id)) (map (told_item task_kind l.task_stats) (staying task_id leaving before.0.tasks)) a.items
      ∙ ap₂ (λ xs ys. xs ++ ys) (none-beside l.task_stats before.0 leaving before.0.tasks each-was) items-beside

  came : c.came ≡ map task_id (tasks_beside after.0 before.0)
  came =
      said.came
      ∙ ap (filter (is_away before.0)) (sym (new-ids l.task_stats l.new_tasks a.items a.are))
      ∙ sym (map-filter task_id (is_away before.0) a.items)
      ∙ ap (map task_id) (items-beside ∙ sym beside)

  left : c.left ≡ map (left_as before.1) (tasks_beside before.0 after.0)
  left =
      said.left
      ∙ ap (map (left_as before.1)) (filter-same (leaves_by l) (λ (t : Task). not (has_task after.0 t.info.id)) before.0.tasks
      (each (λ (t : Task). has_id task_id t.info.id before.0.tasks ≡ true) (λ (t : Task). leaves_by l t ≡ not (has_task after.0 t.info.id)) leave before.0.tasks each-was))

  order : map task_info after.0.tasks ≡ map task_info (still_there task_id before.0.tasks after.0.tasks) ++ map task_info (tasks_beside after.0 before.0)
  order =
      ap (map task_info) a.now
      ∙ map-append task_info (map (told_item task_kind l.task_stats) (staying task_id leaving before.0.tasks)) a.items
      ∙ ap₂ (λ xs ys. xs ++ ys)
      (infos-told l.task_stats (staying task_id leaving before.0.tasks)
      ∙ ap (map task_info) (sym (filter-same (λ (t : Task). not (is_new task_id after.0.tasks t)) (λ (t : Task). not (is_among leaving t.info.id)) before.0.tasks
      (each (λ (t : Task). has_id task_id t.info.id before.0.tasks ≡ true) (λ (t : Task). not (is_new task_id after.0.tasks t) ≡ not (is_among leaving t.info.id)) stay before.0.tasks each-was))))
      (ap (map task_info) (sym beside))

  same : (id : ℕ) → is_among c.told id ≡ false → has_task after.0 id ≡ true → IsSame before after id
  same id none there =
      let p = untold-parts id l (sym (said.told id) ∙ none) in
      let task = untold-task before.0 after.0 l a id p.0 in
      let stays_there : is_among leaving id ≡ false = is-there (is_among leaving id) (task_with id before.0.tasks) (ap is_some (sym task) ∙ there) in
      record {
        task = task ∙ ap (λ b. cond b None (task_with id before.0.tasks)) stays_there;
        times = untold-histogram id before.1 after.1 l times p.1 stays_there;
      }

  changes-on : IsChange before after c
  changes-on = record {
    came = came;
    left = left;
    there = all-among (has_task after.0) c.told (λ id e. told-there before.0 after.0 l a id (sym (said.told id) ∙ e));
    once = said.once;
    same = same;
    order = λ on. order;
  }

-- a snapshot, which stands for itself
module _ (before after : Timed) (l : LineView) (c : ChangeView) (said : ChangedBy before.0 before.1 l c) (anew : l.snapshot ≡ true) (a : Applied empty_tables after.0 l) where
  has-now : (id : ℕ) → has_task after.0 id ≡ is_among (map new_id l.new_tasks) id
  has-now id = has-after empty_tables after.0 l a id ∙ by (is_among (gone_of l).tasks id)
    where
      by : (b : Bool) → (cond b false false || is_among (map new_id l.new_tasks) id) ≡ is_among (map new_id l.new_tasks) id
      by true = refl
      by false = refl

  came-anew : c.came ≡ map task_id (tasks_beside after.0 before.0)
  came-anew =
      said.came
      ∙ ap (filter (is_away before.0)) (sym (new-ids l.task_stats l.new_tasks a.items a.are))
      ∙ sym (map-filter task_id (is_away before.0) a.items)
      ∙ ap (λ (ts : List Task). map task_id (filter (λ (t : Task). not (has_task before.0 t.info.id)) ts)) (sym a.now)

  left-anew : c.left ≡ map (left_as before.1) (tasks_beside before.0 after.0)
  left-anew =
      said.left
      ∙ ap (map (left_as before.1)) (filter-same (leaves_by l) (λ (t : Task). not (has_task after.0 t.info.id)) before.0.tasks
      (each (λ (t : Task). has_id task_id t.info.id before.0.tasks ≡ true) (λ (t : Task). leaves_by l t ≡ not (has_task after.0 t.info.id))
      (λ t there. ap (λ b. cond b (is_beside (map new_id l.new_tasks) t) (is_one_of (gone_of l).tasks t)) anew ∙ ap not (sym (has-now t.info.id)))
      before.0.tasks (each-there task_id before.0.tasks before.0.tasks (λ id e. e))))

  changes-anew : IsChange before after c
  changes-anew = record {
    came = came-anew;
    left = left-anew;
    there = all-among (has_task after.0) c.told (λ id e. told-there empty_tables after.0 l a id (sym (said.told id) ∙ e));
    once = said.once;
    same = λ id none there.
        let p = untold-parts id l (sym (said.told id) ∙ none) in
        let task = untold-task empty_tables after.0 l a id p.0 in
        absurd (true≢false (sym there ∙ ap is_some task ∙ nothing (is_among (gone_of l).tasks id)));
    order = λ on. absurd (true≢false (sym anew ∙ sym said.anew ∙ on));
  }
    where
      nothing : (b : Bool) → is_some (cond b None (task_with 0 [])) ≡ false
      nothing true = refl
      nothing false = refl

pub is_change : (before after : Timed) (c : ChangeView) → Noted ChangedBy before after c → IsChange before after c
is_change before after c n = by n.line.snapshot refl
  where
    by : (b : Bool) → n.line.snapshot ≡ b → IsChange before after c
    by true e =
        changes-anew before after n.line c n.said e
        (applied empty_tables after.0 n.line (ap (λ b. line_checked (cond b empty_tables before.0) n.line) (sym e) ∙ n.applied))
    by false e =
        changes-on before after n.line c n.said e
        (applied before.0 after.0 n.line (ap (λ b. line_checked (cond b empty_tables before.0) n.line) (sym e) ∙ n.applied))
        (n.times ∙ ap (λ b. times_after (cond b [] before.1) n.line) e)

-- ---- what a change says of a task that isn't told of

among-filter : (p : ℕ → Bool) (id : ℕ) (ids : List ℕ) → is_among (filter p ids) id ≡ (is_among ids id && p id)
among-filter p id [] = refl
among-filter p id (n ∷ ids) = by (p n) refl (nat_eq id n) refl (among-filter p id ids)
  where
    all : (b : Bool) → b ≡ true → true ≡ (true && b)
    all b e = sym e

    by : (t : Bool) → p n ≡ t → (s : Bool) → nat_eq id n ≡ s → is_among (filter p ids) id ≡ (is_among ids id && p id)
        → is_among (cond t (n ∷ filter p ids) (filter p ids)) id ≡ ((s || is_among ids id) && p id)
    by true passes true same e = ap (λ b. b || is_among (filter p ids) id) same ∙ all (p id) (ap p (eqb-true id n same) ∙ passes)
    by true passes false same e = ap (λ b. b || is_among (filter p ids) id) same ∙ e
    by false fails_it true same e = e ∙ none (is_among ids id) (ap p (eqb-true id n same) ∙ fails_it)
      where
        none : (b : Bool) → p id ≡ false → (b && p id) ≡ p id
        none true h = refl
        none false h = sym h
    by false fails_it false same e = e

left-ids : (times : List TaskTimes) (ts : List Task) → map (λ (l : LeftTask). l.task.info.id) (map (left_as times) ts) ≡ map task_id ts
left-ids times [] = refl
left-ids times (t ∷ ts) = ap (λ ids. t.info.id ∷ ids) (left-ids times ts)

-- it has left where it was there and isn't now
has-left : (before after : Timed) (c : ChangeView) → IsChange before after c → (id : ℕ) → is_among (map left_id c.left) id ≡ (has_task before.0 id && not (has_task after.0 id))
has-left before after c is id =
    ap (λ (ls : List LeftTask). is_among (map left_id ls) id) is.left
    ∙ ap (λ ids. is_among ids id) (left-ids before.1 (tasks_beside before.0 after.0) ∙ map-filter task_id (λ n. not (has_task after.0 n)) before.0.tasks)
    ∙ among-filter (λ n. not (has_task after.0 n)) id (map task_id before.0.tasks)
    ∙ ap (λ b. b && not (has_task after.0 id)) (any-has task_id id before.0.tasks)

pub says_all : (before after : Timed) (c : ChangeView) (id : ℕ) → IsChange before after c → is_among c.told id ≡ false
    → task_with id after.0.tasks ≡ cond (is_among (map left_id c.left) id) None (task_with id before.0.tasks)
says_all before after c id is none = by (has_task after.0 id) refl ∙ ap (λ b. cond b None (task_with id before.0.tasks)) (sym (has-left before after c is id))
  where
    never : (b : Bool) → (b && false) ≡ false
    never true = refl
    never false = refl

    nothing : (o : Option Task) → is_some o ≡ false → o ≡ None
    nothing (Some t) e = absurd (true≢false e)
    nothing None e = refl

    gone : (o : Option Task) → None ≡ cond (is_some o && true) None o
    gone (Some t) = refl
    gone None = refl

    by : (b : Bool) → has_task after.0 id ≡ b → task_with id after.0.tasks ≡ cond (has_task before.0 id && not (has_task after.0 id)) None (task_with id before.0.tasks)
    by true e =
        let same = is.same id none e in
        same.task
        ∙ ap (λ b. cond b None (task_with id before.0.tasks)) (sym (ap (λ b. has_task before.0 id && not b) e ∙ never (has_task before.0 id)))
    by false e =
        nothing (task_with id after.0.tasks) e ∙ gone (task_with id before.0.tasks)
        ∙ ap (λ b. cond (has_task before.0 id && not b) None (task_with id before.0.tasks)) (sym e)
