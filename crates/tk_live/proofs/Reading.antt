-- Readings of items beside their hands: what they leave of the items and of the aggregator.
use Rattle.std.proofs.Common.{◌≡◌, ℕ, ◌+◌, ◌<◌, List, [], ◌∷◌, length, Option, Some, refl, sym, ap, ◌∙◌, subst, arith}
use Rattle.std.specs.Prelude.{map, nat_eq, slice_get, slice_set}
use Rattle.std.specs.List.{AllByRecursion, IsDistinct}
use Rattle.atomic_table.specs.Seated.{TableId}
use Rattle.tk_ids.specs.Ids.{id_of}
use Rattle.tk_ids.specs.declared.info.OpInfo.{OpInfo}
use Rattle.tk_ids.specs.declared.info.ResourceInfo.{ResourceInfo}
use Rattle.tk_ids.specs.declared.info.TaskInfo.{TaskInfo}
use Rattle.tk_core.specs.OpMeaning.{op_meaning}
use Rattle.tk_core.specs.ResourceMeaning.{resource_meaning}
use Rattle.tk_core.specs.TaskMeaning.{task_meaning}
use Rattle.tk_ledgers.specs.Callers.{IsLive}
use Rattle.tk_ledgers.specs.Ops.{OpSight}
use Rattle.tk_ledgers.specs.Resources.{ResourceSight}
use Rattle.tk_ledgers.specs.Tasks.{TaskSight}
use Rattle.tk_stream.specs.Fronts.{task_at, resource_at, op_at}
use Rattle.tk_stream.specs.Lines.{task_info, resource_info, op_info}
use Rattle.tk_stream.specs.Places.{place_with}
use Rattle.tk_stream.specs.Tables.{changed_at, task_id, resource_id, op_id}
use Rattle.tk_stream.specs.declared.tables.op.Op.{Op}
use Rattle.tk_stream.specs.declared.tables.resource.Resource.{Resource}
use Rattle.tk_stream.specs.declared.tables.task.Task.{Task}
use Rattle.tk_aggregator.specs.Aggregates.{Aggregating, IsSound, ReadTask, ReadResource, ReadOp}
use Rattle.tk_aggregator.specs.Beside.{AreOf, StaysHand, ReadsTaskBeside, ReadsResourceBeside, ReadsOpBeside}
use Rattle.tk_live.specs.Items.{EachFrom, IsTask, IsResource, IsOp, KeepsValues, IsSameTask, IsSameResource, IsSameOp, times_ledger_of}
use Rattle.tk_live.specs.Named.{made_item}
use Rattle.tk_live.specs.Pasts.{TaskPast, ResourcePast, OpPast, IsTaskRow, IsResourceRow, IsOpRow}
use Rattle.tk_live.specs.Read.{AreReadTo, AreTasksRead, AreResourcesRead, AreOpsRead, HasNumber, IsRead}
use Rattle.tk_live.specs.Runs.{IsTaskLedger, IsResourceLedger, IsOpLedger}
use Rattle.tk_live.specs.declared.items.OpItem.{OpItem}
use Rattle.tk_live.specs.declared.items.ResourceItem.{ResourceItem}
use Rattle.tk_live.specs.declared.items.TaskItem.{TaskItem}
use Rattle.tk_live.proofs.Places.{at_place, each_made, length-set}
use Rattle.tk_live.proofs.Rows.{all_so, all_put, all_themselves, changed_too, each_goes_on, has_number, its_item, its_ledger, its_place, map_changed, of_items, row_read, same_length, same_more, still_of}

-- ---- tasks

pub task_itself : (x : TaskItem) → IsSameTask x x
task_itself x = record { id = refl; ledger = refl; times = refl; live = λ k live. live }

pub task_then : (x y z : TaskItem) → IsSameTask x y → IsSameTask y z → IsSameTask x z
task_then x y z p q = record { id = q.id ∙ p.id; ledger = q.ledger ∙ p.ledger; times = q.times ∙ p.times; live = λ k live. q.live k (p.live k live) }

task_ids : (ts : List Task) → map (λ (i : TaskInfo). i.id) (map task_info ts) ≡ map task_id ts
task_ids [] = refl
task_ids (t ∷ ts) = ap (λ ids. t.info.id ∷ ids) (task_ids ts)

-- the same infos, the same ids
pub same_task_ids : (ts us : List Task) → map task_info us ≡ map task_info ts → map task_id us ≡ map task_id ts
same_task_ids ts us same = sym (task_ids us) ∙ (ap (map (λ (i : TaskInfo). i.id)) same ∙ task_ids ts)

-- none is read yet
pub no_task_read : (a : Aggregating) (xs : List TaskItem) → AllByRecursion (λ (s : TaskSight). IsTaskLedger xs s.id s.token.ledger) a.tasks → AreTasksRead 0 a xs a xs
no_task_read a xs readers = record {
  same = all_themselves IsSameTask task_itself xs;
  many = refl;
  hands = λ ps each. each;
  rows = λ ps each. tt;
  infos = refl;
  readers = readers;
  rest = refl;
}

-- the aggregator's next one has a number, and there is an item of it
module _ (i : ℕ) (first a : Aggregating) (xs ys : List TaskItem) (read : AreTasksRead i first xs a ys) (sound : IsSound a) where
  tasks_numbered : AllByRecursion (λ (t : Task). (n : ℕ) × (x : TaskItem) × (task_id t ≡ id_of 1 n) × (made_item n ys ≡ Some x)) a.tables.tasks
  tasks_numbered = of_items task_id (λ (s : TaskSight). s.id) (λ (s : TaskSight). s.token.ledger) (λ (x : TaskItem). x.callers.token.ledger) ReadTask (λ t s p. p.0) ys a.tables.tasks a.tasks sound.tasks read.readers

  pub next_task : i < length first.tables.tasks → (place : ℕ) × HasNumber task_id a.tables.tasks i (place + 1)
  next_task lt = has_number task_id ys a.tables.tasks tasks_numbered i (omega (arith, lt, same_length task_info a.tables.tasks first.tables.tasks read.infos))

  pub task_there : (k : ℕ) → HasNumber task_id a.tables.tasks i (k + 1) → (x : TaskItem) × (slice_get ys k ≡ Some x)
  task_there k next = its_item task_id ys a.tables.tasks tasks_numbered i k next

-- the item at a place is of the number after it, and its readers are of its ledger
module _ (i : ℕ) (first a : Aggregating) (xs ys : List TaskItem) (read : AreTasksRead i first xs a ys) (k : ℕ) (x : TaskItem) (at : slice_get ys k ≡ Some x) where
  task_past : (ps : List TaskPast) → EachFrom IsTask 1 ps xs → (p : TaskPast) × (made_item (k + 1) ps ≡ Some p) × IsTask (k + 1) p x
  task_past ps each = each_made IsTask ps ys (k + 1) x (read.hands ps each) (at_place (k + 1) k ys refl ∙ at)

  task_number : (ps : List TaskPast) → EachFrom IsTask 1 ps xs → x.callers.id ≡ id_of 1 (k + 1)
  task_number ps each = let it = task_past ps each in it.2.id

  pub task_may_read : (ps : List TaskPast) → EachFrom IsTask 1 ps xs → AreOf task_meaning x.callers a.tasks
  task_may_read ps each =
      all_so (λ (s : TaskSight). IsTaskLedger ys s.id s.token.ledger) (λ (s : TaskSight). s.id ≡ x.callers.id → s.token.ledger ≡ x.callers.token.ledger) (λ s is same.
      its_ledger (λ (y : TaskItem). y.callers.token.ledger) ys k x s.id s.token.ledger at (same ∙ task_number ps each) is) a.tasks read.readers

  -- it was read, since the aggregator's next one is of its number
  module _ (b : Aggregating) (y : TaskItem) (is : y ≡ record x { callers = y.callers }) (hand : StaysHand task_meaning x.callers y.callers) (reads : ReadsTaskBeside x.callers a b (place_with task_id x.callers.id a.tables.tasks))
      (past : List TaskPast) (each_is : EachFrom IsTask 1 past xs) (next : HasNumber task_id a.tables.tasks i (k + 1)) (distinct : IsDistinct nat_eq (map task_id a.tables.tasks)) where
    task_goes_on : (n : ℕ) (p : TaskPast) → IsTask n p x → IsTask n p y
    task_goes_on n p it = record {
      id = hand.id ∙ it.id;
      calls = it.calls;
      order = it.order;
      called = hand.called p.opening it.calls it.called;
      polled = it.polled;
      closed = it.closed;
      is_closed = ap (λ (z : TaskItem). z.closed) is ∙ it.is_closed;
      times = λ o at. it.times o (sym (ap (λ (z : TaskItem). z.times) is) ∙ at);
      started = λ polls. it.started polls ∙ ap (λ (z : TaskItem). Some z.started) (sym is);
    }

    is_same_task : IsSameTask x y
    is_same_task = record { id = hand.id; ledger = hand.ledger; times = ap times_ledger_of is; live = hand.live }

    read_task : ReadsTaskBeside x.callers a b (Some i)
    read_task = subst (λ (o : Option ℕ). ReadsTaskBeside x.callers a b o) (its_place task_id x.callers.id a.tables.tasks i next.0 next.1 (next.2 ∙ sym (task_number past each_is)) distinct) reads

    task_rows : (ps : List TaskPast) → EachFrom IsTask 1 ps xs → AreReadTo task_id (λ p t. IsTaskRow p t.row) (i + 1) ps b.tables.tasks
    task_rows ps each =
        let it = task_past ps each in
        let r = read_task in
        let row : IsRead task_id (λ p t. IsTaskRow p t.row) ps (task_at next.0 r.0) = row_read task_id (λ p t. IsTaskRow p t.row) (k + 1) ps it.0 (task_at next.0 r.0) next.2 it.1 (it.2.calls, it.2.order, r.2 it.0.opening it.2.calls it.2.called) in
        subst (λ (c : Aggregating). AreReadTo task_id (λ p t. IsTaskRow p t.row) (i + 1) ps c.tables.tasks) (sym r.3)
        (changed_too (IsRead task_id (λ p t. IsTaskRow p t.row) ps) (λ t. task_at t r.0) a.tables.tasks i next.0 next.1 row (read.rows ps each))

    task_infos : map task_info b.tables.tasks ≡ map task_info a.tables.tasks
    task_infos = let r = read_task in ap (λ (c : Aggregating). map task_info c.tables.tasks) r.3 ∙ map_changed task_info (λ t. task_at t r.0) (λ t. refl) a.tables.tasks i

    task_readers : (P : ℕ → TableId → Type 0) → AllByRecursion (λ (s : TaskSight). P s.id s.token.ledger) a.tasks → AllByRecursion (λ (s : TaskSight). P s.id s.token.ledger) b.tasks
    task_readers P all =
        let at = read_task.1 in
        subst (λ (ss : List TaskSight). AllByRecursion (λ (s : TaskSight). P s.id s.token.ledger) ss) (sym at.4)
        (all_put (λ (s : TaskSight). P s.id s.token.ledger) a.tasks i at.0 at.1 at.2 (λ p. subst (λ (ledger : TableId). P at.1.id ledger) (sym at.3.ledger) (subst (λ (id : ℕ). P id at.0.token.ledger) (sym at.3.id) p)) all)

    task_rest : b ≡ record first { tables = record first.tables { tasks = b.tables.tasks }; tasks = b.tasks }
    task_rest =
        let r = read_task in
        let now : List Task = changed_at (λ t. task_at t r.0) a.tables.tasks i in
        let is_now : b.tables.tasks ≡ now = ap (λ (c : Aggregating). c.tables.tasks) r.3 in
        r.3 ∙ (ap (λ (c : Aggregating). record c { tables = record c.tables { tasks = now }; tasks = b.tasks }) read.rest
        ∙ ap (λ (ts : List Task). record first { tables = record first.tables { tasks = ts }; tasks = b.tasks }) (sym is_now))

    pub one_task_more : (zs : List TaskItem) → zs ≡ slice_set ys k y → AreTasksRead (i + 1) first xs b zs
    one_task_more zs set = subst (λ (zs : List TaskItem). AreTasksRead (i + 1) first xs b zs) (sym set) (record {
      same = same_more IsSameTask task_itself task_then xs ys k x y read.same at is_same_task;
      many = length-set ys k y ∙ read.many;
      hands = λ ps each. each_goes_on IsTask 1 ps ys k x y at (λ p it. task_goes_on (1 + k) p it) (read.hands ps each);
      rows = task_rows;
      infos = task_infos ∙ read.infos;
      readers = task_readers (IsTaskLedger (slice_set ys k y)) (all_so (λ (s : TaskSight). IsTaskLedger ys s.id s.token.ledger) (λ (s : TaskSight). IsTaskLedger (slice_set ys k y) s.id s.token.ledger) (λ s is.
          still_of (λ (z : TaskItem). z.callers.token.ledger) IsSameTask (λ z w same. same.ledger) ys (slice_set ys k y) (same_more IsSameTask task_itself task_then ys ys k x y (all_themselves IsSameTask task_itself ys) at is_same_task) s.id s.token.ledger is) a.tasks read.readers);
      rest = task_rest;
    })

-- ---- resources

resource_itself : (x : ResourceItem) → IsSameResource x x
resource_itself x = record { id = refl; ledger = refl }

resource_then : (x y z : ResourceItem) → IsSameResource x y → IsSameResource y z → IsSameResource x z
resource_then x y z p q = record { id = q.id ∙ p.id; ledger = q.ledger ∙ p.ledger }

resource_ids : (ts : List Resource) → map (λ (i : ResourceInfo). i.id) (map resource_info ts) ≡ map resource_id ts
resource_ids [] = refl
resource_ids (t ∷ ts) = ap (λ ids. t.info.id ∷ ids) (resource_ids ts)

-- the same infos, the same ids
pub same_resource_ids : (ts us : List Resource) → map resource_info us ≡ map resource_info ts → map resource_id us ≡ map resource_id ts
same_resource_ids ts us same = sym (resource_ids us) ∙ (ap (map (λ (i : ResourceInfo). i.id)) same ∙ resource_ids ts)

-- none is read yet
pub no_resource_read : (a : Aggregating) (xs : List ResourceItem) → AllByRecursion (λ (s : ResourceSight). IsResourceLedger xs s.id s.token.ledger) a.resources → AreResourcesRead 0 a xs a xs
no_resource_read a xs readers = record {
  same = all_themselves IsSameResource resource_itself xs;
  many = refl;
  hands = λ ps each. each;
  rows = λ ps each. tt;
  infos = refl;
  readers = readers;
  rest = refl;
}

-- the aggregator's next one has a number, and there is an item of it
module _ (i : ℕ) (first a : Aggregating) (xs ys : List ResourceItem) (read : AreResourcesRead i first xs a ys) (sound : IsSound a) where
  resources_numbered : AllByRecursion (λ (t : Resource). (n : ℕ) × (x : ResourceItem) × (resource_id t ≡ id_of 1 n) × (made_item n ys ≡ Some x)) a.tables.resources
  resources_numbered = of_items resource_id (λ (s : ResourceSight). s.id) (λ (s : ResourceSight). s.token.ledger) (λ (x : ResourceItem). x.callers.token.ledger) ReadResource (λ t s p. p.0) ys a.tables.resources a.resources sound.resources read.readers

  pub next_resource : i < length first.tables.resources → (place : ℕ) × HasNumber resource_id a.tables.resources i (place + 1)
  next_resource lt = has_number resource_id ys a.tables.resources resources_numbered i (omega (arith, lt, same_length resource_info a.tables.resources first.tables.resources read.infos))

  pub resource_there : (k : ℕ) → HasNumber resource_id a.tables.resources i (k + 1) → (x : ResourceItem) × (slice_get ys k ≡ Some x)
  resource_there k next = its_item resource_id ys a.tables.resources resources_numbered i k next

-- the item at a place is of the number after it, and its readers are of its ledger
module _ (i : ℕ) (first a : Aggregating) (xs ys : List ResourceItem) (read : AreResourcesRead i first xs a ys) (k : ℕ) (x : ResourceItem) (at : slice_get ys k ≡ Some x) where
  resource_past : (ps : List ResourcePast) → EachFrom IsResource 1 ps xs → (p : ResourcePast) × (made_item (k + 1) ps ≡ Some p) × IsResource (k + 1) p x
  resource_past ps each = each_made IsResource ps ys (k + 1) x (read.hands ps each) (at_place (k + 1) k ys refl ∙ at)

  resource_number : (ps : List ResourcePast) → EachFrom IsResource 1 ps xs → x.callers.id ≡ id_of 1 (k + 1)
  resource_number ps each = let it = resource_past ps each in it.2.id

  pub resource_may_read : (ps : List ResourcePast) → EachFrom IsResource 1 ps xs → AreOf resource_meaning x.callers a.resources
  resource_may_read ps each =
      all_so (λ (s : ResourceSight). IsResourceLedger ys s.id s.token.ledger) (λ (s : ResourceSight). s.id ≡ x.callers.id → s.token.ledger ≡ x.callers.token.ledger) (λ s is same.
      its_ledger (λ (y : ResourceItem). y.callers.token.ledger) ys k x s.id s.token.ledger at (same ∙ resource_number ps each) is) a.resources read.readers

  -- it was read, since the aggregator's next one is of its number
  module _ (b : Aggregating) (y : ResourceItem) (is : y ≡ record x { callers = y.callers }) (hand : StaysHand resource_meaning x.callers y.callers) (reads : ReadsResourceBeside x.callers a b (place_with resource_id x.callers.id a.tables.resources))
      (past : List ResourcePast) (each_is : EachFrom IsResource 1 past xs) (next : HasNumber resource_id a.tables.resources i (k + 1)) (distinct : IsDistinct nat_eq (map resource_id a.tables.resources)) where
    resource_goes_on : (n : ℕ) (p : ResourcePast) → IsResource n p x → IsResource n p y
    resource_goes_on n p it = record {
      id = hand.id ∙ it.id;
      called = hand.called p.opening p.called it.called;
      is_closed = ap (λ (z : ResourceItem). z.closed) is ∙ it.is_closed;
      values = subst (λ (z : ResourceItem). KeepsValues p z.values) (sym is) it.values;
      user = subst (λ (n : ℕ). IsLive resource_meaning y.callers.token.view n) (sym (ap (λ (z : ResourceItem). z.user) is)) (hand.live x.user it.user);
    }

    is_same_resource : IsSameResource x y
    is_same_resource = record { id = hand.id; ledger = hand.ledger }

    read_resource : ReadsResourceBeside x.callers a b (Some i)
    read_resource = subst (λ (o : Option ℕ). ReadsResourceBeside x.callers a b o) (its_place resource_id x.callers.id a.tables.resources i next.0 next.1 (next.2 ∙ sym (resource_number past each_is)) distinct) reads

    resource_rows : (ps : List ResourcePast) → EachFrom IsResource 1 ps xs → AreReadTo resource_id (λ p t. IsResourceRow p t.row) (i + 1) ps b.tables.resources
    resource_rows ps each =
        let it = resource_past ps each in
        let r = read_resource in
        let row : IsRead resource_id (λ p t. IsResourceRow p t.row) ps (resource_at next.0 r.0) = row_read resource_id (λ p t. IsResourceRow p t.row) (k + 1) ps it.0 (resource_at next.0 r.0) next.2 it.1 (r.2 it.0.opening it.0.called it.2.called) in
        subst (λ (c : Aggregating). AreReadTo resource_id (λ p t. IsResourceRow p t.row) (i + 1) ps c.tables.resources) (sym r.3)
        (changed_too (IsRead resource_id (λ p t. IsResourceRow p t.row) ps) (λ t. resource_at t r.0) a.tables.resources i next.0 next.1 row (read.rows ps each))

    resource_infos : map resource_info b.tables.resources ≡ map resource_info a.tables.resources
    resource_infos = let r = read_resource in ap (λ (c : Aggregating). map resource_info c.tables.resources) r.3 ∙ map_changed resource_info (λ t. resource_at t r.0) (λ t. refl) a.tables.resources i

    resource_readers : (P : ℕ → TableId → Type 0) → AllByRecursion (λ (s : ResourceSight). P s.id s.token.ledger) a.resources → AllByRecursion (λ (s : ResourceSight). P s.id s.token.ledger) b.resources
    resource_readers P all =
        let at = read_resource.1 in
        subst (λ (ss : List ResourceSight). AllByRecursion (λ (s : ResourceSight). P s.id s.token.ledger) ss) (sym at.4)
        (all_put (λ (s : ResourceSight). P s.id s.token.ledger) a.resources i at.0 at.1 at.2 (λ p. subst (λ (ledger : TableId). P at.1.id ledger) (sym at.3.ledger) (subst (λ (id : ℕ). P id at.0.token.ledger) (sym at.3.id) p)) all)

    resource_rest : b ≡ record first { tables = record first.tables { resources = b.tables.resources }; resources = b.resources }
    resource_rest =
        let r = read_resource in
        let now : List Resource = changed_at (λ t. resource_at t r.0) a.tables.resources i in
        let is_now : b.tables.resources ≡ now = ap (λ (c : Aggregating). c.tables.resources) r.3 in
        r.3 ∙ (ap (λ (c : Aggregating). record c { tables = record c.tables { resources = now }; resources = b.resources }) read.rest
        ∙ ap (λ (ts : List Resource). record first { tables = record first.tables { resources = ts }; resources = b.resources }) (sym is_now))

    pub one_resource_more : (zs : List ResourceItem) → zs ≡ slice_set ys k y → AreResourcesRead (i + 1) first xs b zs
    one_resource_more zs set = subst (λ (zs : List ResourceItem). AreResourcesRead (i + 1) first xs b zs) (sym set) (record {
      same = same_more IsSameResource resource_itself resource_then xs ys k x y read.same at is_same_resource;
      many = length-set ys k y ∙ read.many;
      hands = λ ps each. each_goes_on IsResource 1 ps ys k x y at (λ p it. resource_goes_on (1 + k) p it) (read.hands ps each);
      rows = resource_rows;
      infos = resource_infos ∙ read.infos;
      readers = resource_readers (IsResourceLedger (slice_set ys k y)) (all_so (λ (s : ResourceSight). IsResourceLedger ys s.id s.token.ledger) (λ (s : ResourceSight). IsResourceLedger (slice_set ys k y) s.id s.token.ledger) (λ s is.
          still_of (λ (z : ResourceItem). z.callers.token.ledger) IsSameResource (λ z w same. same.ledger) ys (slice_set ys k y) (same_more IsSameResource resource_itself resource_then ys ys k x y (all_themselves IsSameResource resource_itself ys) at is_same_resource) s.id s.token.ledger is) a.resources read.readers);
      rest = resource_rest;
    })

-- ---- async operations

op_itself : (x : OpItem) → IsSameOp x x
op_itself x = record { id = refl; ledger = refl }

op_then : (x y z : OpItem) → IsSameOp x y → IsSameOp y z → IsSameOp x z
op_then x y z p q = record { id = q.id ∙ p.id; ledger = q.ledger ∙ p.ledger }

op_ids : (ts : List Op) → map (λ (i : OpInfo). i.id) (map op_info ts) ≡ map op_id ts
op_ids [] = refl
op_ids (t ∷ ts) = ap (λ ids. t.info.id ∷ ids) (op_ids ts)

-- the same infos, the same ids
pub same_op_ids : (ts us : List Op) → map op_info us ≡ map op_info ts → map op_id us ≡ map op_id ts
same_op_ids ts us same = sym (op_ids us) ∙ (ap (map (λ (i : OpInfo). i.id)) same ∙ op_ids ts)

-- none is read yet
pub no_op_read : (a : Aggregating) (xs : List OpItem) → AllByRecursion (λ (s : OpSight). IsOpLedger xs s.id s.token.ledger) a.ops → AreOpsRead 0 a xs a xs
no_op_read a xs readers = record {
  same = all_themselves IsSameOp op_itself xs;
  many = refl;
  hands = λ ps each. each;
  rows = λ ps each. tt;
  infos = refl;
  readers = readers;
  rest = refl;
}

-- the aggregator's next one has a number, and there is an item of it
module _ (i : ℕ) (first a : Aggregating) (xs ys : List OpItem) (read : AreOpsRead i first xs a ys) (sound : IsSound a) where
  ops_numbered : AllByRecursion (λ (t : Op). (n : ℕ) × (x : OpItem) × (op_id t ≡ id_of 1 n) × (made_item n ys ≡ Some x)) a.tables.ops
  ops_numbered = of_items op_id (λ (s : OpSight). s.id) (λ (s : OpSight). s.token.ledger) (λ (x : OpItem). x.callers.token.ledger) ReadOp (λ t s p. p.0) ys a.tables.ops a.ops sound.ops read.readers

  pub next_op : i < length first.tables.ops → (place : ℕ) × HasNumber op_id a.tables.ops i (place + 1)
  next_op lt = has_number op_id ys a.tables.ops ops_numbered i (omega (arith, lt, same_length op_info a.tables.ops first.tables.ops read.infos))

  pub op_there : (k : ℕ) → HasNumber op_id a.tables.ops i (k + 1) → (x : OpItem) × (slice_get ys k ≡ Some x)
  op_there k next = its_item op_id ys a.tables.ops ops_numbered i k next

-- the item at a place is of the number after it, and its readers are of its ledger
module _ (i : ℕ) (first a : Aggregating) (xs ys : List OpItem) (read : AreOpsRead i first xs a ys) (k : ℕ) (x : OpItem) (at : slice_get ys k ≡ Some x) where
  op_past : (ps : List OpPast) → EachFrom IsOp 1 ps xs → (p : OpPast) × (made_item (k + 1) ps ≡ Some p) × IsOp (k + 1) p x
  op_past ps each = each_made IsOp ps ys (k + 1) x (read.hands ps each) (at_place (k + 1) k ys refl ∙ at)

  op_number : (ps : List OpPast) → EachFrom IsOp 1 ps xs → x.callers.id ≡ id_of 1 (k + 1)
  op_number ps each = let it = op_past ps each in it.2.id

  pub op_may_read : (ps : List OpPast) → EachFrom IsOp 1 ps xs → AreOf op_meaning x.callers a.ops
  op_may_read ps each =
      all_so (λ (s : OpSight). IsOpLedger ys s.id s.token.ledger) (λ (s : OpSight). s.id ≡ x.callers.id → s.token.ledger ≡ x.callers.token.ledger) (λ s is same.
      its_ledger (λ (y : OpItem). y.callers.token.ledger) ys k x s.id s.token.ledger at (same ∙ op_number ps each) is) a.ops read.readers

  -- it was read, since the aggregator's next one is of its number
  module _ (b : Aggregating) (y : OpItem) (is : y ≡ record x { callers = y.callers }) (hand : StaysHand op_meaning x.callers y.callers) (reads : ReadsOpBeside x.callers a b (place_with op_id x.callers.id a.tables.ops))
      (past : List OpPast) (each_is : EachFrom IsOp 1 past xs) (next : HasNumber op_id a.tables.ops i (k + 1)) (distinct : IsDistinct nat_eq (map op_id a.tables.ops)) where
    op_goes_on : (n : ℕ) (p : OpPast) → IsOp n p x → IsOp n p y
    op_goes_on n p it = record {
      id = hand.id ∙ it.id;
      called = hand.called p.opening p.called it.called;
      is_closed = ap (λ (z : OpItem). z.closed) is ∙ it.is_closed;
    }

    is_same_op : IsSameOp x y
    is_same_op = record { id = hand.id; ledger = hand.ledger }

    read_op : ReadsOpBeside x.callers a b (Some i)
    read_op = subst (λ (o : Option ℕ). ReadsOpBeside x.callers a b o) (its_place op_id x.callers.id a.tables.ops i next.0 next.1 (next.2 ∙ sym (op_number past each_is)) distinct) reads

    op_rows : (ps : List OpPast) → EachFrom IsOp 1 ps xs → AreReadTo op_id (λ p t. IsOpRow p t.row) (i + 1) ps b.tables.ops
    op_rows ps each =
        let it = op_past ps each in
        let r = read_op in
        let row : IsRead op_id (λ p t. IsOpRow p t.row) ps (op_at next.0 r.0) = row_read op_id (λ p t. IsOpRow p t.row) (k + 1) ps it.0 (op_at next.0 r.0) next.2 it.1 (r.2 it.0.opening it.0.called it.2.called) in
        subst (λ (c : Aggregating). AreReadTo op_id (λ p t. IsOpRow p t.row) (i + 1) ps c.tables.ops) (sym r.3)
        (changed_too (IsRead op_id (λ p t. IsOpRow p t.row) ps) (λ t. op_at t r.0) a.tables.ops i next.0 next.1 row (read.rows ps each))

    op_infos : map op_info b.tables.ops ≡ map op_info a.tables.ops
    op_infos = let r = read_op in ap (λ (c : Aggregating). map op_info c.tables.ops) r.3 ∙ map_changed op_info (λ t. op_at t r.0) (λ t. refl) a.tables.ops i

    op_readers : (P : ℕ → TableId → Type 0) → AllByRecursion (λ (s : OpSight). P s.id s.token.ledger) a.ops → AllByRecursion (λ (s : OpSight). P s.id s.token.ledger) b.ops
    op_readers P all =
        let at = read_op.1 in
        subst (λ (ss : List OpSight). AllByRecursion (λ (s : OpSight). P s.id s.token.ledger) ss) (sym at.4)
        (all_put (λ (s : OpSight). P s.id s.token.ledger) a.ops i at.0 at.1 at.2 (λ p. subst (λ (ledger : TableId). P at.1.id ledger) (sym at.3.ledger) (subst (λ (id : ℕ). P id at.0.token.ledger) (sym at.3.id) p)) all)

    op_rest : b ≡ record first { tables = record first.tables { ops = b.tables.ops }; ops = b.ops }
    op_rest =
        let r = read_op in
        let now : List Op = changed_at (λ t. op_at t r.0) a.tables.ops i in
        let is_now : b.tables.ops ≡ now = ap (λ (c : Aggregating). c.tables.ops) r.3 in
        r.3 ∙ (ap (λ (c : Aggregating). record c { tables = record c.tables { ops = now }; ops = b.ops }) read.rest
        ∙ ap (λ (ts : List Op). record first { tables = record first.tables { ops = ts }; ops = b.ops }) (sym is_now))

    pub one_op_more : (zs : List OpItem) → zs ≡ slice_set ys k y → AreOpsRead (i + 1) first xs b zs
    one_op_more zs set = subst (λ (zs : List OpItem). AreOpsRead (i + 1) first xs b zs) (sym set) (record {
      same = same_more IsSameOp op_itself op_then xs ys k x y read.same at is_same_op;
      many = length-set ys k y ∙ read.many;
      hands = λ ps each. each_goes_on IsOp 1 ps ys k x y at (λ p it. op_goes_on (1 + k) p it) (read.hands ps each);
      rows = op_rows;
      infos = op_infos ∙ read.infos;
      readers = op_readers (IsOpLedger (slice_set ys k y)) (all_so (λ (s : OpSight). IsOpLedger ys s.id s.token.ledger) (λ (s : OpSight). IsOpLedger (slice_set ys k y) s.id s.token.ledger) (λ s is.
          still_of (λ (z : OpItem). z.callers.token.ledger) IsSameOp (λ z w same. same.ledger) ys (slice_set ys k y) (same_more IsSameOp op_itself op_then ys ys k x y (all_themselves IsSameOp op_itself ys) at is_same_op) s.id s.token.ledger is) a.ops read.readers);
      rest = op_rest;
    })
