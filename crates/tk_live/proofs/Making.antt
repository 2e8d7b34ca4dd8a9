-- What an interpreter stands for after the offer of a new item.
use Rattle.std.proofs.Common.{◌≡◌, ℕ, ◌+◌, ◌<◌, ◌≤◌, ◌⊎◌, true, false, inr, List, [], ◌∷◌, ◌++◌, Bool, length, Some, None, Option, refl, sym, ap, ◌∙◌, subst, arith, length-append}
use Rattle.std.specs.Prelude.{IsSome, is_some, option_map}
use Rattle.std.specs.List.{filter_map}
use Rattle.std.specs.Global.{Vec}
use Rattle.tk_ids.specs.Ids.{id_of}
use Rattle.tk_ids.specs.declared.attr.AttrSpec.{AttrSpec}
use Rattle.tk_ids.specs.declared.spec.OpSpec.{OpSpec}
use Rattle.tk_ids.specs.declared.spec.ResourceSpec.{ResourceSpec}
use Rattle.tk_ids.specs.declared.spec.TaskKind.{TaskKind}
use Rattle.tk_ids.specs.declared.spec.TaskSpec.{TaskSpec}
use Rattle.tk_core.specs.declared.history.Entry.{Entry}
use Rattle.tk_core.specs.declared.op.call.OpCall.TheVariants as op_calls
use Rattle.tk_core.specs.declared.reply.Reply.{Reply}
use Rattle.tk_core.specs.declared.reply.Reply.TheVariants.{Number}
use Rattle.tk_core.specs.declared.resource.call.ResourceCall.TheVariants as resource_calls
use Rattle.tk_core.specs.declared.task.call.TaskCall.TheVariants.{Enlist}
use Rattle.tk_core.specs.declared.times.call.TimesCall.TheVariants as times_calls
use Rattle.tk_core.specs.Fold.{is_accepted}
use Rattle.tk_core.specs.History.{accepted}
use Rattle.tk_core.specs.Legal.{own}
use Rattle.tk_core.specs.Times.{opening_row, time_of}
use Rattle.tk_core.specs.Lists.{last_of}
use Rattle.tk_core.specs.Meaning.{Meaning}
use Rattle.tk_core.specs.Op as op_rules
use Rattle.tk_core.specs.OpMeaning.{op_meaning}
use Rattle.tk_core.specs.Resource as resource_rules
use Rattle.tk_core.specs.ResourceMeaning.{resource_meaning}
use Rattle.tk_core.specs.TaskMeaning.{task_meaning}
use Rattle.tk_cell.specs.Calls.{entry}
use Rattle.tk_cell.specs.Views.{times}
use Rattle.tk_events.specs.declared.event.Shown.TheVariants.{MadeTask, MadeResource, MadeOp, Polled}
use Rattle.tk_events.specs.declared.event.PollOp.{PollOp}
use Rattle.tk_events.specs.declared.recorder.Recorded.{Recorded}
use Rattle.tk_events.specs.declared.recorder.Recorded.TheVariants.{Kept, DroppedFull}
use Rattle.tk_events.specs.Handles.{Recording, IsSameRecorder, next_offer, offers_made, next_task_id, next_resource_id, next_op_id, with_kept, with_refused}
use Rattle.tk_events.specs.Items as events
use Rattle.tk_events.specs.Items.{first_values, opening_as, HasTimesAs}
use Rattle.tk_events.specs.Offers.{tasks_in, resources_in, ops_in, times_ledger}
use Rattle.tk_ledgers.specs.Called.{HasCalled}
use Rattle.tk_ledgers.specs.Callers.{HoldsAllBut, IsLive}
use Rattle.tk_ledgers.specs.Handles.{KnownTimes}
use Rattle.tk_ledgers.specs.Ops.{OpSight}
use Rattle.tk_ledgers.specs.Resources.{ResourceSight}
use Rattle.tk_ledgers.specs.Tasks.{TaskSight}
use Rattle.tk_ledgers.specs.Times.{IsOfTask, TimesSight, added_times, known_times}
use Rattle.tk_ledgers.proofs.TimedLemmas.{runs_silent}
use Rattle.tk_stream.specs.Streams.{Sending}
use Rattle.tk_aggregator.specs.Contents.{Content, made_task, made_resource, made_op, polled}
use Rattle.tk_live.specs.Course.{Course, place, step, script_task_info, script_resource_info, script_op_info}
use Rattle.tk_live.specs.Items.{IsTask, IsResource, IsOp, AreWakers, Holds, HoldsTasks, times_ledger_of}
use Rattle.tk_live.specs.Named.{made_item}
use Rattle.tk_live.specs.Pasts.{Pasts, new_task, new_resource, new_op}
use Rattle.tk_live.specs.Runs.{Represents, numbers_of, Offered}
use Rattle.tk_live.specs.declared.interpreter.Interpreter.{Interpreter}
use Rattle.tk_live.specs.declared.items.OpItem.{OpItem}
use Rattle.tk_live.specs.declared.items.ResourceItem.{ResourceItem}
use Rattle.tk_live.specs.declared.items.TaskItem.{TaskItem}
use Rattle.tk_live.specs.declared.items.WakerItem.{WakerItem}
use Rattle.tk_script.specs.Commands as said
use Rattle.tk_script.specs.declared.settings.Settings.{Settings}
use Rattle.tk_live.proofs.Changing.{keeps_first}
use Rattle.tk_live.proofs.Places.{each_length, each_more, made_still, made_last}
use Rattle.tk_live.proofs.Recording.{IsLonger, stands_more}

-- ---- numbers and ids

pub nothing_more : (n : ℕ) → n + 0 ≡ n
nothing_more n = omega arith

-- the recorder's next items have the numbers after the text's
module _ (r : Recording) (capacity : ℕ) (ps : Pasts) (told : List Content) (kept : List Bool) (o : Offered r capacity (numbers_of ps) told kept) where
  pub task_id_is : next_task_id r ≡ id_of 1 (length ps.tasks + 1)
  task_id_is = ap (λ m. id_of m (tasks_in r.kept + tasks_in r.refused + 1)) o.number ∙ ap (λ m. id_of 1 (m + 1)) o.tasks_are

  pub resource_id_is : next_resource_id r ≡ id_of 1 (length ps.resources + 1)
  resource_id_is = ap (λ m. id_of m (resources_in r.kept + resources_in r.refused + 1)) o.number ∙ ap (λ m. id_of 1 (m + 1)) o.resources_are

  pub op_id_is : next_op_id r ≡ id_of 1 (length ps.ops + 1)
  op_id_is = ap (λ m. id_of m (ops_in r.kept + ops_in r.refused + 1)) o.number ∙ ap (λ m. id_of 1 (m + 1)) o.ops_are

  -- and the infos of the text's
  pub task_info_is : (spec : TaskSpec) (line : ℕ) (kind : TaskKind) (name : List ℕ) → (spec.kind ≡ kind) × (spec.name ≡ name) × (spec.location ≡ place line)
      → events.task_info (next_task_id r) spec ≡ script_task_info (length ps.tasks + 1) line kind name
  task_info_is spec line kind name is = λ j. record { id = task_id_is j; kind = is.0 j; name = is.1 j; location = is.2 j }

  pub resource_info_is : (spec : ResourceSpec) (line : ℕ) (kind concrete : List ℕ) (attrs : List AttrSpec) → (spec.parent ≡ None) × (spec.concrete ≡ concrete) × (spec.kind ≡ kind) × (spec.location ≡ place line) × (spec.attrs ≡ attrs)
      → events.resource_info (next_resource_id r) spec ≡ script_resource_info (length ps.resources + 1) line kind concrete attrs
  resource_info_is spec line kind concrete attrs is = λ j. record { id = resource_id_is j; parent = is.0 j; concrete = is.1 j; kind = is.2 j; location = is.3 j; attrs = events.infos_of (is.4 j) }

  pub op_info_is : (spec : OpSpec) (on : ℕ) (source : List ℕ) (attrs : List AttrSpec) → (spec.source ≡ source) × (spec.resource ≡ id_of 1 on) × (spec.parent ≡ None) × (spec.attrs ≡ attrs)
      → events.op_info (next_op_id r) spec ≡ script_op_info (length ps.ops + 1) on source attrs
  op_info_is spec on source attrs is = λ j. record { id = op_id_is j; source = is.0 j; resource = is.1 j; parent = is.2 j; attrs = events.infos_of (is.3 j) }

-- an owner that has a histogram shows its ledger
pub has_ledger : (times : Option KnownTimes) → IsSome times → IsSome (times_ledger times)
has_ledger None has = absurd cc
has_ledger (Some known) has = refl

-- an owner has a histogram where it was made with one
pub has_times : (b : Bool) (times : Option KnownTimes) → HasTimesAs b times → b ≡ true → IsSome times
has_times true times has is = ap is_some has.1
has_times false times has is = absurd cc

-- ---- the calls of a new item

module _ {Row C : Type 0} (m : Meaning Row C (Reply Row)) (numbers : m.number (Number 1) ≡ Some 1) (enlist : C) (row : Row) where
  -- the one number that was answered to a new owner is the inspector's
  holds_first : HoldsAllBut m (1 ∷ []) (events.owner_view enlist row)
  holds_first [] after e is n number =
      let same : e ≡ entry 0 enlist (Number 1) = ap first is in
      let drawn : Some 1 ≡ Some n = sym numbers ∙ ap (λ (x : Entry C (Reply Row)). m.number x.reply) (sym same) ∙ number in
      inr (subst (λ k. 0 < times k (1 ∷ [])) (let one : 1 ≡ n = cc in one) (omega arith))
    where
      first : List (Entry C (Reply Row)) → Entry C (Reply Row)
      first [] = e
      first (x ∷ xs) = x
  holds_first (x ∷ []) after e is n number = absurd cc
  holds_first (x ∷ y ∷ before) after e is n number = absurd cc

  -- it enlisted, and called nothing else
  pub first_called : HasCalled m (1 ∷ []) row (enlist ∷ []) (events.owner_view enlist row)
  first_called = record { opened = refl; in_order = refl; accepted = (refl, tt); holds = holds_first }

-- the histogram of a new task has no times
no_times : (t : KnownTimes) → t.view ≡ events.owner_view times_calls.Enlist opening_row → added_times t ≡ []
unfolding accepted
no_times t is = ap (λ v. filter_map time_of (accepted is_accepted (own 0 v.seen))) is

new_times : (b : Bool) (times : Option KnownTimes) (t : KnownTimes) → HasTimesAs b times → times ≡ Some t → added_times t ≡ []
new_times true times t has is = let same : t ≡ has.0 = some_same (sym is ∙ has.1) in ap added_times same ∙ no_times has.0 has.2
  where
    some_same : {x y : KnownTimes} → Some x ≡ Some y → x ≡ y
    some_same e = cc
new_times false times t none is = absurd (let e : None ≡ Some t = sym none ∙ is in cc)

-- an owner's histogram is of the ledger that is known
pub known_ledger : (o : Option TimesSight) (k : Option KnownTimes) → known_times o ≡ k → option_map (λ (s : TimesSight). s.token.ledger) o ≡ times_ledger k
known_ledger None k e = ap times_ledger e
known_ledger (Some s) k e = ap times_ledger e

-- what is kept of a new task is one
pub is_new_task : (item : TaskItem) (owner : TaskSight) (waits : Bool) (created n : ℕ) → item.callers.id ≡ owner.id → item.callers.token ≡ owner.token → item.closed ≡ false → owner.id ≡ id_of 1 n
    → owner.token.view ≡ events.owner_view Enlist (opening_as waits created) → known_times item.times ≡ owner.times → IsOfTask owner.id item.times → (b : Bool) → HasTimesAs b owner.times → IsTask n (new_task waits created) item
unfolding last_of
is_new_task item owner waits created n id token unclosed id_is view times task b has = record {
  id = id ∙ id_is;
  calls = Enlist ∷ [];
  order = ([], refl, refl);
  called = subst (λ v. HasCalled task_meaning (1 ∷ []) (opening_as waits created) (Enlist ∷ []) v) (sym (ap (λ k. k.view) token ∙ view)) (first_called task_meaning refl Enlist (opening_as waits created));
  polled = refl;
  closed = refl;
  is_closed = unclosed;
  times = λ o at. (
    subst (IsOfTask owner.id) at task ∙ id_is,
    new_times b owner.times o.token has (sym times ∙ ap known_times at) ∙ sym (runs_silent [] Enlist refl),
  );
  started = λ polls. absurd (let no : false ≡ true = polls in cc);
}

-- and of a new operation
pub is_new_op : (item : OpItem) (owner : OpSight) (created n : ℕ) (attrs : List AttrSpec) → item.callers.id ≡ owner.id → item.callers.token ≡ owner.token → item.closed ≡ false → owner.id ≡ id_of 1 n
    → owner.token.view ≡ events.owner_view op_calls.Enlist (op_rules.opening_row created (first_values attrs)) → IsOp n (new_op created attrs) item
unfolding last_of
is_new_op item owner created n attrs id token unclosed id_is view = record {
  id = id ∙ id_is;
  called = subst (λ v. HasCalled op_meaning (1 ∷ []) (op_rules.opening_row created (first_values attrs)) (op_calls.Enlist ∷ []) v) (sym (ap (λ k. k.view) token ∙ view)) (first_called op_meaning refl op_calls.Enlist (op_rules.opening_row created (first_values attrs)));
  is_closed = unclosed;
}

-- and of a new resource, whose user is live
pub is_new_resource : (item : ResourceItem) (id created n : ℕ) (attrs : List AttrSpec) → item.callers.id ≡ id → item.closed ≡ false → IsLive resource_meaning item.callers.token.view item.user → id ≡ id_of 1 n
    → item.values ≡ resource_rules.opening_row created (first_values attrs) → resource_rules.IsOpening item.values → HasCalled resource_meaning (1 ∷ []) (resource_rules.opening_row created (first_values attrs)) (resource_calls.Enlist ∷ resource_calls.Enlist ∷ []) item.callers.token.view → IsResource n (new_resource created attrs) item
unfolding last_of
is_new_resource item id created n attrs same unclosed live id_is values opens called = record {
  id = same ∙ id_is;
  called = called;
  is_closed = unclosed;
  values = keeps_first (new_resource created attrs) item.values values (subst (λ row. resource_rules.IsOpening row) values opens) refl;
  user = live;
}

-- ---- the items with one more

module _ (tasks : List TaskItem) (wakers : List (Option WakerItem)) (resources : List ResourceItem) (ops : List OpItem) (ps : Pasts) (holds : Holds tasks wakers resources ops ps) where
  pub task_more : (waits : Bool) (created : ℕ) (item : TaskItem) → IsTask (length ps.tasks + 1) (new_task waits created) item → Holds (tasks ++ item ∷ []) wakers resources ops (record ps { tasks = ps.tasks ++ new_task waits created ∷ [] })
  task_more waits created item is = record {
    tasks_are = record {
      tasks_are = each_more IsTask ps.tasks tasks (new_task waits created) item holds.tasks_are.tasks_are is;
      wakers_are = holds.tasks_are.wakers_are;
      are_live = record {
        live = λ w a at. let l = holds.tasks_are.are_live.live w a at in (l.0, made_still tasks item a.task l.0 l.1, l.2);
        apart = holds.tasks_are.are_live.apart;
      };
    };
    resources_are = holds.resources_are;
    ops_are = holds.ops_are;
  }

  pub resource_more : (created : ℕ) (attrs : List AttrSpec) (item : ResourceItem) → IsResource (length ps.resources + 1) (new_resource created attrs) item → Holds tasks wakers (resources ++ item ∷ []) ops (record ps { resources = ps.resources ++ new_resource created attrs ∷ [] })
  resource_more created attrs item is = record {
    tasks_are = record {
      tasks_are = holds.tasks_are.tasks_are;
      wakers_are = holds.tasks_are.wakers_are;
      are_live = holds.tasks_are.are_live;
    };
    resources_are = each_more IsResource ps.resources resources (new_resource created attrs) item holds.resources_are is;
    ops_are = holds.ops_are;
  }

  pub op_more : (created : ℕ) (attrs : List AttrSpec) (item : OpItem) → IsOp (length ps.ops + 1) (new_op created attrs) item → Holds tasks wakers resources (ops ++ item ∷ []) (record ps { ops = ps.ops ++ new_op created attrs ∷ [] })
  op_more created attrs item is = record {
    tasks_are = record {
      tasks_are = holds.tasks_are.tasks_are;
      wakers_are = holds.tasks_are.wakers_are;
      are_live = holds.tasks_are.are_live;
    };
    resources_are = holds.resources_are;
    ops_are = each_more IsOp ps.ops ops (new_op created attrs) item holds.ops_are is;
  }

-- a list that is another, and one that has one more
as_long : {X : Type 0} (xs ys : List X) → ys ≡ xs → IsLonger xs ys
as_long xs ys same = λ n x at. ap (made_item n) same ∙ at

one_longer : {X : Type 0} (xs ys : List X) (z : X) → ys ≡ xs ++ z ∷ [] → IsLonger xs ys
one_longer xs ys z is = λ n x at. ap (made_item n) is ∙ made_still xs z n x at

-- ---- all that an interpreter stands for

-- what it stood for, and an offer that the recorder made, whatever became of it
module _ (i new : Interpreter) (settings : Settings) (c : Course) (kept : List Bool) (sent : List Sending) (stands : Represents i settings c kept sent) (same : IsSameRecorder i.recorder new.recorder) (left : offers_made i.recorder ≡ i.recorder.limit → ⊥) (became : Recorded)
    (full : became ≡ DroppedFull → i.recorder.recorders ≡ 1 → i.recorder.capacity + i.recorder.gone ≤ length i.recorder.kept) where
  -- it was that of a new task, of which this is kept
  pub task_made : (spec : TaskSpec) (owner : TaskSight) (item : TaskItem) (line created : ℕ) (kind : TaskKind) (name : List ℕ)
      → (became ≡ Kept → new.recorder ≡ with_kept i.recorder (next_offer i.recorder (MadeTask (events.task_info (next_task_id i.recorder) spec) owner.token.ledger 1 (times_ledger owner.times))))
      → (became ≡ DroppedFull → new.recorder ≡ with_refused i.recorder (next_offer i.recorder (MadeTask (events.task_info (next_task_id i.recorder) spec) owner.token.ledger 1 (times_ledger owner.times))))
      → (spec.kind ≡ kind) × (spec.name ≡ name) × (spec.location ≡ place line) → (settings.times ≡ true → IsSome owner.times) → times_ledger_of item ≡ times_ledger owner.times → ((n : ℕ) → owner.id ≡ id_of 1 n → IsTask n (new_task c.waits_said created) item)
      → owner.id ≡ next_task_id i.recorder → item.callers.token.ledger ≡ owner.token.ledger → new ≡ record i { recorder = new.recorder; tasks = new.tasks } → new.tasks.items ≡ i.tasks.items ++ item ∷ []
      → (mark : Bool) × Represents new settings (step c line (said.task created kind name)) (kept ++ mark ∷ []) sent
  task_made spec owner item line created kind name keeps drops spec_is timed histogram is id ledger rest items =
      let n = length c.pasts.tasks + 1 in
      let ps : Pasts = record c.pasts { tasks = c.pasts.tasks ++ new_task c.waits_said created ∷ [] } in
      let event = MadeTask (events.task_info (next_task_id i.recorder) spec) owner.token.ledger 1 (times_ledger owner.times) in
      let id_is : next_task_id i.recorder ≡ id_of 1 n = task_id_is i.recorder settings.capacity c.pasts c.told kept stands.offered in
      let resources : new.resources ≡ i.resources = ap (λ (x : Interpreter). x.resources) rest in
      let ops : new.ops ≡ i.ops = ap (λ (x : Interpreter). x.ops) rest in
      let long : length c.pasts.tasks ≡ length i.tasks.items = each_length IsTask 1 c.pasts.tasks i.tasks.items stands.holds.tasks_are.tasks_are in
      stands_more i new settings c kept sent stands event became ps (made_task (script_task_info n line kind name)) same left keeps drops full
      (rest ∙ (λ j. record i { recorder = new.recorder; tasks = new.tasks; resources = sym resources j; ops = sym ops j }))
      (λ j. record { tasks = sym (length-append c.pasts.tasks (new_task c.waits_said created ∷ [])) j; resources = nothing_more (length c.pasts.resources) j; ops = nothing_more (length c.pasts.ops) j })
      (ap made_task (task_info_is i.recorder settings.capacity c.pasts c.told kept stands.offered spec line kind name spec_is))
      (λ t. has_ledger owner.times (timed t))
      (one_longer i.tasks.items new.tasks.items item items, as_long i.resources.items new.resources.items (ap (λ (v : Vec ResourceItem). v.items) resources), as_long i.ops.items new.ops.items (ap (λ (v : Vec OpItem). v.items) ops))
      (subst (λ (l : List TaskItem × Vec ResourceItem × Vec OpItem). Holds l.0 i.wakers.items l.1.items l.2.items ps) (λ j. (sym items j, sym resources j, sym ops j)) (task_more i.tasks.items i.wakers.items i.resources.items i.ops.items c.pasts stands.holds c.waits_said created item (is n (id ∙ id_is)))) (
        (n, item, id_is, ap (made_item n) items ∙ made_last i.tasks.items item n (ap (λ m. m + 1) long), ledger),
        λ known of. (n, item, id_is, ap (made_item n) items ∙ made_last i.tasks.items item n (ap (λ m. m + 1) long), histogram ∙ of),
      )

  -- of a new resource
  pub resource_made : (spec : ResourceSpec) (owner : ResourceSight) (item : ResourceItem) (line created : ℕ) (kind concrete : List ℕ) (attrs : List AttrSpec)
      → (became ≡ Kept → new.recorder ≡ with_kept i.recorder (next_offer i.recorder (MadeResource (events.resource_info (next_resource_id i.recorder) spec) owner.token.ledger 1)))
      → (became ≡ DroppedFull → new.recorder ≡ with_refused i.recorder (next_offer i.recorder (MadeResource (events.resource_info (next_resource_id i.recorder) spec) owner.token.ledger 1)))
      → (spec.parent ≡ None) × (spec.concrete ≡ concrete) × (spec.kind ≡ kind) × (spec.location ≡ place line) × (spec.attrs ≡ attrs) → ((n : ℕ) → owner.id ≡ id_of 1 n → IsResource n (new_resource created attrs) item)
      → owner.id ≡ next_resource_id i.recorder → item.callers.token.ledger ≡ owner.token.ledger → new ≡ record i { recorder = new.recorder; resources = new.resources } → new.resources.items ≡ i.resources.items ++ item ∷ []
      → (mark : Bool) × Represents new settings (step c line (said.resource created kind concrete attrs)) (kept ++ mark ∷ []) sent
  resource_made spec owner item line created kind concrete attrs keeps drops spec_is is id ledger rest items =
      let n = length c.pasts.resources + 1 in
      let ps : Pasts = record c.pasts { resources = c.pasts.resources ++ new_resource created attrs ∷ [] } in
      let event = MadeResource (events.resource_info (next_resource_id i.recorder) spec) owner.token.ledger 1 in
      let id_is : next_resource_id i.recorder ≡ id_of 1 n = resource_id_is i.recorder settings.capacity c.pasts c.told kept stands.offered in
      let tasks : new.tasks ≡ i.tasks = ap (λ (x : Interpreter). x.tasks) rest in
      let ops : new.ops ≡ i.ops = ap (λ (x : Interpreter). x.ops) rest in
      let long : length c.pasts.resources ≡ length i.resources.items = each_length IsResource 1 c.pasts.resources i.resources.items stands.holds.resources_are in
      stands_more i new settings c kept sent stands event became ps (made_resource (script_resource_info n line kind concrete attrs)) same left keeps drops full
      (rest ∙ (λ j. record i { recorder = new.recorder; tasks = sym tasks j; resources = new.resources; ops = sym ops j }))
      (λ j. record { tasks = nothing_more (length c.pasts.tasks) j; resources = sym (length-append c.pasts.resources (new_resource created attrs ∷ [])) j; ops = nothing_more (length c.pasts.ops) j })
      (ap made_resource (resource_info_is i.recorder settings.capacity c.pasts c.told kept stands.offered spec line kind concrete attrs spec_is))
      (λ t. tt)
      (as_long i.tasks.items new.tasks.items (ap (λ (v : Vec TaskItem). v.items) tasks), one_longer i.resources.items new.resources.items item items, as_long i.ops.items new.ops.items (ap (λ (v : Vec OpItem). v.items) ops))
      (subst (λ (l : Vec TaskItem × List ResourceItem × Vec OpItem). Holds l.0.items i.wakers.items l.1 l.2.items ps) (λ j. (sym tasks j, sym items j, sym ops j)) (resource_more i.tasks.items i.wakers.items i.resources.items i.ops.items c.pasts stands.holds created attrs item (is n (id ∙ id_is))))
      (n, item, id_is, ap (made_item n) items ∙ made_last i.resources.items item n (ap (λ m. m + 1) long), ledger)

  -- of a new operation
  pub op_made : (spec : OpSpec) (owner : OpSight) (item : OpItem) (line created on : ℕ) (source : List ℕ) (attrs : List AttrSpec)
      → (became ≡ Kept → new.recorder ≡ with_kept i.recorder (next_offer i.recorder (MadeOp (events.op_info (next_op_id i.recorder) spec) owner.token.ledger 1)))
      → (became ≡ DroppedFull → new.recorder ≡ with_refused i.recorder (next_offer i.recorder (MadeOp (events.op_info (next_op_id i.recorder) spec) owner.token.ledger 1)))
      → (spec.source ≡ source) × (spec.resource ≡ id_of 1 on) × (spec.parent ≡ None) × (spec.attrs ≡ attrs) → ((n : ℕ) → owner.id ≡ id_of 1 n → IsOp n (new_op created attrs) item)
      → owner.id ≡ next_op_id i.recorder → item.callers.token.ledger ≡ owner.token.ledger → new ≡ record i { recorder = new.recorder; ops = new.ops } → new.ops.items ≡ i.ops.items ++ item ∷ []
      → (mark : Bool) × Represents new settings (step c line (said.op created on source attrs)) (kept ++ mark ∷ []) sent
  op_made spec owner item line created on source attrs keeps drops spec_is is id ledger rest items =
      let n = length c.pasts.ops + 1 in
      let ps : Pasts = record c.pasts { ops = c.pasts.ops ++ new_op created attrs ∷ [] } in
      let event = MadeOp (events.op_info (next_op_id i.recorder) spec) owner.token.ledger 1 in
      let id_is : next_op_id i.recorder ≡ id_of 1 n = op_id_is i.recorder settings.capacity c.pasts c.told kept stands.offered in
      let tasks : new.tasks ≡ i.tasks = ap (λ (x : Interpreter). x.tasks) rest in
      let resources : new.resources ≡ i.resources = ap (λ (x : Interpreter). x.resources) rest in
      let long : length c.pasts.ops ≡ length i.ops.items = each_length IsOp 1 c.pasts.ops i.ops.items stands.holds.ops_are in
      stands_more i new settings c kept sent stands event became ps (made_op (script_op_info n on source attrs)) same left keeps drops full
      (rest ∙ (λ j. record i { recorder = new.recorder; tasks = sym tasks j; resources = sym resources j; ops = new.ops }))
      (λ j. record { tasks = nothing_more (length c.pasts.tasks) j; resources = nothing_more (length c.pasts.resources) j; ops = sym (length-append c.pasts.ops (new_op created attrs ∷ [])) j })
      (ap made_op (op_info_is i.recorder settings.capacity c.pasts c.told kept stands.offered spec on source attrs spec_is))
      (λ t. tt)
      (as_long i.tasks.items new.tasks.items (ap (λ (v : Vec TaskItem). v.items) tasks), as_long i.resources.items new.resources.items (ap (λ (v : Vec ResourceItem). v.items) resources), one_longer i.ops.items new.ops.items item items)
      (subst (λ (l : Vec TaskItem × Vec ResourceItem × List OpItem). Holds l.0.items i.wakers.items l.1.items l.2 ps) (λ j. (sym tasks j, sym resources j, sym items j)) (op_more i.tasks.items i.wakers.items i.resources.items i.ops.items c.pasts stands.holds created attrs item (is n (id ∙ id_is))))
      (n, item, id_is, ap (made_item n) items ∙ made_last i.ops.items item n (ap (λ m. m + 1) long), ledger)

  -- and of a poll, which makes no item
  pub poll_made : (poll : PollOp) (line r o t : ℕ) (name : List ℕ) (ready : Bool) → (became ≡ Kept → new.recorder ≡ with_kept i.recorder (next_offer i.recorder (Polled poll)))
      → (became ≡ DroppedFull → new.recorder ≡ with_refused i.recorder (next_offer i.recorder (Polled poll))) → (poll.resource ≡ id_of 1 r) × (poll.ready ≡ ready) → new ≡ record i { recorder = new.recorder }
      → (mark : Bool) × Represents new settings (step c line (said.poll_op r o t name ready)) (kept ++ mark ∷ []) sent
  poll_made poll line r o t name ready keeps drops poll_is rest =
      let tasks : new.tasks ≡ i.tasks = ap (λ (x : Interpreter). x.tasks) rest in
      let resources : new.resources ≡ i.resources = ap (λ (x : Interpreter). x.resources) rest in
      let ops : new.ops ≡ i.ops = ap (λ (x : Interpreter). x.ops) rest in
      stands_more i new settings c kept sent stands (Polled poll) became c.pasts (polled (id_of 1 r) ready) same left keeps drops full
      (rest ∙ (λ j. record i { recorder = new.recorder; tasks = sym tasks j; resources = sym resources j; ops = sym ops j }))
      (λ j. record { tasks = nothing_more (length c.pasts.tasks) j; resources = nothing_more (length c.pasts.resources) j; ops = nothing_more (length c.pasts.ops) j })
      (λ j. polled (poll_is.0 j) (poll_is.1 j))
      (λ t. tt)
      (as_long i.tasks.items new.tasks.items (ap (λ (v : Vec TaskItem). v.items) tasks), as_long i.resources.items new.resources.items (ap (λ (v : Vec ResourceItem). v.items) resources), as_long i.ops.items new.ops.items (ap (λ (v : Vec OpItem). v.items) ops))
      (subst (λ (l : Vec TaskItem × Vec ResourceItem × Vec OpItem). Holds l.0.items i.wakers.items l.1.items l.2.items c.pasts) (λ j. (sym tasks j, sym resources j, sym ops j)) stands.holds)
      tt
