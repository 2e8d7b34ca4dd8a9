-- An aggregator that took in all that was kept holds just that, but for what left.
use Rattle.std.proofs.Common.{◌≡◌, ℕ, ◌+◌, ◌-◌, ◌*◌, ◌^◌, ◌<◌, ◌≤◌, Bool, true, List, [], ◌∷◌, ◌++◌, length, map, None, Some, refl, ap, sym, ◌∙◌, subst, arith, ◌⊎◌, inl, inr}
use Rattle.std.specs.Prelude.{Option, count_by, fold}
use Rattle.std.proofs.lemmas.List.{append-nil}
use Rattle.std.proofs.lemmas.List.Elements.{All-nil}
use Rattle.tk_ids.specs.Ids.{id_of}
use Rattle.tk_ids.specs.declared.info.OpInfo.{OpInfo}
use Rattle.tk_ids.specs.declared.info.ResourceInfo.{ResourceInfo}
use Rattle.tk_ids.specs.declared.info.TaskInfo.{TaskInfo}
use Rattle.tk_events.specs.declared.buffer.view.Returned.{Returned}
use Rattle.tk_events.specs.declared.event.Shown.{Shown}
use Rattle.tk_events.specs.declared.event.Shown.TheVariants.{MadeTask, MadeResource, MadeOp, Polled}
use Rattle.tk_events.specs.declared.item.Offer.{Offer}
use Rattle.tk_events.specs.Offers.{shown, earlier, is_task, is_resource, is_op, tasks_in, resources_in, ops_in}
use Rattle.tk_events.specs.Handles.{Taking, HasPlaceId, IsSettled, AllTaken, events_of}
use Rattle.tk_stream.specs.Lines.{GoneView}
use Rattle.tk_stream.specs.Tables.{PollCounts, counts_of}
use Rattle.tk_aggregator.specs.Absorbing.{Infos, Step, infos_of, no_infos, with_info, absorbed, absorb, infos_after, events_taken}
use Rattle.tk_aggregator.specs.Aggregates.{Aggregating, Collects, FollowsTaker, held_events}
use Rattle.tk_aggregator.specs.Finished.{task_told, resource_told, op_told, is_ready_poll, is_pending_poll, kept_by_all, HoldAllKept, HoldSomeKept, HoldKept}
use Rattle.tk_aggregator.specs.Contents.{content_of}
use Rattle.tk_aggregator.proofs.AllKeptLemmas.{are_the_kept, told_once}
use Rattle.tk_aggregator.proofs.FollowLemmas.{collects_follows}
use Rattle.tk_aggregator.proofs.KeptIdLemmas.{count_cons}
use Rattle.tk_aggregator.proofs.PollTotalLemmas.{kept_is_taken, kept_few, counts_absorbed, polled_absorbed}
use Rattle.tk_aggregator.proofs.SomeKeptLemmas.{some_there, all_counts}

-- the one item of a list
only : {Info : Type 0} → Info → List Info → Info
only d [] = d
only d (x ∷ xs) = x

-- ---- tasks

task_cases : (e : Shown) → (task_told (content_of e) ≡ []) ⊎ ((info : TaskInfo) × (task_told (content_of e) ≡ info ∷ []))
task_cases (MadeTask info ledger caller times) = inr (info, refl)
task_cases (MadeResource info ledger caller) = inl refl
task_cases (MadeOp info ledger caller) = inl refl
task_cases (Polled op) = inl refl

task_taken_in : (infos : Infos) (e : Shown) → (absorbed infos e).tasks ≡ fold (λ (l : List TaskInfo) (i : TaskInfo). with_info (λ (x : TaskInfo). x.id) i l) infos.tasks (task_told (content_of e))
task_taken_in infos (MadeTask info ledger caller times) = refl
task_taken_in infos (MadeResource info ledger caller) = refl
task_taken_in infos (MadeOp info ledger caller) = refl
task_taken_in infos (Polled op) = refl

task_is : (e : Shown) (info : TaskInfo) → task_told (content_of e) ≡ info ∷ [] → is_task e ≡ true
task_is (MadeTask made ledger caller times) info e = refl
task_is (MadeResource made ledger caller) info e = absurd cc
task_is (MadeOp made ledger caller) info e = absurd cc
task_is (Polled op) info e = absurd cc

task_placed : (r : Returned) (n : ℕ) (e : Shown) (info : TaskInfo) → task_told (content_of e) ≡ info ∷ [] → HasPlaceId r n e → info.id ≡ id_of r.number (tasks_in (earlier n r.kept) + tasks_in (earlier n r.refused) + 1)
unfolding only
task_placed r n (MadeTask made ledger caller times) info e h = ap (λ (l : List TaskInfo). (only info l).id) (sym e) ∙ h
task_placed r n (MadeResource made ledger caller) info e h = absurd cc
task_placed r n (MadeOp made ledger caller) info e h = absurd cc
task_placed r n (Polled op) info e h = absurd cc

-- ---- resources

resource_cases : (e : Shown) → (resource_told (content_of e) ≡ []) ⊎ ((info : ResourceInfo) × (resource_told (content_of e) ≡ info ∷ []))
resource_cases (MadeTask info ledger caller times) = inl refl
resource_cases (MadeResource info ledger caller) = inr (info, refl)
resource_cases (MadeOp info ledger caller) = inl refl
resource_cases (Polled op) = inl refl

resource_taken_in : (infos : Infos) (e : Shown) → (absorbed infos e).resources ≡ fold (λ (l : List ResourceInfo) (i : ResourceInfo). with_info (λ (x : ResourceInfo). x.id) i l) infos.resources (resource_told (content_of e))
resource_taken_in infos (MadeTask info ledger caller times) = refl
resource_taken_in infos (MadeResource info ledger caller) = refl
resource_taken_in infos (MadeOp info ledger caller) = refl
resource_taken_in infos (Polled op) = refl

resource_is : (e : Shown) (info : ResourceInfo) → resource_told (content_of e) ≡ info ∷ [] → is_resource e ≡ true
resource_is (MadeTask made ledger caller times) info e = absurd cc
resource_is (MadeResource made ledger caller) info e = refl
resource_is (MadeOp made ledger caller) info e = absurd cc
resource_is (Polled op) info e = absurd cc

resource_placed : (r : Returned) (n : ℕ) (e : Shown) (info : ResourceInfo) → resource_told (content_of e) ≡ info ∷ [] → HasPlaceId r n e → info.id ≡ id_of r.number (resources_in (earlier n r.kept) + resources_in (earlier n r.refused) + 1)
unfolding only
resource_placed r n (MadeTask made ledger caller times) info e h = absurd cc
resource_placed r n (MadeResource made ledger caller) info e h = ap (λ (l : List ResourceInfo). (only info l).id) (sym e) ∙ h
resource_placed r n (MadeOp made ledger caller) info e h = absurd cc
resource_placed r n (Polled op) info e h = absurd cc

-- ---- async operations

op_cases : (e : Shown) → (op_told (content_of e) ≡ []) ⊎ ((info : OpInfo) × (op_told (content_of e) ≡ info ∷ []))
op_cases (MadeTask info ledger caller times) = inl refl
op_cases (MadeResource info ledger caller) = inl refl
op_cases (MadeOp info ledger caller) = inr (info, refl)
op_cases (Polled op) = inl refl

op_taken_in : (infos : Infos) (e : Shown) → (absorbed infos e).ops ≡ fold (λ (l : List OpInfo) (i : OpInfo). with_info (λ (x : OpInfo). x.id) i l) infos.ops (op_told (content_of e))
op_taken_in infos (MadeTask info ledger caller times) = refl
op_taken_in infos (MadeResource info ledger caller) = refl
op_taken_in infos (MadeOp info ledger caller) = refl
op_taken_in infos (Polled op) = refl

op_is : (e : Shown) (info : OpInfo) → op_told (content_of e) ≡ info ∷ [] → is_op e ≡ true
op_is (MadeTask made ledger caller times) info e = absurd cc
op_is (MadeResource made ledger caller) info e = absurd cc
op_is (MadeOp made ledger caller) info e = refl
op_is (Polled op) info e = absurd cc

op_placed : (r : Returned) (n : ℕ) (e : Shown) (info : OpInfo) → op_told (content_of e) ≡ info ∷ [] → HasPlaceId r n e → info.id ≡ id_of r.number (ops_in (earlier n r.kept) + ops_in (earlier n r.refused) + 1)
unfolding only
op_placed r n (MadeTask made ledger caller times) info e h = absurd cc
op_placed r n (MadeResource made ledger caller) info e h = absurd cc
op_placed r n (MadeOp made ledger caller) info e h = ap (λ (l : List OpInfo). (only info l).id) (sym e) ∙ h
op_placed r n (Polled op) info e h = absurd cc

-- ---- all together

events_counted : (test : Shown → Bool) (os : List Offer) → count_by test (map (λ (o : Offer). o.event) os) ≡ count_by (λ (o : Offer). test o.event) os
events_counted test [] = refl
events_counted test (o ∷ os) =
    let a = count_cons test o.event (map (λ (x : Offer). x.event) os) in
    let b = count_cons (λ (x : Offer). test x.event) o os in
    let rest = events_counted test os in
    omega (arith, a, b, rest)

from_none : (n : ℕ) → 0 + n ≡ n
from_none n = omega arith

module _ (t : Taking) (s : IsSettled t) (all : AllTaken t) where
  -- of an event that is counted, as often as it was kept
  total : (test : Shown → Bool) → count_by test (events_of t) ≡ count_by (λ (o : Offer). test o.event) (kept_by_all t.known)
  total test = events_counted test t.taken ∙ sym (kept_is_taken (λ (o : Offer). test o.event) t.known t.taken all (λ k d lt. let named = s.named k d lt in s.whole _ named.0 named.1))

  within : (test : Shown → Bool) → 0 + count_by test (events_of t) ≤ 2 ^ 64 - 1
  within test =
      let a = total test in
      let b = kept_few (λ (o : Offer). test o.event) t.known s.own_ids in
      let c = s.no_more in
      let d = s.few in
      let e : length t.known * (2 ^ 40 - 1) ≤ 64 * (2 ^ 40 - 1) = omega (arith, c, d) in
      omega (arith, a, b, e)

  poll_totals : (resource : ℕ) → counts_of resource (absorb no_infos (events_of t)).counts
      ≡ (count_by (λ (o : Offer). is_ready_poll resource (content_of o.event)) (kept_by_all t.known), count_by (λ (o : Offer). is_pending_poll resource (content_of o.event)) (kept_by_all t.known))
  poll_totals resource =
      counts_absorbed resource (events_of t) no_infos 0 0 refl (within (λ e. is_ready_poll resource (content_of e))) (within (λ e. is_pending_poll resource (content_of e)))
      ∙ (λ i. ((from_none _ ∙ total (λ e. is_ready_poll resource (content_of e))) i, (from_none _ ∙ total (λ e. is_pending_poll resource (content_of e))) i))

  holds_all : HoldAllKept (absorb no_infos (events_of t)) t.known
  holds_all = record {
    tasks = are_the_kept (λ (i : TaskInfo). i.id) task_told task_cases (λ (i : Infos). i.tasks) task_taken_in refl is_task task_is task_placed t s all;
    resources = are_the_kept (λ (i : ResourceInfo). i.id) resource_told resource_cases (λ (i : Infos). i.resources) resource_taken_in refl is_resource resource_is resource_placed t s all;
    ops = are_the_kept (λ (i : OpInfo). i.id) op_told op_cases (λ (i : Infos). i.ops) op_taken_in refl is_op op_is op_placed t s all;
    polls = poll_totals;
    polled = polled_absorbed (events_of t) no_infos (All-nil (λ (c : PollCounts). 0 < c.1 + c.2));
  }

  -- where items left, some of it
  holds_some : (steps : List Step) → events_taken steps ≡ events_of t → HoldSomeKept (infos_after steps) t.known
  holds_some steps is = record {
    all = absorb no_infos (events_of t);
    kept = holds_all;
    tasks =
        some_there (λ (i : TaskInfo). i.id) task_told task_cases (λ (i : Infos). i.tasks) task_taken_in (λ (g : GoneView). g.tasks) (λ gone infos. refl) steps (events_of t) is refl
        (told_once (λ (i : TaskInfo). i.id) task_told task_cases (λ (i : Infos). i.tasks) task_taken_in refl is_task task_is task_placed t s all);
    resources =
        some_there (λ (i : ResourceInfo). i.id) resource_told resource_cases (λ (i : Infos). i.resources) resource_taken_in (λ (g : GoneView). g.resources) (λ gone infos. refl) steps (events_of t) is refl
        (told_once (λ (i : ResourceInfo). i.id) resource_told resource_cases (λ (i : Infos). i.resources) resource_taken_in refl is_resource resource_is resource_placed t s all);
    ops =
        some_there (λ (i : OpInfo). i.id) op_told op_cases (λ (i : Infos). i.ops) op_taken_in (λ (g : GoneView). g.ops) (λ gone infos. refl) steps (events_of t) is refl
        (told_once (λ (i : OpInfo). i.id) op_told op_cases (λ (i : Infos). i.ops) op_taken_in refl is_op op_is op_placed t s all);
    counts = all_counts steps (events_of t) is;
  }

  holds_kept : (steps : List Step) → events_taken steps ≡ events_of t → (infos : Infos) → infos ≡ infos_after steps
      → (retention : Option ℕ) → (retention ≡ None → infos ≡ absorb no_infos (events_taken steps)) → HoldKept retention infos t.known
  holds_kept steps is infos after None whole = subst (λ (x : Infos). HoldAllKept x t.known) (sym (whole refl ∙ ap (λ (es : List Shown). absorb no_infos es) is)) holds_all
  holds_kept steps is infos after (Some retention) whole = subst (λ (x : Infos). HoldSomeKept x t.known) (sym after) (holds_some steps is)

-- who follows a finished taker, of which a collect had found the buffer empty, and holds no event, has what was kept: all of it, where nothing leaves
pub follows_kept : (a : Aggregating) (t : Taking) (limit count : ℕ) (b : Aggregating) (u : Taking) → Collects a t limit count b u → t.finished ≡ true → count < limit
    → (c : Aggregating) → FollowsTaker c u → c.held ≡ None → HoldKept c.retention (infos_of c.tables) u.known
follows_kept a t limit count b u k finished below c at none =
    let empty = k.gathering.all below in
    let done : k.taker.finished ≡ true = ap (λ (x : Taking). x.finished) k.gathering.gathers.taker ∙ finished in
    let events : events_of u ≡ events_taken at.steps = at.events ∙ (ap (λ (h : Option _). events_taken at.steps ++ map shown (held_events h)) none ∙ append-nil (events_taken at.steps)) in
    let same : events_of u ≡ events_of k.taker = ap events_of k.totals.same in
    let known : u.known ≡ k.taker.known = ap (λ (x : Taking). x.known) k.totals.same in
    subst (λ (rs : List Returned). HoldKept c.retention (infos_of c.tables) rs) (sym known)
    (holds_kept k.taker (empty.settled done) empty.all at.steps (sym events ∙ same) (infos_of c.tables) at.infos c.retention at.whole)

-- so has an aggregator that followed it before that collect
pub collects_kept : (a : Aggregating) (t : Taking) (limit count : ℕ) (b : Aggregating) (u : Taking) → Collects a t limit count b u → FollowsTaker a t → t.finished ≡ true → count < limit → HoldKept b.retention (infos_of b.tables) u.known
collects_kept a t limit count b u k f finished below = follows_kept a t limit count b u k finished below b (collects_follows a t limit count b u k f) (ap (λ (x : Aggregating). x.held) k.now ∙ k.gathering.none_held (omega (arith, below)))
