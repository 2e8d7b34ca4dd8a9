-- What taking events in makes of infos and poll counts, and what leaves.
use Rattle.std.proofs.Common.{◌≡◌, ℕ, List, [], ◌∷◌, ◌++◌, Bool, true, false, cond, nat_eq, Some, None, refl, sym, ap, ap₂, ◌∙◌, subst, append_assoc, append-nil}
use Rattle.std.specs.Prelude.{Option, MatchBool, IfSome, IfNone, map, option_map, fold, not}
use Rattle.std.specs.Option.{option_map_or}
use Rattle.std.proofs.lemmas.List.{map-append}
use Rattle.std.proofs.lemmas.List.Sums.{fold-append}
use Rattle.tk_core.specs.declared.op.row.OpRow.{OpRow}
use Rattle.tk_core.specs.declared.resource.row.ResourceRow.{ResourceRow}
use Rattle.tk_core.specs.declared.task.row.TaskRow.{TaskRow}
use Rattle.tk_ids.specs.declared.info.OpInfo.{OpInfo}
use Rattle.tk_ids.specs.declared.info.ResourceInfo.{ResourceInfo}
use Rattle.tk_ids.specs.declared.info.TaskInfo.{TaskInfo}
use Rattle.tk_stream.specs.declared.tables.op.Op.{Op}
use Rattle.tk_stream.specs.declared.tables.resource.Resource.{Resource}
use Rattle.tk_stream.specs.declared.tables.task.Task.{Task}
use Rattle.tk_events.specs.Handles.{Taking, events_of}
use Rattle.tk_events.specs.Offers.{shown}
use Rattle.tk_events.specs.declared.event.Event.{Event}
use Rattle.tk_events.specs.declared.event.Event.TheVariants as events
use Rattle.tk_events.specs.declared.event.Shown.{Shown}
use Rattle.tk_events.specs.declared.item.Offer.{Offer}
use Rattle.tk_aggregator.specs.declared.stream_error.StreamError.{StreamError}
use Rattle.tk_aggregator.specs.declared.stream_error.StreamError.TheVariants as errors
use Rattle.tk_aggregator.specs.Absorbing.{Infos, Step, took, left, infos_of, no_infos, with_info, absorbed, absorb, infos_without, stepped, infos_after, events_taken}
use Rattle.tk_core.specs.declared.times.row.TimesRow.{TimesRow}
use Rattle.tk_ledgers.specs.Handles.{KnownTimes, sight}
use Rattle.tk_ledgers.specs.Times.{TimesSight}
use Rattle.tk_stream.specs.Times.{times_shown}
use Rattle.tk_aggregator.specs.Readings.{Reads}
use Rattle.tk_aggregator.specs.Timing.{TimingView, times_ledger}
use Rattle.tk_aggregator.specs.Aggregates.{Aggregating, TakesTimes, Gathers, Collects, RunsOut, TakesIn, TakesAllIn, FollowsTaker, IsSameStream, Refuses, held_events, free, without, pruned, having_told, after_line}
use Rattle.tk_stream.specs.Applied.{without_gone}
use Rattle.tk_stream.specs.Lines.{GoneView}
use Rattle.tk_stream.specs.Retention.{due_of}
use Rattle.tk_stream.specs.Tables.{TablesView, item_with, task_with, resource_with, op_with, is_among, staying}

-- the item of an id is found by its info
found_info : {Item Info : Type 0} (info_of : Item → Info) (id_of : Info → ℕ) (id : ℕ) (xs : List Item) → item_with id_of id (map info_of xs) ≡ option_map info_of (item_with (λ x. id_of (info_of x)) id xs)
found_info info_of id_of id [] = refl
found_info info_of id_of id (x ∷ xs) = by (nat_eq id (id_of (info_of x))) (found_info info_of id_of id xs)
  where
    by : (b : Bool) → item_with id_of id (map info_of xs) ≡ option_map info_of (item_with (λ x. id_of (info_of x)) id xs)
        → cond b (Some (info_of x)) (item_with id_of id (map info_of xs)) ≡ option_map info_of (cond b (Some x) (item_with (λ x. id_of (info_of x)) id xs))
    by true e = refl
    by false e = e

same_or : {Item Info : Type 0} (info_of : Item → Info) (there more : List Info) (o : Option Item) → option_map_or (λ (x : Info). there) (option_map info_of o) more ≡ option_map_or (λ (x : Item). there) o more
same_or info_of there more (Some x) = refl
same_or info_of there more None = refl

-- infos with this one, by whether its item is there
info_there : {Item Info : Type 0} (info_of : Item → Info) (id_of : Info → ℕ) (info : Info) (xs : List Item) (o : Option Item) → item_with (λ x. id_of (info_of x)) (id_of info) xs ≡ o
    → with_info id_of info (map info_of xs) ≡ option_map_or (λ there. map info_of xs) o (map info_of xs ++ info ∷ [])
info_there info_of id_of info xs o is =
    ap (λ p. option_map_or (λ there. map info_of xs) p (map info_of xs ++ info ∷ [])) (found_info info_of id_of (id_of info) xs ∙ ap (option_map info_of) is)
    ∙ same_or info_of (map info_of xs) (map info_of xs ++ info ∷ []) o

abbrev one_task : TaskInfo → TaskRow → List Task
one_task info row = record { info = info; row = row } ∷ []

abbrev one_resource : ResourceInfo → ResourceRow → List Resource
one_resource info row = record { info = info; row = row } ∷ []

abbrev one_op : OpInfo → OpRow → List Op
one_op info row = record { info = info; row = row } ∷ []

pub by_case : {X : Type 0} (o : Option X) (P Q G : Type 0) (F : Option X → Type 0) → IfSome o (λ there. P) → IfNone o Q → ((x : X) → F (Some x) → P → G) → (F None → Q → G) → F o → G
by_case (Some x) P Q G F p q f h is = f x is p
by_case None P Q G F p q f h is = h is q

pub takes_infos : (old : Aggregating) (e : Event) (new : Aggregating) → TakesIn old e new → infos_of new.tables ≡ absorbed (infos_of old.tables) (shown e)
takes_infos old (events.Task info handle) new p =
    let o = task_with info.id old.tables.tasks in
    by_case o _ _ (infos_of new.tables ≡ absorbed (infos_of old.tables) (shown (events.Task info handle))) (λ q. o ≡ q) p.0 p.1
    (λ x is q. ap (λ (a : Aggregating). infos_of a.tables) q ∙ (λ i. record (infos_of old.tables) { tasks = sym (info_there (λ t. t.info) (λ t. t.id) info old.tables.tasks (Some x) is) i }))
    (λ is q. ap (λ (a : Aggregating). infos_of a.tables) q.3 ∙ (λ i. record (infos_of old.tables) { tasks = (map-append (λ t. t.info) old.tables.tasks (one_task info q.0) ∙ sym (info_there (λ t. t.info) (λ t. t.id) info old.tables.tasks None is)) i }))
    refl
takes_infos old (events.Resource info handle) new p =
    let o = resource_with info.id old.tables.resources in
    by_case o _ _ (infos_of new.tables ≡ absorbed (infos_of old.tables) (shown (events.Resource info handle))) (λ q. o ≡ q) p.0 p.1
    (λ x is q. ap (λ (a : Aggregating). infos_of a.tables) q ∙ (λ i. record (infos_of old.tables) { resources = sym (info_there (λ t. t.info) (λ t. t.id) info old.tables.resources (Some x) is) i }))
    (λ is q. ap (λ (a : Aggregating). infos_of a.tables) q.3 ∙ (λ i. record (infos_of old.tables) { resources = (map-append (λ t. t.info) old.tables.resources (one_resource info q.0) ∙ sym (info_there (λ t. t.info) (λ t. t.id) info old.tables.resources None is)) i }))
    refl
takes_infos old (events.Op info handle) new p =
    let o = op_with info.id old.tables.ops in
    by_case o _ _ (infos_of new.tables ≡ absorbed (infos_of old.tables) (shown (events.Op info handle))) (λ q. o ≡ q) p.0 p.1
    (λ x is q. ap (λ (a : Aggregating). infos_of a.tables) q ∙ (λ i. record (infos_of old.tables) { ops = sym (info_there (λ t. t.info) (λ t. t.id) info old.tables.ops (Some x) is) i }))
    (λ is q. ap (λ (a : Aggregating). infos_of a.tables) q.3 ∙ (λ i. record (infos_of old.tables) { ops = (map-append (λ t. t.info) old.tables.ops (one_op info q.0) ∙ sym (info_there (λ t. t.info) (λ t. t.id) info old.tables.ops None is)) i }))
    refl
takes_infos old (events.Poll op) new p = ap (λ (a : Aggregating). infos_of a.tables) p

takes_all_infos : (old : Aggregating) (es : List Event) (new : Aggregating) → TakesAllIn old es new → infos_of new.tables ≡ absorb (infos_of old.tables) (map shown es)
takes_all_infos old [] new all = ap (λ (a : Aggregating). infos_of a.tables) all
takes_all_infos old (e ∷ es) new all = takes_all_infos all.0 es new all.2 ∙ ap (λ i. absorb i (map shown es)) (takes_infos old e all.0 all.1)

-- so an aggregator's infos and poll counts are what the events make that were taken in
pub gathered_is_absorbed : (a : Aggregating) (t : Taking) (taken : List Event) (b : Aggregating) (u : Taking) → Gathers a t taken b u → infos_of b.tables ≡ absorb (infos_of a.tables) (map shown taken)
gathered_is_absorbed a t taken b u g = takes_all_infos (free a) taken (free b) g.taken_in

-- ---- the stream stays where it is

-- a task's histogram is taken in, where these are read
abbrev pub TakesWhere : ℕ → KnownTimes → TimingView → TimingView → Bool → Type 0
TakesWhere id known old new reads =
    MatchBool reads ((row : TimesRow) × (read : TimesSight) × Reads times_ledger (sight id known) row read
    × (new ≡ record old { shown = old.shown ++ (id, times_shown row) ∷ []; readers = old.readers ++ read ∷ [] })) (new ≡ old)

-- that leaves what was told
times_stay : (id : ℕ) (known : Option KnownTimes) (old new : TimingView) → TakesTimes id known old new → (new.reads ≡ old.reads) × (new.told ≡ old.told)
times_stay id None old new p = (ap (λ t. t.reads) p, ap (λ t. t.told) p)
times_stay id (Some known) old new p = by old.reads p
  where
    by : (b : Bool) → TakesWhere id known old new b → (new.reads ≡ old.reads) × (new.told ≡ old.told)
    by true q = (ap (λ t. t.reads) q.3, ap (λ t. t.told) q.3)
    by false q = (ap (λ t. t.reads) q, ap (λ t. t.told) q)

takes_stays : (old : Aggregating) (e : Event) (new : Aggregating) → TakesIn old e new → IsSameStream old new
takes_stays old (events.Task info handle) new p = by_case (task_with info.id old.tables.tasks) _ _ (IsSameStream old new) (λ q. Unit {0}) p.0 p.1 (λ x is q. stays q) (λ is q. record { told = ap (λ x. x.told) q.3; last = ap (λ x. x.last) q.3; broken = ap (λ x. x.broken) q.3; now = ap (λ x. x.tables.now) q.3; retention = ap (λ x. x.retention) q.3; reads = (times_stay info.id handle.times old.timing new.timing q.4).0; times_told = (times_stay info.id handle.times old.timing new.timing q.4).1 }) tt
  where
    stays : new ≡ old → IsSameStream old new
    stays q = record { told = ap (λ x. x.told) q; last = ap (λ x. x.last) q; broken = ap (λ x. x.broken) q; now = ap (λ x. x.tables.now) q; retention = ap (λ x. x.retention) q; reads = ap (λ x. x.timing.reads) q; times_told = ap (λ x. x.timing.told) q }
takes_stays old (events.Resource info handle) new p = by_case (resource_with info.id old.tables.resources) _ _ (IsSameStream old new) (λ q. Unit {0}) p.0 p.1 (λ x is q. stays q) (λ is q. record { told = ap (λ x. x.told) q.3; last = ap (λ x. x.last) q.3; broken = ap (λ x. x.broken) q.3; now = ap (λ x. x.tables.now) q.3; retention = ap (λ x. x.retention) q.3; reads = ap (λ x. x.timing.reads) q.3; times_told = ap (λ x. x.timing.told) q.3 }) tt
  where
    stays : new ≡ old → IsSameStream old new
    stays q = record { told = ap (λ x. x.told) q; last = ap (λ x. x.last) q; broken = ap (λ x. x.broken) q; now = ap (λ x. x.tables.now) q; retention = ap (λ x. x.retention) q; reads = ap (λ x. x.timing.reads) q; times_told = ap (λ x. x.timing.told) q }
takes_stays old (events.Op info handle) new p = by_case (op_with info.id old.tables.ops) _ _ (IsSameStream old new) (λ q. Unit {0}) p.0 p.1 (λ x is q. stays q) (λ is q. record { told = ap (λ x. x.told) q.3; last = ap (λ x. x.last) q.3; broken = ap (λ x. x.broken) q.3; now = ap (λ x. x.tables.now) q.3; retention = ap (λ x. x.retention) q.3; reads = ap (λ x. x.timing.reads) q.3; times_told = ap (λ x. x.timing.told) q.3 }) tt
  where
    stays : new ≡ old → IsSameStream old new
    stays q = record { told = ap (λ x. x.told) q; last = ap (λ x. x.last) q; broken = ap (λ x. x.broken) q; now = ap (λ x. x.tables.now) q; retention = ap (λ x. x.retention) q; reads = ap (λ x. x.timing.reads) q; times_told = ap (λ x. x.timing.told) q }
takes_stays old (events.Poll op) new p = record { told = ap (λ x. x.told) p; last = ap (λ x. x.last) p; broken = ap (λ x. x.broken) p; now = ap (λ x. x.tables.now) p; retention = ap (λ x. x.retention) p; reads = ap (λ x. x.timing.reads) p; times_told = ap (λ x. x.timing.told) p }

pub then_same : (a b c : Aggregating) → IsSameStream a b → IsSameStream b c → IsSameStream a c
then_same a b c p q = record { told = q.told ∙ p.told; last = q.last ∙ p.last; broken = q.broken ∙ p.broken; now = q.now ∙ p.now; retention = q.retention ∙ p.retention; reads = q.reads ∙ p.reads; times_told = q.times_told ∙ p.times_told }

takes_all_stays : (old : Aggregating) (es : List Event) (new : Aggregating) → TakesAllIn old es new → IsSameStream old new
takes_all_stays old [] new all = record { told = ap (λ x. x.told) all; last = ap (λ x. x.last) all; broken = ap (λ x. x.broken) all; now = ap (λ x. x.tables.now) all; retention = ap (λ x. x.retention) all; reads = ap (λ x. x.timing.reads) all; times_told = ap (λ x. x.timing.told) all }
takes_all_stays old (e ∷ es) new all = then_same old all.0 new (takes_stays old e all.0 all.1) (takes_all_stays all.0 es new all.2)

pub gathers_stays : (a : Aggregating) (t : Taking) (taken : List Event) (b : Aggregating) (u : Taking) → Gathers a t taken b u → IsSameStream a b
gathers_stays a t taken b u g = let s = takes_all_stays (free a) taken (free b) g.taken_in in record { told = s.told; last = s.last; broken = s.broken; now = s.now; retention = s.retention; reads = s.reads; times_told = s.times_told }

pub collects_stays : (a : Aggregating) (t : Taking) (limit count : ℕ) (b : Aggregating) (u : Taking) → Collects a t limit count b u → IsSameStream a b
collects_stays a t limit count b u k = let s = gathers_stays a t k.gathering.taken k.gathered k.taker k.gathering.gathers in record { told = ap (λ x. x.told) k.now ∙ s.told; last = ap (λ x. x.last) k.now ∙ s.last; broken = ap (λ x. x.broken) k.now ∙ s.broken; now = ap (λ x. x.tables.now) k.now ∙ s.now; retention = ap (λ x. x.retention) k.now ∙ s.retention; reads = ap (λ x. x.timing.reads) k.now ∙ s.reads; times_told = ap (λ x. x.timing.told) k.now ∙ s.times_told }

-- ---- a course goes on

-- the events are taken in, one after the other
abbrev pub all_took : List Shown → List Step
all_took events = map took events

taken-append : (xs ys : List Step) → events_taken (xs ++ ys) ≡ events_taken xs ++ events_taken ys
taken-append [] ys = refl
taken-append (took e ∷ xs) ys = ap (λ es. e ∷ es) (taken-append xs ys)
taken-append (left gone ∷ xs) ys = taken-append xs ys

taken_took : (es : List Shown) → events_taken (all_took es) ≡ es
taken_took [] = refl
taken_took (e ∷ es) = ap (λ xs. e ∷ xs) (taken_took es)

stepped_took : (i : Infos) (es : List Shown) → fold stepped i (all_took es) ≡ absorb i es
stepped_took i [] = refl
stepped_took i (e ∷ es) = stepped_took (absorbed i e) es

-- the events of a course that took more in
taken_more : (xs : List Step) (es : List Shown) → events_taken (xs ++ all_took es) ≡ events_taken xs ++ es
taken_more xs es = taken-append xs (all_took es) ∙ ap (λ ys. events_taken xs ++ ys) (taken_took es)

-- what stands after it
after_more : (xs : List Step) (es : List Shown) → infos_after (xs ++ all_took es) ≡ absorb (infos_after xs) es
after_more xs es = fold-append stepped no_infos xs (all_took es) ∙ stepped_took (infos_after xs) es

absorb-append : (i : Infos) (xs ys : List Shown) → absorb i (xs ++ ys) ≡ absorb (absorb i xs) ys
absorb-append i [] ys = refl
absorb-append i (x ∷ xs) ys = absorb-append (absorbed i x) xs ys

pub follows_on : (a : Aggregating) (t : Taking) (taken : List Event) (b : Aggregating) (u : Taking) → Gathers a t taken b u → FollowsTaker a t → FollowsTaker b u
follows_on a t taken b u g f =
    let es : List Shown = map shown taken in
    let same = gathers_stays a t taken b u g in
    let more = taken_more f.steps es in
    record {
      steps = f.steps ++ all_took es;
      events =
          ap events_of g.taker ∙ map-append (λ (o : Offer). o.event) t.taken g.offers
          ∙ ap₂ (λ xs ys. xs ++ ys) f.events g.are_offered
          ∙ append_assoc (events_taken f.steps) (map shown (held_events a.held)) (map shown g.came)
          ∙ ap (λ xs. events_taken f.steps ++ xs) (sym (map-append shown (held_events a.held) g.came) ∙ ap (map shown) g.in_order ∙ map-append shown taken (held_events b.held))
          ∙ sym (append_assoc (events_taken f.steps) es (map shown (held_events b.held)))
          ∙ ap (λ xs. xs ++ map shown (held_events b.held)) (sym more);
      infos = gathered_is_absorbed a t taken b u g ∙ ap (λ i. absorb i es) f.infos ∙ sym (after_more f.steps es);
      whole = λ none.
          gathered_is_absorbed a t taken b u g ∙ ap (λ i. absorb i es) (f.whole (sym same.retention ∙ none))
          ∙ sym (absorb-append no_infos (events_taken f.steps) es) ∙ ap (absorb no_infos) (sym more);
    }

pub collects_follows : (a : Aggregating) (t : Taking) (limit count : ℕ) (b : Aggregating) (u : Taking) → Collects a t limit count b u → FollowsTaker a t → FollowsTaker b u
collects_follows a t limit count b u k f =
    let at = follows_on a t k.gathering.taken k.gathered k.taker k.gathering.gathers f in
    record {
      steps = at.steps;
      events = ap events_of k.totals.same ∙ at.events ∙ ap (λ h. events_taken at.steps ++ map shown (held_events h)) (sym (ap (λ x. x.held) k.now));
      infos = ap (λ (x : Aggregating). infos_of x.tables) k.now ∙ at.infos;
      whole = λ none. ap (λ (x : Aggregating). infos_of x.tables) k.now ∙ at.whole (sym (ap (λ x. x.retention) k.now) ∙ none);
    }

pub runs_out_follows : (a : Aggregating) (t : Taking) (limit : ℕ) (b : Aggregating) (u : Taking) → RunsOut a t limit b u → FollowsTaker a t → FollowsTaker b u
runs_out_follows a t limit b u r f = follows_on a t r.taken b u r.gathers f

-- ---- items leave

-- the infos of items that stay are those that stay of the infos
infos_staying : {Item Info : Type 0} (info_of : Item → Info) (id_of : Info → ℕ) (gone : List ℕ) (xs : List Item) → map info_of (staying (λ x. id_of (info_of x)) gone xs) ≡ staying id_of gone (map info_of xs)
infos_staying info_of id_of gone [] = refl
infos_staying info_of id_of gone (x ∷ xs) = by (not (is_among gone (id_of (info_of x)))) (infos_staying info_of id_of gone xs)
  where
    by : (b : Bool) → map info_of (staying (λ x. id_of (info_of x)) gone xs) ≡ staying id_of gone (map info_of xs)
        → map info_of (cond b (x ∷ staying (λ x. id_of (info_of x)) gone xs) (staying (λ x. id_of (info_of x)) gone xs)) ≡ cond b (info_of x ∷ staying id_of gone (map info_of xs)) (staying id_of gone (map info_of xs))
    by true e = ap (λ is. info_of x ∷ is) e
    by false e = e

pub infos_left : (tables : TablesView) (gone : GoneView) → infos_of (without_gone tables gone) ≡ infos_without gone (infos_of tables)
infos_left tables gone = λ i. record {
  tasks = infos_staying (λ (t : Task). t.info) (λ (x : TaskInfo). x.id) gone.tasks tables.tasks i;
  resources = infos_staying (λ (t : Resource). t.info) (λ (x : ResourceInfo). x.id) gone.resources tables.resources i;
  ops = infos_staying (λ (t : Op). t.info) (λ (x : OpInfo). x.id) gone.ops tables.ops i;
  counts = tables.counts;
}

-- one that is not told of is followed as before, whatever was told of it
pub same_follows : (a b : Aggregating) (t : Taking) → b.held ≡ a.held → b.retention ≡ a.retention → infos_of b.tables ≡ infos_of a.tables → FollowsTaker a t → FollowsTaker b t
same_follows a b t held retention infos f = record {
  steps = f.steps;
  events = f.events ∙ ap (λ h. events_taken f.steps ++ map shown (held_events h)) (sym held);
  infos = infos ∙ f.infos;
  whole = λ none. infos ∙ f.whole (sym retention ∙ none);
}

-- items left of one that lets items leave
left_follows : (a b : Aggregating) (t : Taking) (gone : GoneView) (retention : ℕ) → a.retention ≡ Some retention → b.held ≡ a.held → b.retention ≡ a.retention → infos_of b.tables ≡ infos_without gone (infos_of a.tables)
    → FollowsTaker a t → FollowsTaker b t
left_follows a b t gone retention some held same infos f = record {
  steps = f.steps ++ left gone ∷ [];
  events =
      f.events ∙ ap (λ h. events_taken f.steps ++ map shown (held_events h)) (sym held)
      ∙ ap (λ xs. xs ++ map shown (held_events b.held)) (sym (taken-append f.steps (left gone ∷ []) ∙ append-nil (events_taken f.steps)));
  infos = infos ∙ ap (infos_without gone) f.infos ∙ sym (fold-append stepped no_infos f.steps (left gone ∷ []));
  whole = λ none. absurd (None≢Some retention (sym none ∙ (same ∙ some)));
}
  where
    None≢Some : (r : ℕ) → None ≡ Some r → ⊥
    None≢Some r e = absurd cc

-- a line went out whole
pub line_follows : (snapshot : Bool) (a : Aggregating) (now : ℕ) (t : Taking) → FollowsTaker a t → FollowsTaker (after_line snapshot a now) t
line_follows true a now t f = same_follows a (having_told a now) t refl refl refl f
line_follows false a now t f = by a.retention refl
  where
    by : (o : Option ℕ) → a.retention ≡ o → FollowsTaker (having_told (pruned o a now) now) t
    by None is = same_follows a (having_told a now) t refl refl refl f
    by (Some retention) is =
        let gone = due_of a.told now retention in
        left_follows a (having_told (without a gone) now) t gone retention is refl refl (infos_left a.tables gone) f

-- none went out
pub refused_follows : (why : StreamError) (snapshot : Bool) (a : Aggregating) (now : ℕ) (b : Aggregating) (before after : Option (List ℕ)) (t : Taking) → Refuses why snapshot a now b before after → FollowsTaker a t → FollowsTaker b t
refused_follows errors.Broken snapshot a now b before after t r f = subst (λ (x : Aggregating). FollowsTaker x t) (sym r.0) f
refused_follows errors.Clock snapshot a now b before after t r f = subst (λ (x : Aggregating). FollowsTaker x t) (sym r.0) f
refused_follows errors.NumbersSpent snapshot a now b before after t r f = subst (λ (x : Aggregating). FollowsTaker x t) (sym r.0) f
refused_follows errors.Memory snapshot a now b before after t r f = subst (λ (x : Aggregating). FollowsTaker x t) (sym r.0) f
refused_follows errors.WriteFault snapshot a now b before after t r f = subst (λ (x : Aggregating). FollowsTaker x t) (sym r.0) (same_follows a (record a { broken = true }) t refl refl refl f)
