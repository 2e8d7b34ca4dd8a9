-- Items stay: what is taken in goes after them.
use Rattle.std.proofs.Common.{◌≡◌, ℕ, List, [], ◌∷◌, ◌++◌, Bool, true, false, cond, nat_eq, refl, sym, ap, ◌∙◌, subst, append_assoc, append-nil}
use Rattle.std.proofs.lemmas.Bool.{eqb-true}
use Rattle.tk_core.specs.declared.reply.Reply.{Reply}
use Rattle.tk_events.specs.Handles.{Taking}
use Rattle.tk_events.specs.declared.event.Event.{Event}
use Rattle.tk_events.specs.declared.event.Event.TheVariants as events
use Rattle.tk_ledgers.specs.Handles.{KnownTimes, Sight}
use Rattle.std.specs.Prelude.{Option, None, Some}
use Rattle.tk_stream.specs.Polls.{one_more}
use Rattle.tk_stream.specs.Times.{times_shown}
use Rattle.tk_aggregator.specs.Timing.{TimingView}
use Rattle.tk_aggregator.specs.Aggregates.{Aggregating, Gathers, Collects, TakesIn, TakesTimes, TakesAllIn, IsLaterOf, free}
use Rattle.tk_stream.specs.Applied.{Kind, task_kind, resource_kind, op_kind, counts_kind, times_kind, BeginWith}
use Rattle.tk_aggregator.specs.Readings.{IsLater, AreLater}
use Rattle.tk_stream.specs.Tables.{PollCounts, counts_id, counts_of, put_item, task_with, resource_with, op_with}
use Rattle.tk_aggregator.proofs.FollowLemmas.{TakesWhere, by_case}
use Rattle.tk_aggregator.proofs.RefreshLemmas.{begins_itself}

begins_more : {I Info Stats : Type 0} (k : Kind I Info Stats) (xs more : List I) → BeginWith k xs (xs ++ more)
begins_more k [] more = tt
begins_more k (x ∷ xs) more = (refl, begins_more k xs more)

begins_then : {I Info Stats : Type 0} (k : Kind I Info Stats) (xs ys zs : List I) → BeginWith k xs ys → BeginWith k ys zs → BeginWith k xs zs
begins_then k [] ys zs p q = tt
begins_then k (x ∷ xs) [] zs p q = absurd p
begins_then k (x ∷ xs) (y ∷ ys) [] p q = absurd q
begins_then k (x ∷ xs) (y ∷ ys) (z ∷ zs) p q = (p.0 ∙ q.0, begins_then k xs ys zs p.1 q.1)

begins_put : (c : PollCounts) (xs : List PollCounts) → BeginWith counts_kind xs (put_item counts_id c xs)
begins_put c [] = tt
begins_put c (x ∷ xs) = by (nat_eq c.0 x.0) refl (begins_put c xs)
  where
    by : (b : Bool) → nat_eq c.0 x.0 ≡ b → BeginWith counts_kind xs (put_item counts_id c xs) → BeginWith counts_kind (x ∷ xs) (cond b (c ∷ xs) (x ∷ put_item counts_id c xs))
    by true e rest = (sym (eqb-true c.0 x.0 e), begins_itself counts_kind xs)
    by false e rest = (refl, rest)

module _ {Row C : Type 0} where
  later_itself : (s : Sight Row C (Reply Row)) → IsLater s s
  later_itself s = record { id = refl; ledger = refl; caller = refl; opening = refl; seen = ([], append-nil s.token.view.seen) }

  later_then : (s t u : Sight Row C (Reply Row)) → IsLater s t → IsLater t u → IsLater s u
  later_then s t u p q = record {
    id = q.id ∙ p.id;
    ledger = q.ledger ∙ p.ledger;
    caller = q.caller ∙ p.caller;
    opening = q.opening ∙ p.opening;
    seen = (p.seen.0 ++ q.seen.0, sym (append_assoc s.token.view.seen p.seen.0 q.seen.0) ∙ ap (λ xs. xs ++ q.seen.0) p.seen.1 ∙ q.seen.1);
  }

  all_more : (ss more : List (Sight Row C (Reply Row))) → AreLater ss (ss ++ more)
  all_more [] more = tt
  all_more (s ∷ ss) more = (later_itself s, all_more ss more)

  all_same : (ss : List (Sight Row C (Reply Row))) → AreLater ss ss
  all_same [] = tt
  all_same (s ∷ ss) = (later_itself s, all_same ss)

  all_then : (ss ts us : List (Sight Row C (Reply Row))) → AreLater ss ts → AreLater ts us → AreLater ss us
  all_then [] ts us p q = tt
  all_then (s ∷ ss) [] us p q = absurd p
  all_then (s ∷ ss) (t ∷ ts) [] p q = absurd q
  all_then (s ∷ ss) (t ∷ ts) (u ∷ us) p q = (later_then s t u p.0 q.0, all_then ss ts us p.1 q.1)

pub same_items : (a : Aggregating) → IsLaterOf a a
same_items a = record {
  items = record { tasks = begins_itself task_kind a.tables.tasks; resources = begins_itself resource_kind a.tables.resources; ops = begins_itself op_kind a.tables.ops; counts = begins_itself counts_kind a.tables.counts };
  tasks = all_same a.tasks;
  resources = all_same a.resources;
  ops = all_same a.ops;
  times = begins_itself times_kind a.timing.shown;
  readers = all_same a.timing.readers;
}

pub then_later : (a b c : Aggregating) → IsLaterOf a b → IsLaterOf b c → IsLaterOf a c
then_later a b c p q = record {
  items = record {
    tasks = begins_then task_kind a.tables.tasks b.tables.tasks c.tables.tasks p.items.tasks q.items.tasks;
    resources = begins_then resource_kind a.tables.resources b.tables.resources c.tables.resources p.items.resources q.items.resources;
    ops = begins_then op_kind a.tables.ops b.tables.ops c.tables.ops p.items.ops q.items.ops;
    counts = begins_then counts_kind a.tables.counts b.tables.counts c.tables.counts p.items.counts q.items.counts;
  };
  tasks = all_then a.tasks b.tasks c.tasks p.tasks q.tasks;
  resources = all_then a.resources b.resources c.resources p.resources q.resources;
  ops = all_then a.ops b.ops c.ops p.ops q.ops;
  times = begins_then times_kind a.timing.shown b.timing.shown c.timing.shown p.times q.times;
  readers = all_then a.timing.readers b.timing.readers c.timing.readers p.readers q.readers;
}

-- a task's histogram goes after those that are there
times_later : (id : ℕ) (known : Option KnownTimes) (old new : TimingView) → TakesTimes id known old new → BeginWith times_kind old.shown new.shown × AreLater old.readers new.readers
times_later id None old new p = subst (λ (t : TimingView). BeginWith times_kind old.shown t.shown × AreLater old.readers t.readers) (sym p) (begins_itself times_kind old.shown, all_same old.readers)
times_later id (Some known) old new p = by old.reads p
  where
    by : (b : Bool) → TakesWhere id known old new b → BeginWith times_kind old.shown new.shown × AreLater old.readers new.readers
    by true q =
        subst (λ (t : TimingView). BeginWith times_kind old.shown t.shown × AreLater old.readers t.readers) (sym q.3)
        (begins_more times_kind old.shown ((id, times_shown q.0) ∷ []), all_more old.readers (q.1 ∷ []))
    by false q = subst (λ (t : TimingView). BeginWith times_kind old.shown t.shown × AreLater old.readers t.readers) (sym q) (begins_itself times_kind old.shown, all_same old.readers)

takes_later : (old : Aggregating) (e : Event) (new : Aggregating) → TakesIn old e new → IsLaterOf old new
takes_later old (events.Task info handle) new p =
    by_case (task_with info.id old.tables.tasks) _ _ (IsLaterOf old new) (λ q. Unit {0}) p.0 p.1 (λ x is q. subst (λ (a : Aggregating). IsLaterOf old a) (sym q) (same_items old))
    (λ is q. subst (λ (a : Aggregating). IsLaterOf old a) (sym q.3) (record {
      items = record { tasks = begins_more task_kind old.tables.tasks (record { info = info; row = q.0 } ∷ []); resources = begins_itself resource_kind old.tables.resources; ops = begins_itself op_kind old.tables.ops; counts = begins_itself counts_kind old.tables.counts };
      tasks = all_more old.tasks (q.1 ∷ []);
      resources = all_same old.resources;
      ops = all_same old.ops;
      times = (times_later info.id handle.times old.timing new.timing q.4).0;
      readers = (times_later info.id handle.times old.timing new.timing q.4).1;
    })) tt
takes_later old (events.Resource info handle) new p =
    by_case (resource_with info.id old.tables.resources) _ _ (IsLaterOf old new) (λ q. Unit {0}) p.0 p.1 (λ x is q. subst (λ (a : Aggregating). IsLaterOf old a) (sym q) (same_items old))
    (λ is q. subst (λ (a : Aggregating). IsLaterOf old a) (sym q.3) (record {
      items = record { tasks = begins_itself task_kind old.tables.tasks; resources = begins_more resource_kind old.tables.resources (record { info = info; row = q.0 } ∷ []); ops = begins_itself op_kind old.tables.ops; counts = begins_itself counts_kind old.tables.counts };
      tasks = all_same old.tasks;
      resources = all_more old.resources (q.1 ∷ []);
      ops = all_same old.ops;
      times = begins_itself times_kind old.timing.shown;
      readers = all_same old.timing.readers;
    })) tt
takes_later old (events.Op info handle) new p =
    by_case (op_with info.id old.tables.ops) _ _ (IsLaterOf old new) (λ q. Unit {0}) p.0 p.1 (λ x is q. subst (λ (a : Aggregating). IsLaterOf old a) (sym q) (same_items old))
    (λ is q. subst (λ (a : Aggregating). IsLaterOf old a) (sym q.3) (record {
      items = record { tasks = begins_itself task_kind old.tables.tasks; resources = begins_itself resource_kind old.tables.resources; ops = begins_more op_kind old.tables.ops (record { info = info; row = q.0 } ∷ []); counts = begins_itself counts_kind old.tables.counts };
      tasks = all_same old.tasks;
      resources = all_same old.resources;
      ops = all_more old.ops (q.1 ∷ []);
      times = begins_itself times_kind old.timing.shown;
      readers = all_same old.timing.readers;
    })) tt
takes_later old (events.Poll op) new p =
    subst (λ (a : Aggregating). IsLaterOf old a) (sym p) (record {
      items = record { tasks = begins_itself task_kind old.tables.tasks; resources = begins_itself resource_kind old.tables.resources; ops = begins_itself op_kind old.tables.ops; counts = begins_put (op.resource, (one_more op.ready (counts_of op.resource old.tables.counts)).0, (one_more op.ready (counts_of op.resource old.tables.counts)).1) old.tables.counts };
      tasks = all_same old.tasks;
      resources = all_same old.resources;
      ops = all_same old.ops;
      times = begins_itself times_kind old.timing.shown;
      readers = all_same old.timing.readers;
    })

takes_all_later : (old : Aggregating) (es : List Event) (new : Aggregating) → TakesAllIn old es new → IsLaterOf old new
takes_all_later old [] new all = subst (λ (a : Aggregating). IsLaterOf old a) (sym all) (same_items old)
takes_all_later old (e ∷ es) new all = then_later old all.0 new (takes_later old e all.0 all.1) (takes_all_later all.0 es new all.2)

pub gathers_later : (a : Aggregating) (t : Taking) (taken : List Event) (b : Aggregating) (u : Taking) → Gathers a t taken b u → IsLaterOf a b
gathers_later a t taken b u g = let s = takes_all_later (free a) taken (free b) g.taken_in in record { items = s.items; tasks = s.tasks; resources = s.resources; ops = s.ops; times = s.times; readers = s.readers }

pub collects_later : (a : Aggregating) (t : Taking) (limit count : ℕ) (b : Aggregating) (u : Taking) → Collects a t limit count b u → IsLaterOf a b
collects_later a t limit count b u k =
    let s = gathers_later a t k.gathering.taken k.gathered k.taker k.gathering.gathers in
    subst (λ (x : Aggregating). IsLaterOf a x) (sym k.now) (record {
      items = record { tasks = s.items.tasks; resources = s.items.resources; ops = s.items.ops; counts = s.items.counts };
      tasks = s.tasks;
      resources = s.resources;
      ops = s.ops;
      times = s.times;
      readers = s.readers;
    })
