-- Histograms of how long polls ran: each task that is shown has one, where each that was taken has.
use Rattle.std.proofs.Common.{◌≡◌, ℕ, Bool, true, false, cond, List, [], ◌∷◌, ◌++◌, Option, Some, None, refl, sym, ap, ◌∙◌, subst}
use Rattle.std.specs.Prelude.{map, filter, not, IsSome, if◌then◌else◌}
use Rattle.std.specs.List.{AllByRecursion}
use Rattle.std.proofs.lemmas.List.{map-append}
use Rattle.tk_events.specs.Handles.{Taking}
use Rattle.tk_events.specs.Offers.{shown, times_ledger as histogram_of}
use Rattle.tk_events.specs.declared.event.Event.{Event}
use Rattle.tk_events.specs.declared.event.Event.TheVariants as events
use Rattle.tk_events.specs.declared.event.Shown.{Shown}
use Rattle.tk_events.specs.declared.item.Offer.{Offer}
use Rattle.tk_ledgers.specs.Handles.{KnownTimes}
use Rattle.tk_stream.specs.Lines.{is_told, told_times}
use Rattle.tk_stream.specs.Retention.{stats_without}
use Rattle.tk_stream.specs.Streams.{Sending}
use Rattle.tk_stream.specs.Tables.{is_among, staying, task_id, task_with, resource_with, op_with}
use Rattle.tk_stream.specs.Times.{TaskTimes, times_id, times_shown, same_times}
use Rattle.tk_stream.proofs.LinesLemmas.{map-same}
use Rattle.tk_aggregator.specs.Aggregates.{Aggregating, Gathers, TakesIn, TakesAllIn, TakesTimes, IsSound, after_line, free, held_events, leaving_at, sending_at}
use Rattle.tk_aggregator.specs.Timing.{TimingView}
use Rattle.tk_aggregator.proofs.FollowLemmas.{TakesWhere, by_case}
use Rattle.tk_aggregator.proofs.LeaveLemmas.{left_is}
use Rattle.tk_aggregator.proofs.SendLemmas.{leads_on}
use Rattle.tk_live.specs.Pasts.{Pasts}
use Rattle.tk_live.specs.Ran.{AreTimesOf, IsPolledTask, TellsTimes}
use Rattle.tk_live.specs.Runs.{HasTimes, HaveTimes}
use Rattle.tk_live.proofs.Rows.{all_stay}

-- ---- of all of two lists

module _ {X : Type 0} (P : X → Type 0) where
  pub all_first : (xs ys : List X) → AllByRecursion P (xs ++ ys) → AllByRecursion P xs
  all_first [] ys a = tt
  all_first (x ∷ xs) ys a = (a.0, all_first xs ys a.1)

  pub all_last : (xs ys : List X) → AllByRecursion P (xs ++ ys) → AllByRecursion P ys
  all_last [] ys a = a
  all_last (x ∷ xs) ys a = all_last xs ys a.1

module _ {X Y : Type 0} (f : X → Y) (P : Y → Type 0) where
  pub all_mapped : (xs : List X) → AllByRecursion (λ x. P (f x)) xs → AllByRecursion P (map f xs)
  all_mapped [] a = tt
  all_mapped (x ∷ xs) a = (a.0, all_mapped xs a.1)

  pub mapped_all : (xs : List X) → AllByRecursion P (map f xs) → AllByRecursion (λ x. P (f x)) xs
  mapped_all [] a = tt
  mapped_all (x ∷ xs) a = (a.0, mapped_all xs a.1)

-- ---- offers

-- events have what their offers have
of_offers : (os : List Offer) (es : List Event) → map (λ (o : Offer). o.event) os ≡ map shown es → HaveTimes os → AllByRecursion (λ e. HasTimes (shown e)) es
of_offers os es same all =
    mapped_all shown HasTimes es (subst (λ (l : List Shown). AllByRecursion HasTimes l) same (all_mapped (λ (o : Offer). o.event) HasTimes os all))

-- ---- events that are taken in

-- histograms are read, and there is one of each task
abbrev IsTimed : Aggregating → Type 0
IsTimed a = (a.timing.reads ≡ true) × (map times_id a.timing.shown ≡ map task_id a.tables.tasks)

-- a task's histogram goes last
takes_times : (id : ℕ) (times : Option KnownTimes) (old new : TimingView) → IsSome times → old.reads ≡ true → TakesTimes id times old new → (new.reads ≡ true) × (map times_id new.shown ≡ map times_id old.shown ++ id ∷ [])
takes_times id None old new has reads takes = absurd cc
takes_times id (Some known) old new has reads takes = by old.reads reads takes
  where
    by : (b : Bool) → b ≡ true → TakesWhere id known old new b → (new.reads ≡ true) × (map times_id new.shown ≡ map times_id old.shown ++ id ∷ [])
    by true e t = (ap (λ (x : TimingView). x.reads) t.3 ∙ reads, ap (λ (x : TimingView). map times_id x.shown) t.3 ∙ map-append times_id old.shown ((id, times_shown t.0) ∷ []))
    by false e t = absurd cc

same_timed : (old new : Aggregating) → new.timing ≡ old.timing → new.tables.tasks ≡ old.tables.tasks → IsTimed old → IsTimed new
same_timed old new timing tasks is = (ap (λ (t : TimingView). t.reads) timing ∙ is.0, ap (λ (t : TimingView). map times_id t.shown) timing ∙ is.1 ∙ sym (ap (map task_id) tasks))

-- an owner has a histogram where its event shows one's ledger, and the other way round
has_known : (times : Option KnownTimes) → IsSome (histogram_of times) → IsSome times
has_known None has = absurd cc
has_known (Some known) has = refl

pub has_ledger : (times : Option KnownTimes) → IsSome times → IsSome (histogram_of times)
has_ledger None has = absurd cc
has_ledger (Some known) has = refl

takes_one : (old : Aggregating) (e : Event) (new : Aggregating) → TakesIn old e new → HasTimes (shown e) → IsTimed old → IsTimed new
takes_one old (events.Task info handle) new p has is =
    by_case (task_with info.id old.tables.tasks) _ _ (IsTimed new) (λ q. Unit {0}) p.0 p.1
    (λ x there q. subst IsTimed (sym q) is)
    (λ none q.
    let t = takes_times info.id handle.times old.timing new.timing (has_known handle.times has) is.0 q.4 in
    (t.0, t.1 ∙ ap (λ ids. ids ++ info.id ∷ []) is.1 ∙ sym (ap (λ (a : Aggregating). map task_id a.tables.tasks) q.3 ∙ map-append task_id old.tables.tasks (record { info = info; row = q.0 } ∷ []))))
    tt
takes_one old (events.Resource info handle) new p has is =
    by_case (resource_with info.id old.tables.resources) _ _ (IsTimed new) (λ q. Unit {0}) p.0 p.1
    (λ x there q. subst IsTimed (sym q) is)
    (λ none q. same_timed old new (ap (λ (a : Aggregating). a.timing) q.3) (ap (λ (a : Aggregating). a.tables.tasks) q.3) is)
    tt
takes_one old (events.Op info handle) new p has is =
    by_case (op_with info.id old.tables.ops) _ _ (IsTimed new) (λ q. Unit {0}) p.0 p.1
    (λ x there q. subst IsTimed (sym q) is)
    (λ none q. same_timed old new (ap (λ (a : Aggregating). a.timing) q.3) (ap (λ (a : Aggregating). a.tables.tasks) q.3) is)
    tt
takes_one old (events.Poll op) new p has is = same_timed old new (ap (λ (a : Aggregating). a.timing) p) (ap (λ (a : Aggregating). a.tables.tasks) p) is

takes_all : (old : Aggregating) (es : List Event) (new : Aggregating) → TakesAllIn old es new → AllByRecursion (λ e. HasTimes (shown e)) es → IsTimed old → IsTimed new
takes_all old [] new all have is = subst IsTimed (sym all) is
takes_all old (e ∷ es) new all have is = takes_all all.0 es new all.2 have.1 (takes_one old e all.0 all.1 have.0 is)

-- whatever was taken in by one that held no event, each task that is shown has a histogram where each that was taken has
pub gathered_times : (a b : Aggregating) (t u : Taking) (taken : List Event) → Gathers a t taken b u → a.held ≡ None → a.timing.reads ≡ true → map times_id a.timing.shown ≡ map task_id a.tables.tasks → HaveTimes u.taken
    → map times_id b.timing.shown ≡ map task_id b.tables.tasks
gathered_times a b t u taken g none reads each all =
    let both : HaveTimes (t.taken ++ g.offers) = subst (λ (x : Taking). HaveTimes x.taken) g.taker all in
    let came = of_offers g.offers g.came g.are_offered (all_last (λ (o : Offer). HasTimes o.event) t.taken g.offers both) in
    let Has : Event → Type 0 = λ e. HasTimes (shown e) in
    let in_order : g.came ≡ taken ++ held_events b.held = ap (λ h. held_events h ++ g.came) (sym none) ∙ g.in_order in
    let have : AllByRecursion Has (taken ++ held_events b.held) = subst (λ (l : List Event). AllByRecursion Has l) in_order came in
    (takes_all (free a) taken (free b) g.taken_in (all_first Has taken (held_events b.held) have) (reads, each)).1

-- ---- a line

-- the ids of what stays
stay_ids : {Item : Type 0} (id_of : Item → ℕ) (gone : List ℕ) (xs : List Item) → map id_of (staying id_of gone xs) ≡ filter (λ id. not (is_among gone id)) (map id_of xs)
stay_ids id_of gone [] = refl
stay_ids id_of gone (x ∷ xs) = by (not (is_among gone (id_of x))) (stay_ids id_of gone xs)
  where
    by : (b : Bool) → map id_of (staying id_of gone xs) ≡ filter (λ id. not (is_among gone id)) (map id_of xs)
        → map id_of (cond b (x ∷ staying id_of gone xs) (staying id_of gone xs)) ≡ cond b (id_of x ∷ filter (λ id. not (is_among gone id)) (map id_of xs)) (filter (λ id. not (is_among gone id)) (map id_of xs))
    by true e = ap (λ ids. id_of x ∷ ids) e
    by false e = e

-- it does not matter which of two tests comes first
filter_swap : {X : Type 0} (p q : X → Bool) (xs : List X) → filter p (filter q xs) ≡ filter q (filter p xs)
filter_swap p q [] = refl
filter_swap p q (x ∷ xs) = by (p x) refl (q x) refl (filter_swap p q xs)
  where
    by : (b : Bool) → p x ≡ b → (c : Bool) → q x ≡ c → filter p (filter q xs) ≡ filter q (filter p xs) → filter p (cond c (x ∷ filter q xs) (filter q xs)) ≡ filter q (cond b (x ∷ filter p xs) (filter p xs))
    by true is true so e = rw (is, so) (ap (λ zs. x ∷ zs) e)
    by true is false so e = rw so e
    by false is true so e = rw is e
    by false is false so e = e

-- of those that stay the same is told
told_stay : (gone : List ℕ) (old xs : List TaskTimes) → stats_without times_id gone (told_times old xs) ≡ told_times old (staying times_id gone xs)
told_stay gone old xs =
    let stays : TaskTimes → Bool = λ t. not (is_among gone (times_id t)) in
    let differs : TaskTimes → Bool = is_told times_id same_times old in
    ap (filter stays) (map-same (filter differs xs)) ∙ filter_swap stays differs xs ∙ sym (map-same (filter differs (filter stays xs)))

-- a line leads to those that stay
stay_shown : (whole : Bool) (a : Aggregating) (now : ℕ) → staying times_id (leaving_at whole a now).tasks a.timing.shown ≡ (after_line whole a now).timing.shown
stay_shown whole a now = ap (λ (x : Aggregating). x.timing.shown) (left_is whole a now)

-- one of each task that stays
pub line_one_each : (whole : Bool) (a : Aggregating) (now : ℕ) → map times_id a.timing.shown ≡ map task_id a.tables.tasks → map times_id (after_line whole a now).timing.shown ≡ map task_id (after_line whole a now).tables.tasks
line_one_each whole a now each =
    let gone = (leaving_at whole a now).tasks in
    sym (ap (map times_id) (stay_shown whole a now)) ∙ stay_ids times_id gone a.timing.shown ∙ ap (filter (λ id. not (is_among gone id))) each ∙ sym (stay_ids task_id gone a.tables.tasks)
    ∙ ap (λ (x : Aggregating). map task_id x.tables.tasks) (left_is whole a now)

-- the line tells the histograms of its tasks, where these are read
module _ (ps : Pasts) (whole : Bool) (a : Aggregating) (now : ℕ) (sound : IsSound a) (polls : AllByRecursion (IsPolledTask ps) a.timing.shown) where
  tells_all : a.timing.reads ≡ true → map times_id a.timing.shown ≡ map task_id a.tables.tasks → AreTimesOf ps a.told a.timing.told (sending_at whole a now)
  tells_all reads each =
      let s : Sending = sending_at whole a now in
      let base : List TaskTimes = if whole then [] else a.timing.told in
      let gone = (leaving_at whole a now).tasks in
      let leads = leads_on a now whole sound in
      record {
        told =
            ap (λ r. if r then Some (stats_without times_id gone (told_times base a.timing.shown)) else None) reads
            ∙ ap Some (told_stay gone base a.timing.shown ∙ ap (told_times base) (stay_shown whole a now ∙ sym leads));
        one_each = ap (map times_id) leads ∙ line_one_each whole a now each;
        polls = subst (λ (xs : List TaskTimes). AllByRecursion (IsPolledTask ps) xs) (stay_shown whole a now ∙ sym leads) (all_stay (IsPolledTask ps) _ a.timing.shown polls);
      }

  -- and where these aren't it tells none
  pub line_tells : (times : Bool) → a.timing.reads ≡ times → (times ≡ true → map times_id a.timing.shown ≡ map task_id a.tables.tasks) → TellsTimes times ps a.told a.timing.told (sending_at whole a now)
  line_tells true reads each = tells_all reads (each refl)
  line_tells false reads each = ap (λ r. if r then Some (stats_without times_id (leaving_at whole a now).tasks (told_times (if whole then [] else a.timing.told) a.timing.shown)) else None) reads
