-- What all tasks gained, by those alone that may have gained something.
use Rattle.std.proofs.Common.{◌≡◌, ℕ, suc, ◌+◌, ◌-◌, ◌^◌, ◌≤◌, List, [], ◌∷◌, ◌++◌, length, map, slice_get, Bool, true, false, cond, nat_eq, Option, Some, None, is_some, refl, ap, ap₂, sym, ◌∙◌, append_assoc, arith}
use Rattle.std.specs.Prelude.{fold, option_map}
use Rattle.std.specs.List.{AllByRecursion, IsDistinct}
use Rattle.std.specs.Option.{option_map_or}
use Rattle.std.proofs.lemmas.Bool.{or_parts}
use Rattle.indexmap.specs.IndexMap.{get}
use Rattle.tk_client.proofs.IdLemmas.{own}
use Rattle.tk_client.specs.Candidates.{places_by}
use Rattle.tk_client.specs.Changes.{ChangeView, Leads}
use Rattle.tk_core.specs.Lasting.{busy_until, sched_until}
use Rattle.tk_core.specs.Lists.{capped}
use Rattle.tk_core.specs.declared.task.row.TaskRow.{TaskRow}
use Rattle.tk_odd.specs.Keeping.{lasts, lasts_in, may_gain}
use Rattle.tk_stream.specs.Tables.{TablesView, is_among, task_id, task_with}
use Rattle.tk_stream.specs.declared.tables.task.Task.{Task}
use Rattle.tk_page.specs.Kept.{AreTracks, FollowsAt, come_by, gain_of, last_of, total_more, with_gain_by}
use Rattle.tk_page.specs.Samples.{gained, nothing, plus, sample_of}
use Rattle.tk_page.specs.declared.sample.Sample.{Sample}
use Rattle.tk_page.specs.declared.track.Track.{Track}
use Rattle.tk_page.specs.declared.tracks.Tracks.{Tracks}

-- ---- sums

-- each number of a sum is one of 64 bits
pub record Fits (s : Sample) : Type 0 where
  pub busy : s.busy ≤ 2 ^ 64 - 1
  pub sched : s.sched ≤ 2 ^ 64 - 1
  pub polls : s.polls ≤ 2 ^ 64 - 1
  pub wakes : s.wakes ≤ 2 ^ 64 - 1
  pub own : s.own ≤ 2 ^ 64 - 1

fits : (s t : Sample) → Fits (plus s t)
fits s t = record { busy = omega arith; sched = omega arith; polls = omega arith; wakes = omega arith; own = omega arith }

nothing_added : (a b c : ℕ) → b ≡ c → a ≤ 2 ^ 64 - 1 → capped (a + (b - c)) ≡ a
nothing_added a b c same small = omega (arith, same, small)

-- a task that neither runs nor waits, and is as it was, adds nothing
nothing_gained : (x : TaskRow) (before now : ℕ) (s : Sample) → lasts x ≡ false → Fits s → plus s (gained (sample_of x now) (sample_of x before)) ≡ s
nothing_gained x before now s none small =
    let p = or_parts x.polling x.scheduled none in
    let busy_same : busy_until x now ≡ busy_until x before = rw p.0 refl in
    let sched_same : sched_until x now ≡ sched_until x before = rw p.0 (rw p.1 refl) in
    let busy = nothing_added s.busy (busy_until x now) (busy_until x before) busy_same small.busy in
    let sched = nothing_added s.sched (sched_until x now) (sched_until x before) sched_same small.sched in
    let polls = nothing_added s.polls x.polls x.polls refl small.polls in
    let wakes = nothing_added s.wakes x.wakes x.wakes refl small.wakes in
    let own = nothing_added s.own x.self_wakes x.self_wakes refl small.own in
    λ i. record { now = s.now; busy = busy i; sched = sched i; polls = polls i; wakes = wakes i; own = own i }

-- ---- those at some places

module _ (f : Sample → Task → Sample) (small : (s : Sample) (t : Task) → Fits (f s t)) (p : Task → Bool) where
  abbrev at : List Task → Sample → ℕ → Sample
  at tasks s i = option_map_or (f s) (slice_get tasks i) s

  skipped-from : (front tasks all : List Task) (b : ℕ) → b ≡ length front → all ≡ front ++ tasks
      → AllByRecursion (λ (t : Task). p t ≡ false → (s : Sample) → Fits s → f s t ≡ s) tasks → (s : Sample) → Fits s → fold (at all) s (places_by p b tasks) ≡ fold f s tasks
  skipped-from front [] all b is e quiet s fit = refl
  skipped-from front (t ∷ ts) all b is e quiet s fit =
      by (p t) refl (λ (n : Sample) (fine : Fits n). skipped-from (front ++ t ∷ []) ts all (suc b) (ap suc is ∙ sym (long front)) (e ∙ sym (append_assoc front (t ∷ []) ts)) quiet.1 n fine)
    where
      long : (xs : List Task) → length (xs ++ t ∷ []) ≡ suc (length xs)
      long [] = refl
      long (x ∷ xs) = ap suc (long xs)

      there : (xs : List Task) → slice_get (xs ++ t ∷ ts) (length xs) ≡ Some t
      there [] = refl
      there (x ∷ xs) = there xs

      here : at all s b ≡ f s t
      here = ap (λ (o : Option Task). option_map_or (f s) o s) (ap₂ slice_get e is ∙ there front)

      by : (c : Bool) → p t ≡ c → ((n : Sample) → Fits n → fold (at all) n (places_by p (suc b) ts) ≡ fold f n ts)
          → fold (at all) s (cond c (b ∷ places_by p (suc b) ts) (places_by p (suc b) ts)) ≡ fold f (f s t) ts
      by true h rest = ap (λ (n : Sample). fold (at all) n (places_by p (suc b) ts)) here ∙ rest (f s t) (small s t)
      by false h rest = rest s fit ∙ ap (λ (n : Sample). fold f n ts) (sym (quiet.0 h s fit))

  -- a sum over the places of what passes a test is that over all, where the others add nothing
  skipped : (tasks : List Task) → AllByRecursion (λ (t : Task). p t ≡ false → (s : Sample) → Fits s → f s t ≡ s) tasks → (s : Sample) → Fits s
      → fold (at tasks) s (places_by p 0 tasks) ≡ fold f s tasks
  skipped tasks quiet s fit = skipped-from [] tasks tasks 0 refl refl quiet s fit

-- ---- who adds nothing

each : {X : Type 0} (P Q : X → Type 0) → ((x : X) → P x → Q x) → (xs : List X) → AllByRecursion P xs → AllByRecursion Q xs
each P Q h [] all = tt
each P Q h (x ∷ xs) all = (h x all.0, each P Q h xs all.1)

module _ (before after : TablesView) (change : ChangeView) (l : Leads before after change) (lasting : List ℕ) (k : (id : ℕ) → is_among lasting id ≡ lasts_in before id) where
  same_sum : (t : Task) → task_with t.info.id after.tasks ≡ Some t → may_gain change.told lasting t ≡ false → (s : Sample) → Fits s → plus s (gain_of before after t) ≡ s
  same_sum t found quiet s small =
      let p = or_parts (is_among change.told t.info.id) (is_among lasting t.info.id) quiet in
      let was : task_with t.info.id before.tasks ≡ Some t = sym (l.is.same t.info.id p.0 (ap is_some found)).task ∙ found in
      let idle : lasts t.row ≡ false =
      ap (λ (o : Option Task). option_map_or lasts (option_map (λ (x : Task). x.row) o) false) (sym was) ∙ sym (k t.info.id) ∙ p.1 in
      ap (λ (o : Option Task). plus s (gained (sample_of t.row after.now) (option_map_or (λ (x : Task). sample_of x.row before.now) o (nothing 0)))) was
      ∙ nothing_gained t.row before.now after.now s idle small

  others_same : IsDistinct nat_eq (map task_id after.tasks)
      → AllByRecursion (λ (t : Task). may_gain change.told lasting t ≡ false → (s : Sample) → Fits s → plus s (gain_of before after t) ≡ s) after.tasks
  others_same once = each _ _ same_sum after.tasks (own task_id after.tasks once)

-- ---- by tracks

none_some : {A : Type 0} {B : Type 0} (a : A) → None ≡ Some a → B
none_some a e = absurd (cc)

same_some : {A : Type 0} (a b : A) → Some a ≡ Some b → a ≡ b
same_some a b e = cc

-- what a task had come to by its track is what it had come to
come_same : (moment : ℕ) (moments : List ℕ) (xs : List Sample) (o : Option Track) (q : Option Task) → FollowsAt moments xs (option_map (λ (t : Task). t.row) q) o
    → come_by moment o ≡ option_map_or (λ (t : Task). sample_of t.row moment) q (nothing 0)
come_same moment moments xs None None h = refl
come_same moment moments xs None (Some t) h = none_some t.row (sym h.0)
come_same moment moments xs (Some track) None h = none_some track.row h.row
come_same moment moments xs (Some track) (Some t) h = ap (λ (r : TaskRow). sample_of r moment) (sym (same_some t.row track.row h.row))

pub total_is : (shown : List TablesView) (tables : TablesView) (change : ChangeView) (tracks : Tracks) (total : Sample) → Leads (last_of shown) tables change → AreTracks shown tracks
    → total.now ≡ (last_of shown).now → IsDistinct nat_eq (map task_id tables.tasks)
    → fold (λ (sum : Sample) (place : ℕ). option_map_or (with_gain_by total.now tables tracks sum) (slice_get tables.tasks place) sum) (plus (nothing tables.now) total)
    (places_by (may_gain change.told tracks.lasting.keys) 0 tables.tasks)
    ≡ total_more total (last_of shown) tables
unfolding total_more
total_is shown tables change tracks total l h moment once = by_tracks ∙ by_places
  where
    places : List ℕ
    places = places_by (may_gain change.told tracks.lasting.keys) 0 tables.tasks

    start : Sample
    start = plus (nothing tables.now) total

    same : (t : Task) → gained (sample_of t.row tables.now) (come_by total.now (get nat_eq tracks.tasks (task_id t))) ≡ gain_of (last_of shown) tables t
    same t =
        ap (gained (sample_of t.row tables.now))
        (ap (λ (m : ℕ). come_by m (get nat_eq tracks.tasks (task_id t))) moment
        ∙ come_same (last_of shown).now _ _ (get nat_eq tracks.tasks (task_id t)) (task_with (task_id t) (last_of shown).tasks) (h.tasks (task_id t)))

    by_tracks : fold (λ (sum : Sample) (place : ℕ). option_map_or (with_gain_by total.now tables tracks sum) (slice_get tables.tasks place) sum) start places
        ≡ fold (λ (sum : Sample) (place : ℕ). option_map_or (λ (t : Task). plus sum (gain_of (last_of shown) tables t)) (slice_get tables.tasks place) sum) start places
    by_tracks = λ i. fold (λ (sum : Sample) (place : ℕ). option_map_or (λ (t : Task). plus sum (same t i)) (slice_get tables.tasks place) sum) start places

    by_places : fold (λ (sum : Sample) (place : ℕ). option_map_or (λ (t : Task). plus sum (gain_of (last_of shown) tables t)) (slice_get tables.tasks place) sum) start places
        ≡ fold (λ (sum : Sample) (t : Task). plus sum (gain_of (last_of shown) tables t)) start tables.tasks
    by_places =
        skipped (λ (sum : Sample) (t : Task). plus sum (gain_of (last_of shown) tables t)) (λ (sum : Sample) (t : Task). fits sum (gain_of (last_of shown) tables t))
        (may_gain change.told tracks.lasting.keys) tables.tasks (others_same (last_of shown) tables change l tracks.lasting.keys h.lasting once) start (fits (nothing tables.now) total)
