-- Histograms of what comes and leaves with one line more.
use Rattle.std.proofs.Common.{◌≡◌, ℕ, Bool, true, false, Option, Some, None, is_some, Result, OnOk, List, [], ◌∷◌, ◌++◌, map, refl, ap, sym, ◌∙◌, append_assoc, append-nil}
use Rattle.std.specs.Prelude.{nat_eq}
use Rattle.std.specs.List.{IsDistinct}
use Rattle.std.proofs.lemmas.Result.{on_ok_weaker}
use Rattle.tk_stream.specs.Tables.{TablesView, task_id}
use Rattle.tk_stream.specs.Times.{TaskTimes}
use Rattle.tk_stream.specs.declared.tables.task.Task.{Task}
use Rattle.tk_client.specs.Changes.{ChangeView, IsChange, Timed, tasks_beside, untimed}
use Rattle.tk_reading.specs.Shown.{last_timed}
use Rattle.tk_series.specs.Limited.{LimitedView, limited}
use Rattle.tk_sites.specs.Adding.{AreThere}
use Rattle.tk_sites.specs.Inner.{FollowsTimes}
use Rattle.tk_sites.specs.Site.{room}
use Rattle.tk_sites.specs.TimedSites.{came_times, left_times, shown_times, there_times, timed_changes, timed_changes_since, who_left}
use Rattle.tk_sites.specs.Times.{plus_times}
use Rattle.tk_sites.specs.declared.timed_sites.TimedSites.{TimedSites}
use Rattle.tk_sites.specs.declared.times.SiteTimes.{SiteTimes}
use Rattle.tk_sites.proofs.ChangeLemmas.{found}

timed_more : (old : Timed) (seen : List Timed) (t : Timed)
    → timed_changes_since old (seen ++ t ∷ []) ≡ timed_changes_since old seen ++ timed_changes (last_timed old seen) t
timed_more old [] t = append-nil (timed_changes old t)
timed_more old (s ∷ seen) t =
    ap (λ xs. timed_changes old s ++ xs) (timed_more s seen t)
    ∙ sym (append_assoc (timed_changes old s) (timed_changes_since s seen) (timed_changes (last_timed s seen) t))

module _ (seen : List Timed) (now : Timed) (change : ChangeView) (is : IsChange (last_timed untimed seen) now change) (once : IsDistinct nat_eq (map task_id now.0.tasks))
    (old came new : LimitedView SiteTimes) (h : old ≡ limited room plus_times (timed_changes_since untimed seen)) where
  -- what came and what left was added
  pub timed_noted : ((bs : List (List ℕ × SiteTimes)) (tasks : List Task) → old ≡ limited room plus_times bs → change.came ≡ map task_id tasks → AreThere now.0 tasks
      → came ≡ limited room plus_times (bs ++ map came_times tasks))
      → ((bs : List (List ℕ × SiteTimes)) → came ≡ limited room plus_times bs → new ≡ limited room plus_times (bs ++ map left_times change.left))
      → new ≡ limited room plus_times (timed_changes_since untimed (seen ++ now ∷ []))
  timed_noted comes leaves =
      let before = last_timed untimed seen in
      let since = timed_changes_since untimed seen in
      let coming = tasks_beside now.0 before.0 in
      let first = comes since coming h is.came (found now.0 before.0 once) in
      leaves (since ++ map came_times coming) first
      ∙ ap (λ xs. limited room plus_times ((since ++ map came_times coming) ++ map left_times xs)) is.left
      ∙ ap (limited room plus_times) (append_assoc since (map came_times coming) (map left_times (who_left before now)))
      ∙ ap (limited room plus_times) (sym (timed_more untimed seen now))

-- ---- whether histograms are shown

-- before the first line
pub is_shown : (shown : Bool) (s : TimedSites) → FollowsTimes shown [] s → is_some s.changes ≡ shown
is_shown true s h = ap is_some h.changes
is_shown false s h = ap is_some h.changes

-- a line more, if they are
pub some_more : {E : Type 0} (r : Result (Unit {0}) E) (shown : Bool) (seen : List Timed) (now : Timed) (old new : TimedSites) (a z : LimitedView SiteTimes)
    → old.changes ≡ Some a → new.changes ≡ Some z → FollowsTimes shown seen old
    → (a ≡ limited room plus_times (timed_changes_since untimed seen) → OnOk r (z ≡ limited room plus_times (timed_changes_since untimed (seen ++ now ∷ []))))
    → OnOk r (FollowsTimes shown (seen ++ now ∷ []) new)
some_more {E} r true seen now old new a z from to h more =
    let same : Some a ≡ Some (limited room plus_times (timed_changes_since untimed seen)) = sym from ∙ h.changes in
    let is : a ≡ limited room plus_times (timed_changes_since untimed seen) = cc in
    let next : z ≡ limited room plus_times (timed_changes_since untimed (seen ++ now ∷ [])) → FollowsTimes true (seen ++ now ∷ []) new =
    λ e. record { changes = to ∙ ap Some e } in
    on_ok_weaker r next (more is)
some_more r false seen now old new a z from to h more =
    let never : Some a ≡ None = sym from ∙ h.changes in
    absurd (cc)

-- what is there is added, if they are shown
pub some_now : (shown : Bool) (seen : List Timed) (tables : TablesView) (times : List TaskTimes) (s : TimedSites) (a z : LimitedView SiteTimes) → s.changes ≡ Some a
    → FollowsTimes shown seen s
    → ((bs : List (List ℕ × SiteTimes)) → a ≡ limited room plus_times bs → z ≡ limited room plus_times (bs ++ map (there_times times) tables.tasks))
    → Some z ≡ shown_times shown seen tables times
some_now true seen tables times s a z from h adds =
    let same : Some a ≡ Some (limited room plus_times (timed_changes_since untimed seen)) = sym from ∙ h.changes in
    let is : a ≡ limited room plus_times (timed_changes_since untimed seen) = cc in
    ap Some (adds (timed_changes_since untimed seen) is)
some_now false seen tables times s a z from h adds =
    let never : Some a ≡ None = sym from ∙ h.changes in
    absurd (cc)

pub none_now : (shown : Bool) (seen : List Timed) (tables : TablesView) (times : List TaskTimes) (s : TimedSites) → s.changes ≡ None → FollowsTimes shown seen s
    → None ≡ shown_times shown seen tables times
none_now true seen tables times s from h =
    let never : None ≡ Some (limited room plus_times (timed_changes_since untimed seen)) = sym from ∙ h.changes in
    absurd (cc)
none_now false seen tables times s from h = refl
