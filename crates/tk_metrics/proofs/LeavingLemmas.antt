-- What leaves with one line more.
use Rattle.std.proofs.Common.{◌≡◌, ℕ, List, [], ◌∷◌, ◌++◌, map, cond, refl, ap, sym, subst, ◌∙◌, append_assoc, append-nil}
use Rattle.tk_stream.specs.Tables.{PollCounts, TablesView, empty_tables}
use Rattle.tk_stream.specs.Times.{TaskTimes}
use Rattle.tk_stream.specs.declared.tables.resource.Resource.{Resource}
use Rattle.tk_stream.specs.declared.tables.task.Task.{Task}
use Rattle.tk_client.specs.Changes.{ChangeView, IsChange, Timed, left_as, tasks_beside, untimed}
use Rattle.tk_client.specs.declared.change.LeftTask.{LeftTask}
use Rattle.tk_reading.specs.Shown.{last_shown, last_timed}
use Rattle.tk_series.specs.Series.{series_of}
use Rattle.tk_metrics.specs.declared.keys.Keys.{Keys}
use Rattle.tk_metrics.specs.declared.left.Left.{Left}
use Rattle.tk_metrics.specs.Leaving.{Holds, gone_in, left_entries, resources_between, resources_lost, resources_since, tasks_left, tasks_since, with_resources, with_tasks}
use Rattle.tk_metrics.specs.Metrics.{Gone}
use Rattle.tk_metrics.specs.Entries.{left_task}
use Rattle.tk_metrics.specs.Stays.{stays}
use Rattle.tk_metrics.specs.Sums.{both_ops, plus, resource_entry}

pub tasks_more : (by : Keys) (old : TablesView) (shown : List TablesView) (t : TablesView)
    → tasks_since by old (shown ++ t ∷ []) ≡ tasks_since by old shown ++ tasks_left by (last_shown old shown) t
tasks_more by old [] t = append-nil (tasks_left by old t)
tasks_more by old (s ∷ shown) t =
    ap (λ xs. tasks_left by old s ++ xs) (tasks_more by s shown t)
    ∙ sym (append_assoc (tasks_left by old s) (tasks_since by s shown) (tasks_left by (last_shown s shown) t))

resources_more : (old : TablesView) (shown : List TablesView) (t : TablesView)
    → resources_since old (shown ++ t ∷ [])
    ≡ resources_since old shown ++ map (resource_entry (last_shown old shown).counts) (resources_between (last_shown old shown) t)
resources_more old [] t = append-nil (map (resource_entry old.counts) (resources_between old t))
resources_more old (s ∷ shown) t =
    ap (λ xs. map (resource_entry old.counts) (resources_between old s) ++ xs) (resources_more s shown t)
    ∙ sym (append_assoc (map (resource_entry old.counts) (resources_between old s)) (resources_since s shown)
    (map (resource_entry (last_shown s shown).counts) (resources_between (last_shown s shown) t)))

-- of those that left stands what they were
entries_are : (by : Keys) (times : List TaskTimes) (ts : List Task) → map (λ (l : LeftTask). left_task by l.task) (map (left_as times) ts) ≡ map (left_task by) ts
entries_are by times [] = refl
entries_are by times (t ∷ ts) = ap (λ xs. left_task by t ∷ xs) (entries_are by times ts)

left-entries : (by : Keys) (before : Timed) (now : TablesView) → left_entries by (map (left_as before.1) (tasks_beside before.0 now)) ≡ tasks_left by before.0 now
left-entries by before now = ap (λ xs. cond (stays by.by) xs []) (entries_are by before.1 (tasks_beside before.0 now))

-- what a line changed was taken, and what has to be known of the next one
module _ (by : Keys) (shown : List TablesView) (timed : List Timed) (t : TablesView) (ts : List TaskTimes) (change : ChangeView) (is : IsChange (last_timed untimed timed) (t, ts) change)
    (same : (last_timed untimed timed).0 ≡ last_shown empty_tables shown) (old mid new : Left) (resources : List Resource) (counts : List PollCounts)
    (are : resources ≡ (last_shown empty_tables shown).resources) (counted : counts ≡ (last_shown empty_tables shown).counts) (h : Holds (gone_in by shown) old) where
  pub left_more : ((gone : Gone) → Holds gone old → Holds (with_tasks by change.left gone) mid)
      → ((gone : Gone) → Holds gone mid → Holds (with_resources resources counts t gone) new)
      → Holds (gone_in by (shown ++ t ∷ [])) new
  left_more tasks lost =
      let last = last_shown empty_tables shown in
      let left : left_entries by change.left ≡ tasks_left by last t =
      ap (left_entries by) is.left ∙ left-entries by (last_timed untimed timed) t ∙ ap (λ (b : TablesView). tasks_left by b t) same in
      let gone = gone_in by shown in
      let all = lost (with_tasks by change.left gone) (tasks gone h) in
      record {
        tasks = all.tasks ∙ ap (λ xs. series_of plus (gone.tasks ++ xs)) left ∙ ap (series_of plus) (sym (tasks_more by empty_tables shown t));
        resources = all.resources
            ∙ (λ i. series_of both_ops (gone.resources ++ map (resource_entry (counted i)) (resources_lost (are i) t)))
            ∙ ap (series_of both_ops) (sym (resources_more empty_tables shown t));
      }
