-- Histograms of tasks that are there have no fault: none stands twice, none is of a task that is gone, and each is of a task that was there or is new.
use Rattle.std.proofs.Common.{◌≡◌, ℕ, List, [], ◌∷◌, Bool, true, false, cond, nat_eq, Option, Some, None, inl, inr, refl, ap, ap₂, sym, ◌∙◌, true≢false}
use Rattle.std.specs.Prelude.{map, filter, is_none, is_some, IsSome, not, ◌||◌, unwrap_or, ◌⊎◌}
use Rattle.std.specs.List.{list_any, AllByRecursion, IsDistinct}
use Rattle.std.proofs.lemmas.Bool.{eqb-true}
use Rattle.tk_stream.specs.declared.tables.task.Task.{Task}
use Rattle.tk_stream.specs.Lines.{LineView, is_new, gone_ids, gone_of, new_infos, task_info, with_times}
use Rattle.tk_stream.specs.Streams.{AreToldOf}
use Rattle.tk_stream.specs.Tables.{TablesView, task_id, task_with, is_among}
use Rattle.tk_stream.specs.Times.{TaskTimes, times_id}
use Rattle.tk_client.specs.Taking.{has_twice, has_id, new_id, repeats_times, is_strange_task, strange_times, line_applied, line_checked}
use Rattle.tk_client.proofs.TimesLemmas.{none_among}

-- a line between tables: nothing is gone, or what isn't there any more; and the tasks are new that weren't there
pub record IsAsTold (base after : TablesView) (l : LineView) : Type 0 where
  pub gone : ((gone_of l).tasks ≡ []) ⊎ ((gone_of l).tasks ≡ gone_ids task_id base.tasks after.tasks)
  pub new : l.new_tasks ≡ new_infos task_id task_info base.tasks after.tasks

-- ---- the order of faults

pub told_checked : (base : TablesView) (l : LineView) → repeats_times l ≡ false → strange_times base l ≡ false → line_checked base l ≡ line_applied base l
told_checked base l once known = rw (once, known) refl

-- a line without histograms
pub untold_checked : (base : TablesView) (l : LineView) → l.task_times ≡ None → line_checked base l ≡ line_applied base l
untold_checked base l none =
    told_checked base l
    (ap (λ (o : Option (List TaskTimes)). has_twice (map times_id (unwrap_or o [])) || list_any (is_among (map times_id (unwrap_or o []))) (gone_of l).tasks) none ∙ none_among (gone_of l).tasks)
    (ap (λ (o : Option (List TaskTimes)). list_any (λ (t : TaskTimes). is_strange_task base l.new_tasks (times_id t)) (unwrap_or o [])) none)

-- ---- none stands twice

once : (ids : List ℕ) → IsDistinct nat_eq ids → has_twice ids ≡ false
unfolding IsDistinct
once [] d = refl
once (x ∷ xs) d = ap₂ (λ a b. a || b) (none xs d.0) (once xs d.1)
  where
    none : (ys : List ℕ) → AllByRecursion (λ y. nat_eq x y ≡ false) ys → list_any (λ m. nat_eq x m) ys ≡ false
    none [] all = refl
    none (y ∷ ys) all = ap₂ (λ a b. a || b) all.0 (none ys all.1)

-- ---- none is gone

abbrev AreThere : List Task → List TaskTimes → Type 0
AreThere tasks times = AllByRecursion (λ t. IsSome (task_with t.0 tasks)) times

-- what is among them is there
among_there : (tasks : List Task) (times : List TaskTimes) (n : ℕ) → AreThere tasks times → is_among (map times_id times) n ≡ true → is_some (task_with n tasks) ≡ true
among_there tasks [] n all e = absurd (true≢false (sym e))
among_there tasks (t ∷ times) n all e = by (nat_eq n t.0) refl e (among_there tasks times n all.1)
  where
    by : (b : Bool) → nat_eq n t.0 ≡ b → (b || is_among (map times_id times) n) ≡ true → (is_among (map times_id times) n ≡ true → is_some (task_with n tasks) ≡ true) → is_some (task_with n tasks) ≡ true
    by true same e rest = ap (λ id. is_some (task_with id tasks)) (eqb-true n t.0 same) ∙ all.0
    by false same e rest = rest e

some_or_none : {A : Type 0} (o : Option A) → is_some o ≡ true → is_none o ≡ false
some_or_none (Some x) e = refl
some_or_none None e = absurd (true≢false (sym e))

none_gone_among : (after : List Task) (times : List TaskTimes) (before : List Task) → AreThere after times → list_any (is_among (map times_id times)) (gone_ids task_id before after) ≡ false
none_gone_among after times [] all = refl
none_gone_among after times (x ∷ before) all = by (is_new task_id after x) refl (is_among (map times_id times) x.info.id) refl (none_gone_among after times before all)
  where
    by : (new : Bool) → is_new task_id after x ≡ new → (told : Bool) → is_among (map times_id times) x.info.id ≡ told
        → list_any (is_among (map times_id times)) (gone_ids task_id before after) ≡ false
        → list_any (is_among (map times_id times)) (map task_id (cond new (x ∷ filter (is_new task_id after) before) (filter (is_new task_id after) before))) ≡ false
    by false is told told_is rest = rest
    by true is false told_is rest = rw told_is rest
    by true is true told_is rest =
        absurd (true≢false (sym is ∙ some_or_none (task_with x.info.id after) (among_there after times x.info.id all told_is)))

pub told_sound : (base after : TablesView) (l : LineView) (times : List TaskTimes) → AreToldOf after times → IsAsTold base after l → repeats_times (with_times times l) ≡ false
told_sound base after l times h told = ap₂ (λ a b. a || b) (once (map times_id times) h.once) (by told.gone)
  where
    by : ((gone_of l).tasks ≡ []) ⊎ ((gone_of l).tasks ≡ gone_ids task_id base.tasks after.tasks) → list_any (is_among (map times_id times)) (gone_of l).tasks ≡ false
    by (inl none) = ap (list_any (is_among (map times_id times))) none
    by (inr gone) = ap (list_any (is_among (map times_id times))) gone ∙ none_gone_among after.tasks times base.tasks h.known

-- ---- each was there or is new

there_or_new : (base after : List Task) (n : ℕ) → is_some (task_with n after) ≡ true → (has_id task_id n base || is_among (map new_id (new_infos task_id task_info base after)) n) ≡ true
there_or_new base [] n e = absurd (true≢false (sym e))
there_or_new base (x ∷ after) n e = by (nat_eq n x.info.id) refl e (is_new task_id base x) refl (there_or_new base after n)
  where
    later : (a b c : Bool) → (a || b) ≡ true → (a || (c || b)) ≡ true
    later true b c e = refl
    later false b true e = refl
    later false b false e = e

    there : (o : Option Task) → is_none o ≡ false → is_some o ≡ true
    there (Some y) e = refl
    there None e = absurd (true≢false e)

    or_true : (a b : Bool) → a ≡ true → (a || b) ≡ true
    or_true true b e = refl
    or_true false b e = absurd (true≢false (sym e))

    last_true : (a : Bool) → (a || true) ≡ true
    last_true true = refl
    last_true false = refl

    by : (here : Bool) → nat_eq n x.info.id ≡ here → is_some (cond here (Some x) (task_with n after)) ≡ true → (new : Bool) → is_new task_id base x ≡ new
        → (is_some (task_with n after) ≡ true → (has_id task_id n base || is_among (map new_id (new_infos task_id task_info base after)) n) ≡ true)
        → (has_id task_id n base || is_among (map new_id (map task_info (cond new (x ∷ filter (is_new task_id base) after) (filter (is_new task_id base) after)))) n) ≡ true
    by true same found false is rest =
        or_true (has_id task_id n base) _ (ap (λ id. is_some (task_with id base)) (eqb-true n x.info.id same) ∙ there (task_with x.info.id base) is)
    by true same found true is rest = rw same (last_true (has_id task_id n base))
    by false same found false is rest = rest found
    by false same found true is rest = later (has_id task_id n base) (is_among (map new_id (new_infos task_id task_info base after)) n) (nat_eq n x.info.id) (rest found)

pub told_known : (base after : TablesView) (l : LineView) (times : List TaskTimes) → AreToldOf after times → IsAsTold base after l → strange_times base (with_times times l) ≡ false
told_known base after l times h told = all times h.known
  where
    all : (ts : List TaskTimes) → AreThere after.tasks ts → list_any (λ (t : TaskTimes). is_strange_task base l.new_tasks (times_id t)) ts ≡ false
    all [] known = refl
    all (t ∷ ts) known =
        ap₂ (λ a b. a || b)
        (ap (λ infos. is_strange_task base infos t.0) told.new ∙ ap not (there_or_new base.tasks after.tasks t.0 known.0))
        (all ts known.1)
