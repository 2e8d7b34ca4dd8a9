-- What is known of polls, and the polls themselves.
use Rattle.std.proofs.Common.{◌≡◌, ℕ, zero, suc, ◌+◌, ◌-◌, ◌*◌, ◌≤◌, List, [], ◌∷◌, ◌++◌, length, sum, Bool, true, false, cond, nat_eq, IsSome, Option, Some, None, refl, ap, sym, subst, ◌∙◌, arith}
use Rattle.std.specs.Prelude.{fold, max}
use Rattle.std.specs.Option.{option_map_or}
use Rattle.std.proofs.Math.Nat.{div-le_of_le-mul, le-max_left, le-max_right, max-le, suc-mul}
use Rattle.std.proofs.lemmas.Bool.{false≢true}
use Rattle.std.proofs.lemmas.List.Sums.{fold-append}
use Rattle.tk_core.specs.Lasting.{runs_for}
use Rattle.tk_core.specs.declared.task.row.TaskRow.{TaskRow}
use Rattle.tk_stream.specs.Tables.{TablesView, task_with}
use Rattle.tk_stream.specs.declared.tables.task.Task.{Task}
use Rattle.tk_report.specs.declared.known.Known.{Known}
use Rattle.tk_report.specs.declared.runs.Ended.{Ended}
use Rattle.tk_report.specs.Known.{StaysIn, known_after, known_more, longest_known, unknown}
use Rattle.tk_report.specs.Runs.{EndedSince, ended_of, ended_run, last_of, last_run, longest_of, mean_run}

-- ---- polls that ended

last_within : (runs : List ℕ) → last_of runs ≤ longest_of runs
last_within [] = omega arith
last_within (run ∷ []) = le-max_left run 0
last_within (run ∷ next ∷ runs) =
    let more = last_within (next ∷ runs) in
    let top = le-max_right run (longest_of (next ∷ runs)) in
    omega (arith, more, top)

added : (a : ℕ) (runs : List ℕ) → fold (λ (x y : ℕ). x + y) a runs ≡ a + fold (λ (x y : ℕ). x + y) 0 runs
added a [] = omega arith
added a (run ∷ runs) =
    let one = added (a + run) runs in
    let rest = added (0 + run) runs in
    omega (arith, one, rest)

sum-cons : (run : ℕ) (runs : List ℕ) → sum (run ∷ runs) ≡ run + sum runs
sum-cons run runs = added (0 + run) runs ∙ ap (λ k. k + sum runs) (omega arith)

-- so many polls ran no longer in all than as often the longest
sum_within : (m : ℕ) (runs : List ℕ) → longest_of runs ≤ m → sum runs ≤ length runs * m
sum_within m [] le = omega arith
sum_within m (run ∷ runs) le =
    let one = le-max_left run (longest_of runs) in
    let rest = le-max_right run (longest_of runs) in
    let more = sum_within m runs (omega (arith, rest, le)) in
    subst (λ k. sum (run ∷ runs) ≤ k) (sym (suc-mul (length runs) m)) (subst (λ k. k ≤ length runs * m + m) (sym (sum-cons run runs)) (omega (arith, one, le, more)))

mean_within : (n time m : ℕ) → time ≤ n * m → mean_run time n ≤ m
mean_within zero time m le = omega arith
mean_within (suc n) time m le = div-le_of_le-mul (suc n) le

last_run_within : (polling : Bool) (run runs : ℕ) → (polling ≡ false → run ≤ runs) → cond polling 0 run ≤ runs
last_run_within true run runs le = omega arith
last_run_within false run runs le = le refl

pub one_ran_as_long : (old : Ended) (x : TaskRow) (runs : List ℕ) → EndedSince old x runs → ended_run old x ≤ longest_of runs
one_ran_as_long old x runs h = by (nat_eq (ended_of x).polls old.polls)
  where
    last : last_run x ≤ longest_of runs
    last = by_polling x.polling refl
      where
        by_polling : (b : Bool) → x.polling ≡ b → last_run x ≤ longest_of runs
        by_polling true is = rw is (omega arith)
        by_polling false is = subst (λ run. run ≤ longest_of runs) (h.last is) (last_within runs)

    mean : mean_run (x.busy - old.time) ((ended_of x).polls - old.polls) ≤ longest_of runs
    mean =
        let all = sum_within (longest_of runs) runs (omega arith) in
        let time = h.time in
        let le : x.busy - old.time ≤ length runs * longest_of runs = omega (arith, all, time) in
        subst (λ n. mean_run (x.busy - old.time) n ≤ longest_of runs) h.count (mean_within (length runs) (x.busy - old.time) (longest_of runs) le)

    by : (b : Bool) → cond b 0 (max (last_run x) (mean_run (x.busy - old.time) ((ended_of x).polls - old.polls))) ≤ longest_of runs
    by true = omega arith
    by false = max-le last mean

-- ---- line by line

-- what is known of a task that stays doesn't fall
stays : (id : ℕ) (after : List TablesView) (k : Known) → StaysIn id after → k.longest ≤ (fold (known_more id) k after).longest
stays id [] k there = omega arith
stays id (tables ∷ after) k there =
    let next : Known = known_more id k tables in
    let one : k.longest ≤ next.longest = by (task_with id tables.tasks) there.0 in
    let more : next.longest ≤ (fold (known_more id) next after).longest = stays id after next there.1 in
    omega (arith, one, more)
  where
    by : (o : Option Task) → IsSome o → k.longest ≤ (option_map_or (λ (t : Task). known_after tables.now k t.row) o unknown).longest
    by None some = absurd (false≢true some)
    by (Some t) some = le-max_left k.longest _

pub open_is_known : (id : ℕ) (before after : List TablesView) (tables : TablesView) (t : Task) → task_with id tables.tasks ≡ Some t → StaysIn id after
    → runs_for t.row tables.now ≤ longest_known (before ++ tables ∷ after) id
open_is_known id before after tables t at there =
    let k = fold (known_more id) unknown before in
    let here : runs_for t.row tables.now ≤ (known_more id k tables).longest =
    subst (λ (o : Option Task). runs_for t.row tables.now ≤ (option_map_or (λ (x : Task). known_after tables.now k x.row) o unknown).longest) (sym at)
    (let a = le-max_left (runs_for t.row tables.now) (ended_run k.ended t.row) in
    let b = le-max_right k.longest (max (runs_for t.row tables.now) (ended_run k.ended t.row)) in
    omega (arith, a, b)) in
    let later = stays id after (known_more id k tables) there in
    let both : runs_for t.row tables.now ≤ (fold (known_more id) (known_more id k tables) after).longest = omega (arith, here, later) in
    subst (λ (known : Known). runs_for t.row tables.now ≤ known.longest) (sym (fold-append (known_more id) unknown before (tables ∷ after))) both
