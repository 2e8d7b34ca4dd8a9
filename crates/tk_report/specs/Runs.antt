-- How long a poll of a task is known to have run, by two of its rows.
use Rattle.std.specs.Prelude.{◌≡◌, ◌≤◌, ℕ, zero, suc, ◌-◌, ◌/◌, ◌==◌, max, false, if◌then◌else◌, unwrap_or, List, [], ◌∷◌, length, sum}
use Rattle.tk_core.specs.declared.task.row.TaskRow.{TaskRow}
use Rattle.tk_report.specs.declared.runs.Ended.{Ended}

-- the polls of a task that have ended: how many, and how long they ran in all
abbrev pub ended_of : TaskRow → Ended
ended_of x = record { polls = x.polls - (if x.polling then 1 else 0); time = x.busy }

-- before the first poll
abbrev pub none_ended : Ended
none_ended = record { polls = 0; time = 0 }

-- a time that so many polls took, by their number; 0 where there was none
abbrev pub mean_run : ℕ → ℕ → ℕ
mean_run time zero = 0
mean_run time (suc n) = time / suc n

-- how long the last poll that ended ran; 0 where one runs
abbrev pub last_run : TaskRow → ℕ
last_run x = if x.polling then 0 else unwrap_or x.last_ended 0 - unwrap_or x.last_started (unwrap_or x.last_ended 0)

-- how long a poll that ended since is known to have run: the last one, or the mean of those that ended, since one ran as long as that
abbrev pub ended_run : Ended → TaskRow → ℕ
ended_run old x =
    if (ended_of x).polls == old.polls then 0 else max (last_run x) (mean_run (x.busy - old.time) ((ended_of x).polls - old.polls))

-- ---- what that says of the polls themselves

-- how long the last of these polls ran; 0 where there is none
abbrev pub last_of : List ℕ → ℕ
last_of [] = 0
last_of (run ∷ []) = run
last_of (run ∷ next ∷ runs) = last_of (next ∷ runs)

-- how long the longest of these polls ran
abbrev pub longest_of : List ℕ → ℕ
longest_of [] = 0
longest_of (run ∷ runs) = max run (longest_of runs)

-- these polls have ended since, in this order, each of which ran for so long, and a row shows it: as many as it counts, as long in all at least as it
-- adds up, and the last one as it says
pub record EndedSince (old : Ended) (x : TaskRow) (runs : List ℕ) : Type 0 where
  pub count : length runs ≡ (ended_of x).polls - old.polls
  pub time : x.busy - old.time ≤ sum runs
  pub last : x.polling ≡ false → last_of runs ≡ last_run x
