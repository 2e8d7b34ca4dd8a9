-- Inner: what the owner of a task keeps of its histogram. No public clause cites this file.
use Rattle.std.specs.Prelude.{◌≡◌, ℕ, ◌-◌, List, Option, Some, None, Result, unwrap_or, ⊤}
use Rattle.std.specs.Option.{option_map}
use Rattle.tk_core.specs.declared.reply.Refusal.{Refusal}
use Rattle.tk_core.specs.declared.reply.Reply.TheVariants.{Done}
use Rattle.tk_core.specs.declared.task.call.TaskCall.{TaskCall}
use Rattle.tk_core.specs.declared.times.call.TimesCall.TheVariants.{Add}
use Rattle.tk_core.specs.Lists.{last_of}
use Rattle.tk_core.specs.Task.{start_at}
use Rattle.tk_core.specs.TimesMeaning.{times_meaning}
use Rattle.tk_cell.specs.Calls.{Calls}
use Rattle.tk_ledgers.specs.Handles.{KnownTimes}
use Rattle.tk_ledgers.specs.Times.{TimesSight, AreTimesOf, DrawsTimes}

-- the histogram of a task, as its owner has it: whose it is, what is known of it, and when the task's last poll started
pub record Timing : Type 0 where
  pub id : ℕ
  pub times : KnownTimes
  pub started : Option ℕ

abbrev pub timing : ℕ → KnownTimes → Option ℕ → Timing
timing id times started = record { id = id; times = times; started = started }

-- what is known of the histogram that there is
abbrev pub times_of : Option Timing → Option KnownTimes
times_of timed = option_map (λ (t : Timing). t.times) timed

-- a poll of the task started
abbrev pub restarted : ℕ → Timing → Timing
restarted moment t = timing t.id t.times (Some moment)

-- a poll of the task ended, and how long it ran is added
pub record Ends (moment : ℕ) (old new : Timing) : Type 0 where
  pub id : new.id ≡ old.id
  pub started : new.started ≡ old.started
  pub ledger : new.times.ledger ≡ old.times.ledger
  pub caller : old.times.view.caller ≡ 0
  pub entry : Calls times_meaning old.times.view (Add (moment - unwrap_or old.started moment)) Done new.times.view

abbrev pub EndsAny : ℕ → Option Timing → Option Timing → Type 0
EndsAny moment None new = new ≡ None
EndsAny moment (Some old) new = (t : Timing) × (new ≡ Some t) × Ends moment old t

-- an inspector is asked for
pub record Inspects (old : Timing) (drawn : Result TimesSight Refusal) (new : Timing) : Type 0 where
  pub id : new.id ≡ old.id
  pub started : new.started ≡ old.started
  pub caller : old.times.view.caller ≡ 0
  pub draws : DrawsTimes old.id old.times drawn new.times

abbrev pub InspectsAny : Option Timing → Option (Result TimesSight Refusal) → Option Timing → Type 0
InspectsAny None found new = (found ≡ None) × (new ≡ None)
InspectsAny (Some old) found new = (drawn : Result TimesSight Refusal) × (t : Timing) × (found ≡ Some drawn) × (new ≡ Some t) × Inspects old drawn t

-- an owner of this task that made these calls keeps when the last poll started, and that the times are those of the polls
abbrev pub KeepsTimes : ℕ → List TaskCall → Option Timing → Type 0
KeepsTimes id calls None = ⊤
KeepsTimes id calls (Some t) = (t.id ≡ id) × (last_of start_at calls ≡ t.started) × AreTimesOf calls t.times
