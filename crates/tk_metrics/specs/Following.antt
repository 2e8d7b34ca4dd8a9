-- How the lines of a stream are followed. Inner: no public clause cites this.
use Rattle.std.specs.Prelude.{◌≡◌, ℕ, List, [], ◌∷◌, length, Option, Result}
use Rattle.tk_client.specs.declared.fault.Fault.{Fault}
use Rattle.tk_client.specs.Feeding.{ClientView}
use Rattle.tk_fault.specs.declared.fault.AppFault.{AppFault}
use Rattle.tk_odd.specs.Inner.{Follows as Diagnoses}
use Rattle.tk_odd.specs.declared.limits.Limits.{Limits}
use Rattle.tk_client.specs.Changes.{Timed, untimed}
use Rattle.tk_reading.specs.Reads.{Reads as ReadsOf, SawAll as Saw, StopsAfter as StopsAt, TakesMore as Takes}
use Rattle.tk_reading.specs.Shown.{last_shown, last_timed, tables_of, timed_of}
use Rattle.tk_stream.specs.Tables.{TablesView, empty_tables}
use Rattle.tk_metrics.specs.declared.apart.Apart.{Apart}
use Rattle.tk_metrics.specs.declared.follower.Follower.{Follower}
use Rattle.tk_metrics.specs.declared.leavers.Leavers.{Leavers}
use Rattle.tk_metrics.specs.Keys.{keys_after}
use Rattle.tk_metrics.specs.Leaving.{Holds, gone_in}
use Rattle.tk_metrics.specs.Timed.{Agrees, HoldTimes}

-- which labels stand by themselves is known; what has left the tables after each line is held, its histograms too; the last resources are, and the last histograms of tasks that are there
pub record Notes (by : Apart) (shown : List TablesView) (timed : List Timed) (l : Leavers) : Type 0 where
  pub told : l.by ≡ by
  pub keys : l.keys ≡ keys_after by shown
  pub held : Holds (gone_in (keys_after by shown) shown) l.left
  pub times : HoldTimes (keys_after by shown) timed l.histograms
  pub resources : l.resources ≡ (last_shown empty_tables shown).resources
  pub counts : l.counts ≡ (last_shown empty_tables shown).counts
  pub latest : Agrees (last_timed untimed timed) l.latest.times

-- the tables after each line are followed
pub record Follows (by : Apart) (shown : List TablesView) (timed : List Timed) (l : Leavers) : Type 0 where
  pub notes : Notes by shown timed l
  pub lines : l.lines ≡ length shown

-- what leaves them is followed, and what is odd by these limits
abbrev pub Sees : Apart → Limits → List TablesView → List Timed → Follower → Type 0
Sees by limits shown timed f = Follows by shown timed f.leavers × (Diagnoses shown f.diagnosis × (f.diagnosis.limits ≡ limits))

-- the tables after each line are followed, with the histograms beside them
abbrev pub saw_by : Apart → Limits → List Timed → Follower → Type 0
saw_by by limits seen f = Sees by limits (tables_of seen) seen f

-- so it is with the lines of these bytes
abbrev pub Watches : Apart → Limits → List ℕ → Follower → Type 0
Watches by limits bytes f = saw_by by limits (timed_of bytes) f

-- ---- what is read

-- bytes and a piece after them have a fault, and the lines before it were followed
abbrev pub StopsAfter : Apart → Limits → List ℕ → List ℕ → ℕ → Fault → ClientView → Follower → Type 0
StopsAfter by limits bytes piece lines fault now f = StopsAt (saw_by by limits) bytes piece lines fault now f

-- a piece after bytes was taken and its lines were followed, or it has a fault, or there was no memory
abbrev pub TakesMore : Apart → Limits → List ℕ → List ℕ → Result ℕ AppFault → ClientView → Follower → Type 0
TakesMore by limits bytes piece result now f = Takes (saw_by by limits) bytes piece result now f

-- all bytes of a reader were taken, and their lines followed
abbrev pub SawAll : Apart → Limits → Option (List ℕ) → ClientView → Follower → Type 0
SawAll by limits given now f = Saw (saw_by by limits) given now f

-- what reading came to, by its answer
abbrev pub Reads : Apart → Limits → Option (List ℕ) → Option (List ℕ) → Result (Unit {0}) AppFault → ClientView → Follower → Type 0
Reads by limits given left result now f = ReadsOf (saw_by by limits) given left result now f
