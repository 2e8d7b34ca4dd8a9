-- What the numbers of a stream are, and what writing them came to.
use Rattle.std.specs.Prelude.{ℕ, List, length, Option, None, Result, Ok, Err}
use Rattle.std.specs.Io.KnownBytes.{Appends}
use Rattle.tk_client.specs.Warnings.{LintsView, warnings_in}
use Rattle.tk_fault.specs.declared.fault.AppFault.{AppFault}
use Rattle.tk_fault.specs.declared.fault.AppFault.TheVariants as faults
use Rattle.tk_found.specs.Views.{limits_by}
use Rattle.tk_odd.specs.declared.limits.Limits.{Limits}
use Rattle.tk_reading.specs.Shown.{shown_of, timed_of}
use Rattle.tk_reading.specs.Outcomes.{HaveFault, LeadTo}
use Rattle.tk_stream.specs.Sent.{IsCut}
use Rattle.tk_stream.specs.Tables.{TablesView}
use Rattle.tk_metrics.specs.declared.apart.Apart.{Apart}
use Rattle.tk_metrics.specs.Blame.{blame_in}
use Rattle.tk_metrics.specs.Keys.{keys_after}
use Rattle.tk_metrics.specs.Leaving.{gone_in}
use Rattle.tk_client.specs.Changes.{Timed}
use Rattle.tk_metrics.specs.Histograms.{times_families}
use Rattle.tk_metrics.specs.Metrics.{metrics_with}

-- how much is too much where nothing is said of long polls
abbrev pub usual : LintsView → Limits
usual lints = limits_by lints None

-- the numbers of so many lines with these tables, and with histograms beside them: of the last tables, of what has left those before, of who holds up
-- whom, of how many lines there are, and of the histograms
abbrev pub numbers_after : Apart → LintsView → List TablesView → List Timed → TablesView → List ℕ
numbers_after by lints shown timed tables =
    let keys = keys_after by shown in
    metrics_with keys tables (warnings_in lints tables) (gone_in keys shown) (blame_in (usual lints) shown tables) (length shown) (times_families keys timed)

-- the numbers of a stream of these bytes, which lead to these tables
abbrev pub stream_text : Apart → LintsView → TablesView → List ℕ → List ℕ
stream_text by lints tables bytes = numbers_after by lints (shown_of bytes) (timed_of bytes) tables

-- the numbers were written of the stream that all bytes are
pub record WritesNumbers (by : Apart) (lints : LintsView) (given old new : Option (List ℕ)) : Type 0 where
  pub tables : TablesView
  pub lead : LeadTo given tables
  pub wrote : Appends old new (stream_text by lints tables lead.bytes)

-- a proper front of them was written
pub record WritesFront (by : Apart) (lints : LintsView) (given old new : Option (List ℕ)) : Type 0 where
  pub tables : TablesView
  pub lead : LeadTo given tables
  pub front : List ℕ
  pub cut : IsCut (stream_text by lints tables lead.bytes) front
  pub wrote : Appends old new front

-- what the numbers of a stream came to, by the answer: of the reader's bytes that were given and those that are left, and of the
-- writer's before and after
abbrev pub Measures : Apart → LintsView → Option (List ℕ) → Option (List ℕ) → Result (Unit {0}) AppFault → Option (List ℕ) → Option (List ℕ) → Type 0
Measures by lints given left (Ok done) old new = WritesNumbers by lints given old new
Measures by lints given left (Err faults.Write) old new = WritesFront by lints given old new
Measures by lints given left (Err (faults.Stream lines fault)) old new = HaveFault given left lines fault
Measures by lints given left (Err faults.Memory) old new = Unit {0}
Measures by lints given left (Err faults.Read) old new = Unit {0}
Measures by lints given left (Err (faults.Script line name)) old new = ⊥
