-- What the view of a stream writes where it tells what is odd.
use Rattle.std.specs.Prelude.{◌≡◌, ℕ, ◌*◌, List, [], ◌++◌, length, Bool, Option, Result, Ok, Err, unwrap_or}
use Rattle.std.specs.Io.KnownBytes.{Appends}
use Rattle.tk_core.specs.Lists.{capped}
use Rattle.tk_stream.specs.Sent.{IsCut}
use Rattle.tk_stream.specs.Tables.{TablesView}
use Rattle.tk_client.specs.Meaning.{Start, goes}
use Rattle.tk_client.specs.Warnings.{LintsView}
use Rattle.tk_fault.specs.declared.fault.AppFault.{AppFault}
use Rattle.tk_fault.specs.declared.fault.AppFault.TheVariants as faults
use Rattle.tk_reading.specs.Outcomes.{AreAll, HaveFault, outcome_of}
use Rattle.tk_reading.specs.Shown.{shown_of}
use Rattle.tk_report.specs.declared.view.View.{View}
use Rattle.tk_report.specs.declared.view.View.TheVariants.{Report, Lint}
use Rattle.tk_report.specs.Timed.{timed_report_with}
use Rattle.tk_odd.specs.declared.limits.Limits.{Limits}
use Rattle.tk_odd.specs.Diagnosis.{standing_of}
use Rattle.tk_odd.specs.Findings.{Told, told_of}
use Rattle.tk_odd.specs.Span.{span_of}
use Rattle.tk_found.specs.Lines.{finding_lines}

-- how much is too much where a poll is long from so many milliseconds on: 100 where nothing is said
abbrev pub limits_by : LintsView → Option ℕ → Limits
limits_by lints long = record { long = capped (1000000 * unwrap_or long 100); lints = lints }

-- what is odd about a stream of these bytes, which come to these tables: by the tables after each line of the span since a moment, with none after each line
abbrev pub found_in : Limits → Option ℕ → List ℕ → TablesView → List Told
found_in limits since bytes tables = told_of limits (standing_of limits (span_of since (shown_of bytes))) tables

-- what is written of tables and histograms of which this is odd: the report with the findings' lines in place of the warnings', or these lines alone
abbrev pub found_text : View → Bool → Start → List Told → List ℕ
found_text Report times start list = timed_report_with times start.tables start.times [] ++ finding_lines list
found_text Lint times start list = finding_lines list

-- all bytes of a reader come to these tables and histograms, and this is odd about them since a moment. A last line without its line end is no part of them
pub record LeadToFindings (given : Option (List ℕ)) (limits : Limits) (since : Option ℕ) (start : Start) (list : List Told) : Type 0 where
  pub bytes : List ℕ
  pub all : AreAll given bytes
  pub lines : ℕ
  pub come : outcome_of bytes ≡ goes start lines
  pub found : list ≡ found_in limits since bytes start.tables

-- the text was written, and the findings were counted
pub record ShowsFindings (given : Option (List ℕ)) (view : View) (limits : Limits) (since : Option ℕ) (times : Bool) (count : ℕ) (old new : Option (List ℕ)) : Type 0 where
  pub start : Start
  pub list : List Told
  pub lead : LeadToFindings given limits since start list
  pub wrote : Appends old new (found_text view times start list)
  pub counted : count ≡ length list

-- a proper front of the text was written
pub record ShowsFindingsFront (given : Option (List ℕ)) (view : View) (limits : Limits) (since : Option ℕ) (times : Bool) (old new : Option (List ℕ)) : Type 0 where
  pub start : Start
  pub list : List Told
  pub lead : LeadToFindings given limits since start list
  pub front : List ℕ
  pub cut : IsCut (found_text view times start list) front
  pub wrote : Appends old new front

-- what such a view came to, by its answer: of the reader's bytes that were given and those that are left, and of the writer's before and after
abbrev pub ViewsFindings : View → Limits → Option ℕ → Bool → Option (List ℕ) → Option (List ℕ) → Result ℕ AppFault → Option (List ℕ) → Option (List ℕ) → Type 0
ViewsFindings view limits since times given left (Ok count) old new = ShowsFindings given view limits since times count old new
ViewsFindings view limits since times given left (Err faults.Write) old new = ShowsFindingsFront given view limits since times old new
ViewsFindings view limits since times given left (Err (faults.Stream lines fault)) old new = HaveFault given left lines fault
ViewsFindings view limits since times given left (Err faults.Memory) old new = Unit {0}
ViewsFindings view limits since times given left (Err faults.Read) old new = Unit {0}
ViewsFindings view limits since times given left (Err (faults.Script line name)) old new = ⊥
