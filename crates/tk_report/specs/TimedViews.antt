-- What the view of a stream writes, histograms and long polls with it where they are asked for.
use Rattle.std.specs.Prelude.{◌≡◌, ℕ, List, length, Option, Result, Ok, Err}
use Rattle.std.specs.Io.KnownBytes.{Appends}
use Rattle.tk_stream.specs.Sent.{IsCut}
use Rattle.tk_client.specs.Meaning.{Start, goes}
use Rattle.tk_client.specs.Warnings.{LintsView}
use Rattle.tk_fault.specs.declared.fault.AppFault.{AppFault}
use Rattle.tk_fault.specs.declared.fault.AppFault.TheVariants as faults
use Rattle.tk_reading.specs.Outcomes.{AreAll, HaveFault, outcome_of}
use Rattle.tk_reading.specs.Shown.{shown_of}
use Rattle.tk_report.specs.declared.options.TimesOptions.{TimesOptions}
use Rattle.tk_report.specs.declared.view.View.{View}
use Rattle.tk_report.specs.declared.view.Viewed.{Viewed}
use Rattle.tk_report.specs.Known.{are_untimed}
use Rattle.tk_report.specs.Timed.{timed_text_of, warned_of}

-- all bytes of a reader lead to these tables and histograms. A last line without its line end is no part of them
pub record LeadToStart (given : Option (List ℕ)) (start : Start) : Type 0 where
  pub bytes : List ℕ
  pub all : AreAll given bytes
  pub lines : ℕ
  pub come : outcome_of bytes ≡ goes start lines

-- the text of the tables and histograms was written, their warnings were counted, and it is said whether a task has no histogram
pub record ShowsTimed (given : Option (List ℕ)) (view : View) (lints : LintsView) (options : TimesOptions) (viewed : Viewed) (old new : Option (List ℕ)) : Type 0 where
  pub start : Start
  pub lead : LeadToStart given start
  pub wrote : Appends old new (timed_text_of view lints options (shown_of lead.bytes) start.tables start.times)
  pub counted : viewed.warnings ≡ length (warned_of lints options (shown_of lead.bytes) start.tables start.times)
  pub untimed : viewed.untimed ≡ are_untimed start.tables start.times

-- a proper front of the text was written
pub record ShowsTimedFront (given : Option (List ℕ)) (view : View) (lints : LintsView) (options : TimesOptions) (old new : Option (List ℕ)) : Type 0 where
  pub start : Start
  pub lead : LeadToStart given start
  pub front : List ℕ
  pub cut : IsCut (timed_text_of view lints options (shown_of lead.bytes) start.tables start.times) front
  pub wrote : Appends old new front

-- what the view of a stream with these options came to, by its answer: of the reader's bytes that were given and those that are
-- left, and of the writer's before and after
abbrev pub ViewsTimed : View → LintsView → TimesOptions → Option (List ℕ) → Option (List ℕ) → Result Viewed AppFault → Option (List ℕ) → Option (List ℕ) → Type 0
ViewsTimed view lints options given left (Ok viewed) old new = ShowsTimed given view lints options viewed old new
ViewsTimed view lints options given left (Err faults.Write) old new = ShowsTimedFront given view lints options old new
ViewsTimed view lints options given left (Err (faults.Stream lines fault)) old new = HaveFault given left lines fault
ViewsTimed view lints options given left (Err faults.Memory) old new = Unit {0}
ViewsTimed view lints options given left (Err faults.Read) old new = Unit {0}
ViewsTimed view lints options given left (Err (faults.Script line name)) old new = ⊥

-- what a view came to, of which the number of warnings alone is told
abbrev pub count_of : Result Viewed AppFault → Result ℕ AppFault
count_of (Ok viewed) = Ok viewed.warnings
count_of (Err fault) = Err fault
