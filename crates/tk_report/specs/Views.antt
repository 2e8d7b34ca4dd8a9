-- What the view of a stream writes.
use Rattle.std.specs.Prelude.{◌≡◌, ℕ, List, length, Option, Result, Ok, Err}
use Rattle.std.specs.Io.KnownBytes.{Appends}
use Rattle.tk_stream.specs.Sent.{IsCut}
use Rattle.tk_stream.specs.Tables.{TablesView}
use Rattle.tk_client.specs.Warnings.{LintsView, warnings_in}
use Rattle.tk_fault.specs.declared.fault.AppFault.{AppFault}
use Rattle.tk_fault.specs.declared.fault.AppFault.TheVariants as faults
use Rattle.tk_reading.specs.Outcomes.{HaveFault, LeadTo}
use Rattle.tk_report.specs.declared.view.View.{View}
use Rattle.tk_report.specs.declared.view.View.TheVariants.{Report, Lint}
use Rattle.tk_report.specs.Report.{report_of, lint_of}

-- what is written of tables
abbrev pub text_of : View → LintsView → TablesView → List ℕ
text_of Report lints tables = report_of lints tables
text_of Lint lints tables = lint_of lints tables

-- the text of the tables was written, and their warnings were counted
pub record Shows (given : Option (List ℕ)) (view : View) (lints : LintsView) (warnings : ℕ) (old new : Option (List ℕ)) : Type 0 where
  pub tables : TablesView
  pub lead : LeadTo given tables
  pub wrote : Appends old new (text_of view lints tables)
  pub counted : warnings ≡ length (warnings_in lints tables)

-- a proper front of the text of the tables was written
pub record ShowsFront (given : Option (List ℕ)) (view : View) (lints : LintsView) (old new : Option (List ℕ)) : Type 0 where
  pub tables : TablesView
  pub lead : LeadTo given tables
  pub front : List ℕ
  pub cut : IsCut (text_of view lints tables) front
  pub wrote : Appends old new front

-- what the view of a stream came to, by its answer: of the reader's bytes that were given and those that are left, and of the
-- writer's before and after
abbrev pub Views : View → LintsView → Option (List ℕ) → Option (List ℕ) → Result ℕ AppFault → Option (List ℕ) → Option (List ℕ) → Type 0
Views view lints given left (Ok warnings) old new = Shows given view lints warnings old new
Views view lints given left (Err faults.Write) old new = ShowsFront given view lints old new
Views view lints given left (Err (faults.Stream lines fault)) old new = HaveFault given left lines fault
Views view lints given left (Err faults.Memory) old new = Unit {0}
Views view lints given left (Err faults.Read) old new = Unit {0}
Views view lints given left (Err (faults.Script line name)) old new = ⊥

-- the fault is that of a writer
abbrev pub IsOfWriter : AppFault → Type 0
IsOfWriter faults.Write = Unit {0}
IsOfWriter other = ⊥
