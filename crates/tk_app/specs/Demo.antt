-- What the demo writes.
use Rattle.std.specs.Prelude.{◌≡◌, ℕ, List, [], ◌∷◌, codes, map, Option, Result, Ok, Err}
use Rattle.std.specs.Io.KnownBytes.{Appends}
use Rattle.tk_client.specs.Warnings.{default_lints}
use Rattle.tk_report.specs.Report.{report_of}
use Rattle.tk_fault.specs.declared.fault.AppFault.{AppFault}
use Rattle.tk_fault.specs.declared.fault.AppFault.TheVariants as faults
use Rattle.tk_stream.specs.Sent.{IsCut}
use Rattle.tk_stream.specs.Streams.{IsStreamTo}
use Rattle.tk_stream.specs.Tables.{TablesView}

-- the names of the demo's tasks, in the order in which they are made
abbrev pub demo_names : List (List ℕ)
demo_names = codes "yield" ∷ codes "lose" ∷ codes "hold" ∷ []

-- the names of all tasks
abbrev pub task_names : TablesView → List (List ℕ)
task_names tables = map (λ t. t.info.name) tables.tasks

-- the text is the report of the tables that a stream of one line leads to, whose tasks are those of the demo, and no others
pub record IsReportOfDemo (text : List ℕ) : Type 0 where
  pub stream : List ℕ
  pub tables : TablesView
  pub leads : IsStreamTo stream tables 1
  pub tasks_are : task_names tables ≡ demo_names
  pub text_is : text ≡ report_of default_lints tables

-- that report was written
pub record WritesReport (old new : Option (List ℕ)) : Type 0 where
  pub text : List ℕ
  pub report : IsReportOfDemo text
  pub wrote : Appends old new text

-- a proper front of it was written
pub record WritesFront (old new : Option (List ℕ)) : Type 0 where
  pub text : List ℕ
  pub report : IsReportOfDemo text
  pub front : List ℕ
  pub cut : IsCut text front
  pub wrote : Appends old new front

-- what the demo came to, by its answer: of the writer's bytes before and after
abbrev pub Demonstrates : Result (Unit {0}) AppFault → Option (List ℕ) → Option (List ℕ) → Type 0
Demonstrates (Ok done) old new = WritesReport old new
Demonstrates (Err faults.Write) old new = WritesFront old new
Demonstrates (Err faults.Memory) old new = new ≡ old
Demonstrates (Err other) old new = ⊥
