-- How a stream is read and its warnings are found, and what watches its lines.
use Rattle.std.specs.Prelude.{◌≡◌, ℕ, nat_eq, List, Option, Result, Ok, Err, unwrap_or}
use Rattle.std.specs.Global.{Vec}
use Rattle.std.specs.Map.{lookup}
use Rattle.tk_stream.specs.Tables.{TablesView}
use Rattle.tk_stream.specs.declared.tables.task.Task.{Task}
use Rattle.tk_client.specs.Feeding.{ClientView}
use Rattle.tk_client.specs.Warnings.{LintsView}
use Rattle.tk_client.specs.declared.any_warnings.AnyWarning.{AnyWarning}
use Rattle.tk_fault.specs.declared.fault.AppFault.{AppFault}
use Rattle.tk_fault.specs.declared.fault.AppFault.TheVariants as faults
use Rattle.tk_reading.specs.Outcomes.{AreAll, HaveFault}
use Rattle.tk_reading.specs.Shown.{shown_of}
use Rattle.tk_reading.specs.Taken.{HasTaken}
use Rattle.tk_report.specs.declared.known.Known.{Known}
use Rattle.tk_report.specs.declared.options.TimesOptions.{TimesOptions}
use Rattle.tk_report.specs.Known.{known_after, known_of, unknown}
use Rattle.tk_report.specs.Timed.{warned_of}

-- ---- what watches lines

-- what entries say of the task with an id
abbrev pub known_at : List (ℕ × Known) → ℕ → Known
known_at entries id = unwrap_or (lookup (nat_eq id) entries) unknown

-- what is known of a task after a line at this moment, by the entries before it
abbrev pub noted : ℕ → List (ℕ × Known) → Task → ℕ × Known
noted now entries t = (t.info.id, known_after now (known_at entries t.info.id) t.row)

-- entries say of each task what the tables after each line show
abbrev pub Follows : List TablesView → List (ℕ × Known) → Type 0
Follows shown entries = (id : ℕ) → known_at entries id ≡ known_of id shown

-- ---- reading

-- all bytes of a reader were taken, and these are the warnings
pub record Warned (lints : LintsView) (options : TimesOptions) (given : Option (List ℕ)) (warnings : List AnyWarning) (client : ClientView) : Type 0 where
  pub bytes : List ℕ
  pub lines : ℕ
  pub all : AreAll given bytes
  pub taken : HasTaken bytes lines client
  pub are : warnings ≡ warned_of lints options (shown_of bytes) client.start.tables client.start.times

-- what it came to to read a stream and find its warnings
abbrev pub Warns : LintsView → TimesOptions → Option (List ℕ) → Option (List ℕ) → Result (Vec AnyWarning) AppFault → ClientView → Type 0
Warns lints options given left (Ok list) client = Warned lints options given list.items client
Warns lints options given left (Err (faults.Stream lines fault)) client = HaveFault given left lines fault
Warns lints options given left (Err faults.Memory) client = Unit {0}
Warns lints options given left (Err faults.Read) client = Unit {0}
Warns lints options given left (Err other) client = ⊥
