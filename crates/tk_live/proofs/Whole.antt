-- A whole run.
use Rattle.std.proofs.Common.{ℕ, List, Bool, [], Option, Result, Ok, Err, inl, inr, refl}
use Rattle.std.specs.Io.KnownBytes.{Appends}
use Rattle.std.proofs.KnownBytes.{Appends-nil}
use Rattle.tk_fault.specs.declared.fault.AppFault.{AppFault}
use Rattle.tk_fault.specs.declared.fault.AppFault.TheVariants as faults
use Rattle.tk_script.specs.Commands.{Line, settings_of}
use Rattle.tk_live.specs.Runs.{LinesResult}
use Rattle.tk_live.specs.Script.{LinesWrite, ScriptResult, ReadsAndRuns}
use Rattle.tk_live.specs.Transfer.{IsReading, IsScript}

-- what was written
pub writes : (answers : ℕ → Bool → Type 0) (last : ℕ) (script : List Line) (result : Result (Unit {0}) AppFault) (text : List ℕ) → LinesResult answers last script (settings_of script) result text → LinesWrite answers last script result text
writes answers last script (Ok done) text came = (came.3, record { goes = came.0; closed = came.1; kept = came.2; came = came.4 }, came.5)
writes answers last script (Err (faults.Script number name)) text (inl came) = inl (record {
  before = came.before;
  line = came.line;
  after = came.after;
  lines = came.lines;
  counted = came.counted;
  goes = came.goes;
  kept = came.kept;
  sent = came.sent;
  came = came.came;
  stop = came.stop;
  stops = came.stops;
  named = came.named;
  front = came.front;
  fronts = came.fronts;
  all = came.all;
})
writes answers last script (Err (faults.Script number name)) text (inr came) = inr (record {
  counted = came.counted;
  goes = came.goes;
  block = came.block;
  is_open = came.is_open;
  named = came.named;
  kept = came.kept;
  sent = came.sent;
  came = came.came;
  all = came.all;
})
writes answers last script (Err faults.Memory) text came = absurd came
writes answers last script (Err faults.Read) text came = absurd came
writes answers last script (Err faults.Write) text came = absurd came
writes answers last script (Err (faults.Stream lines fault)) text came = absurd came

-- nothing is written where nothing was read
pub read_fails : (answers : ℕ → Bool → Type 0) (known bytes : Option (List ℕ)) (f : AppFault) → IsReading f → (written : List ℕ) × ReadsAndRuns answers known (Err f) written × Appends bytes bytes written
read_fails answers known bytes faults.Memory h = ([], refl, Appends-nil bytes)
read_fails answers known bytes faults.Read h = ([], refl, Appends-nil bytes)
read_fails answers known bytes faults.Write h = absurd h
read_fails answers known bytes (faults.Script line name) h = absurd h
read_fails answers known bytes (faults.Stream lines fault) h = absurd h

-- what the run of a script that was read writes
pub read_runs : (answers : ℕ → Bool → Type 0) (known : Option (List ℕ)) (script : List ℕ) (r : Result (Unit {0}) AppFault) (written : List ℕ) → IsScript known script → ScriptResult answers script r written → ReadsAndRuns answers known r written
read_runs answers known script (Ok done) written is h = (script, is, h)
read_runs answers known script (Err (faults.Script number name)) written is h = (script, is, h)
read_runs answers known script (Err faults.Memory) written is h = h
read_runs answers known script (Err faults.Read) written is h = absurd h
read_runs answers known script (Err faults.Write) written is h = absurd h
read_runs answers known script (Err (faults.Stream lines fault)) written is h = absurd h
