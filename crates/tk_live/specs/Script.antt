-- What the run of a script has written at its end.
use Rattle.std.specs.Prelude.{◌≡◌, ℕ, ◌+◌, ◌⊎◌, Bool, ◌∷◌, List, [], ◌++◌, length, Option, Some, Result, Ok, Err}
use Rattle.std.specs.List.{enumerate_from}
use Rattle.tk_fault.specs.declared.fault.AppFault.{AppFault}
use Rattle.tk_fault.specs.declared.fault.AppFault.TheVariants as faults
use Rattle.tk_stream.specs.Sent.{IsCut}
use Rattle.tk_stream.specs.Streams.{Sending, MaySend, line_sent, tables_sent, last_sent}
use Rattle.tk_stream.specs.Spelling.{sent_text}
use Rattle.tk_stream.specs.Tables.{empty_tables}
use Rattle.tk_live.specs.Blocks.{Block}
use Rattle.tk_script.specs.Commands.{Said, Line, says, publish, lines_of, last_line, settings_of}
use Rattle.tk_live.specs.Course.{start_of_all, course_of}
use Rattle.tk_live.specs.Ran.{RunsThrough, IsStreamOf, written_by}
use Rattle.tk_script.specs.Refusals.{stop_name}
use Rattle.tk_live.specs.Stops.{AllGo, LineStopReason}
use Rattle.tk_live.specs.Transfer.{IsScript}
use Rattle.tk_script.specs.declared.stop.Stop.{Stop}
use Rattle.tk_script.specs.declared.stop.Stop.TheVariants.{BadCommand, WriteFault}

-- what went out of a command that stops: at a fault of the writer a proper front of the line that was due, else nothing
abbrev pub FrontOf : List Sending → Said → Stop → List ℕ → Type 0
FrontOf sent (publish moment whole) WriteFault front = (s : Sending) × (s.tables.now ≡ moment) × (s.snapshot ≡ whole) × (s.seq ≡ last_sent 0 sent + 1)
    × MaySend (tables_sent empty_tables sent) s × IsCut (sent_text (line_sent (tables_sent empty_tables sent) s)) front
FrontOf sent (publish moment whole) stop front = front ≡ []
FrontOf sent s stop front = front ≡ []

-- what went out of a line that stops
abbrev pub Fronts : List Sending → Line → Stop → List ℕ → Type 0
Fronts sent (says s) stop front = FrontOf sent s stop front
Fronts sent line stop front = front ≡ []

-- lines stop at the one of this number, by this name, and this is what was written then
pub record StopsAt (answers : ℕ → Bool → Type 0) (ls : List Line) (number : ℕ) (name : List ℕ) (written : List ℕ) : Type 0 where
  pub before : List Line
  pub line : Line
  pub after : List Line
  pub lines : ls ≡ before ++ line ∷ after
  pub counted : number ≡ length before + 1
  -- the text stops none of the lines before it, and what came of these
  pub goes : AllGo start_of_all (enumerate_from 1 before)
  pub kept : List Bool
  pub sent : List Sending
  pub came : IsStreamOf (settings_of ls) (course_of before) kept sent
  -- and how it stops
  pub stop : Stop
  pub stops : LineStopReason answers (course_of before) line stop
  pub named : name ≡ stop_name stop
  pub front : List ℕ
  pub fronts : Fronts sent line stop front
  pub all : written ≡ written_by sent ++ front

-- no line stops, and a block is open after the last, which has this number
pub record StaysOpen (ls : List Line) (last number : ℕ) (name : List ℕ) (written : List ℕ) : Type 0 where
  pub counted : number ≡ last
  pub goes : AllGo start_of_all (enumerate_from 1 ls)
  pub block : Block
  pub is_open : (course_of ls).block ≡ Some block
  pub named : name ≡ stop_name BadCommand
  pub kept : List Bool
  pub sent : List Sending
  pub came : IsStreamOf (settings_of ls) (course_of ls) kept sent
  pub all : written ≡ written_by sent

-- what the run of lines has written at its end, of which the last has this number, with what the gate may answer to each worker.
-- Where there is no memory to begin, it is nothing
abbrev pub LinesWrite : (ℕ → Bool → Type 0) → ℕ → List Line → Result (Unit {0}) AppFault → List ℕ → Type 0
LinesWrite answers last ls (Ok done) written = (sent : List Sending) × RunsThrough (settings_of ls) ls sent × (written ≡ written_by sent)
LinesWrite answers last ls (Err (faults.Script number name)) written = StopsAt answers ls number name.now written ⊎ StaysOpen ls last number name.now written
LinesWrite answers last ls (Err faults.Memory) written = written ≡ []
LinesWrite answers last ls (Err other) written = ⊥

-- what the run of a script has written at its end
abbrev pub ScriptResult : (ℕ → Bool → Type 0) → List ℕ → Result (Unit {0}) AppFault → List ℕ → Type 0
ScriptResult answers script = LinesWrite answers (last_line script) (lines_of script)

-- nothing is written where the script can't be read
abbrev pub ReadsAndRuns : (ℕ → Bool → Type 0) → Option (List ℕ) → Result (Unit {0}) AppFault → List ℕ → Type 0
ReadsAndRuns answers known (Err faults.Memory) written = written ≡ []
ReadsAndRuns answers known (Err faults.Read) written = written ≡ []
ReadsAndRuns answers known result written = (script : List ℕ) × IsScript known script × ScriptResult answers script result written
