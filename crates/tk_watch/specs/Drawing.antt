-- What drawing a screen of tables did. Inner: no public clause cites this.
use Rattle.std.specs.Prelude.{◌≡◌, ◌⊎◌, ℕ, List, Option, Result, Ok, Err}
use Rattle.std.specs.Io.KnownBytes.{Appends}
use Rattle.tk_fault.specs.declared.fault.AppFault.{AppFault}
use Rattle.tk_fault.specs.declared.fault.AppFault.TheVariants as faults
use Rattle.tk_frame.specs.Frames.{frame_text}
use Rattle.tk_stream.specs.Sent.{IsCut}
use Rattle.tk_stream.specs.Tables.{TablesView}
use Rattle.tk_watch.specs.Course.{Sees}
use Rattle.tk_watch.specs.Odd.{odd_after}
use Rattle.tk_watch.specs.declared.drawing.Screen.{Screen}
use Rattle.tk_watch.specs.declared.seen.Course.{Course}

-- the screen of tables to which these lines came
abbrev pub text_of : Screen → List TablesView → TablesView → List ℕ
text_of screen shown tables = frame_text screen.canvas screen.query (odd_after screen.lints shown tables) tables

-- a text was written, or a proper front of it, or there was no memory and nothing was
abbrev pub Sends : List ℕ → Result (Unit {0}) AppFault → Option (List ℕ) → Option (List ℕ) → Type 0
Sends text (Ok done) old new = Appends old new text
Sends text (Err faults.Write) old new = (front : List ℕ) × IsCut text front × Appends old new front
Sends text (Err faults.Memory) old new = new ≡ old
Sends text (Err other) old new = ⊥

-- it was written, and what is answered is this fault; or it could not be, and that is answered
abbrev pub SendsBefore : List ℕ → AppFault → AppFault → Option (List ℕ) → Option (List ℕ) → Type 0
SendsBefore text fault answer old new = ((answer ≡ fault) × Sends text (Ok tt) old new) ⊎ Sends text (Err answer) old new

-- at a fault of a stream the screen of what stands was written, or could not be; at another nothing was, and it is answered
abbrev pub DrawsAt : Screen → Course → AppFault → AppFault → Option (List ℕ) → Option (List ℕ) → Type 0
DrawsAt screen course (faults.Stream lines fault) answer old new =
    (shown : List TablesView) → Sees screen.lints shown course.seen
    → SendsBefore (text_of screen shown course.client.start.tables) (faults.Stream lines fault) answer old new
DrawsAt screen course other answer old new = (answer ≡ other) × (new ≡ old)
