-- The lines that the run of a script wrote.
use Rattle.std.proofs.Common.{◌≡◌, ℕ, ◌≤◌, Bool, List, [], ◌∷◌, ◌++◌, length, Result, Ok, Err, inl, inr, refl, ap, sym, ◌∙◌, append-nil}
use Rattle.tk_stream.specs.Streams.{Sending, GoesOn, lines_sent}
use Rattle.tk_stream.specs.Tables.{empty_tables}
use Rattle.tk_client.specs.Meaning.{greatest_line}
use Rattle.tk_client.specs.Streams.{AreShort}
use Rattle.tk_fault.specs.declared.fault.AppFault.{AppFault}
use Rattle.tk_fault.specs.declared.fault.AppFault.TheVariants as faults
use Rattle.tk_script.specs.Commands.{Said, Line, says, publish, lines_of, settings_of}
use Rattle.tk_script.specs.Refusals.{stop_name}
use Rattle.tk_script.specs.declared.stop.Stop.{Stop}
use Rattle.tk_script.specs.declared.stop.Stop.TheVariants.{WriteFault}
use Rattle.tk_live.specs.Ran.{RunsThrough, written_by}
use Rattle.tk_live.specs.Script.{FrontOf, Fronts, StopsAt, ScriptResult}
use Rattle.tk_app.specs.Viewed.{WriterFailed}
use Rattle.tk_app.proofs.ShortLines.{came_short, script_few}

-- bytes are those of these lines, which go on from nothing, and none of which is too long
pub record AreLines (written : List ℕ) (sent : List Sending) : Type 0 where
  pub bytes : written ≡ written_by sent
  pub on : GoesOn empty_tables 0 sent
  pub short : AreShort greatest_line (lines_sent empty_tables sent)

-- nothing of a line went out but by a fault of the writer
publish_front : (sent : List Sending) (moment : ℕ) (whole : Bool) (stop : Stop) (front : List ℕ) → (stop ≡ WriteFault → ⊥) → FrontOf sent (publish moment whole) stop front → front ≡ []
publish_front sent moment whole WriteFault front ne f = absurd (ne refl)
publish_front sent moment whole stop front ne f = f

command_front : (sent : List Sending) (s : Said) (stop : Stop) (front : List ℕ) → (stop ≡ WriteFault → ⊥) → FrontOf sent s stop front → front ≡ []
command_front sent (publish moment whole) stop front ne f = publish_front sent moment whole stop front ne f
command_front sent s stop front ne f = f

line_front : (sent : List Sending) (line : Line) (stop : Stop) (front : List ℕ) → (stop ≡ WriteFault → ⊥) → Fronts sent line stop front → front ≡ []
line_front sent (says s) stop front ne f = command_front sent s stop front ne f
line_front sent line stop front ne f = f

module _ (answers : ℕ → Bool → Type 0) (script written : List ℕ) (short : length script ≤ 1048576) where
  abbrev lines : List Line
  lines = lines_of script

  pub stop_few : (number : ℕ) (name : List ℕ) (at : StopsAt answers lines number name written) → AreShort greatest_line (lines_sent empty_tables at.sent)
  stop_few number name at = came_short (settings_of lines) at.before at.kept at.sent (script_few script short at.before (at.line ∷ at.after) at.lines) at.came

  -- where no line stopped
  pub ran_lines : (sent : List Sending) → RunsThrough (settings_of lines) lines sent → written ≡ written_by sent → AreLines written sent
  ran_lines sent ran bytes = record {
    bytes = bytes;
    on = ran.came.stream;
    short = came_short (settings_of lines) lines ran.kept sent (script_few script short lines [] (sym (append-nil lines))) ran.came;
  }

  -- and whatever the run came to but a fault of the writer
  pub wrote : (run : Result (Unit {0}) AppFault) → ScriptResult answers script run written → (WriterFailed run → ⊥) → (sent : List Sending) × AreLines written sent
  wrote (Ok done) (sent, ran, bytes) whole = (sent, ran_lines sent ran bytes)
  wrote (Err (faults.Script number name)) (inl at) whole = (
    at.sent,
    record {
      bytes = at.all ∙ ap (λ (front : List ℕ). written_by at.sent ++ front) (line_front at.sent at.line at.stop at.front (λ is. whole (at.named ∙ ap stop_name is)) at.fronts) ∙ append-nil (written_by at.sent);
      on = at.came.stream;
      short = stop_few number name.now at;
    },
  )
  wrote (Err (faults.Script number name)) (inr at) whole = (
    at.sent,
    record {
      bytes = at.all;
      on = at.came.stream;
      short = came_short (settings_of lines) lines at.kept at.sent (script_few script short lines [] (sym (append-nil lines))) at.came;
    },
  )
  wrote (Err faults.Memory) none whole = ([], record { bytes = none; on = tt; short = tt })
  wrote (Err faults.Read) never whole = absurd never
  wrote (Err faults.Write) never whole = absurd never
  wrote (Err (faults.Stream number fault)) never whole = absurd never
