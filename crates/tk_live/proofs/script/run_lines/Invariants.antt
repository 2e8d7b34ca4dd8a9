use Rattle.std.proofs.Common.{◌≡◌, List, Bool, ◌++◌, length, map}
use Rattle.std.specs.List.{enumerate_from}
use Rattle.std.specs.Io.KnownBytes.{Appends}
use Rattle.tk_stream.specs.Streams.{Sending}
use Rattle.tk_script.specs.Commands.{line_of, lines_of, settings_of}
use Rattle.tk_live.specs.Course.{start_of_all, course_of}
use Rattle.tk_script.specs.Pieces.{pieces_at, pieces_left}
use Rattle.tk_live.specs.Ran.{written_by}
use Rattle.tk_live.specs.Runs.{Represents, IsOpen}
use Rattle.tk_live.specs.Stops.{AllGo}
use Rattle.tk_live.proofs.script.run_lines.Given as goal

-- the lines so far, and what came of them
abbrev pub invariant-loop-line : goal.invariant-loop-line
invariant-loop-line g l = record {
  counted : l.number ≡ length l.yielded;
  cut : pieces_at 10 l.script ≡ map (λ x. x.now) l.yielded ++ pieces_left l.line-iterator;
  goes : AllGo start_of_all (enumerate_from 1 (map line_of (map (λ x. x.now) l.yielded)));
  came : (kept : List Bool) × (sent : List Sending) × Represents l.interpreter (settings_of (lines_of l.script)) (course_of (map line_of (map (λ x. x.now) l.yielded))) kept sent × IsOpen l.block (course_of (map line_of (map (λ x. x.now) l.yielded)))
      × Appends (g.W.Write.contents l.fn.writer) (g.W.Write.contents l.writer) (written_by sent);
}
