use Rattle.std.proofs.Common.{◌≡◌, ℕ, List, [], Ok, ap, ◌∙◌, append-nil}
use Rattle.tk_stream.specs.Pieces.{Takes}
use Rattle.tk_stream.specs.Lines.{LineView}
use Rattle.tk_stream.specs.Ranges.{IsLine}
use Rattle.tk_stream.specs.Reading.{line_of_text}
use Rattle.tk_stream.specs.Spelling.{line_text}
use Rattle.tk_stream.proofs.Decoded.{text_reads}
use Rattle.tk_stream.proofs.line.Line.read.Goals as goal

taken_back : (bytes : List ℕ) (l : LineView) → Takes bytes (line_text l) [] → IsLine l → line_of_text bytes ≡ Ok l
taken_back bytes l h fit = ap line_of_text (h.is ∙ append-nil (line_text l)) ∙ text_reads l fit

pub returns-in-Some : goal.returns-in-Some
returns-in-Some c = taken_back c.args.bytes.now c.in-Some.line (rw c.in-Some.is at c.in_ok-line.ensures) c.ranges-in-Some.ensures
