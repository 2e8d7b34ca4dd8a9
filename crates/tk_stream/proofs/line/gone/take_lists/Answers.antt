use Rattle.json.specs.Print.{escape_byte}
use Rattle.tk_stream.proofs.Pieces.{taken, taken_last}
use Rattle.tk_stream.proofs.line.gone.take_lists.Goals as goal

pub returns : goal.returns
unfolding escape_byte
returns c =
    (taken (rw c.in-Some.is at c.in_ok-value.ensures)
    (taken (rw c.in-Some-2.is at c.in_ok-value-2.ensures)
    (taken_last (rw c.in-Some-3.is at c.in_ok-value-3.ensures))))
