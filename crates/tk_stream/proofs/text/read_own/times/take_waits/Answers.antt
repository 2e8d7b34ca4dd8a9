use Rattle.json.specs.Print.{escape_byte}
use Rattle.tk_stream.proofs.Pieces.{taken, taken_last}
use Rattle.tk_stream.proofs.text.read_own.times.take_waits.Goals as goal

pub returns : goal.returns
unfolding escape_byte
returns c = taken (rw c.in-Some.is at c.take_number.ensures) (taken_last (rw c.in-Some-2.is at c.in_ok-value.ensures))
