use Rattle.json.specs.Print.{escape_byte}
use Rattle.tk_stream.proofs.Pieces.{taken}
use Rattle.tk_stream.proofs.text.read_own.infos.take_location.Goals as goal

pub returns : goal.returns
unfolding escape_byte
returns c =
    (taken c.in-Some.ensures
    (taken (rw c.in-Some-2.is at c.in_ok-value.ensures)
    (taken c.in-Some-take_small.ensures
    (taken c.in-Some-take_small-2.ensures
    c.in-Some-take_text.ensures))))
