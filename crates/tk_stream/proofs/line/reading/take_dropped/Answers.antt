use Rattle.json.specs.Print.{escape_byte}
use Rattle.tk_stream.proofs.Pieces.{taken}
use Rattle.tk_stream.proofs.line.reading.take_dropped.Goals as goal

pub returns : goal.returns
unfolding escape_byte
returns c =
    (taken c.in_ok-rest.ensures
    (taken c.in_ok-tasks.ensures
    (taken c.in_ok-resources.ensures
    (taken c.in_ok-ops.ensures
    c.in_ok-rest-2.ensures))))
