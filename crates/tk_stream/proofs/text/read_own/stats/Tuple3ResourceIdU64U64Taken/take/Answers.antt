use Rattle.json.specs.Print.{escape_byte}
use Rattle.tk_stream.proofs.Pieces.{taken}
use Rattle.tk_stream.proofs.text.read_own.stats.Tuple3ResourceIdU64U64Taken.take.Goals as goal

pub returns : goal.returns
unfolding escape_byte
returns c = rw c.in-Some-resource_id.ensures
    (taken c.in-Some.ensures
    (taken c.in-Some-take_number.ensures
    (taken c.in-Some-take_number-2.ensures
    c.in-Some-take_text.ensures)))
