use Rattle.json.specs.Print.{escape_byte}
use Rattle.tk_stream.proofs.Pieces.{taken}
use Rattle.tk_stream.proofs.text.read_own.infos.AttrInfoTaken.take.Goals as goal

pub returns : goal.returns
unfolding escape_byte
returns c =
    (taken (rw c.in-Some.is at c.in_ok-value.ensures)
    (taken (rw c.in-Some-2.is at c.in_ok-value-2.ensures)
    (taken c.in-Some-take_attr_kind.ensures
    c.in-Some-take_text.ensures)))
