use Rattle.json.specs.Print.{escape_byte}
use Rattle.tk_stream.proofs.Pieces.{taken}
use Rattle.tk_stream.proofs.text.read_own.infos.ResourceInfoTaken.take.Goals as goal

pub returns : goal.returns
unfolding escape_byte
returns c = rw (c.in-Some-resource_id.ensures, c.in-Some-optional_resource_id.ensures)
    (taken (rw c.in-Some.is at c.in_ok-value.ensures)
    (taken c.in-Some-take_number.ensures
    (taken (rw c.in-Some-2.is at c.in_ok-value-2.ensures)
    (taken (rw c.in-Some-3.is at c.in_ok-value-3.ensures)
    (taken c.in-Some-take_optional.ensures
    (taken (rw c.in-Some-4.is at c.in_ok-value-4.ensures)
    c.in-Some-take_text.ensures))))))
