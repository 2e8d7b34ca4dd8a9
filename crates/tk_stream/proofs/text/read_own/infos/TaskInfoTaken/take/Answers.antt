use Rattle.json.specs.Print.{escape_byte}
use Rattle.tk_stream.proofs.Pieces.{taken}
use Rattle.tk_stream.proofs.text.read_own.infos.TaskInfoTaken.take.Goals as goal

pub returns : goal.returns
unfolding escape_byte
returns c = rw c.in-Some-task_id.ensures
    (taken c.in-Some.ensures
    (taken c.in-Some-take_kind.ensures
    (taken (rw c.in-Some-2.is at c.in_ok-value.ensures)
    (taken (rw c.in-Some-3.is at c.in_ok-value-2.ensures)
    c.in-Some-take_text.ensures))))
