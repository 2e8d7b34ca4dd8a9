use Rattle.json.specs.Print.{escape_byte}
use Rattle.tk_stream.specs.Spelling.{waits_fields}
use Rattle.tk_stream.proofs.Pieces.{taken, members_close}
use Rattle.tk_stream.proofs.text.read_own.times.Tuple2TaskIdPollTimesTaken.take.Goals as goal

pub returns : goal.returns
unfolding escape_byte
returns c =
    rw (c.in-Some-task_id.ensures, members_close (waits_fields c.in-Some-2.value.0))
    (taken (rw c.in-Some.is at c.in_ok-value.ensures)
    (taken c.in-Some-take_number.ensures
    (taken c.in-Some-take_number-2.ensures
    (taken (rw c.in-Some-2.is at c.in_ok-value-2.ensures)
    c.in-Some-take_text.ensures))))
