use Rattle.json.specs.Print.{escape_byte}
use Rattle.tk_stream.proofs.Pieces.{taken}
use Rattle.tk_stream.proofs.text.read_own.stats.Tuple2AsyncOpIdOpRowTaken.take.Goals as goal

pub returns : goal.returns
unfolding escape_byte
returns c = rw (c.in-Some-op_id.ensures, c.in-Some-optional_task_id.ensures, c.in-Some-few_values.ensures)
    (taken (rw c.in-Some.is at c.in_ok-value.ensures)
    (taken c.in-Some-take_number.ensures
    (taken c.in-Some-take_number-2.ensures
    (taken c.in-Some-take_optional.ensures
    (taken c.in-Some-take_optional-2.ensures
    (taken c.in-Some-take_number-3.ensures
    (taken c.in-Some-take_number-4.ensures
    (taken c.in-Some-take_optional-3.ensures
    (taken c.in-Some-take_optional-4.ensures
    (taken c.in-Some-take_flag.ensures
    (taken c.in-Some-take_number-5.ensures
    (taken c.in-Some-take_optional-5.ensures
    c.in-Some-take_text.ensures))))))))))))
