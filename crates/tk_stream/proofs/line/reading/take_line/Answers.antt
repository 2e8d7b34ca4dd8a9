use Rattle.std.proofs.Common.{arith}
use Rattle.std.proofs.lemmas.List.{nil_from_length}
use Rattle.std.specs.Fmt.{digits}
use Rattle.json.specs.Print.{escape_byte}
use Rattle.tk_stream.proofs.Pieces.{taken, all_taken, line_split}
use Rattle.tk_stream.proofs.line.reading.take_line.Goals as goal

pub returns : goal.returns
unfolding escape_byte digits
returns c = rw (c.of_parts.ensures, line_split) (all_taken (
    (taken c.in-Some.ensures
    (taken (rw c.in-Some-2.is at c.in_ok-value.ensures)
    (taken (rw c.in-Some-3.is at c.in_ok-value-2.ensures)
    (taken (rw c.in-Some-4.is at c.in_ok-value-3.ensures)
    (taken (rw c.in-Some-5.is at c.in_ok-value-4.ensures)
    (taken c.in-Some-take_number.ensures
    (taken (rw c.in-Some-6.is at c.in_ok-value-5.ensures)
    (taken (rw c.in-Some-7.is at c.in_ok-value-6.ensures)
    (taken (rw c.in-Some-8.is at c.in_ok-value-7.ensures)
    (taken c.in-Some-take_number-2.ensures
    (taken c.in-Some-take_flag.ensures
    (taken (rw c.in-Some-9.is at c.in_ok-value-8.ensures)
    (taken (rw c.in-Some-10.is at c.in_ok-value-9.ensures)
    (taken (rw (c.if-number-version.false, c.version_of-version.ensures, c.tell_waits-waits.ensures) at c.in-Some-take_number-3.ensures)
    c.in-Some-take_text.ensures))))))))))))))
    ) (nil_from_length _ (omega arith)))
