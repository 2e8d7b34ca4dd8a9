use Rattle.json.specs.Print.{escape_byte}
use Rattle.tk_stream.proofs.Pieces.{taken, taken_last}
use Rattle.tk_stream.proofs.text.write.times.waits_before.Goals as goal

pub returns-clause-text : goal.returns-clause-text
unfolding escape_byte
returns-clause-text g c =
    rw c.in-Some.is
    (taken c.number_before.ensures.text
    (taken c.text_before-start.ensures.text
    (taken_last c.buckets_before-start.ensures.text)))
