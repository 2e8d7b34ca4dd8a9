use Rattle.json.specs.Print.{escape_byte}
use Rattle.tk_stream.specs.Spelling.{waits_fields}
use Rattle.tk_stream.proofs.Pieces.{taken, short_put, members_close}
use Rattle.tk_stream.proofs.text.write.times.write_task_times.Goals as goal

pub returns : goal.returns
unfolding escape_byte
returns c =
    rw (members_close (waits_fields c.args.times.now.waits))
    (short_put _ c.told-scratch c.in_ok-put_short.ensures
    (taken c.comma_before-at.ensures.text
    (taken c.text_before-at-2.ensures.text
    (taken c.buckets_before-at.ensures.text
    (taken c.number_before-at-2.ensures.text
    (taken c.number_before-at.ensures.text
    (taken c.waits_before-at.ensures.text
    c.text_before-at.ensures.text)))))))
