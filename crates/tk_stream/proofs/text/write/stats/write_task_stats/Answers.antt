use Rattle.json.specs.Print.{escape_byte}
use Rattle.tk_stream.proofs.Pieces.{taken, short_put}
use Rattle.tk_stream.proofs.text.write.stats.write_task_stats.Goals as goal

pub returns : goal.returns
unfolding escape_byte
returns c =
    short_put _ c.told-scratch c.in_ok-put_short.ensures
    (taken c.comma_before-at.ensures.text
    (taken c.number_before-at-9.ensures.text
    (taken c.number_before-at-8.ensures.text
    (taken c.number_before-at-7.ensures.text
    (taken c.optional_before-at-5.ensures.text
    (taken c.number_before-at-6.ensures.text
    (taken c.optional_before-at-4.ensures.text
    (taken c.number_before-at-5.ensures.text
    (taken c.number_before-at-4.ensures.text
    (taken c.optional_before-at-3.ensures.text
    (taken c.optional_before-at-2.ensures.text
    (taken c.optional_before-at.ensures.text
    (taken c.flag_before-at-2.ensures.text
    (taken c.number_before-at-3.ensures.text
    (taken c.text_before-at-2.ensures.text
    (taken c.waits_before-at.ensures.text
    (taken c.flag_before-at.ensures.text
    (taken c.number_before-at-2.ensures.text
    (taken c.number_before-at.ensures.text
    c.text_before-at.ensures.text)))))))))))))))))))
