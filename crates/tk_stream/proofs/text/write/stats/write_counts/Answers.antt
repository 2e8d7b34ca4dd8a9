use Rattle.tk_stream.proofs.Pieces.{taken, short_put}
use Rattle.tk_stream.proofs.text.write.stats.write_counts.Goals as goal

pub returns : goal.returns
returns c =
    short_put _ c.told-scratch c.in_ok-put_short.ensures
    (taken c.comma_before-at.ensures.text
    (taken c.number_before-at-3.ensures.text
    (taken c.number_before-at-2.ensures.text
    (taken c.number_before-at.ensures.text
    c.text_before-at.ensures.text))))
