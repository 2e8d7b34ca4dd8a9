use Rattle.tk_screen.proofs.PutLemmas.{both}
use Rattle.tk_frame.proofs.odd_lines.put_whom.Goals as goal

pub returns : goal.returns
returns c = rw (← c.as_slice.ensures.value)
    (both c.in_ok-put_text.ensures
    (both c.in_ok-put_duration.ensures
    (both c.in_ok-put_text-2.ensures c.in_ok-put_place.ensures)))
