use Rattle.tk_screen.proofs.PutLemmas.{both}
use Rattle.tk_frame.proofs.polled.put_attr.Goals as goal

pub returns : goal.returns
returns c = rw (← c.as_str.ensures.text)
    (both c.in_ok-put_text.ensures
    (both c.in_ok-put_text-2.ensures
    (both c.in_ok-put_text-3.ensures
    (both c.in_ok-put_value.ensures c.in_ok-put_unit.ensures))))
