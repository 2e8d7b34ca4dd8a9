use Rattle.tk_screen.proofs.PutLemmas.{both}
use Rattle.tk_frame.proofs.polled.put_resource.Goals as goal

pub returns : goal.returns
returns c = rw (← c.as_slice.ensures.list, ← c.list.ensures, ← c.as_slice-2.ensures)
    (both c.in_ok-put_type.ensures
    (both c.in_ok-put_location.ensures c.in_ok-put_attrs.ensures))
