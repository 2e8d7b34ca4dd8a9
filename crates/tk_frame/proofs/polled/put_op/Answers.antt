use Rattle.tk_screen.proofs.PutLemmas.{both}
use Rattle.tk_frame.proofs.polled.put_op.Goals as goal

pub returns : goal.returns
returns c = rw (← c.as_str.ensures.text, ← c.op_state.ensures, ← c.as_slice.ensures.list, ← c.list.ensures, ← c.as_slice-2.ensures)
    (both c.in_ok-put_text.ensures
    (both c.in_ok-put_on.ensures
    (both c.in_ok-put_text-2.ensures
    (both c.in_ok-put_text-3.ensures
    (both c.in_ok-put_ago.ensures c.in_ok-put_attrs.ensures)))))
