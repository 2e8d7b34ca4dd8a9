use Rattle.tk_screen.proofs.PutLemmas.{both}
use Rattle.tk_frame.proofs.items.put_op.Goals as goal

pub returns : goal.returns
returns c = rw (← c.op_state.ensures, ← c.busy_until-busy.ensures, ← c.as_str.ensures.text)
    (both c.in_ok-put_value.ensures
    (both c.in_ok-put_word.ensures
    (both c.in_ok-put_value-2.ensures
    (both c.in_ok-put_time.ensures
    (both c.in_ok-put_task.ensures
    (both c.in_ok-put_value-3.ensures
    (record { is = c.in_ok-push_str.ensures.bytes })))))))
