use Rattle.tk_screen.proofs.PutLemmas.{both}
use Rattle.tk_frame.proofs.tasks.put_task.Goals as goal

pub returns : goal.returns
returns c = rw (← c.task_state.ensures, ← c.as_str.ensures.text, ← c.kind_word.ensures)
    (both c.in_ok-put_value.ensures
    (both c.in_ok-put_word.ensures
    (both c.in_ok-put_times.ensures
    (both c.in_ok-put_value-2.ensures
    (both c.in_ok-put_value-3.ensures
    (both c.in_ok-put_part.ensures
    (both c.in_ok-put_end.ensures
    (both c.in_ok-put_word-2.ensures
    c.in_ok-put_text.ensures))))))))
