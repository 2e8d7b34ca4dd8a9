use Rattle.tk_report.proofs.PutLemmas.{both, after_words}
use Rattle.tk_report.proofs.lines.put_task.Goals as goal

pub returns : goal.returns
returns c = rw (← c.kind_word.ensures, ← c.task_state.ensures, after_words)
    (both c.in_ok-put.ensures
    (both c.in_ok-put-2.ensures
    (both c.in_ok-put-3.ensures
    (both c.in_ok-put-4.ensures
    (both c.in_ok-put-5.ensures
    (both c.in_ok-put-6.ensures
    (both c.in_ok-put-7.ensures
    (both c.in_ok-put-8.ensures
    (both c.in_ok-put-9.ensures
    (both c.in_ok-put-10.ensures
    (both c.in_ok-put_waited.ensures
    (both c.in_ok-put-11.ensures
    c.in_ok-put_end.ensures))))))))))))
