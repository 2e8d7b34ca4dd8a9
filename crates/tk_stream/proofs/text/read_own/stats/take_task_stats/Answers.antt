use Rattle.json.specs.Print.{escape_byte}
use Rattle.tk_stream.proofs.Pieces.{taken}
use Rattle.tk_stream.proofs.text.read_own.stats.take_task_stats.Goals as goal

pub returns : goal.returns
unfolding escape_byte
returns c = rw (c.in_ok-id.ensures, c.in_ok-waits.ensures)
    (taken c.in_ok-busy.ensures
    (taken c.in_ok-clones.ensures
    (taken c.in_ok-created.ensures
    (taken c.in_ok-dropped.ensures
    (taken c.in_ok-drops.ensures
    (taken c.in_ok-first_poll.ensures
    (taken c.in_ok-handles.ensures
    (taken c.in_ok-number.ensures
    (taken c.in_ok-last_ended.ensures
    (taken c.in_ok-last_started.ensures
    (taken c.in_ok-last_wake.ensures
    (taken c.in_ok-polling.ensures
    (taken c.in_ok-polls.ensures
    (taken c.in_ok-rest.ensures
    (taken c.in_ok-sched.ensures
    (taken c.in_ok-scheduled.ensures
    (taken c.in_ok-self_wakes.ensures
    (taken c.in_ok-wakes.ensures
    c.in_ok-rest-2.ensures))))))))))))))))))
