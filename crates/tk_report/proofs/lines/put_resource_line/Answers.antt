use Rattle.tk_report.proofs.PutLemmas.{both}
use Rattle.tk_report.proofs.lines.put_resource_line.Goals as goal

pub returns : goal.returns
returns c = rw (← c.resource_state.ensures)
    (both c.in_ok-put.ensures
    (both c.in_ok-put-2.ensures
    (both c.in_ok-put-3.ensures
    (both c.in_ok-put-4.ensures
    (both c.in_ok-put-5.ensures
    (both c.in_ok-put-6.ensures
    c.in_ok-put_end.ensures))))))
