use Rattle.tk_report.proofs.PutLemmas.{both}
use Rattle.tk_report.proofs.timed.put_task_lines.Goals as goal

pub returns : goal.returns
returns c =
    (both c.in_ok-put_task.ensures
    c.in_ok-put_below_if.ensures)
