use Rattle.tk_report.proofs.PutLemmas.{both}
use Rattle.tk_report.proofs.timed.put_timed_report.Goals as goal

pub returns : goal.returns
returns c =
    both c.in_ok-put_heading.ensures
    (both c.in_ok-put_timed_tasks.ensures
    (both c.in_ok-put_resources.ensures
    (both c.in_ok-put_ops.ensures
    c.in_ok-put_any_warnings.ensures)))
