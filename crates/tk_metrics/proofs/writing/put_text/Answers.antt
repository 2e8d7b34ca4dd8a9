use Rattle.tk_report.proofs.PutLemmas.{both}
use Rattle.tk_metrics.proofs.writing.put_text.Goals as goal

pub returns : goal.returns
returns c =
    (both c.in_ok-put_tasks.ensures
    (both c.in_ok-put_resources.ensures
    (both c.in_ok-put_warnings.ensures
    (both c.in_ok-put_dropped.ensures
    (both c.in_ok-put_lines.ensures
    (both c.in_ok-put_moment.ensures
    c.in_ok-put_build.ensures))))))
