use Rattle.tk_report.proofs.PutLemmas.{both}
use Rattle.tk_metrics.proofs.writing.put_tasks.Goals as goal

pub returns : goal.returns
returns c =
    (both c.in_ok-put_counts.ensures
    (both c.in_ok-put_counts-2.ensures
    (both c.in_ok-put_counts-3.ensures
    (both c.in_ok-put_counts-4.ensures
    (both c.in_ok-put_counts-5.ensures
    (both c.in_ok-put_counts-6.ensures
    (both c.in_ok-put_counts-7.ensures
    (both c.in_ok-put_all_states.ensures
    (both c.in_ok-put_counts-8.ensures
    (both c.in_ok-put_counts-9.ensures
    c.in_ok-put_counts-10.ensures))))))))))
