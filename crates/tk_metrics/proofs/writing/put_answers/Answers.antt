use Rattle.tk_report.proofs.PutLemmas.{both}
use Rattle.tk_metrics.proofs.writing.put_answers.Goals as goal

pub returns : goal.returns
returns c =
    (both c.in_ok-put_answer.ensures
    c.in_ok-put_answer-2.ensures)
