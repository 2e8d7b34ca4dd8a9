use Rattle.tk_report.proofs.PutLemmas.{both}
use Rattle.tk_report.proofs.lines.put_warning_of.Goals as goal

pub returns : goal.returns
returns c =
    (both c.in_ok-put.ensures
    c.in_ok-put_oddity.ensures)
