use Rattle.tk_report.proofs.PutLemmas.{both}
use Rattle.tk_compare.proofs.lines.put_place.Goals as goal

pub returns : goal.returns
returns c = both c.in_ok-put_line.ensures c.in_ok-put_below.ensures
