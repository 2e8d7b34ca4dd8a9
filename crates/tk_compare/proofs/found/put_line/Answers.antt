use Rattle.std.proofs.Common.{subst}
use Rattle.tk_report.specs.Pieces.{Puts}
use Rattle.tk_report.proofs.PutLemmas.{both}
use Rattle.tk_compare.proofs.found.put_line.Goals as goal

pub returns : goal.returns
returns c = both (subst (Puts _ _) c.as_bytes.ensures.value c.in_ok-put.ensures) (both c.in_ok-put-2.ensures c.in_ok-put-3.ensures)
