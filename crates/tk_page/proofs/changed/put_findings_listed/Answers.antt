use Rattle.tk_paper.proofs.PutLemmas.{then}
use Rattle.tk_page.proofs.changed.put_findings_listed.Goals as goal

pub returns : goal.returns
returns c =
    then c.in_ok-put_findings_at.ensures
    (then c.in_ok-put_findings_at-2.ensures
    (c.in_ok-put_findings_at-3.ensures))
