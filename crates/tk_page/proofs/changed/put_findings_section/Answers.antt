use Rattle.tk_paper.proofs.PutLemmas.{then}
use Rattle.tk_page.proofs.changed.put_findings_section.Goals as goal

pub returns : goal.returns
returns c =
    then c.in_ok-start_section.ensures
    (then c.in_ok-put.ensures
    (then c.in_ok-put_findings_listed.ensures
    (c.in_ok-put-2.ensures)))
