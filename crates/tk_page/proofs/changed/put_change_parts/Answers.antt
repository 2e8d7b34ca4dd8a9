use Rattle.tk_paper.proofs.PutLemmas.{then}
use Rattle.tk_page.proofs.changed.put_change_parts.Goals as goal

pub returns : goal.returns
returns c =
    then c.in_ok-put_verdict.ensures
    (then c.in_ok-put_change_header.ensures
    (then c.in_ok-put.ensures
    (then c.in_ok-put_findings_section.ensures
    (then c.in_ok-put_changes_section.ensures
    (c.in_ok-put-2.ensures)))))
