use Rattle.tk_paper.proofs.PutLemmas.{then}
use Rattle.tk_page.proofs.changed_places.put_change_row.Goals as goal

pub returns : goal.returns
returns c =
    then c.in_ok-put.ensures
    (then c.in_ok-put_site_text.ensures
    (then c.in_ok-put-2.ensures
    (then c.in_ok-put_changes.ensures
    (c.in_ok-put-3.ensures))))
