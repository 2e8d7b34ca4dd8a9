use Rattle.tk_paper.proofs.PutLemmas.{then}
use Rattle.tk_page.proofs.changed_places.put_changes_section.Goals as goal

pub returns : goal.returns
returns c =
    then c.in_ok-start_section.ensures
    (then c.in_ok-put.ensures
    (then c.in_ok-put_change_caption.ensures
    (then c.in_ok-put_change_columns.ensures
    (then c.in_ok-put_change_rows.ensures
    (c.in_ok-put-2.ensures)))))
