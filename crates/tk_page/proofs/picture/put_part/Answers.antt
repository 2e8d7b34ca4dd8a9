use Rattle.tk_paper.proofs.PutLemmas.{then}
use Rattle.tk_page.proofs.picture.put_part.Goals as goal

pub returns : goal.returns
returns c =
    rw c.class_of-class.ensures at
    (then c.in_ok-put.ensures
    (then c.in_ok-put_part_boxes.ensures c.in_ok-put-2.ensures))
