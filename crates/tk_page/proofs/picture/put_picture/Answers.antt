use Rattle.tk_paper.proofs.PutLemmas.{then}
use Rattle.tk_page.proofs.picture.put_picture.Goals as goal

pub returns : goal.returns
returns c =
    then c.in_ok-open_drawing.ensures
    (then c.in_ok-put_split_readings.ensures
    (then c.in_ok-put_picture_words.ensures
    (then c.in_ok-put_part.ensures
    (then c.in_ok-put_part-2.ensures
    (then c.in_ok-put_part-3.ensures c.in_ok-put.ensures)))))
