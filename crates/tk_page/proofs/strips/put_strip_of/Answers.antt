use Rattle.tk_paper.proofs.PutLemmas.{then}
use Rattle.tk_page.proofs.strips.put_strip_of.Goals as goal

pub returns : goal.returns
returns c =
    then c.in_ok-open_drawing.ensures
    (then c.in_ok-put_readings.ensures
    (then c.in_ok-put_words.ensures
    (then c.in_ok-put_alive.ensures
    (then c.in_ok-put_lost_if.ensures
    (then c.in_ok-put_paths.ensures c.in_ok-put.ensures)))))
