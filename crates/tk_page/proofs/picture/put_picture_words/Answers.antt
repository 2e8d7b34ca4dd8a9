use Rattle.tk_paper.proofs.PutLemmas.{then}
use Rattle.tk_page.proofs.picture.put_picture_words.Goals as goal

pub returns : goal.returns
returns c = then c.in_ok-put.ensures (then c.in_ok-put_all_held_words.ensures c.in_ok-put-2.ensures)
