use Rattle.tk_paper.proofs.PutLemmas.{then}
use Rattle.tk_page.proofs.picture.put_held_words.Goals as goal

pub returns : goal.returns
returns c =
    rw c.as_slice.ensures.value at
    (then c.in_ok-put_held_span.ensures c.in_ok-put_site_text.ensures)
