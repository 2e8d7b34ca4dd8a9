use Rattle.tk_paper.proofs.PutLemmas.{then}
use Rattle.tk_page.proofs.cards.put_all_odd.Goals as goal

pub returns : goal.returns
returns c =
    rw (c.carded.ensures, c.findings_word.ensures, c.count-many.ensures, c.as_slice-all.ensures.value) at
    (then c.in_ok-put.ensures
    (then c.in_ok-put_cards.ensures
    (then c.in_ok-put-2.ensures
    (then c.in_ok-put_more.ensures c.in_ok-put-3.ensures))))
