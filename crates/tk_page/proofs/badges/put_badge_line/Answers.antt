use Rattle.tk_paper.proofs.PutLemmas.{then}
use Rattle.tk_page.proofs.badges.put_badge_line.Goals as goal

pub returns : goal.returns
returns c =
    rw (c.carded.ensures) at
    (then c.in_ok-put.ensures
    (then c.in_ok-put_found_badges.ensures
    (then c.in_ok-put_row_badges.ensures c.in_ok-put-2.ensures)))
