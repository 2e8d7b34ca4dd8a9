use Rattle.tk_paper.proofs.PutLemmas.{then}
use Rattle.tk_page.proofs.tasks.put_counts.Goals as goal

pub returns : goal.returns
returns c =
    rw (c.saturating_sub.ensures) at
    (then c.in_ok-put_number.ensures
    (then c.in_ok-put_number-2.ensures
    (then c.in_ok-put_number-3.ensures c.in_ok-put_number-4.ensures)))
