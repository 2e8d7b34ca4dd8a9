use Rattle.tk_paper.proofs.PutLemmas.{then}
use Rattle.tk_page.proofs.cards.put_card.Goals as goal

pub returns : goal.returns
returns c =
    rw (c.task_of-task.ensures, c.as_slice.ensures.value) at
    (then c.in_ok-start_card.ensures
    (then c.in_ok-put_who.ensures
    (then c.in_ok-put_said.ensures
    (then c.in_ok-put_facts.ensures
    (then c.in_ok-put_whom.ensures
    (then c.in_ok-put_others.ensures
    (then c.in_ok-put_made.ensures c.in_ok-end_card.ensures)))))))
