use Rattle.tk_paper.proofs.PutLemmas.{then}
use Rattle.tk_page.proofs.changed_places.put_changes.Goals as goal

pub returns : goal.returns
returns c =
    then c.in_ok-put_polls_rate.ensures
    (then c.in_ok-put_time_rate.ensures (then c.in_ok-put_time_rate-2.ensures (then c.in_ok-put_time_rate-3.ensures c.in_ok-put_times.ensures)))
