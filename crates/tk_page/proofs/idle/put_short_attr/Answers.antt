use Rattle.tk_paper.proofs.PutLemmas.{then}
use Rattle.tk_page.proofs.idle.put_short_attr.Goals as goal

pub returns : goal.returns
returns c =
    rw (c.as_str.ensures.text) at
    (then c.in_ok-put.ensures (then c.in_ok-put_value.ensures c.in_ok-put_unit.ensures))
