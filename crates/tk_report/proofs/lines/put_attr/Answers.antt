use Rattle.tk_report.proofs.PutLemmas.{both}
use Rattle.tk_report.proofs.lines.put_attr.Goals as goal

pub returns : goal.returns
returns c =
    (both c.in_ok-put.ensures
    (both (record { is = c.in_ok-push_str.ensures.bytes })
    (both c.in_ok-put_value.ensures
    c.in_ok-put_unit.ensures)))
