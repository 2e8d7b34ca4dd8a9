use Rattle.tk_report.proofs.PutLemmas.{both}
use Rattle.tk_report.proofs.lines.put_resource.Goals as goal

pub returns : goal.returns
returns c = rw (← c.as_slice.ensures.list, ← c.list.ensures, ← c.as_slice-2.ensures)
    (both c.in_ok-put_resource_line.ensures
    c.in_ok-put_attrs.ensures)
