use Rattle.tk_screen.proofs.PutLemmas.{both}
use Rattle.tk_frame.proofs.findings.put_finding.Goals as goal

pub returns : goal.returns
returns c = rw (← c.as_slice.ensures.value)
    (both c.in_ok-put_number.ensures
    (both c.in_ok-put_said.ensures
    (c.in_ok-put_source.ensures)))
