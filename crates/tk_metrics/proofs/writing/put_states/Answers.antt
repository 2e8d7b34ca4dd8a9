use Rattle.tk_report.proofs.PutLemmas.{both}
use Rattle.tk_metrics.proofs.writing.put_states.Goals as goal

pub returns : goal.returns
returns c =
    (both c.in_ok-put_state.ensures
    (both c.in_ok-put_state-2.ensures
    (both c.in_ok-put_state-3.ensures
    c.in_ok-put_state-4.ensures)))
