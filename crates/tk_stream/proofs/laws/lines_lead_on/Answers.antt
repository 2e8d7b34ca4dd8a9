use Rattle.tk_stream.proofs.AppliedLemmas.{lead_on, lead_on_less, snapshot_leads}
use Rattle.tk_stream.proofs.laws.lines_lead_on.Goals as goal

pub returns : goal.returns
returns c = record { between = lead_on; less = lead_on_less; snapshot = snapshot_leads }
