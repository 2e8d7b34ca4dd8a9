use Rattle.tk_client.proofs.Pieces.{stops-append}
use Rattle.tk_client.proofs.laws.faults_stay.Goals as goal

pub returns : goal.returns
returns c max s a b tables lines used fault e = stops-append max s a b tables lines used fault e
