use Rattle.tk_client.proofs.Pieces.{meaning-append}
use Rattle.tk_client.proofs.laws.pieces_join.Goals as goal

pub returns : goal.returns
returns c = meaning-append
