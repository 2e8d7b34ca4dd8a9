use Rattle.tk_stream.proofs.Pieces.{taken, short_put}
use Rattle.tk_stream.proofs.line.gone.put_id.Goals as goal

pub returns : goal.returns
returns c = short_put _ c.told-scratch c.in_ok-put_short.ensures (taken c.comma_before-at.ensures.text c.number_before-at.ensures.text)
