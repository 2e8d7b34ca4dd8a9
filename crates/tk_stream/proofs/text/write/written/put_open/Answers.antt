use Rattle.tk_stream.proofs.Pieces.{open_after}
use Rattle.tk_stream.proofs.text.write.written.put_open.Goals as goal

pub returns : goal.returns
returns g c = open_after c.in_ok-put_text.ensures c.in_ok-put_items.ensures
