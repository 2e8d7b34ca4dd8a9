use Rattle.json.specs.Print.{escape_byte}
use Rattle.tk_stream.proofs.Pieces.{closes}
use Rattle.tk_stream.proofs.text.write.times.put_list.Goals as goal

pub returns : goal.returns
unfolding escape_byte
returns c = closes c.in_ok-put_open.ensures c.in_ok-put_text.ensures
