use Rattle.tk_stream.proofs.Pieces.{taken, name_taken}
use Rattle.tk_stream.proofs.text.read_own.pieces.take_name.Goals as goal

pub returns-in-Some-take_content : goal.returns-in-Some-take_content
returns-in-Some-take_content c =
    let named = rw c.in-Some-2.is at c.in_ok-name.ensures in
    taken c.in-Some.ensures (name_taken _ _ _ c.in-Some-2.name c.in-Some-take_content.ensures.text c.in-Some-take_content.ensures.plain named.0 named.1)
