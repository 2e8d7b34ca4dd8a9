use Rattle.json.specs.Print.{escape_byte}
use Rattle.tk_stream.proofs.Pieces.{closes}
use Rattle.tk_stream.proofs.line.gone.put_lists.Goals as goal

pub returns : goal.returns
unfolding escape_byte
returns c = rw (← c.gone.view_is, ← c.as_slice.ensures.value, ← c.as_slice-2.ensures.value, ← c.as_slice-3.ensures.value)
    (closes c.in_ok-put_open.ensures
    (closes c.in_ok-put_open-2.ensures
    (closes c.in_ok-put_open-3.ensures
    c.in_ok-put_text.ensures)))
