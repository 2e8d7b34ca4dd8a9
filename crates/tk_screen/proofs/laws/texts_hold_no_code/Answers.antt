use Rattle.tk_screen.proofs.PutLemmas.{drawn_are_printable}
use Rattle.tk_screen.proofs.laws.texts_hold_no_code.Goals as goal

pub returns : goal.returns
returns c = drawn_are_printable
