use Rattle.tk_screen.proofs.PutLemmas.{both}
use Rattle.tk_frame.proofs.waiting.put_waiting.Goals as goal

pub returns : goal.returns
returns c =
    both c.in_ok-put_count.ensures
    (c.in_ok-put_longest.ensures)
