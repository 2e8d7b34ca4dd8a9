use Rattle.tk_screen.proofs.PutLemmas.{both}
use Rattle.tk_frame.proofs.pages.put_page.Goals as goal

pub returns : goal.returns
returns c = both c.in_ok-put_counts.ensures c.in_ok-put_from.ensures
